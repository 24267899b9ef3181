use Rattle.std.proofs.Common.{◌≤◌, inl, inr, refl, sym, ◌∙◌, arith}
use Rattle.regress_search.proofs.LeapLemmas.{barred-further, goal-boundary, goal-not128, leads-within, listed-goal}
use Rattle.regress_search.proofs.leaping.leap_target_within.Goals as goal

pub returns-then-limit-text_end : goal.returns-then-limit-text_end
returns-then-limit-text_end g c =
    let w = g.W.SearchContext.searching c.args.context.now in
    let has = g.met.W.SearchContext.has_units c.args.context.now in
    let end = c.text_end.ensures in
    let past = c.if-limit-text_end.true in
    leads-within w has c.args.leap.now c.requires.ascii c.args.from c.args.limit (omega (arith, end, past)) c.leap_target_from.result c.leap_target_from.ensures

pub first_unit_with_listed_key-requires-clause-told : goal.first_unit_with_listed_key-requires-clause-told
first_unit_with_listed_key-requires-clause-told g c = goal-not128 c.args.leap.now c.requires.ascii

pub offset_past_barrier_before_goal-to-requires-clause-goal : goal.offset_past_barrier_before_goal-to-requires-clause-goal
offset_past_barrier_before_goal-to-requires-clause-goal g c =
    let w = g.W.SearchContext.searching c.args.context.now in
    let has = g.met.W.SearchContext.has_units c.args.context.now in
    goal-boundary w has c.args.leap.now c.requires.ascii c.in-Some.found (sym (listed-goal w has c.args.leap.now c.requires.ascii c.in-Some.found) ∙ c.in-Some.ensures.2)

pub offset_past_barrier_before_goal-to-requires-clause-ahead : goal.offset_past_barrier_before_goal-to-requires-clause-ahead
offset_past_barrier_before_goal-to-requires-clause-ahead g c = c.in-Some.ensures.0

pub offset_past_barrier_before_goal-to-requires-clause-inside : goal.offset_past_barrier_before_goal-to-requires-clause-inside
offset_past_barrier_before_goal-to-requires-clause-inside g c =
    let before = c.in-Some.ensures.1 in
    let end = c.text_end.ensures in
    let less = c.if-limit-text_end.false in
    omega (arith, before, end, less)

pub returns-in-Some : goal.returns-in-Some
returns-in-Some g c =
    let w = g.W.SearchContext.searching c.args.context.now in
    let has = g.met.W.SearchContext.has_units c.args.context.now in
    let same = listed-goal w has c.args.leap.now c.requires.ascii in
    let before = c.in-Some.ensures.1 in
    let most : c.in-Some.found ≤ c.args.limit = omega (arith, before) in (
      record {
        is_one = inl (sym (same c.in-Some.found) ∙ c.in-Some.ensures.2);
        absent = λ at le less. sym (same at) ∙ c.in-Some.ensures.3 at le less;
        within = most;
      },
      c.offset_past_barrier_before_goal-to.ensures,
    )

pub returns-in-None : goal.returns-in-None
returns-in-None g c =
    let w = g.W.SearchContext.searching c.args.context.now in
    let has = g.met.W.SearchContext.has_units c.args.context.now in
    let same = listed-goal w has c.args.leap.now c.requires.ascii in
    let most : c.args.limit ≤ c.args.limit = omega arith in (
      record {
        is_one = inr refl;
        absent = λ at le less. sym (same at) ∙ c.in-None.ensures at le less;
        within = most;
      },
      barred-further w c.args.leap.now c.args.from c.last_boundary_before-boundary.result c.args.limit c.offset_past_barrier_before_goal-to-in-None.result
          c.last_boundary_before-boundary.ensures.before c.offset_past_barrier_before_goal-to-in-None.ensures,
    )
