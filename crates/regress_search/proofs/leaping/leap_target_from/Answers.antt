use Rattle.regress_input.proofs.BoundaryPositions.{boundary_inside}
use Rattle.regress_search.proofs.LeapLemmas.{occurs-at, absent-between, absent-from}
use Rattle.regress_search.proofs.leaping.leap_target_from.Goals as goal

pub offset_past_barrier_before_goal-to-requires-clause-goal : goal.offset_past_barrier_before_goal-to-requires-clause-goal
offset_past_barrier_before_goal-to-requires-clause-goal g c = c.in-Some.ensures.0

pub offset_past_barrier_before_goal-to-requires-clause-ahead : goal.offset_past_barrier_before_goal-to-requires-clause-ahead
offset_past_barrier_before_goal-to-requires-clause-ahead g c = c.in-Some.ensures.1

pub offset_past_barrier_before_goal-to-requires-clause-inside : goal.offset_past_barrier_before_goal-to-requires-clause-inside
offset_past_barrier_before_goal-to-requires-clause-inside g c =
    let w = g.W.SearchContext.searching c.args.context.now in
    boundary_inside w.text (g.met.W.SearchContext.is_text c.args.context.now) c.in-Some.goal c.in-Some.ensures.0

pub returns-in-Some : goal.returns-in-Some
returns-in-Some g c =
    let w = g.W.SearchContext.searching c.args.context.now in
    let has = g.met.W.SearchContext.has_units c.args.context.now in
    record {
      occurs = occurs-at w has c.args.leap.now c.requires.ascii c.in-Some.goal c.in-Some.ensures.2;
      absent = absent-between w has c.args.leap.now c.requires.ascii c.args.from c.in-Some.goal c.in-Some.ensures.3;
      behind = c.offset_past_barrier_before_goal-to.ensures;
    }

pub returns-in-None : goal.returns-in-None
returns-in-None g c =
    let w = g.W.SearchContext.searching c.args.context.now in
    absent-from w (g.met.W.SearchContext.has_units c.args.context.now) c.args.leap.now c.requires.ascii c.args.from c.in-None.ensures
    (λ at on. boundary_inside w.text (g.met.W.SearchContext.is_text c.args.context.now) at on)
