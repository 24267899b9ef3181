use Rattle.std.proofs.Common.{arith}
use Rattle.regress_search.proofs.LeapLemmas.{at-barrier, behind-high, at-first}
use Rattle.regress_search.proofs.leaping.offset_past_barrier_before_goal.Goals as goal

pub returns-then-at-from : goal.returns-then-at-from
returns-then-at-from g c =
    let w = g.W.SearchContext.searching c.args.context.now in
    at-first w (g.met.W.SearchContext.has_units c.args.context.now) c.args.leap.now c.requires.alike c.args.from c.args.goal c.first_offset_readable_up_to_goal-at.result c.first_offset_readable_up_to_goal-at.ensures
    (omega (arith, c.if-at-from.true)) c.requires.from

pub returns-then-key-lt128 : goal.returns-then-key-lt128
returns-then-key-lt128 g c =
    let w = g.W.SearchContext.searching c.args.context.now in
    at-barrier w (g.met.W.SearchContext.has_units c.args.context.now) c.args.leap.now c.requires.alike c.args.from c.args.goal c.first_offset_readable_up_to_goal-at.result c.unit_key_at_offset-key.result
    c.first_offset_readable_up_to_goal-at.ensures (omega (arith, c.if-at-from.false)) c.unit_key_at_offset-key.ensures.is (omega (arith, c.if-key-lt128.true))

pub returns-else-key-lt128 : goal.returns-else-key-lt128
returns-else-key-lt128 g c =
    let w = g.W.SearchContext.searching c.args.context.now in
    behind-high w (g.met.W.SearchContext.has_units c.args.context.now) c.args.leap.now c.requires.alike c.args.from c.args.goal c.first_offset_readable_up_to_goal-at.result c.unit_key_at_offset-key.result
    c.first_offset_readable_up_to_goal-at.ensures (omega (arith, c.if-at-from.false)) c.unit_key_at_offset-key.ensures.is (omega (arith, c.if-key-lt128.false)) c.unit_key_at_offset-key.ensures.inside
    c.requires.goal
