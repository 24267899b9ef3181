use Rattle.std.proofs.Common.{sym, ◌∙◌, arith}
use Rattle.regress_search.proofs.leaping.first_offset_readable_up_to_goal.Goals as goal

pub back-init : goal.back-init
back-init g c = (c.requires.ahead, omega arith, λ less. absurd (omega (arith, less)))

pub back-preserved : goal.back-preserved
back-preserved g c =
    let before = c.back.invariant.1 in
    (omega (arith, c.back-test.true), omega (arith, before), λ less. sym c.may_read_unit_on_way_to_goal.ensures ∙ c.if-not-may_read_unit_on_way_to_goal.false)

pub returns-then-not-may_read_unit_on_way_to_goal : goal.returns-then-not-may_read_unit_on_way_to_goal
returns-then-not-may_read_unit_on_way_to_goal g c = record {
  ahead = c.back.invariant.0;
  before = c.back.invariant.1;
  passed = c.back.invariant.2;
  barred = λ after. sym c.may_read_unit_on_way_to_goal.ensures ∙ c.if-not-may_read_unit_on_way_to_goal.true;
}

pub returns : goal.returns
returns g c = record {
  ahead = c.back.invariant.0;
  before = c.back.invariant.1;
  passed = c.back.invariant.2;
  barred = λ after. absurd (omega (arith, after, c.back-test.false));
}
