use Rattle.std.proofs.Common.{◌≡◌, ◌<◌, ℕ, Some, slice_get, length, arith}
use Rattle.std.proofs.lemmas.Option.{slice_get_within}
use Rattle.regress_program.specs.declared.ops.Op.{Op}
use Rattle.regress_program.specs.TableKeysOfUnits.{is_16_bit_width}
use Rattle.regress_program.specs.LeapCertificatesOfPlans.{is_op_on_way, OpOnWayReachesGoal}
use Rattle.regress_program.proofs.AlternationDispatchLemmas.{below-more}
use Rattle.regress_program.proofs.leap.LeapCheck.every_op_on_way_reaches_goal.Goals as goal

pub loop-ip-preserved : goal.loop-ip-preserved
loop-ip-preserved c =
    let plan = c.args.self.plan.now in
    let P : ℕ → Type 0 = λ k. (op : Op) → slice_get plan.ops.items k ≡ Some op → OpOnWayReachesGoal (is_16_bit_width c.args.self.units) plan c.args.self.leap.now (is_op_on_way c.args.self.on_way.now) op k in
    below-more P c.loop-ip.ip c.loop-ip.invariant (λ op at. c.leads_if_on_way.ensures op at c.if-not-leads_if_on_way.false)

pub returns : goal.returns
returns c = λ yes ip op at.
    let below : ip < length c.args.self.plan.now.ops.items = slice_get_within c.args.self.plan.now.ops.items ip op at in
    c.loop-ip.invariant ip (omega (arith, below, c.loop-ip-test.false)) op at
