use Rattle.std.proofs.Common.{◌≡◌, ℕ, ◌<◌, Some, slice_get}
use Rattle.regress_program.specs.declared.ops.Op.{Op}
use Rattle.regress_program.specs.TableKeysOfUnits.{is_16_bit_width}
use Rattle.regress_program.specs.LeapCertificatesOfPlans.{is_op_on_way, OpOnWayReachesGoal}
use Rattle.regress_program.proofs.leap.LeapCheck.every_op_on_way_reaches_goal.Given as goal

abbrev pub invariant-loop-ip : goal.invariant-loop-ip
invariant-loop-ip l = (k : ℕ) → k < l.ip → (op : Op) → slice_get l.self.plan.now.ops.items k ≡ Some op → OpOnWayReachesGoal (is_16_bit_width l.self.units) l.self.plan.now l.self.leap.now (is_op_on_way l.self.on_way.now) op k
