use Rattle.std.proofs.Common.{arith}
use Rattle.regress_backtrack.proofs.LogicalSlotLemmas.{since-read}
use Rattle.regress_backtrack.proofs.state.log_len_at_choice_point.Goals as goal

pub returns-else-choice_points-eq0 : goal.returns-else-choice_points-eq0
returns-else-choice_points-eq0 c = since-read c.args.choice_points.now _ (omega (arith, c.if-choice_points-eq0.false))
