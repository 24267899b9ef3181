use Rattle.std.proofs.Common.{arith}
use Rattle.regress_program.proofs.GroupIdCheckLemmas.{seen-set}
use Rattle.regress_program.proofs.emit.group_id_and_range_check.GroupIdSpanDuringCheck.mark_seen.Goals as goal

pub returns-clause-seen : goal.returns-clause-seen
returns-clause-seen c = λ k. rw c.from-word.ensures (seen-set c.args.bits.now c.args.id k (omega (arith, c.from-word.ensures, c.if-word-bits.false)))
