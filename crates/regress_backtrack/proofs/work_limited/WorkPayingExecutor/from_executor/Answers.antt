use Rattle.std.proofs.Common.{true≢false, sym}
use Rattle.regress_backtrack.proofs.work_limited.WorkPayingExecutor.from_executor.Goals as goal

pub invariant_of-result : goal.invariant_of-result
invariant_of-result g c = record { spent = λ out. absurd (true≢false (sym out)) }
