use Rattle.std.proofs.Common.{◌≡◌, ◌<◌, ℕ, false}
use Rattle.regress_program.specs.LeadingCharLoops.{refers_back_at}
use Rattle.regress_program.proofs.leading_char_loop.may_refer_back.Given as goal

abbrev pub invariant-loop-ip : goal.invariant-loop-ip
invariant-loop-ip l = (i : ℕ) → i < l.ip → refers_back_at l.ops i ≡ false
