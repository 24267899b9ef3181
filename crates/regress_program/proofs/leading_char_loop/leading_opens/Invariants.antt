use Rattle.std.proofs.Common.{◌≡◌, ◌<◌, ℕ, true}
use Rattle.regress_program.specs.LeadingCharLoops.{opens_group_at}
use Rattle.regress_program.proofs.leading_char_loop.leading_opens.Given as goal

abbrev pub invariant-loop-ip : goal.invariant-loop-ip
invariant-loop-ip l = (i : ℕ) → i < l.ip → opens_group_at l.ops i ≡ true
