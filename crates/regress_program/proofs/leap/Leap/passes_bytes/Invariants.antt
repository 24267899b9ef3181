use Rattle.std.proofs.Common.{◌≡◌, ◌<◌, ℕ, true, get_or}
use Rattle.regress_program.specs.Leaps.{is_passed_key}
use Rattle.regress_program.proofs.leap.Leap.passes_bytes.Given as goal

abbrev pub invariant-loop-i : goal.invariant-loop-i
invariant-loop-i l = (k : ℕ) → k < l.i → is_passed_key l.self (get_or l.bytes k 0) ≡ true
