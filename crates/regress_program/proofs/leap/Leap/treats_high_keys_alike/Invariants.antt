use Rattle.std.proofs.Common.{◌≡◌, ◌≤◌, ◌<◌, ℕ, true}
use Rattle.regress_program.specs.Leaps.{is_passed_key}
use Rattle.regress_program.proofs.leap.Leap.treats_high_keys_alike.Given as goal

abbrev pub invariant-loop-key : goal.invariant-loop-key
invariant-loop-key l = l.alike ≡ true → (k : ℕ) → k < l.key → 128 ≤ k → is_passed_key l.self k ≡ is_passed_key l.self 128
