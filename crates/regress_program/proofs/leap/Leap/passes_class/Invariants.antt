use Rattle.std.proofs.Common.{◌≡◌, ◌≢◌, ◌<◌, ℕ, true}
use Rattle.std.specs.Prelude.{slice_index_or}
use Rattle.regress_program.specs.Leaps.{is_passed_key}
use Rattle.regress_program.proofs.leap.Leap.passes_class.Given as goal

abbrev pub invariant-loop-key : goal.invariant-loop-key
invariant-loop-key l = l.passes ≡ true → (k : ℕ) → k < l.key → slice_index_or l.class.steps k 0 ≢ 0 → is_passed_key l.self k ≡ true
