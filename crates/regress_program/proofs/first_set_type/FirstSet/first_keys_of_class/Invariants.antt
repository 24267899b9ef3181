use Rattle.std.proofs.Common.{◌≡◌, ℕ, ◌<◌, true, false, not, length, get_or}
use Rattle.std.specs.Prelude.{◌==◌}
use Rattle.regress_program.proofs.first_set_type.FirstSet.first_keys_of_class.Given as goal

abbrev pub invariant-loop-key : goal.invariant-loop-key
invariant-loop-key l =
    (length l.set.keys ≡ 256) × (l.set.end ≡ false)
    × ((k : ℕ) → k < l.key → get_or l.set.keys k true ≡ not (get_or l.class.steps k 0 == 0))
