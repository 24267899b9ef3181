use Rattle.std.proofs.Common.{◌≡◌, ℕ, ◌<◌, true, ◌||◌, length, get_or}
use Rattle.regress_program.proofs.first_set_type.FirstSet.or.Given as goal

abbrev pub invariant-loop-key : goal.invariant-loop-key
invariant-loop-key l =
    (length l.keys ≡ 256) × ((k : ℕ) → k < l.key → get_or l.keys k true ≡ (get_or l.self.keys k true || get_or l.other.keys k true))
