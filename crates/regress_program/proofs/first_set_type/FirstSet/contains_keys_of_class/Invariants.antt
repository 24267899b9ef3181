use Rattle.std.proofs.Common.{◌≡◌, ◌≢◌, ◌<◌, ℕ, true}
use Rattle.std.specs.Prelude.{slice_index_or}
use Rattle.regress_program.specs.TableKeysOfUnits.{unit_table_of_set}
use Rattle.regress_program.proofs.first_set_type.FirstSet.contains_keys_of_class.Given as goal

abbrev pub invariant-loop-key : goal.invariant-loop-key
invariant-loop-key l =
    l.contains ≡ true → (k : ℕ) → k < l.key → slice_index_or l.class.steps k 0 ≢ 0 → (unit_table_of_set l.self).keys k ≡ true
