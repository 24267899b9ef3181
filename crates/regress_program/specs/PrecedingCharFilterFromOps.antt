-- How a lookbehind filter follows from the operations of a plan.
use Rattle.std.specs.Prelude.{◌≡◌, ◌<◌, ℕ, Bool, true, false, Some, slice_get}
use Rattle.regress_machine.specs.FirstSetTables.{AllowedNextKeys}
use Rattle.regress_program.specs.declared.lookbehind_filter.PrecedingCharFilter.{PrecedingCharFilter}
use Rattle.regress_program.specs.declared.first_set_type.FirstSet.{FirstSet}
use Rattle.regress_program.specs.declared.ops.Op.{Op}
use Rattle.regress_program.specs.declared.ops.Op.TheVariants.{UnitChar, Char, One}
use Rattle.regress_program.specs.declared.plan.Plan.{Plan}
use Rattle.regress_program.specs.ListedUnits.{is_listed}
use Rattle.regress_program.specs.TableKeysOfUnits.{unit_table_of_set}
use Rattle.regress_program.specs.ClosedFirstSets.{IncludesFirstSet}
use Rattle.regress_program.specs.LookbehindFilter.{FilterKeysAreLeadBytes}

-- The filter contains all keys of the set, and has this `edge`. For texts in bytes, its keys are
-- lead bytes.
pub record FilterIncludesAllKeysOfSet (wide : Bool) (set : FirstSet) (edge : Bool) (before : PrecedingCharFilter) : Type
    0 where
  pub edge_is : before.edge ≡ edge
  pub leads : FilterKeysAreLeadBytes wide before
  pub among : (k : ℕ) → k < 256 → (unit_table_of_set set).keys k ≡ true
      → is_listed before.keys k ≡ true

-- Whether an operation reads one character.
abbrev pub reads_character : Op → Bool
reads_character (UnitChar c) = true
reads_character (Char c) = true
reads_character (One number) = true
reads_character _ = false

-- The second operation reads one character, which begins with a key of the set.
abbrev pub LookbehindReadsCharOfSet : (wide : Bool) → Plan → FirstSet → Type 0
LookbehindReadsCharOfSet wide plan set =
    (tables : ℕ → AllowedNextKeys) × (op : Op) × (slice_get plan.ops.items 1 ≡ Some op) × (reads_character op ≡ true)
    × IncludesFirstSet wide plan tables op 1 (unit_table_of_set set)
