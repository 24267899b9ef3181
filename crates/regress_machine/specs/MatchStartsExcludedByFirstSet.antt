-- Places at which no match begins.
use Rattle.std.specs.Prelude.{◌≡◌, ◌≤◌, ℕ, false, None}
use Rattle.regex_meaning.specs.Tree.{Tree}
use Rattle.regex_meaning.specs.Text.{Text, last_place}
use Rattle.regex_meaning.specs.CodeUnitOffsets.{offset}
use Rattle.regex_meaning.specs.FirstAndAllMatches.{match_at}
use Rattle.regex_meaning.specs.CodeUnits.{Encoding}
use Rattle.regex_meaning.specs.CompilationRelation.{Program}
use Rattle.regress_machine.specs.SearchFindsFirstOutcomeAtPlace.{TreeProgramCanSearchText}
use Rattle.regress_machine.specs.FirstSetTables.{AllowedNextKeys, table_allows_key_or_end, HasUnitsForTables, unit_key_at, AreCovered}

-- No match begins at a place where the table of the first instruction excludes the code unit or the
-- end.
abbrev pub FirstSetExcludesMatchStarts : Type 0
FirstSetExcludesMatchStarts =
    (e : Encoding) (key : ℕ → ℕ) (program : Program) (tree : Tree) (text : Text) (tables : ℕ → AllowedNextKeys)
    → TreeProgramCanSearchText program tree text → HasUnitsForTables e text → AreCovered e key program tables
    → (place : ℕ) → place ≤ last_place text
    → table_allows_key_or_end (tables 0) (unit_key_at e key text (offset text place)) ≡ false
    → match_at tree.root text place ≡ None
