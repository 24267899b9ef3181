-- Required prefixes: the code units that must follow if a thread finds something.
use Rattle.std.specs.Prelude.{◌≡◌, ◌≤◌, ◌<◌, ℕ, ◌+◌, Bool, false, Option, Some, None}
use Rattle.regex_meaning.specs.Tree.{Tree}
use Rattle.regex_meaning.specs.Text.{Text, rightwards, last_place}
use Rattle.regex_meaning.specs.CodeUnitOffsets.{offset}
use Rattle.regex_meaning.specs.FirstAndAllMatches.{match_at}
use Rattle.regex_meaning.specs.CodeUnits.{Encoding}
use Rattle.regex_meaning.specs.CompilationRelation.{Program}
use Rattle.regress_machine.specs.Machine.{State, running}
use Rattle.regress_machine.specs.SearchFindsFirstOutcomeAtPlace.{TreeProgramCanSearchText}
use Rattle.regress_machine.specs.ThreadSimulation.{FindsNothing}
use Rattle.regress_machine.specs.FirstSetTables.{HasUnitsForTables, unit_key_at}

-- Whether a unit with the key `key` may occur `ahead` units further on.
abbrev pub AllowedUnitsAhead : Type 0
AllowedUnitsAhead = (ahead key : ℕ) → Bool

-- Whether the unit that is `ahead` units further on exists and is allowed there.
abbrev pub unit_is_allowed : AllowedUnitsAhead → (ahead : ℕ) → Option ℕ → Bool
unit_is_allowed allowed ahead None = false
unit_is_allowed allowed ahead (Some key) = allowed ahead key

-- A state at instruction `ip` finds nothing if one of the next `len` units is not allowed.
pub record IsRequiredPrefix (e : Encoding) (key : ℕ → ℕ) (program : Program) (ip len : ℕ)
    (allowed : AllowedUnitsAhead) : Type 0 where
  pub excludes : (text : Text) → HasUnitsForTables e text → (s : State) → s.ip ≡ ip → (ahead : ℕ) → ahead < len
      → unit_is_allowed allowed ahead (unit_key_at e key text (s.pos + ahead)) ≡ false
      → FindsNothing program text rightwards (running s)

-- No match begins at a place if one of the next `len` units is not allowed.
abbrev pub RequiredPrefixesExclude : Type 0
RequiredPrefixesExclude =
    (e : Encoding) (key : ℕ → ℕ) (program : Program) (tree : Tree) (text : Text) (len : ℕ) (allowed : AllowedUnitsAhead)
    → TreeProgramCanSearchText program tree text → HasUnitsForTables e text
    → IsRequiredPrefix e key program 0 len allowed
    → (place : ℕ) → place ≤ last_place text → (ahead : ℕ) → ahead < len
    → unit_is_allowed allowed ahead (unit_key_at e key text (offset text place + ahead)) ≡ false
    → match_at tree.root text place ≡ None
