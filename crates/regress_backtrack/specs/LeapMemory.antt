-- What a search remembers of its last leap.
use Rattle.std.specs.Prelude.{◌≡◌, ◌≤◌, ◌<◌, ℕ, Option, Some}
use Rattle.regex_meaning.specs.Tree.{Tree}
use Rattle.regex_meaning.specs.Text.{Text}
use Rattle.regex_meaning.specs.CodeUnitOffsets.{IsBoundary}
use Rattle.regress_search.specs.AttemptsAndStarts.{NoMatchAt}
use Rattle.regress_backtrack.specs.declared.leap_memory.LeapMemory.{LeapMemory}

-- No match begins between `from` and the target of the leap. If there is no target, no match begins
-- at `from` or later.
pub record NoMatchBeforeLeapTarget (tree : Tree) (text : Text) (from : ℕ) (next : Option ℕ) : Type 0 where
  pub boundary : (to : ℕ) → next ≡ Some to → IsBoundary text to
  pub ahead : (to : ℕ) → next ≡ Some to → from ≤ to
  pub none : (at : ℕ) → IsBoundary text at → from ≤ at → ((to : ℕ) → next ≡ Some to → at < to) → NoMatchAt tree text at

-- `NoMatchBeforeLeapTarget` for the leap that a search remembers.
abbrev pub NoMatchBeforeRememberedLeap : Tree → Text → LeapMemory → Type 0
NoMatchBeforeRememberedLeap tree text memory = NoMatchBeforeLeapTarget tree text memory.from memory.to
