-- Runs of code units whose keys pass a test.
use Rattle.std.specs.Prelude.{◌≡◌, ◌≤◌, ◌<◌, ℕ, ◌+◌, Bool, true, false, Some}
use Rattle.regress_search.specs.TreePlanAndText.{SearchInput}
use Rattle.regress_search.specs.ReadsAtOffset.{unit_key_in_search}

-- The test returns `answer` for the key of the unit at an offset.
abbrev pub IsKeyTestAt : SearchInput → (test : ℕ → Bool) → (at : ℕ) → (answer : Bool) → Type 0
IsKeyTestAt w test at answer = (k : ℕ) × (unit_key_in_search w at ≡ Some k) × (k < 256) × (test k ≡ answer)

-- The keys of the `count` units from `from` on pass the test, and `count` is at most `most`.
pub record UnitsPassKeyTest (w : SearchInput) (test : ℕ → Bool) (from most count : ℕ) : Type 0 where
  pub few : count ≤ most
  pub each : (i : ℕ) → i < count → IsKeyTestAt w test (from + i) true
