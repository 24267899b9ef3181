-- Sets of at most three keys of units.
use Rattle.std.specs.Prelude.{◌≡◌, ◌≤◌, ◌<◌, ℕ, Bool, true, List, length, take, get_or, slice_index_or}
use Rattle.regex_meaning.specs.NumberListHelpers.{contains}
use Rattle.regress_program.specs.declared.up_to_three_units.UpToThreeUnits.{UpToThreeUnits}

-- Whether a key is one of the first `len` of the set's units.
abbrev pub is_listed : UpToThreeUnits → (k : ℕ) → Bool
is_listed few k = contains (take few.len few.units) k

-- These units, at most three, pass the test, and all keys below `key` that pass it are among them.
abbrev pub ListsKeysBelow : (test : ℕ → Bool) (units : List ℕ) (len key : ℕ) → Type 0
ListsKeysBelow test units len key =
    (length units ≡ 3) × (len ≤ 3) × ((i : ℕ) → i < len → test (get_or units i 0) ≡ true)
    × ((k : ℕ) → k < key → test k ≡ true → contains (take len units) k ≡ true)

-- The set has at most 3 keys: exactly those below 256 that pass the test.
pub record ListsKeysThatPass (test : ℕ → Bool) (few : UpToThreeUnits) : Type 0 where
  pub most : few.len ≤ 3
  pub each : (i : ℕ) → i < few.len → test (slice_index_or few.units i 0) ≡ true
  pub all : (k : ℕ) → k < 256 → test k ≡ true → is_listed few k ≡ true
