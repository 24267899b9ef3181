-- The arms of a chain of alternations, without those that find nothing.
use Rattle.std.specs.Prelude.{◌≡◌, ◌⊎◌, ℕ, zero, suc, ◌+◌, Bool, false, List, [], ◌∷◌, Some, slice_get}
use Rattle.regex_meaning.specs.CompilationRelation.{Program, Alt}

-- `all` is the arm followed by the others, or the arm is omitted because `may` excludes it.
abbrev pub IsArmKeptIfLive : (may : ℕ → Bool) → (arm : ℕ) → (others all : List ℕ) → Type 0
IsArmKeptIfLive may arm others all = (all ≡ arm ∷ others) ⊎ ((all ≡ others) × (may arm ≡ false))

-- The live arms of a chain of `count` alternations, the first of which is at `ip`. The last arm is
-- what follows the chain.
abbrev pub AreLiveArms : Program → (may : ℕ → Bool) → (count ip : ℕ) → List ℕ → Type 0
AreLiveArms program may zero ip arms = IsArmKeptIfLive may ip [] arms
AreLiveArms program may (suc count) ip arms =
    (other : ℕ) × (others : List ℕ) × (slice_get program.insns ip ≡ Some (Alt other))
    × IsArmKeptIfLive may (ip + 1) others arms × AreLiveArms program may count other others
