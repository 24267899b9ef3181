-- A map that keeps each non-ASCII byte keeps the UTF-8 bytes of each non-ASCII character.
use Rattle.std.proofs.Common.{◌≡◌, ℕ, ◌+◌, ◌/◌, ◌%◌, ◌≤◌, Bool, true, false, List, [], ◌∷◌, ◌++◌, flat_map, refl, ap₂, arith}
use Rattle.std.specs.Prelude.{nat_lt, if◌then◌else◌}
use Rattle.std.specs.Char.{encode_utf8}
use Rattle.std.proofs.lemmas.Bool.{le-ltb}

module _ (f : ℕ → List ℕ) (beyond : (byte : ℕ) → 128 ≤ byte → f byte ≡ byte ∷ []) where
  abbrev stays : List ℕ → Type 0
  stays bytes = flat_map f bytes ≡ bytes

  stays-cons : (byte : ℕ) (bytes : List ℕ) → 128 ≤ byte → stays bytes → stays (byte ∷ bytes)
  stays-cons byte bytes le h = ap₂ (λ a b. a ++ b) (beyond byte le) h

  -- A byte behind the first one of a character is 128 plus the lowest six of these bits.
  abbrev next : ℕ → ℕ
  next bits = 128 + bits % 64

  -- The bytes of a character that has two, three or four of them stay.
  stays-by : (c : ℕ) (two three : Bool)
      → stays (if two then (192 + c / 64) ∷ next c ∷ []
      else if three then (224 + c / 4096) ∷ next (c / 64) ∷ next c ∷ []
      else (240 + c / 262144) ∷ next (c / 4096) ∷ next (c / 64) ∷ next c ∷ [])
  stays-by c true three = stays-cons _ _ (omega arith) (stays-cons _ _ (omega arith) refl)
  stays-by c false true = stays-cons _ _ (omega arith) (stays-cons _ _ (omega arith) (stays-cons _ _ (omega arith) refl))
  stays-by c false false = stays-cons _ _ (omega arith) (stays-cons _ _ (omega arith) (stays-cons _ _ (omega arith) (stays-cons _ _ (omega arith) refl)))

  pub encode-stays : (c : ℕ) → 128 ≤ c → flat_map f (encode_utf8 c) ≡ encode_utf8 c
  unfolding encode_utf8
  encode-stays c le = rw (le-ltb c 128 le) (stays-by c (nat_lt c 2048) (nat_lt c 65536))
