-- *Canonicalize* (ECMA-262, 9th edition, 21.2.2.8.2) over all of Unicode. Two characters match each
-- other if their canonical forms are equal. `fold_code_point` of `Text` is the smaller table of the
-- profile.
use Rattle.std.specs.Prelude.{◌≡◌, ℕ, Bool, true, false, ◌&&◌, ◌||◌, nat_le, nat_lt, nat_eq, List, [], ◌∷◌, IsTrue, if◌then◌else◌}
use Rattle.std.specs.Char.Unicode.ToUppercase.{to_uppercase}
use Rattle.ucd_case.specs.CaseFolding.{simple_fold}
use Rattle.regex_meaning.specs.NumberListHelpers.{contains}

-- Steps 3.e to 3.h, for a code unit c with this uppercase. The result is c if the uppercase is not
-- a single code unit, or if the uppercase is in ASCII and c is not. Otherwise it is the uppercase.
abbrev pub uppercase_or_itself : (c : ℕ) → (uppercase : List ℕ) → ℕ
uppercase_or_itself c (d ∷ []) = if nat_lt 0xFFFF d || (nat_le 128 c && nat_lt d 128) then c else d
uppercase_or_itself c _ = c

-- *Canonicalize* where case is ignored: the simple case folding with `unicode` (step 2), and the
-- uppercase of a code unit without it (step 3). A character above U+FFFF is then two code units,
-- each of which is its own uppercase, so the character is its own canonical form.
unfoldable pub canonicalize : (unicode : Bool) → ℕ → ℕ
canonicalize true c = simple_fold c
canonicalize false c = if nat_lt 0xFFFF c then c else uppercase_or_itself c (to_uppercase c)

-- *Canonicalize* with step 1: if case is not ignored, a character is its own canonical form.
abbrev pub canonical_character : (icase unicode : Bool) → ℕ → ℕ
canonical_character icase unicode c = if icase then canonicalize unicode c else c

-- Whether the two characters match each other: they have the same canonical form.
abbrev pub are_alike : (icase unicode : Bool) → ℕ → ℕ → Bool
are_alike icase unicode c d = nat_eq (canonical_character icase unicode c) (canonical_character icase unicode d)

-- The numbers are in increasing order.
abbrev pub AreIncreasing : List ℕ → Type 0
AreIncreasing [] = Unit {0}
AreIncreasing (c ∷ []) = Unit {0}
AreIncreasing (c ∷ d ∷ more) = IsTrue (nat_lt c d) × AreIncreasing (d ∷ more)

-- `members` lists all characters that match c, in increasing order.
pub record AreCaseVariants (icase unicode : Bool) (c : ℕ) (members : List ℕ) : Type 0 where
  pub increasing : AreIncreasing members
  pub same : (d : ℕ) → contains members d ≡ are_alike icase unicode c d
