-- Escapes, names and quantifiers (ECMA-262, 9th edition, 21.2.1). In each relation `here` is the
-- text before what is read, and `there` the text after it.
use Rattle.std.specs.Prelude.{◌≡◌, ℕ, ◌+◌, ◌-◌, ◌*◌, ◌^◌, ◌≤◌, min, Bool, true, false, ◌&&◌, ◌||◌, [], ◌∷◌, ◌++◌, length, codes, Option, Some, None, if◌then◌else◌, IsTrue}
use Rattle.std.specs.List.{list_all}
use Rattle.std.specs.Char.{is_digit, is_ascii_digit, is_ascii_alphabetic, is_ascii_alphanumeric}
use Rattle.regex_meaning.specs.Tree.{Quantifier}
use Rattle.regex_meaning.specs.WellFormedTrees.{is_min_at_most_max}
pub use Rattle.regex_meaning.specs.Text.{is_high_surrogate, is_low_surrogate}
use Rattle.regex_meaning.specs.ReadingStatesAndDigits.{RemainingCodePoints, ◌∈◌, begins_with_characters, Digits, value_of_digits}

-- ---- CharacterEscape, after the backslash

-- A fixed number of hexadecimal digits and their value: Hex4Digits, or the two digits of
-- HexEscapeSequence.
pub data FixedHexDigits (digits : ℕ) (here : RemainingCodePoints) : (there : RemainingCodePoints) (c : ℕ) → Type 0 where
  hex : {there : RemainingCodePoints} (ds : RemainingCodePoints)
      → here ≡ ds ++ there → length ds ≡ digits → IsTrue (list_all (λ d. is_digit d 16) ds)
      → FixedHexDigits digits here there (value_of_digits 16 ds)

-- `LeadSurrogate \u TrailSurrogate` and the code point of the pair
pub data SurrogatePair (here : RemainingCodePoints) : (there : RemainingCodePoints) (c : ℕ) → Type 0 where
  pair : {a b there : RemainingCodePoints} {lead trail : ℕ}
      → FixedHexDigits 4 here a lead → IsTrue (is_high_surrogate lead) → a ≡ codes "\\u" ++ b
      → FixedHexDigits 4 b there trail
      → IsTrue (is_low_surrogate trail)
      → SurrogatePair here there (0x1_0000 + (lead - 0xD800) * 0x400 + (trail - 0xDC00))

-- RegExpUnicodeEscapeSequence, after the `u`
pub data UnicodeEscape (unicode : Bool) (here : RemainingCodePoints) : (there : RemainingCodePoints) (c : ℕ)
    → Type 0 where
  -- With `u` two surrogates make one code point.
  surrogates : {there : RemainingCodePoints} {c : ℕ} → IsTrue unicode → SurrogatePair here there c
      → UnicodeEscape unicode here there c
  -- Four digits by themselves. With `u`, they must not begin a surrogate pair.
  four_digits : {there : RemainingCodePoints} {c : ℕ}
      → FixedHexDigits 4 here there c → ¬ (IsTrue unicode
      × ((end : RemainingCodePoints) × (d : ℕ) × SurrogatePair here end d))
      → UnicodeEscape unicode here there c
  -- `u{ CodePoint }`, with `u`
  code_point : {a b there : RemainingCodePoints} {c : ℕ}
      → IsTrue unicode → here ≡ codes "{" ++ a → Digits 16 a b c → b ≡ codes "}" ++ there
      → c ≤ 0x10_FFFF
      → UnicodeEscape unicode here there c

-- ControlEscape: the code point of `\t`, `\n`, `\v`, `\f` or `\r`
abbrev pub control_escape_code_point : ℕ → Option ℕ
control_escape_code_point c =
    if c ∈ "t" then Some 0x09 else if c ∈ "n" then Some 0x0A else if c ∈ "v" then Some 0x0B
    else if c ∈ "f" then Some 0x0C else if c ∈ "r" then Some 0x0D else None

-- CharacterEscape, after the backslash, and the code point that it denotes. The profile has no
-- `\c`.
pub data CharacterEscape (unicode : Bool) (here : RemainingCodePoints) : (there : RemainingCodePoints) (c : ℕ)
    → Type 0 where
  control_escape : {letter c : ℕ} {there : RemainingCodePoints}
      → here ≡ letter ∷ there → control_escape_code_point letter ≡ Some c
      → CharacterEscape unicode here there c
  -- `0` that is not followed by a DecimalDigit
  null : {there : RemainingCodePoints}
      → here ≡ codes "0" ++ there
      → ¬ ((d : ℕ) × (end : RemainingCodePoints) × (there ≡ d ∷ end) × IsTrue (is_ascii_digit d))
      → CharacterEscape unicode here there 0
  -- HexEscapeSequence
  hex_escape : {a there : RemainingCodePoints} {c : ℕ}
      → here ≡ codes "x" ++ a → FixedHexDigits 2 a there c
      → CharacterEscape unicode here there c
  unicode_escape : {a there : RemainingCodePoints} {c : ℕ}
      → here ≡ codes "u" ++ a → UnicodeEscape unicode a there c
      → CharacterEscape unicode here there c
  -- IdentityEscape: with every flag, any character except ASCII letters and digits
  identity_escape : {c : ℕ} {there : RemainingCodePoints}
      → here ≡ c ∷ there → is_ascii_alphanumeric c ≡ false
      → CharacterEscape unicode here there c

-- ---- GroupName, after the `<`

-- The first character of a name: an ASCII letter, `_` or `$` (the standard has all of
-- RegExpIdentifierStart).
abbrev pub is_ascii_identifier_start : ℕ → Bool
is_ascii_identifier_start c = is_ascii_alphabetic c || c ∈ "_$"

-- A later character of a name: one that may be first, or an ASCII digit.
abbrev pub is_ascii_identifier_part : ℕ → Bool
is_ascii_identifier_part c = is_ascii_identifier_start c || is_ascii_digit c

-- RegExpIdentifierName, in ASCII and without escapes
abbrev pub is_name : RemainingCodePoints → Bool
is_name [] = false
is_name (c ∷ cs) = is_ascii_identifier_start c && list_all is_ascii_identifier_part cs

-- GroupName, after the `<`, and the name
pub data GroupName (here : RemainingCodePoints) : (there name : RemainingCodePoints) → Type 0 where
  group_name : {there name : RemainingCodePoints}
      → here ≡ name ++ (codes ">" ++ there) → IsTrue (is_name name)
      → GroupName here there name

-- ---- Quantifier

-- The value of DecimalDigits in a quantifier, limited to 2^64 - 1.
abbrev pub saturated_count : ℕ → ℕ
saturated_count n = min n (2 ^ 64 - 1)

-- QuantifierPrefix, with its minimum and its maximum (`None` if there is no limit)
pub data QuantifierPrefix (here : RemainingCodePoints) : (there : RemainingCodePoints) (least : ℕ) (most : Option ℕ)
    → Type 0 where
  star : {there : RemainingCodePoints} → here ≡ codes "*" ++ there → QuantifierPrefix here there 0 None
  plus : {there : RemainingCodePoints} → here ≡ codes "+" ++ there → QuantifierPrefix here there 1 None
  question : {there : RemainingCodePoints} → here ≡ codes "?" ++ there → QuantifierPrefix here there 0 (Some 1)
  exactly : {a b there : RemainingCodePoints} {n : ℕ}
      → here ≡ codes "{" ++ a → Digits 10 a b n → b ≡ codes "}" ++ there
      → QuantifierPrefix here there (saturated_count n) (Some (saturated_count n))
  at_least : {a b there : RemainingCodePoints} {n : ℕ}
      → here ≡ codes "{" ++ a → Digits 10 a b n → b ≡ codes ",}" ++ there
      → QuantifierPrefix here there (saturated_count n) None
  between : {a b c d there : RemainingCodePoints} {n m : ℕ}
      → here ≡ codes "{" ++ a → Digits 10 a b n → b ≡ codes "," ++ c → Digits 10 c d m
      → d ≡ codes "}" ++ there
      → QuantifierPrefix here there (saturated_count n) (Some (saturated_count m))

-- The text begins with a quantifier.
abbrev pub BeginsQuantifier : RemainingCodePoints → Type 0
BeginsQuantifier here = (there : RemainingCodePoints) × (least : ℕ) × (most : Option ℕ)
    × QuantifierPrefix here there least most

-- Quantifier. Its minimum is at most its maximum (early error).
pub data ValidQuantifier (here : RemainingCodePoints) : (there : RemainingCodePoints) → Quantifier → Type 0 where
  greedy : {there : RemainingCodePoints} {least : ℕ} {most : Option ℕ}
      → QuantifierPrefix here there least most → begins_with_characters "?" there ≡ false
      → IsTrue (is_min_at_most_max (record { min = least; max = most; greedy = true }))
      → ValidQuantifier here there (record { min = least; max = most; greedy = true })
  lazy : {a there : RemainingCodePoints} {least : ℕ} {most : Option ℕ}
      → QuantifierPrefix here a least most → a ≡ codes "?" ++ there
      → IsTrue (is_min_at_most_max (record { min = least; max = most; greedy = false }))
      → ValidQuantifier here there (record { min = least; max = most; greedy = false })
