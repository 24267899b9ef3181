-- Escapes and names of groups in the whole language of ECMA-262, 9th edition: 21.2.1 with annexes
-- B.1.2 and B.1.4. In each relation `here` is the text before what is read, and `there` the text
-- after it. Where several alternatives apply, B.1.4 takes the first.
use Rattle.std.specs.Prelude.{◌≡◌, ℕ, ◌+◌, ◌-◌, ◌*◌, ◌%◌, Bool, true, false, not, ◌&&◌, ◌||◌, nat_eq, List, [], ◌∷◌, ◌++◌, codes, encode_utf8_all, Some, IsTrue, if◌then◌else◌}
use Rattle.std.specs.Char.{digit_value, is_ascii_digit, is_ascii_alphabetic}
use Rattle.std.specs.Int.{is_in_range}
use Rattle.ucd_derived.specs.Binary.{is_id_start, is_id_continue}
use Rattle.regex_meaning.specs.ReadingStatesAndDigits.{RemainingCodePoints, ◌∈◌}
use Rattle.regex_meaning.specs.EscapesNamesQuantifiers.{FixedHexDigits, UnicodeEscape, control_escape_code_point, is_high_surrogate, is_low_surrogate}
use Rattle.regex_meaning.specs.UnicodeProperties.{Property, property_named, property_with_value}

-- The parameters of the grammar: `unicode` is U (the flag `u`), and `named_groups` is N (a group
-- has a name).
pub record GrammarParameters : Type 0 where
  pub unicode : Bool
  pub named_groups : Bool

-- Whether the next character passes the test.
abbrev pub next_code_point_passes : (ℕ → Bool) → RemainingCodePoints → Bool
next_code_point_passes test [] = false
next_code_point_passes test (c ∷ cs) = test c

-- ---- CharacterEscape, after the backslash

-- OctalDigit
abbrev pub is_octal_digit : ℕ → Bool
is_octal_digit c = is_in_range 48 55 c

-- ZeroToThree
abbrev pub is_zero_to_three : ℕ → Bool
is_zero_to_three c = is_in_range 48 51 c

-- FourToSeven
abbrev pub is_four_to_seven : ℕ → Bool
is_four_to_seven c = is_in_range 52 55 c

-- LegacyOctalEscapeSequence (B.1.2)
pub data LegacyOctalEscape (here : RemainingCodePoints) : (there : RemainingCodePoints) (c : ℕ) → Type 0 where
  -- OctalDigit that is not followed by an OctalDigit
  one_digit : {d : ℕ} {there : RemainingCodePoints}
      → here ≡ d ∷ there → IsTrue (is_octal_digit d) → next_code_point_passes is_octal_digit there ≡ false
      → LegacyOctalEscape here there (digit_value d)
  -- ZeroToThree OctalDigit that is not followed by an OctalDigit
  two_digits : {d e : ℕ} {there : RemainingCodePoints}
      → here ≡ d ∷ e ∷ there → IsTrue (is_zero_to_three d) → IsTrue (is_octal_digit e)
      → next_code_point_passes is_octal_digit there ≡ false
      → LegacyOctalEscape here there (8 * digit_value d + digit_value e)
  -- FourToSeven OctalDigit
  two_high_digits : {d e : ℕ} {there : RemainingCodePoints}
      → here ≡ d ∷ e ∷ there → IsTrue (is_four_to_seven d) → IsTrue (is_octal_digit e)
      → LegacyOctalEscape here there (8 * digit_value d + digit_value e)
  -- ZeroToThree OctalDigit OctalDigit
  three_digits : {d e f : ℕ} {there : RemainingCodePoints}
      → here ≡ d ∷ e ∷ f ∷ there → IsTrue (is_zero_to_three d) → IsTrue (is_octal_digit e) → IsTrue (is_octal_digit f)
      → LegacyOctalEscape here there (64 * digit_value d + 8 * digit_value e + digit_value f)

-- CharacterEscape without its last alternative, and the code point that it denotes
pub data NonIdentityEscape (g : GrammarParameters) (here : RemainingCodePoints) : (there : RemainingCodePoints) (c : ℕ)
    → Type 0 where
  -- ControlEscape
  control_escape : {letter c : ℕ} {there : RemainingCodePoints}
      → here ≡ letter ∷ there → control_escape_code_point letter ≡ Some c
      → NonIdentityEscape g here there c
  -- `c ControlLetter`
  control_letter : {letter : ℕ} {there : RemainingCodePoints}
      → here ≡ codes "c" ++ letter ∷ there → IsTrue (is_ascii_alphabetic letter)
      → NonIdentityEscape g here there (letter % 32)
  -- `0` that is not followed by a DecimalDigit
  null : {there : RemainingCodePoints}
      → here ≡ codes "0" ++ there → next_code_point_passes is_ascii_digit there ≡ false
      → NonIdentityEscape g here there 0
  -- HexEscapeSequence
  hex_escape : {a there : RemainingCodePoints} {c : ℕ}
      → here ≡ codes "x" ++ a → FixedHexDigits 2 a there c
      → NonIdentityEscape g here there c
  -- RegExpUnicodeEscapeSequence
  unicode_escape : {a there : RemainingCodePoints} {c : ℕ}
      → here ≡ codes "u" ++ a → UnicodeEscape g.unicode a there c
      → NonIdentityEscape g here there c
  -- LegacyOctalEscapeSequence, without `u` (B.1.4)
  legacy_octal_escape : {there : RemainingCodePoints} {c : ℕ}
      → g.unicode ≡ false → LegacyOctalEscape here there c
      → NonIdentityEscape g here there c

-- The text begins with one of those alternatives.
abbrev pub BeginsNonIdentityEscape : GrammarParameters → RemainingCodePoints → Type 0
BeginsNonIdentityEscape g here = (there : RemainingCodePoints) × (c : ℕ) × NonIdentityEscape g here there c

-- IdentityEscape. With `u` it is a SyntaxCharacter or `/`. Without `u` it is any character except
-- `c` and, if a group has a name, except `k` (SourceCharacterIdentityEscape).
abbrev pub is_identity_escape : GrammarParameters → ℕ → Bool
is_identity_escape g c = if g.unicode then c ∈ "^$\\.*+?()[]{}|/" else not (c ∈ "c") && not (g.named_groups && c ∈ "k")

-- CharacterEscape, and the code point that it denotes
pub data CharacterEscape (g : GrammarParameters) (here : RemainingCodePoints) : (there : RemainingCodePoints) (c : ℕ)
    → Type 0 where
  non_identity_escape : {there : RemainingCodePoints} {c : ℕ} → NonIdentityEscape g here there c
      → CharacterEscape g here there c
  -- IdentityEscape, the last alternative, which applies only if no other does
  identity_escape : {c : ℕ} {there : RemainingCodePoints}
      → here ≡ c ∷ there → IsTrue (is_identity_escape g c) → ¬ (BeginsNonIdentityEscape g here)
      → CharacterEscape g here there c

-- The text begins with a CharacterEscape.
abbrev pub BeginsCharacterEscape : GrammarParameters → RemainingCodePoints → Type 0
BeginsCharacterEscape g here = (there : RemainingCodePoints) × (c : ℕ) × CharacterEscape g here there c

-- ---- UnicodePropertyValueExpression, after `\p` or `\P`, with its braces

-- UnicodePropertyValueExpression, and the property that it names
pub data PropertyExpression (here : RemainingCodePoints) : (there : RemainingCodePoints) → Property → Type 0 where
  -- `UnicodePropertyName = UnicodePropertyValue`
  with_value : {there : RemainingCodePoints} {p : Property} (property value : RemainingCodePoints)
      → here ≡ codes "{" ++ (property ++ (codes "=" ++ (value ++ (codes "}" ++ there))))
      → property_with_value property value ≡ Some p
      → PropertyExpression here there p
  -- LoneUnicodePropertyNameOrValue
  alone : {there : RemainingCodePoints} {p : Property} (name : RemainingCodePoints)
      → here ≡ codes "{" ++ (name ++ (codes "}" ++ there)) → property_named name ≡ Some p
      → PropertyExpression here there p

-- ---- GroupName, after the `<`

-- RegExpIdentifierStart without its escapes
abbrev pub is_identifier_start : ℕ → Bool
is_identifier_start c = is_id_start c || c ∈ "_$"

-- RegExpIdentifierPart without its escapes. It includes U+200C and U+200D.
abbrev pub is_identifier_part : ℕ → Bool
is_identifier_part c = is_id_continue c || c ∈ "$" || nat_eq c 0x200C || nat_eq c 0x200D

-- A character of a name, which passes the test. With every flag, escapes have the form that they
-- have with `u`, and a surrogate pair is one character, as in the 11th edition and later.
pub data NameCharacter (test : ℕ → Bool) (here : RemainingCodePoints) : (there : RemainingCodePoints) (c : ℕ)
    → Type 0 where
  verbatim : {c : ℕ} {there : RemainingCodePoints}
      → here ≡ c ∷ there → IsTrue (test c)
      → NameCharacter test here there c
  -- `\ RegExpUnicodeEscapeSequence`
  escaped : {a there : RemainingCodePoints} {c : ℕ}
      → here ≡ codes "\\u" ++ a → UnicodeEscape true a there c → IsTrue (test c)
      → NameCharacter test here there c
  -- UnicodeLeadSurrogate UnicodeTrailSurrogate (11th edition)
  surrogates : {lead trail : ℕ} {there : RemainingCodePoints}
      → here ≡ lead ∷ trail ∷ there → IsTrue (is_high_surrogate lead) → IsTrue (is_low_surrogate trail)
      → IsTrue (test (0x1_0000 + (lead - 0xD800) * 0x400 + (trail - 0xDC00)))
      → NameCharacter test here there (0x1_0000 + (lead - 0xD800) * 0x400 + (trail - 0xDC00))

-- The rest of the characters of a RegExpIdentifierName, up to and including the `>`.
pub data NameRest : (here : RemainingCodePoints) → (there characters : RemainingCodePoints) → Type 0 where
  name_end : {here there : RemainingCodePoints} → here ≡ codes ">" ++ there → NameRest here there []
  name_part : {here a there characters : RemainingCodePoints} {c : ℕ}
      → NameCharacter is_identifier_part here a c → NameRest a there characters
      → NameRest here there (c ∷ characters)

-- GroupName, after the `<`, and the name in UTF-8, as the tree contains it
pub data GroupName (here : RemainingCodePoints) : (there : RemainingCodePoints) (name : List ℕ) → Type 0 where
  group_name : {a there characters : RemainingCodePoints} {c : ℕ}
      → NameCharacter is_identifier_start here a c → NameRest a there characters
      → GroupName here there (encode_utf8_all (c ∷ characters))
