-- Contracts of the reader of code points, in terms of the grammar. `here` is the text before what
-- is read, and `there` the text after it.
use Rattle.std.specs.Prelude.{◌≡◌, ◌≢◌, IsTrue, ℕ, ◌+◌, ◌-◌, ◌*◌, ◌^◌, ◌⊎◌, ◌≤◌, Bool, true, false, [], ◌∷◌, ◌++◌, codes, min, Option, Some, None, Result, Ok, Err, if◌then◌else◌}
use Rattle.std.specs.Char.{is_digit, digit_value}
use Rattle.regex_meaning.specs.Text.{is_scalar}
use Rattle.regex_meaning.specs.Tree as tree
use Rattle.regex_parser.specs.declared.parser_error.ParseStopReason.{ParseStopReason}
use Rattle.regex_parser.specs.declared.parser_error.ParseStopReason.TheVariants.{Refused, Memory}
use Rattle.regex_pattern_front.specs.declared.ir.Quantifier.{Quantifier}
use Rattle.regex_pattern_front.specs.AstToSpecTree.{spec_quantifier_of}
use Rattle.regex_meaning.specs.ReadingStatesAndDigits.{RemainingCodePoints, Digits, leading_digits}
use Rattle.regex_meaning.specs.EscapesNamesQuantifiers.{is_ascii_identifier_start, is_ascii_identifier_part, FixedHexDigits, is_high_surrogate, is_low_surrogate, QuantifierPrefix, BeginsQuantifier}
use Rattle.regex_meaning.specs.EscapesNamesQuantifiers.{ValidQuantifier}

-- The code points of punctuation that readers of patterns name: `\`, `]`, `(`, `)` and `{`.
abbrev pub backslash : ℕ
backslash = 92

abbrev pub class_end : ℕ
class_end = 93

abbrev pub open_parenthesis : ℕ
open_parenthesis = 40

abbrev pub close_parenthesis : ℕ
close_parenthesis = 41

abbrev pub open_brace : ℕ
open_brace = 123

-- Whether the reason is a syntax error, and not an allocation failure.
abbrev pub is_syntax_error : ParseStopReason → Bool
is_syntax_error (Refused cause left) = true
is_syntax_error (Memory e) = false

-- A code point is read, or nothing is left.
abbrev pub IsCodePointReadIfAny : (here : RemainingCodePoints) → Option ℕ → (there : RemainingCodePoints) → Type 0
IsCodePointReadIfAny here None there = (here ≡ []) × (there ≡ here)
IsCodePointReadIfAny here (Some c) there = here ≡ c ∷ there

-- The first code point, if it is a `char`.
abbrev pub first_char_if_any : RemainingCodePoints → Option ℕ
first_char_if_any [] = None
first_char_if_any (c ∷ cs) = if is_scalar c then Some c else None

-- This code point is read, or the text does not begin with it.
abbrev pub IsEaten : (c : ℕ) → (here : RemainingCodePoints) → Bool → (there : RemainingCodePoints) → Type 0
IsEaten c here true there = here ≡ c ∷ there
IsEaten c here false there = (there ≡ here) × ((rest : RemainingCodePoints) → here ≡ c ∷ rest → ⊥)

-- The value of a digit is read, or the text does not begin with a digit.
abbrev pub IsDigitRead : (base : ℕ) → (here : RemainingCodePoints) → Option ℕ → (there : RemainingCodePoints) → Type 0
IsDigitRead base here None there = (there ≡ here) × (leading_digits base here ≡ [])
IsDigitRead base here (Some d) there = (c : ℕ) × (here ≡ c ∷ there) × (is_digit c base ≡ true) × (d ≡ digit_value c)

-- A number is read, limited to `most`, or the text does not begin with a digit.
abbrev pub IsNumberRead : (base most : ℕ) → (here : RemainingCodePoints) → Option ℕ → (there : RemainingCodePoints)
    → Type 0
IsNumberRead base most here None there = (there ≡ here) × (leading_digits base here ≡ [])
IsNumberRead base most here (Some v) there = (n : ℕ) × Digits base here there n × (v ≡ min n most)

-- `count` hexadecimal digits are read, or the text does not begin with that many.
abbrev pub IsHexRead : (count : ℕ) → (here : RemainingCodePoints) → Option ℕ → (there : RemainingCodePoints) → Type 0
IsHexRead count here None there = (end : RemainingCodePoints) (c : ℕ) → FixedHexDigits count here end c → ⊥
IsHexRead count here (Some c) there = FixedHexDigits count here there c

-- The minimum and maximum of a quantifier are read, without the question mark that may follow, or
-- the text does not begin with a quantifier.
abbrev pub IsOptionalQuantifierPrefixRead : (here : RemainingCodePoints) → Option (ℕ × Option ℕ)
    → (there : RemainingCodePoints) → Type 0
IsOptionalQuantifierPrefixRead here None there = (there ≡ here) × ¬ (BeginsQuantifier here)
IsOptionalQuantifierPrefixRead here (Some p) there = QuantifierPrefix here there p.0 p.1

-- The minimum and maximum of a quantifier are read after its `{`, or the `{` does not begin a
-- quantifier.
abbrev pub AreQuantifierCountsRead : (here : RemainingCodePoints) → Option (ℕ × Option ℕ)
    → (there : RemainingCodePoints) → Type 0
AreQuantifierCountsRead here None there = ¬ (BeginsQuantifier (123 ∷ here))
AreQuantifierCountsRead here (Some p) there = QuantifierPrefix (123 ∷ here) there p.0 p.1

-- A quantifier is read, or the text does not begin with one.
abbrev pub IsOptionalQuantifierRead : (here : RemainingCodePoints) → Option Quantifier → (there : RemainingCodePoints)
    → Type 0
IsOptionalQuantifierRead here None there = (there ≡ here) × ¬ (BeginsQuantifier here)
IsOptionalQuantifierRead here (Some q) there = ValidQuantifier here there (spec_quantifier_of q)

-- A quantifier is read, or the text does not begin with one. After an error, its minimum is greater
-- than its maximum.
abbrev pub IsQuantifierRead : (here : RemainingCodePoints) → Result (Option Quantifier) ParseStopReason
    → (there : RemainingCodePoints) → Type 0
IsQuantifierRead here (Ok found) there = IsOptionalQuantifierRead here found there
IsQuantifierRead here (Err e) there =
    BeginsQuantifier here × ((end : RemainingCodePoints) (q : tree.Quantifier) → ValidQuantifier here end q → ⊥)

-- The minimum and maximum of a quantifier are read from its `{` on, or the text does not begin with
-- a quantifier in braces.
abbrev pub IsOptionalBracesQuantifierRead : (here : RemainingCodePoints) → Option (ℕ × Option ℕ)
    → (there : RemainingCodePoints) → Type 0
IsOptionalBracesQuantifierRead here None there = (there ≡ here)
    × ((rest : RemainingCodePoints) → here ≡ 123 ∷ rest → ¬ (BeginsQuantifier here))
IsOptionalBracesQuantifierRead here (Some p) there = QuantifierPrefix here there p.0 p.1

-- The maximum is read after the minimum. Without a comma it is the minimum. After a comma it is a
-- number, or `None` if no digit follows.
abbrev pub IsQuantifierMaximumRead : (min : ℕ) → (here : RemainingCodePoints) → Option ℕ → (there : RemainingCodePoints)
    → Type 0
IsQuantifierMaximumRead min here most there =
    ((most ≡ Some min) × (there ≡ here) × ((rest : RemainingCodePoints) → here ≡ 44 ∷ rest → ⊥))
    ⊎ ((rest : RemainingCodePoints) × (here ≡ 44 ∷ rest) × IsNumberRead 10 (2 ^ 64 - 1) rest most there)

-- The value is read from `here` to `there`. After an error, nothing can be read.
abbrev pub IsReadOrNothingCanBeRead : {A E : Type 0} → (reads : RemainingCodePoints → A → Type 0) → Result A E
    → (there : RemainingCodePoints) → Type 0
IsReadOrNothingCanBeRead reads (Ok a) there = reads there a
IsReadOrNothingCanBeRead {A} reads (Err e) there = (end : RemainingCodePoints) (a : A) → reads end a → ⊥

-- `\u` and the digits of a trail surrogate
abbrev pub IsTrailSurrogateEscape : (here there : RemainingCodePoints) (c : ℕ) → Type 0
IsTrailSurrogateEscape here there c = (b : RemainingCodePoints) × (here ≡ codes "\\u" ++ b) × FixedHexDigits 4 b there c
    × IsTrue (is_low_surrogate c)

-- An escape of a trail surrogate is read, or the text does not begin with one.
abbrev pub IsOptionalTrailSurrogateEscapeRead : (here : RemainingCodePoints) → Option ℕ → (there : RemainingCodePoints)
    → Type 0
IsOptionalTrailSurrogateEscapeRead here None there = (end : RemainingCodePoints) (c : ℕ)
    → IsTrailSurrogateEscape here end c → ⊥
IsOptionalTrailSurrogateEscapeRead here (Some c) there = IsTrailSurrogateEscape here there c

-- A code point and the `}` after it, after `\u{`.
abbrev pub IsCodePointAndClosingBrace : (here there : RemainingCodePoints) (c : ℕ) → Type 0
IsCodePointAndClosingBrace here there c = (b : RemainingCodePoints) × Digits 16 here b c × (b ≡ codes "}" ++ there)
    × (c ≤ 0x10_FFFF)

-- If `lead` is a lead surrogate and the escape of a trail surrogate follows, the code point is that
-- of the pair. Otherwise it is `lead`.
abbrev pub PairsWithTrailSurrogateIfAny : (lead : ℕ) → (here : RemainingCodePoints) → (c : ℕ)
    → (there : RemainingCodePoints) → Type 0
PairsWithTrailSurrogateIfAny lead here c there =
    ((trail : ℕ) × IsTrailSurrogateEscape here there trail × IsTrue (is_high_surrogate lead)
    × (c ≡ 0x1_0000 + (lead - 0xD800) * 0x400 + (trail - 0xDC00)))
    ⊎ ((there ≡ here) × (c ≡ lead) × (IsTrue (is_high_surrogate lead) → (end : RemainingCodePoints) (trail : ℕ)
    → IsTrailSurrogateEscape here end trail → ⊥))

-- The value is read from `here` to `there`. After a syntax error, nothing can be read. Nothing is
-- stated about an allocation failure.
abbrev pub IsReadOrSyntaxError : {A B : Type 0} (of : A → B) (reads : RemainingCodePoints → B → Type 0)
    → Result A ParseStopReason → (there : RemainingCodePoints) → Type 0
IsReadOrSyntaxError of reads (Ok a) there = reads there (of a)
IsReadOrSyntaxError {B = B} of reads (Err e) there = IsTrue (is_syntax_error e) → (end : RemainingCodePoints) (b : B)
    → reads end b → ⊥

-- The code point as a letter of a name, or `None` if it is not allowed at this position.
abbrev pub ResultIsGroupNameLetterOrNone : (is_first : Bool) (c : ℕ) → Option ℕ → Type 0
ResultIsGroupNameLetterOrNone is_first c None = (if is_first then is_ascii_identifier_start c
    else is_ascii_identifier_part c) ≡ false
ResultIsGroupNameLetterOrNone is_first c (Some letter) = (letter ≡ c)
    × ((if is_first then is_ascii_identifier_start c else is_ascii_identifier_part c) ≡ true)

-- The value is read from `here` to `there`. After any error, nothing can be read.
abbrev pub IsReadAndErrorMeansUnreadable : {A B E : Type 0} (of : A → B) (reads : RemainingCodePoints → B → Type 0)
    → Result A E → (there : RemainingCodePoints) → Type 0
IsReadAndErrorMeansUnreadable of reads (Ok a) there = reads there (of a)
IsReadAndErrorMeansUnreadable {B = B} of reads (Err e) there = (end : RemainingCodePoints) (b : B) → reads end b → ⊥

-- The next code point is read and, after a backslash, also the code point that it escapes.
abbrev pub IsUnescapedRead : (here : RemainingCodePoints) → Option ℕ → (there : RemainingCodePoints) → Type 0
IsUnescapedRead here None there = here ≡ []
IsUnescapedRead here (Some c) there =
    ((c ≡ 92) × ((here ≡ 92 ∷ []) × (there ≡ [])))
    ⊎ (((c ≡ 92) × (d : ℕ) × (here ≡ 92 ∷ d ∷ there)) ⊎ ((c ≢ 92) × (here ≡ c ∷ there)))
