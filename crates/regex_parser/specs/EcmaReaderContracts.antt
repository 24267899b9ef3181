-- Contracts of the readers of the whole language of ECMAScript, in terms of the grammar. `here` is
-- the text before what is read, and `there` the text after it.
use Rattle.std.specs.Prelude.{◌≡◌, ℕ, ◌%◌, Bool, true, false, ◌∷◌, Option, Some, None, Result, Ok, Err, IsTrue}
use Rattle.std.specs.Char.{is_ascii_alphabetic}
use Rattle.regex_meaning.specs.ReadingStatesAndDigits.{RemainingCodePoints}
use Rattle.regex_meaning.specs.EcmaEscapesAndNames.{GrammarParameters as SpecParameters, NameCharacter, is_identifier_start, is_identifier_part}
use Rattle.regex_parser.specs.declared.ecmascript_escapes.GrammarParameters.{GrammarParameters}
use Rattle.regex_parser.specs.declared.parser_error.ParseStopReason.{ParseStopReason}

-- The parameters of the grammar, as the definitions have them.
abbrev pub spec_parameters_of : GrammarParameters → SpecParameters
spec_parameters_of p = record { unicode = p.unicode; named_groups = p.named_groups }

-- The control character of a letter is read, or the text does not begin with an ASCII letter.
abbrev pub IsControlLetterRead : (here : RemainingCodePoints) → Option ℕ → (there : RemainingCodePoints) → Type 0
IsControlLetterRead here (Some c) there =
    (letter : ℕ) × (here ≡ letter ∷ there) × IsTrue (is_ascii_alphabetic letter) × (c ≡ letter % 32)
IsControlLetterRead here None there =
    (there ≡ here) × ((letter : ℕ) (rest : RemainingCodePoints) → here ≡ letter ∷ rest
    → is_ascii_alphabetic letter ≡ true → ⊥)

-- ---- Names

-- Whether the character may be the first character of a name, or a later one.
abbrev pub is_allowed_as_name_character : (is_first : Bool) → ℕ → Bool
is_allowed_as_name_character true c = is_identifier_start c
is_allowed_as_name_character false c = is_identifier_part c

-- A character of a name from `here` to `there`: the first one or a later one.
abbrev pub NameCharacterAt : (is_first : Bool) → (here there : RemainingCodePoints) → ℕ → Type 0
NameCharacterAt is_first here there c = NameCharacter (is_allowed_as_name_character is_first) here there c

-- The text does not begin with a character of a name.
abbrev pub NoNameCharacter : (is_first : Bool) → (here : RemainingCodePoints) → Type 0
NoNameCharacter is_first here = (end : RemainingCodePoints) (c : ℕ) → NameCharacterAt is_first here end c → ⊥

-- A character of a name is read, or the text does not begin with one.
abbrev pub IsNameCharacterRead : (is_first : Bool) → (here : RemainingCodePoints) → Result ℕ ParseStopReason
    → (there : RemainingCodePoints) → Type 0
IsNameCharacterRead is_first here (Ok c) there = NameCharacterAt is_first here there c
IsNameCharacterRead is_first here (Err e) there = NoNameCharacter is_first here

-- If a code point is read and is allowed in a name, it is a character of a name from `here` to
-- `there`. If it is not allowed, or if none is read, the text does not begin with a character of a
-- name.
abbrev pub IsNameCodePointRead : (is_first : Bool) → (here : RemainingCodePoints) → Option ℕ
    → (there : RemainingCodePoints) → Type 0
IsNameCodePointRead is_first here None there = NoNameCharacter is_first here
IsNameCodePointRead is_first here (Some c) there =
    (is_allowed_as_name_character is_first c ≡ true → NameCharacterAt is_first here there c)
    × (is_allowed_as_name_character is_first c ≡ false → NoNameCharacter is_first here)
