-- How flags, the numbers of languages, and the texts of patterns are read.
use Rattle.std.specs.Prelude.{◌≡◌, ℕ, Bool, List, ◌||◌, ◌==◌, IsTrue, Option, Some, None, Result, Ok, Err, Vec, if◌then◌else◌}
use Rattle.std.specs.List.{All}
use Rattle.regex_meaning.specs.FlagLettersAndEscaping.{flags_from_letters}
use Rattle.regex_parser.specs.declared.syntax.Syntax.{Syntax}
use Rattle.regex_parser.specs.declared.syntax.Syntax.TheVariants.{Profile, EcmaScript2018}
use Rattle.regress_match.specs.PublicFlagsAsSpecFlags.{spec_flags_of}
use Rattle.regress_match.specs.declared.api.flags.Flags.{Flags}
use Rattle.regress_c.specs.declared.refusal.Refusal.{Refusal}
use Rattle.regress_c.specs.declared.refusal.Refusal.TheVariants.{NotUtf8, Memory, UnknownFlag}

-- The letter is `i`, `m`, `s`, `u` or `v`.
abbrev pub is_flag_letter : ℕ → Bool
is_flag_letter c = c == 105 || c == 109 || c == 115 || c == 117 || c == 118

-- Each letter is the letter of a flag.
abbrev pub AreFlags : (letters : List ℕ) → Type 0
AreFlags letters = All (λ c. IsTrue (is_flag_letter c)) letters

-- The result is the flags with these letters, or `UnknownFlag` if some letter is not the letter of
-- a flag.
abbrev pub IsFlagsReadResult : (letters : List ℕ) → Result Flags Refusal → Type 0
IsFlagsReadResult letters (Ok flags) = AreFlags letters × (spec_flags_of flags ≡ flags_from_letters letters)
IsFlagsReadResult letters (Err UnknownFlag) = ¬ AreFlags letters
IsFlagsReadResult letters (Err _) = ⊥

-- The language with this number. `None` if there is no such language.
abbrev pub syntax_of_number : (number : ℕ) → Option Syntax
syntax_of_number number = if number == 0 then Some Profile else if number == 1 then Some EcmaScript2018 else None

-- The result is the code points of a pattern, or `NotUtf8` if it is not valid in its encoding.
abbrev pub IsPatternReadResult : {Z : Type 0} → (is_text : Type 0) → (characters : List ℕ) → Result (Vec ℕ Z) Refusal
    → Type 0
IsPatternReadResult is_text characters (Ok v) = is_text × (v.items ≡ characters)
IsPatternReadResult is_text characters (Err NotUtf8) = ¬ is_text
IsPatternReadResult is_text characters (Err Memory) = is_text
IsPatternReadResult is_text characters (Err _) = ⊥
