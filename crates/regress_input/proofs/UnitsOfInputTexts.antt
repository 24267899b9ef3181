-- The code units of a text are the list of units from which the text was made.
use Rattle.std.proofs.Common.{◌≡◌, ℕ, List, [], ◌∷◌, ◌++◌, Bool, chars, flat_map, IsUtf8, IsAscii, refl, ◌∙◌, ap₂}
use Rattle.std.proofs.lemmas.List.{append-nil}
use Rattle.std.proofs.lemmas.Str.{encodes-chars, encodes-IsAscii, IsUtf8-had}
use lib.Utf8.{encode, encodes}
use Rattle.regex_meaning.specs.Text.{utf8_text, ascii_text, utf16_text, ucs2_text}
use Rattle.regex_meaning.specs.CodeUnits.{utf8, utf16, ucs2, code_units_of_character, text_units_in_encoding, AreU16Units}
use Rattle.regress_input.proofs.OneUnitCharacters.{all_single}
use Rattle.regress_input.proofs.Utf16Reads.{spell, spelled}

pub utf8-units : (cs : List ℕ) → flat_map (code_units_of_character utf8) cs ≡ encodes cs
utf8-units [] = refl
utf8-units (c ∷ cs) = ap₂ (λ (l m : List ℕ). l ++ m) (append-nil (encode c)) (utf8-units cs)

pub utf8_text-units_in : (bytes : List ℕ) (unicode : Bool) → ∥ IsUtf8 bytes ∥₁ → text_units_in_encoding utf8 (utf8_text bytes unicode) ≡ bytes
utf8_text-units_in bytes unicode u = utf8-units (chars bytes) ∙ encodes-chars bytes (IsUtf8-had bytes u)

pub ascii_text-units_in : (bytes : List ℕ) (unicode : Bool) → IsAscii bytes → text_units_in_encoding utf8 (ascii_text bytes unicode) ≡ bytes
ascii_text-units_in bytes unicode h = utf8-units bytes ∙ encodes-IsAscii bytes h

pub utf16_text-units_in : (us : List ℕ) (unicode : Bool) → AreU16Units us → text_units_in_encoding utf16 (utf16_text us unicode) ≡ us
unfolding spell
utf16_text-units_in us unicode small = spelled us small

pub ucs2_text-units_in : (us : List ℕ) (unicode : Bool) → text_units_in_encoding ucs2 (ucs2_text us unicode) ≡ us
ucs2_text-units_in us unicode = all_single us
