-- Texts whose code units are bytes are encoded in UTF-8.
use Rattle.std.specs.Prelude.{◌≡◌, ℕ, suc, Bool, List, [], ◌∷◌, map, IsUtf8, IsAscii}
use Rattle.std.proofs.Common.{refl, sym, ap, ap₂, subst}
use Rattle.std.proofs.lemmas.Str.{encodes-chars, encodes-IsAscii, IsUtf8-from_ascii, IsUtf8-had, len_utf8_ascii}
use Rattle.std.specs.Char.{len_utf8}
use Rattle.regex_meaning.specs.Text.{offsets_from, width_of_single_unit_character, utf8_text, ascii_text}
use Rattle.regress_input.specs.CharAndByteReadsFromOffset.{IsEncodedInUtf8}

-- The text of UTF-8 bytes is encoded in UTF-8.
pub utf8_text-IsEncodedInUtf8 : (bytes : List ℕ) (unicode : Bool) → ∥ IsUtf8 bytes ∥₁
    → IsEncodedInUtf8 (utf8_text bytes unicode)
utf8_text-IsEncodedInUtf8 bytes unicode h =
    let u : IsUtf8 bytes = IsUtf8-had bytes h in
    record { bytes = subst IsUtf8 (sym (encodes-chars bytes u)) u; offsets = refl }

-- Each ASCII byte is one byte in UTF-8.
pub ascii_widths : (bytes : List ℕ) → IsAscii bytes → map width_of_single_unit_character bytes ≡ map len_utf8 bytes
ascii_widths [] h = refl
ascii_widths (b ∷ bytes) h = ap₂ (λ w ws. w ∷ ws) (sym (len_utf8_ascii b (h 0))) (ascii_widths bytes (λ i. h (suc i)))

-- The text of ASCII bytes is encoded in UTF-8.
pub ascii_text-IsEncodedInUtf8 : (bytes : List ℕ) (unicode : Bool) → IsAscii bytes
    → IsEncodedInUtf8 (ascii_text bytes unicode)
ascii_text-IsEncodedInUtf8 bytes unicode h = record {
  bytes = subst IsUtf8 (sym (encodes-IsAscii bytes h)) (IsUtf8-from_ascii bytes h);
  offsets = ap (offsets_from 0) (ascii_widths bytes h);
}
