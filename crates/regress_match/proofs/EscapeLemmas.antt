-- Escaping one character after another writes the escaped text.
use Rattle.std.proofs.Common.{◌≡◌, ℕ, true, false, List, ◌++◌, length, sym, ap, ◌∙◌, append_assoc, append-nil, lit<}
use Rattle.std.specs.Char.{encode_utf8}
use Rattle.std.proofs.lemmas.Str.{encode_ascii}
use Rattle.std.proofs.lemmas.List.{nil_from_length}
use Rattle.regex_meaning.specs.NumberListHelpers.{contains}
use Rattle.regex_meaning.specs.FlagLettersAndEscaping.{syntax_characters, escape}
use Rattle.regex_meaning.proofs.EscapedUtf8Reading.{escape-next}
pub use Rattle.regex_meaning.proofs.EscapedUtf8Reading.{mark}

-- The text written before a syntax character is its backslash.
pub behind-mark : (out : List ℕ) (c : ℕ) → true ≡ contains syntax_characters c → out ++ encode_utf8 92 ≡ out ++ mark c
behind-mark out c e = rw (← e) (ap (λ t. out ++ t) (encode_ascii 92 (lit< tt)))

pub without-mark : (out : List ℕ) (c : ℕ) → false ≡ contains syntax_characters c → out ≡ out ++ mark c
without-mark out c e = rw (← e) (sym (append-nil out))

-- If no character is left, the written text is the whole escaped text.
pub escape-empty : (out text whole : List ℕ) → out ++ escape text ≡ whole → length text ≡ 0 → out ≡ whole
unfolding escape
escape-empty out text whole e none = sym (append-nil out) ∙ ap (λ t. out ++ escape t) (sym (nil_from_length text none)) ∙ e

-- After a character is written, the text and the escaped rest still give the whole.
pub escape-marked : (out marked next text rest whole : List ℕ) (c : ℕ) → out ++ escape text ≡ whole → text ≡ encode_utf8 c ++ rest
    → marked ≡ out ++ mark c → next ≡ marked ++ encode_utf8 c → next ++ escape rest ≡ whole
escape-marked out marked next text rest whole c e parts m n =
    rw (n, m) (append_assoc (out ++ mark c) (encode_utf8 c) (escape rest) ∙ append_assoc out (mark c) _ ∙ ap (λ t. out ++ t) (sym (append_assoc (mark c) (encode_utf8 c) (escape rest)) ∙ sym (escape-next text rest c parts)) ∙ e)
