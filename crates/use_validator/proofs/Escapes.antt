-- Names that are escaped one character after another.
use Rattle.std.proofs.Common.{◌≡◌, ◌≢◌, ℕ, ◌+◌, Bool, true, false, inl, inr, List, [], ◌∷◌, ◌++◌, length, flat_map, refl, sym, ap, ap₂, ◌∙◌, arith, append_assoc, append-nil, lit<}
use Rattle.std.specs.Prelude.{Result, Ok, Err, IfOk, is_ok, nat_eq, if◌then◌else◌}
use Rattle.std.specs.Char.{encode_utf8}
use Rattle.std.proofs.lemmas.Grind.{flat_map-append}
use Rattle.std.proofs.lemmas.Str.{encode_ascii}
use Rattle.std.proofs.lemmas.List.{nil_from_length}
use Rattle.std.proofs.lemmas.Bool.{ne_eqb, eqb-true}
use Rattle.std.proofs.lemmas.Bool.Decides.{leb_tells}
use Rattle.regex_meaning.proofs.NonAsciiUtf8Bytes.{encode-stays}
use Rattle.serde_json.specs.Find.{unescape}
use Rattle.use_validator.specs.Pointer.{escape, escaped}

-- ---- Characters

-- A byte other than `~` and `/` is unchanged.
escaped-other : (byte : ℕ) → byte ≢ 126 → byte ≢ 47 → escaped byte ≡ byte ∷ []
escaped-other byte tilde slash = rw (ne_eqb byte 126 tilde, ne_eqb byte 47 slash) refl

-- The escapes of `~` and `/`.
pub escape-tilde : escape (encode_utf8 126) ≡ 126 ∷ 48 ∷ []
unfolding escape
escape-tilde = rw (encode_ascii 126 (lit< tt)) refl

pub escape-slash : escape (encode_utf8 47) ≡ 126 ∷ 49 ∷ []
unfolding escape
escape-slash = rw (encode_ascii 47 (lit< tt)) refl

pub escape-other : (c : ℕ) → c ≢ 126 → c ≢ 47 → escape (encode_utf8 c) ≡ encode_utf8 c
unfolding escape
escape-other c tilde slash = elim (leb_tells 128 c) [
  | inl (e, high) ↦ encode-stays escaped (λ byte le. escaped-other byte (λ e. omega arith) (λ e. omega arith)) c high
  | inr (e, low) ↦ rw (encode_ascii c low, append-nil) (escaped-other c tilde slash)
]

-- If the escaped character was written, the output is extended by it.
pub wrote : {T E : Type 0} (r : Result T E) (new old text escaped : List ℕ) → new ≡ (if is_ok r then old ++ text else old) → escaped ≡ text → IfOk r (λ _. new ≡ old ++ escaped)
wrote (Ok x) new old text escaped e same = e ∙ ap (λ t. old ++ t) (sym same)
wrote (Err x) new old text escaped e same = tt

-- ---- A loop over the characters of a name

escape-next : (text rest : List ℕ) (c : ℕ) → text ≡ encode_utf8 c ++ rest → escape text ≡ escape (encode_utf8 c) ++ escape rest
unfolding escape
escape-next text rest c e = ap (λ t. escape t) e ∙ flat_map-append escaped (encode_utf8 c) rest

-- Nothing is left to escape.
pub escape-empty : (out text whole : List ℕ) → out ++ escape text ≡ whole → length text ≡ 0 → out ≡ whole
unfolding escape
escape-empty out text whole e none = sym (append-nil out) ∙ ap (λ t. out ++ escape t) (sym (nil_from_length text none)) ∙ e

-- The output, followed by the escaped rest, does not change when a character is written.
pub escape-more : (out more text rest whole : List ℕ) (c : ℕ) → out ++ escape text ≡ whole → text ≡ encode_utf8 c ++ rest
    → more ≡ out ++ escape (encode_utf8 c) → more ++ escape rest ≡ whole
escape-more out more text rest whole c e parts m =
    ap (λ t. t ++ escape rest) m ∙ append_assoc out (escape (encode_utf8 c)) (escape rest) ∙ ap (λ t. out ++ t) (sym (escape-next text rest c parts)) ∙ e

-- ---- Escaped names are read back

-- A byte other than `~` is read as itself.
reads-other : (byte : ℕ) (rest : List ℕ) → nat_eq byte 126 ≡ false → unescape (byte ∷ rest) ≡ byte ∷ unescape rest
unfolding unescape
reads-other byte [] e = refl
reads-other byte (y ∷ rest) e = rw e refl

reads : (byte : ℕ) (rest name : List ℕ) → unescape rest ≡ name → unescape (escaped byte ++ rest) ≡ byte ∷ name
unfolding unescape
reads byte rest name h = by (nat_eq byte 126) (nat_eq byte 47) refl refl
  where
    by : (tilde slash : Bool) → nat_eq byte 126 ≡ tilde → nat_eq byte 47 ≡ slash → unescape (escaped byte ++ rest) ≡ byte ∷ name
    by true slash e f = rw e (ap₂ (λ b bs. b ∷ bs) (sym (eqb-true byte 126 e)) h)
    by false true e f = rw (e, f) (ap₂ (λ b bs. b ∷ bs) (sym (eqb-true byte 47 f)) h)
    by false false e f = rw (e, f) (reads-other byte rest e ∙ ap (λ bs. byte ∷ bs) h)

pub names-read_back : (name : List ℕ) → unescape (escape name) ≡ name
unfolding escape unescape
names-read_back [] = refl
names-read_back (byte ∷ name) = reads byte (flat_map escaped name) name (names-read_back name)
