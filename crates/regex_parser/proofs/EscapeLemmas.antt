-- The escape reader reads the characters that the profile's grammar specifies.
use Rattle.std.proofs.Common.{◌≡◌, ℕ, ◌+◌, ◌-◌, ◌*◌, ◌≤◌, inl, inr, Bool, true, false, not, ◌||◌, ◌∷◌, true≢false, refl, sym, ap, subst, ◌∙◌, arith, Some, None}
use Rattle.std.specs.Prelude.{Option, Result, Ok, Err, IsTrue}
use Rattle.std.specs.Option.{SomeIff, ok_or}
use Rattle.std.specs.Char.{IsScalar, OutOfScalarRange, is_ascii_digit, is_ascii_alphanumeric}
use Rattle.regex_meaning.specs.Text.{is_scalar}
use Rattle.regex_meaning.specs.ReadingStatesAndDigits.{RemainingCodePoints, Digits, ◌∈◌}
use Rattle.regex_meaning.specs.EscapesNamesQuantifiers.{FixedHexDigits, SurrogatePair, pair, is_high_surrogate, is_low_surrogate, UnicodeEscape, surrogates, four_digits, code_point, CharacterEscape}
use Rattle.regex_meaning.specs.EscapesNamesQuantifiers.{control_escape_code_point, control_escape, null, hex_escape, unicode_escape, identity_escape}
use Rattle.regex_meaning.proofs.DisjunctionReadingLemmas.{first, rest_of, unlike}
use Rattle.regex_meaning.proofs.EscapesAndNamesLemmas.{behind, one_hex, no_brace, no_brace_pair, is_some}
use Rattle.regex_meaning.proofs.ClassAndAtomLemmas.{may_escape, escape_begins}
use Rattle.regex_parser.specs.CodePointReaderContracts.{first_char_if_any, IsReadOrNothingCanBeRead, IsTrailSurrogateEscape, PairsWithTrailSurrogateIfAny, IsCodePointAndClosingBrace}

-- A number that the conversion to `char` returns is the number that it was given.
pub scalar-same : {o : Option ℕ} {c x : ℕ} → SomeIff o (IsScalar c) c → o ≡ Some x → x ≡ c
scalar-same {o = None} s e = absurd cc
scalar-same {o = Some y} {c = c} {x = x} s e = let h : y ≡ c = s.1 in cc

pub scalar-is : (o : Option ℕ) (c x d : ℕ) → SomeIff o (IsScalar c) c → o ≡ Some x → x ≡ d → c ≡ d
scalar-is o c x d s e f = sym (scalar-same s e) ∙ f

pub no_letter : (c : ℕ) → OutOfScalarRange c → is_ascii_alphanumeric c ≡ false
no_letter c (inl h) = let k : 123 ≤ c = omega (arith, h.0) in grind arith
no_letter c (inr h) = let k : 123 ≤ c = omega (arith, h) in grind arith

-- At a letter or digit but `0`, `x` and `u`, a control escape is read, or no escape is there.
pub control-read : {E : Type 0} (unicode : Bool) (c : ℕ) (rest : RemainingCodePoints) (o : Option ℕ) (cause : E) → o ≡ control_escape_code_point c → is_ascii_alphanumeric c ≡ true
    → (c ≡ 48 → ⊥) → (c ≡ 120 → ⊥) → (c ≡ 117 → ⊥) → IsReadOrNothingCanBeRead (CharacterEscape unicode (c ∷ rest)) (ok_or o cause) rest
control-read unicode c rest (Some d) cause is letter no_zero no_x no_u = control_escape refl (sym is)
control-read unicode c rest None cause is letter no_zero no_x no_u = λ end a e.
    let others : (c ∈ "0xu" || not (is_ascii_alphanumeric c)) ≡ false = grind arith in
    let none : may_escape c ≡ false = ap (λ x. is_some x || (c ∈ "0xu" || not (is_ascii_alphanumeric c))) (sym is) ∙ others in
    true≢false (sym (escape_begins e) ∙ none)

digit_is_scalar : (d : ℕ) → is_ascii_digit d ≡ true → is_scalar d ≡ true
digit_is_scalar d e = grind arith

-- If the peeked code point is no ASCII digit, the text does not begin with one.
pub no_digit_here : (here : RemainingCodePoints) (o : Option ℕ) → o ≡ first_char_if_any here → ((c : ℕ) → o ≡ Some c → is_ascii_digit c ≡ false)
    → ¬ ((d : ℕ) × (end : RemainingCodePoints) × (here ≡ d ∷ end) × IsTrue (is_ascii_digit d))
no_digit_here here o e other h =
    let is : first_char_if_any here ≡ Some h.0 = ap first_char_if_any h.2 ∙ rw (digit_is_scalar h.0 h.3) refl in
    true≢false (sym h.3 ∙ other h.0 (e ∙ is))

-- ---- Escapes that begin with `\u`

pub unicode-plain : {here there : RemainingCodePoints} {c : ℕ} → FixedHexDigits 4 here there c → UnicodeEscape false here there c
unicode-plain h = four_digits h (λ k. true≢false (sym k.0))

pub unicode-plain_none : {here : RemainingCodePoints} → ((end : RemainingCodePoints) (c : ℕ) → FixedHexDigits 4 here end c → ⊥) → (end : RemainingCodePoints) (c : ℕ) → UnicodeEscape false here end c → ⊥
unicode-plain_none none end c (surrogates u p) = true≢false (sym u)
unicode-plain_none none end c (four_digits h k) = none _ _ h
unicode-plain_none none end c (code_point u e d f l) = true≢false (sym u)

pub unicode-brace : {here a there : RemainingCodePoints} {c : ℕ} → here ≡ 123 ∷ a → IsCodePointAndClosingBrace a there c → UnicodeEscape true here there c
unicode-brace e p = code_point refl e p.1 p.2 p.3

pub unicode-brace_none : {here a : RemainingCodePoints} → here ≡ 123 ∷ a → ((end : RemainingCodePoints) (c : ℕ) → IsCodePointAndClosingBrace a end c → ⊥)
    → (end : RemainingCodePoints) (c : ℕ) → UnicodeEscape true here end c → ⊥
unicode-brace_none e none end c (surrogates u p) = no_brace_pair p e
unicode-brace_none e none end c (four_digits h k) = no_brace h e
unicode-brace_none e none end c (code_point {b = b} u f d g l) = none end c (b, subst (λ x. Digits 16 x b c) (behind f e) d, g, l)

pub unicode-none : {here : RemainingCodePoints} → ((rest : RemainingCodePoints) → here ≡ 123 ∷ rest → ⊥) → ((end : RemainingCodePoints) (c : ℕ) → FixedHexDigits 4 here end c → ⊥)
    → (end : RemainingCodePoints) (c : ℕ) → UnicodeEscape true here end c → ⊥
unicode-none no_brace none end c (surrogates u (pair h l e k t)) = none _ _ h
unicode-none no_brace none end c (four_digits h k) = none _ _ h
unicode-none no_brace none end c (code_point u e d f l) = no_brace _ e

pub unicode-read_trail_surrogate_if_any : {here middle there : RemainingCodePoints} {lead c : ℕ} → FixedHexDigits 4 here middle lead → PairsWithTrailSurrogateIfAny lead middle c there → UnicodeEscape true here there c
unicode-read_trail_surrogate_if_any {here} {middle} {there} {lead} {c} h (inl p) =
    let s : UnicodeEscape true here there (0x1_0000 + (lead - 0xD800) * 0x400 + (p.0 - 0xDC00)) = surrogates refl (pair h p.2 p.1.1 p.1.2 p.1.3) in
    rw p.3 s
unicode-read_trail_surrogate_if_any {here} {middle} {there} {lead} {c} h (inr p) = rw (p.0, p.1) (four_digits h (λ k. alone k.1.2))
  where
    alone : {end : RemainingCodePoints} {d : ℕ} → SurrogatePair here end d → ⊥
    alone (pair {b = b} h' l e k t) =
        let same = one_hex refl h h' in
        p.2 (subst (λ x. IsTrue (is_high_surrogate x)) (sym same.1) l) _ _ (b, same.0 ∙ e, k, t)

-- A reader's contract carries over to `other` if readings and their absence carry over.
pub as-read : {A E : Type 0} {reads other : RemainingCodePoints → A → Type 0} (there : RemainingCodePoints) (r : Result A E) → IsReadOrNothingCanBeRead reads r there
    → ((end : RemainingCodePoints) (a : A) → reads end a → other end a)
    → (((end : RemainingCodePoints) (a : A) → reads end a → ⊥) → (end : RemainingCodePoints) (a : A) → other end a → ⊥)
    → IsReadOrNothingCanBeRead other r there
as-read there (Ok a) h make refute = make there a h
as-read there (Err e) h make refute = refute h

-- ---- Escapes that begin with one letter

not_control : (d : ℕ) → control_escape_code_point d ≡ None → {c : ℕ} → control_escape_code_point d ≡ Some c → ⊥
not_control d e f = cc

pub hex_none : {unicode : Bool} {here : RemainingCodePoints} → ((end : RemainingCodePoints) (c : ℕ) → FixedHexDigits 2 here end c → ⊥) → (end : RemainingCodePoints) (c : ℕ) → CharacterEscape unicode (120 ∷ here) end c → ⊥
hex_none none end c (control_escape {letter = l} e f) = not_control 120 refl (ap control_escape_code_point (ap first e) ∙ f)
hex_none none end c (null e k) = unlike 120 48 refl (ap first e)
hex_none none end c (hex_escape {a = a} e h) = none end c (subst (λ x. FixedHexDigits 2 x end c) (sym (ap rest_of e)) h)
hex_none none end c (unicode_escape e h) = unlike 120 117 refl (ap first e)
hex_none none end c (identity_escape e f) = true≢false (ap is_ascii_alphanumeric (ap first e) ∙ f)

pub unicode_none : {unicode : Bool} {here : RemainingCodePoints} → ((end : RemainingCodePoints) (c : ℕ) → UnicodeEscape unicode here end c → ⊥) → (end : RemainingCodePoints) (c : ℕ) → CharacterEscape unicode (117 ∷ here) end c → ⊥
unicode_none none end c (control_escape {letter = l} e f) = not_control 117 refl (ap control_escape_code_point (ap first e) ∙ f)
unicode_none none end c (null e k) = unlike 117 48 refl (ap first e)
unicode_none none end c (hex_escape e h) = unlike 117 120 refl (ap first e)
unicode_none {unicode} none end c (unicode_escape {a = a} e h) = none end c (subst (λ x. UnicodeEscape unicode x end c) (sym (ap rest_of e)) h)
unicode_none none end c (identity_escape e f) = true≢false (ap is_ascii_alphanumeric (ap first e) ∙ f)

-- ---- A trail surrogate

pub no_trail : {here a b there : RemainingCodePoints} {c : ℕ} → here ≡ 92 ∷ a → a ≡ 117 ∷ b → FixedHexDigits 4 b there c → is_low_surrogate c ≡ false
    → (end : RemainingCodePoints) (d : ℕ) → IsTrailSurrogateEscape here end d → ⊥
no_trail e f h other end d (b', g, h', t) =
    let same = one_hex (ap rest_of (sym f ∙ ap rest_of (sym e ∙ g))) h h' in true≢false (sym t ∙ sym (ap is_low_surrogate same.1) ∙ other)
