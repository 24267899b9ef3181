-- The ECMAScript escape reader reads the characters that the grammar specifies.
use Rattle.std.proofs.Common.{◌≡◌, ◌⊎◌, ℕ, ◌+◌, ◌*◌, ◌<◌, ◌≤◌, inl, inr, Bool, true, false, [], ◌∷◌, true≢false, refl, sym, ap, ap₂, subst, ◌∙◌, arith, Some, None}
use Rattle.std.specs.Prelude.{Option, Result, if◌then◌else◌}
use Rattle.std.specs.Option.{ok_or}
use Rattle.std.specs.Char.{OutOfScalarRange, is_digit, digit_value, is_ascii_digit, is_ascii_alphabetic}
use Rattle.std.proofs.lemmas.List.Sums.{take_while-cons}
use Rattle.regex_meaning.specs.ReadingStatesAndDigits.{RemainingCodePoints, leading_digits, ◌∈◌}
use Rattle.regex_meaning.specs.EscapesNamesQuantifiers.{FixedHexDigits, UnicodeEscape, control_escape_code_point}
use Rattle.regex_meaning.specs.EcmaEscapesAndNames.{GrammarParameters, next_code_point_passes, is_octal_digit, is_zero_to_three, is_four_to_seven, LegacyOctalEscape, one_digit, two_digits}
use Rattle.regex_meaning.specs.EcmaEscapesAndNames.{two_high_digits, three_digits, CharacterEscape, non_identity_escape, identity_escape, is_identity_escape}
use Rattle.regex_meaning.specs.EcmaEscapesAndNames.{NonIdentityEscape, control_escape, control_letter, null, hex_escape, unicode_escape, legacy_octal_escape}
use Rattle.regex_meaning.proofs.DisjunctionReadingLemmas.{first as first_of, rest_of, unlike}
use Rattle.regex_meaning.proofs.EscapesAndNamesLemmas.{firsts}
use Rattle.regex_meaning.proofs.EcmaEscapesAndNamesLemmas.{escape_kind, tag, tagged}
use Rattle.regex_parser.specs.CodePointReaderContracts.{IsReadOrNothingCanBeRead, IsDigitRead}
use Rattle.regex_parser.specs.EcmaReaderContracts.{IsControlLetterRead}

-- ---- Octal digits

octal_digit : (c : ℕ) → is_digit c 8 ≡ true → is_octal_digit c ≡ true
octal_digit c e = grind arith

octal_first : (first : ℕ) → first ≤ 7 → is_octal_digit (48 + first) ≡ true
octal_first first l = grind arith

low_first : (first : ℕ) → first ≤ 3 → is_zero_to_three (48 + first) ≡ true
low_first first l = grind arith

high_first : (first : ℕ) → first ≤ 7 → 3 < first → is_four_to_seven (48 + first) ≡ true
high_first first l k = grind arith

value_first : (first : ℕ) → first ≤ 7 → digit_value (48 + first) ≡ first
value_first first l = grind arith

-- If a text has no leading octal digit, its next code point is no octal digit.
none_next : (here : RemainingCodePoints) → leading_digits 8 here ≡ [] → next_code_point_passes is_octal_digit here ≡ false
none_next [] e = refl
none_next (c ∷ cs) e = by (is_octal_digit c) refl
  where
    back : (c : ℕ) → is_octal_digit c ≡ true → is_digit c 8 ≡ true
    back c e = grind arith

    by : (b : Bool) → is_octal_digit c ≡ b → is_octal_digit c ≡ false
    by true f =
        let some : leading_digits 8 (c ∷ cs) ≡ c ∷ leading_digits 8 cs = take_while-cons (λ x. is_digit x 8) c cs ∙ rw (back c f) refl in
        let h = sym some ∙ e in cc
    by false f = f

pub octal-one : {here there : RemainingCodePoints} {first : ℕ} → first ≤ 7 → IsDigitRead 8 here None there → LegacyOctalEscape ((48 + first) ∷ here) there first
octal-one {here} {there} {first} l r =
    subst (λ x. LegacyOctalEscape ((48 + first) ∷ here) x first) (sym r.0)
    (subst (λ x. LegacyOctalEscape ((48 + first) ∷ here) here x) (value_first first l) (one_digit refl (octal_first first l) (none_next here r.1)))

pub octal-two-high : {here there : RemainingCodePoints} {first second : ℕ} → first ≤ 7 → 3 < first → IsDigitRead 8 here (Some second) there
    → LegacyOctalEscape ((48 + first) ∷ here) there (8 * first + second)
octal-two-high {here} {there} {first} {second} l k r =
    subst (λ x. LegacyOctalEscape ((48 + first) ∷ here) there x) (ap₂ (λ x y. 8 * x + y) (value_first first l) (sym r.3))
    (two_high_digits (ap (λ x. (48 + first) ∷ x) r.1) (high_first first l k) (octal_digit r.0 r.2))

pub octal-two : {here middle there : RemainingCodePoints} {first second : ℕ} → first ≤ 3 → IsDigitRead 8 here (Some second) middle → IsDigitRead 8 middle None there
    → LegacyOctalEscape ((48 + first) ∷ here) there (8 * first + second)
octal-two {here} {middle} {there} {first} {second} l r s =
    subst (λ x. LegacyOctalEscape ((48 + first) ∷ here) x (8 * first + second)) (sym s.0)
    (subst (λ x. LegacyOctalEscape ((48 + first) ∷ here) middle x) (ap₂ (λ x y. 8 * x + y) (value_first first (omega (arith, l))) (sym r.3))
    (two_digits (ap (λ x. (48 + first) ∷ x) r.1) (low_first first l) (octal_digit r.0 r.2) (none_next middle s.1)))

pub octal-three : {here middle there : RemainingCodePoints} {first second third : ℕ} → first ≤ 3 → IsDigitRead 8 here (Some second) middle → IsDigitRead 8 middle (Some third) there
    → LegacyOctalEscape ((48 + first) ∷ here) there (8 * (8 * first + second) + third)
octal-three {here} {middle} {there} {first} {second} {third} l r s =
    subst (λ x. LegacyOctalEscape ((48 + first) ∷ here) there x) (same (value_first first (omega (arith, l))) (sym r.3) (sym s.3))
    (three_digits (ap (λ x. (48 + first) ∷ x) (r.1 ∙ ap (λ x. r.0 ∷ x) s.1)) (low_first first l) (octal_digit r.0 r.2) (octal_digit s.0 s.2))
  where
    same : {x y z : ℕ} → x ≡ first → y ≡ second → z ≡ third → 64 * x + 8 * y + z ≡ 8 * (8 * first + second) + third
    same {x} {y} {z} e f g = omega (arith, e, f, g)

-- ---- Escapes that begin with a code point

kind-is : {g : GrammarParameters} {here rest end : RemainingCodePoints} {c d : ℕ} → here ≡ c ∷ rest → (x : NonIdentityEscape g here end d) → escape_kind c ≡ tag x
kind-is e x = let (l, r, f, k) = tagged x in ap escape_kind (firsts e f) ∙ k

pub nothing-escaped : {g : GrammarParameters} {here : RemainingCodePoints} → here ≡ [] → (end : RemainingCodePoints) (d : ℕ) → NonIdentityEscape g here end d → ⊥
nothing-escaped e end d x = let (l, r, f, k) = tagged x in cc

control-inverse : {g : GrammarParameters} {rest end : RemainingCodePoints} {c d : ℕ} → escape_kind c ≡ 1 → NonIdentityEscape g (c ∷ rest) end d → control_escape_code_point c ≡ Some d
control-inverse k (control_escape e f) = ap control_escape_code_point (ap first_of e) ∙ f
control-inverse k x = absurd (unlike 1 (tag x) refl (sym k ∙ kind-is refl x))

pub control-read : {E : Type 0} (g : GrammarParameters) (c : ℕ) (rest : RemainingCodePoints) (o : Option ℕ) (cause : E) → o ≡ control_escape_code_point c → escape_kind c ≡ 1
    → IsReadOrNothingCanBeRead (NonIdentityEscape g (c ∷ rest)) (ok_or o cause) rest
control-read g c rest (Some d) cause is k = control_escape refl (sym is)
control-read g c rest None cause is k = λ end a x. let h = is ∙ control-inverse k x in cc

-- A code point that is no octal digit and none of `c`, `x` and `u` has the escape kind 1.
pub other-kind : (c : ℕ) → is_octal_digit c ≡ false → (c ≡ 99 → ⊥) → (c ≡ 120 → ⊥) → (c ≡ 117 → ⊥) → escape_kind c ≡ 1
other-kind c e f g h = grind arith

pub no-letter-kind : (c : ℕ) → OutOfScalarRange c → (escape_kind c ≡ 1) × (control_escape_code_point c ≡ None)
no-letter-kind c (inl h) = let k : 123 ≤ c = omega (arith, h.0) in beyond c k
  where
    beyond : (c : ℕ) → 123 ≤ c → (escape_kind c ≡ 1) × (control_escape_code_point c ≡ None)
    beyond c k = (grind arith, grind arith)
no-letter-kind c (inr h) = let k : 123 ≤ c = omega (arith, h) in beyond c k
  where
    beyond : (c : ℕ) → 123 ≤ c → (escape_kind c ≡ 1) × (control_escape_code_point c ≡ None)
    beyond c k = (grind arith, grind arith)

pub no-letter-escape : {g : GrammarParameters} (c : ℕ) (rest : RemainingCodePoints) → OutOfScalarRange c → (end : RemainingCodePoints) (d : ℕ) → NonIdentityEscape g (c ∷ rest) end d → ⊥
no-letter-escape c rest h end d x = let k = no-letter-kind c h in let e = sym k.1 ∙ control-inverse k.0 x in cc

letter-inverse : {g : GrammarParameters} {rest end : RemainingCodePoints} {d : ℕ} → NonIdentityEscape g (99 ∷ rest) end d → (letter : ℕ) × (rest ≡ letter ∷ end) × (is_ascii_alphabetic letter ≡ true)
letter-inverse (control_letter {letter = l} e f) = (l, ap rest_of e, f)
letter-inverse x = absurd (unlike 99 (tag x) refl (kind-is refl x))

pub letter-read : {E : Type 0} (g : GrammarParameters) (here there : RemainingCodePoints) (o : Option ℕ) (cause : E) → IsControlLetterRead here o there
    → IsReadOrNothingCanBeRead (NonIdentityEscape g (99 ∷ here)) (ok_or o cause) there
letter-read g here there (Some c) cause r = subst (λ x. NonIdentityEscape g (99 ∷ here) there x) (sym r.3) (control_letter (ap (λ x. 99 ∷ x) r.1) r.2)
letter-read g here there None cause r = λ end a x. let (l, e, f) = letter-inverse x in r.1 l end e f

pub hex-none : {g : GrammarParameters} {rest : RemainingCodePoints} → ((end : RemainingCodePoints) (c : ℕ) → FixedHexDigits 2 rest end c → ⊥)
    → (end : RemainingCodePoints) (c : ℕ) → NonIdentityEscape g (120 ∷ rest) end c → ⊥
hex-none none end c (hex_escape e h) = none end c (subst (λ x. FixedHexDigits 2 x end c) (sym (ap rest_of e)) h)
hex-none none end c x = unlike 120 (tag x) refl (kind-is refl x)

pub unicode-none : {g : GrammarParameters} {rest : RemainingCodePoints} → ((end : RemainingCodePoints) (c : ℕ) → UnicodeEscape g.unicode rest end c → ⊥)
    → (end : RemainingCodePoints) (c : ℕ) → NonIdentityEscape g (117 ∷ rest) end c → ⊥
unicode-none {g} none end c (unicode_escape e h) = none end c (subst (λ x. UnicodeEscape g.unicode x end c) (sym (ap rest_of e)) h)
unicode-none none end c x = unlike 117 (tag x) refl (kind-is refl x)

-- With `u`, a digit up to 7 begins no escape, except a `0` that no digit follows.
pub digit-none : {g : GrammarParameters} {rest : RemainingCodePoints} (first : ℕ) → first ≤ 7 → g.unicode ≡ true → (first ≡ 0 → next_code_point_passes is_ascii_digit rest ≡ true)
    → (end : RemainingCodePoints) (c : ℕ) → NonIdentityEscape g ((48 + first) ∷ rest) end c → ⊥
digit-none first l u none end c (null e k) =
    let zero_first : first ≡ 0 = (let f = ap first_of e in omega (arith, f)) in
    true≢false (sym (none zero_first) ∙ ap (next_code_point_passes is_ascii_digit) (ap rest_of e) ∙ k)
digit-none first l u none end c (legacy_octal_escape v o) = true≢false (sym u ∙ v)
digit-none first l u none end c x =
    unlike 48 (tag x) refl (sym (ap (λ b. if b then 48 else if (48 + first) ∈ "cxu" then 48 + first else 1) (octal_first first l)) ∙ kind-is refl x)

-- ---- Character escapes

-- An identity escape is read if the code point allows it and no other escape is here.
pub identity-read : {g : GrammarParameters} {here there : RemainingCodePoints} {c : ℕ} → here ≡ c ∷ there → is_identity_escape g c ≡ true
    → ((end : RemainingCodePoints) (d : ℕ) → NonIdentityEscape g here end d → ⊥) → CharacterEscape g here there c
identity-read e f none = identity_escape e f (λ x. none x.0 x.1 x.2)

-- No character escape is here if neither an identity escape nor another escape is.
pub no-escape : {g : GrammarParameters} {here : RemainingCodePoints} → ((end : RemainingCodePoints) (d : ℕ) → NonIdentityEscape g here end d → ⊥)
    → ((c : ℕ) (rest : RemainingCodePoints) → here ≡ c ∷ rest → is_identity_escape g c ≡ true → ⊥)
    → (end : RemainingCodePoints) (d : ℕ) → CharacterEscape g here end d → ⊥
no-escape none other end d (non_identity_escape x) = none end d x
no-escape none other end d (identity_escape e f k) = other d end e f

-- The result of reading an escape in `d ∷ rest` holds for a text that is equal to `d ∷ rest`.
pub at-letter : {E : Type 0} (g : GrammarParameters) {here rest : RemainingCodePoints} (there : RemainingCodePoints) (c d : ℕ) (r : Result ℕ E) → here ≡ c ∷ rest → c ≡ d
    → IsReadOrNothingCanBeRead (NonIdentityEscape g (d ∷ rest)) r there → IsReadOrNothingCanBeRead (NonIdentityEscape g here) r there
at-letter g {rest = rest} there c d r e f h = subst (λ x. IsReadOrNothingCanBeRead (NonIdentityEscape g x) r there) (sym (e ∙ ap (λ (y : ℕ). y ∷ rest) f)) h

pub zero-read : {g : GrammarParameters} {here : RemainingCodePoints} (first : ℕ) → first ≤ 0 → next_code_point_passes is_ascii_digit here ≡ false
    → NonIdentityEscape g ((48 + first) ∷ here) here 0
zero-read {g} {here} first l k = subst (λ n. NonIdentityEscape g ((48 + n) ∷ here) here 0) (let e : 0 ≡ first = omega (arith, l) in e) (null refl k)

pub not-octal : (c : ℕ) → (c < 48) ⊎ (55 < c) → is_octal_digit c ≡ false
not-octal c (inl l) = grind arith
not-octal c (inr l) = grind arith
