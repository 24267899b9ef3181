-- Each escape, group name and quantifier of the profile's grammar has at most one reading.
use Rattle.std.proofs.Common.{◌≡◌, ℕ, ◌<◌, Bool, true, false, not, [], ◌∷◌, ◌++◌, length, true≢false, ⊎_elim, nat_eq, refl, sym, ap, ap₂, subst, ◌∙◌, arith}
use Rattle.std.specs.Prelude.{codes, Option, Some, None, if◌then◌else◌}
use Rattle.std.specs.List.{list_all}
use Rattle.std.specs.Char.{is_digit, is_ascii_alphanumeric}
use Rattle.std.proofs.lemmas.Bool.{or_cases, and_parts, eqb-true, false_from_ne_true}
use Rattle.regex_meaning.specs.NumberListHelpers.{contains}
use Rattle.regex_meaning.specs.ReadingStatesAndDigits.{RemainingCodePoints, ◌∈◌, begins_with_characters, Digits, digits_from, leading_digits, value_of_digits}
use Rattle.regex_meaning.specs.EscapesNamesQuantifiers.{FixedHexDigits, hex, SurrogatePair, pair, UnicodeEscape, surrogates, four_digits, code_point, CharacterEscape, control_escape_code_point}
use Rattle.regex_meaning.specs.EscapesNamesQuantifiers.{control_escape, null, hex_escape, unicode_escape, identity_escape, GroupName, group_name}
use Rattle.regex_meaning.specs.EscapesNamesQuantifiers.{is_ascii_identifier_start, is_ascii_identifier_part, is_name, saturated_count, QuantifierPrefix, star, plus, question, exactly, at_least}
use Rattle.regex_meaning.specs.EscapesNamesQuantifiers.{between, greedy, lazy}
use Rattle.regex_meaning.proofs.DisjunctionReadingLemmas.{first, rest_of, unlike, QuantifiersAgree}

-- Two readings are the same if they leave the same text and have the same result.
abbrev pub Same : {A : Type 0} → (a b : RemainingCodePoints) (n m : A) → Type 0
Same a b n m = (a ≡ b) × (n ≡ m)

pub behind : {here a b : RemainingCodePoints} {c d : ℕ} → here ≡ c ∷ a → here ≡ d ∷ b → a ≡ b
behind e f = ap rest_of (sym e ∙ f)

-- Characters that a test tells apart are not equal.
pub apart : (test : ℕ → Bool) {c d : ℕ} → test c ≡ true → test d ≡ false → c ≡ d → ⊥
apart test e f g = true≢false (sym e ∙ ap test g ∙ f)

pub firsts : {here a b : RemainingCodePoints} {c d : ℕ} → here ≡ c ∷ a → here ≡ d ∷ b → c ≡ d
firsts e f = ap first (sym e ∙ f)

pub inside : (test : ℕ → Bool) (word : RemainingCodePoints) (c : ℕ) → list_all test word ≡ true → contains word c ≡ true → test c ≡ true
inside test [] c e f = absurd (true≢false (sym f))
inside test (d ∷ word) c e f =
    ⊎_elim (λ g. ap test (eqb-true c d g) ∙ (and_parts (test d) _ e).0) (λ g. inside test word c (and_parts (test d) _ e).1 g) (or_cases (nat_eq c d) _ f)

pub outside : (word big : RemainingCodePoints) (c : ℕ) → list_all (contains big) word ≡ true → contains big c ≡ false → contains word c ≡ false
outside word big c e f = false_from_ne_true (contains word c) (λ g. true≢false (sym (inside (contains big) word c e g) ∙ f))

pub one_digits : {base : ℕ} {here a b : RemainingCodePoints} {n m : ℕ} → Digits base here a n → Digits base here b m → Same a b n m
one_digits (digits_from h) (digits_from k) = (refl, refl)

digits_at : {base : ℕ} {here there a : RemainingCodePoints} {n : ℕ} → here ≡ there → Digits base there a n → Digits base here a n
digits_at {base} {a = a} {n = n} e d = subst (λ x. Digits base x a n) (sym e) d

pub digits_on : {base : ℕ} {here there a b : RemainingCodePoints} {n m : ℕ} → here ≡ there → Digits base here a n → Digits base there b m → Same a b n m
digits_on e d f = one_digits d (digits_at e f)

-- ---- Quantifiers

-- A number does not begin with a closing brace.
pub no_digit : {here there rest : RemainingCodePoints} {n : ℕ} → Digits 10 here there n → here ≡ 125 ∷ rest → ⊥
no_digit {rest = rest} (digits_from h) e = let k : 0 < length (leading_digits 10 (125 ∷ rest)) = subst (λ x. 0 < length (leading_digits 10 x)) e h in omega arith

-- A quantifier prefix begins with a character.
abbrev start : {here there : RemainingCodePoints} {n : ℕ} {m : Option ℕ} → QuantifierPrefix here there n m → (c : ℕ) × (rest : RemainingCodePoints) × (here ≡ c ∷ rest)
start (star e) = (_, _, e)
start (plus e) = (_, _, e)
start (question e) = (_, _, e)
start (exactly e d f) = (_, _, e)
start (at_least e d f) = (_, _, e)
start (between e d f g i) = (_, _, e)

pub one_prefix : {here a b : RemainingCodePoints} {n m : ℕ} {x y : Option ℕ} → QuantifierPrefix here a n x → QuantifierPrefix here b m y → (a ≡ b) × (n ≡ m) × (x ≡ y)
one_prefix (star e) (star f) = (behind e f, refl, refl)
one_prefix (plus e) (plus f) = (behind e f, refl, refl)
one_prefix (question e) (question f) = (behind e f, refl, refl)
one_prefix (exactly e d f) (exactly e' d' f') =
    let h = digits_on (behind e e') d d' in (behind f (h.0 ∙ f'), ap saturated_count h.1, ap (λ x. Some (saturated_count x)) h.1)
one_prefix (at_least e d f) (at_least e' d' f') =
    let h = digits_on (behind e e') d d' in (ap rest_of (behind f (h.0 ∙ f')), ap saturated_count h.1, refl)
one_prefix (between e d f g i) (between e' d' f' g' i') =
    let h = digits_on (behind e e') d d' in
    let k = digits_on (behind f (h.0 ∙ f')) g g' in
    (behind i (k.0 ∙ i'), ap saturated_count h.1, ap (λ x. Some (saturated_count x)) k.1)
one_prefix (exactly e d f) (at_least e' d' f') = absurd (unlike _ _ refl (firsts f ((digits_on (behind e e') d d').0 ∙ f')))
one_prefix (exactly e d f) (between e' d' f' g' i') = absurd (unlike _ _ refl (firsts f ((digits_on (behind e e') d d').0 ∙ f')))
one_prefix (at_least e d f) (exactly e' d' f') = absurd (unlike _ _ refl (firsts f ((digits_on (behind e e') d d').0 ∙ f')))
one_prefix (at_least e d f) (between e' d' f' g' i') = absurd (no_digit g' (sym (behind f ((digits_on (behind e e') d d').0 ∙ f'))))
one_prefix (between e d f g i) (exactly e' d' f') = absurd (unlike _ _ refl (firsts f ((digits_on (behind e e') d d').0 ∙ f')))
one_prefix (between e d f g i) (at_least e' d' f') = absurd (no_digit g (behind f ((digits_on (behind e e') d d').0 ∙ f')))
one_prefix x y = absurd (unlike (start x).0 (start y).0 refl (firsts (start x).2 (start y).2))

pub no_lazy : {here rest : RemainingCodePoints} → begins_with_characters "?" here ≡ false → here ≡ 63 ∷ rest → ⊥
no_lazy f e = true≢false (subst (λ x. begins_with_characters "?" x ≡ false) e f)

pub one_quantifier : QuantifiersAgree
one_quantifier here a b n m (greedy h e o) (greedy k f q) = let s = one_prefix h k in (s.0, rw (s.1, s.2) refl)
one_quantifier here a b n m (lazy h e o) (lazy k f q) = let s = one_prefix h k in (behind e (s.0 ∙ f), rw (s.1, s.2) refl)
one_quantifier here a b n m (greedy h e o) (lazy k f q) = let s = one_prefix h k in absurd (no_lazy e (s.0 ∙ f))
one_quantifier here a b n m (lazy h e o) (greedy k f q) = let s = one_prefix h k in absurd (no_lazy f (sym s.0 ∙ e))

-- ---- Names

no_end : (c : ℕ) → is_ascii_identifier_part c ≡ true → c ≡ 62 → ⊥
no_end c e f = apart is_ascii_identifier_part e refl f

pub up_to_end : (n m a b : RemainingCodePoints) → list_all is_ascii_identifier_part n ≡ true → list_all is_ascii_identifier_part m ≡ true → n ++ 62 ∷ a ≡ m ++ 62 ∷ b → Same a b n m
up_to_end [] [] a b e f g = (ap rest_of g, refl)
up_to_end [] (d ∷ m) a b e f g = absurd (no_end d (and_parts (is_ascii_identifier_part d) _ f).0 (sym (ap first g)))
up_to_end (c ∷ n) [] a b e f g = absurd (no_end c (and_parts (is_ascii_identifier_part c) _ e).0 (ap first g))
up_to_end (c ∷ n) (d ∷ m) a b e f g =
    let h = up_to_end n m a b (and_parts (is_ascii_identifier_part c) _ e).1 (and_parts (is_ascii_identifier_part d) _ f).1 (ap rest_of g) in
    (h.0, ap₂ (λ x y. x ∷ y) (ap first g) h.1)

pub name_letters : (n : RemainingCodePoints) → is_name n ≡ true → list_all is_ascii_identifier_part n ≡ true
name_letters [] e = absurd (true≢false (sym e))
name_letters (c ∷ cs) e = let h = and_parts (is_ascii_identifier_start c) _ e in grind arith

pub one_name : (here a b n m : RemainingCodePoints) → GroupName here a n → GroupName here b m → Same a b n m
one_name here a b n m (group_name e f) (group_name e' f') = up_to_end n m a b (name_letters n f) (name_letters m f') (sym e ∙ e')

-- ---- Characters

pub split_same : (ds es a b : RemainingCodePoints) → length ds ≡ length es → ds ++ a ≡ es ++ b → Same a b ds es
split_same [] [] a b e f = (f, refl)
split_same [] (d ∷ es) a b e f = absurd (omega arith)
split_same (d ∷ ds) [] a b e f = absurd (omega arith)
split_same (d ∷ ds) (c ∷ es) a b e f =
    let h = split_same ds es a b (omega arith) (ap rest_of f) in (h.0, ap₂ (λ x y. x ∷ y) (ap first f) h.1)

pub one_hex : {digits : ℕ} {here there a b : RemainingCodePoints} {n m : ℕ} → here ≡ there → FixedHexDigits digits here a n → FixedHexDigits digits there b m → Same a b n m
one_hex same (hex ds e l t) (hex es f k u) = let h = split_same ds es _ _ (l ∙ sym k) (sym e ∙ same ∙ f) in (h.0, ap (value_of_digits 16) h.1)

one_pair : {here a b : RemainingCodePoints} {n m : ℕ} → SurrogatePair here a n → SurrogatePair here b m → Same a b n m
one_pair (pair h l e k t) (pair h' l' e' k' t') =
    let x = one_hex refl h h' in
    let y = one_hex (ap rest_of (behind e (x.0 ∙ e'))) k k' in
    (y.0, rw (x.1, y.1) refl)

pub no_brace : {here a rest : RemainingCodePoints} {n : ℕ} → FixedHexDigits 4 here a n → here ≡ 123 ∷ rest → ⊥
no_brace (hex [] e l t) f = absurd (omega arith)
no_brace (hex (d ∷ ds) e l t) f = apart (λ c. is_digit c 16) (and_parts (is_digit d 16) _ t).0 refl (firsts e f)

pub no_brace_pair : {here a rest : RemainingCodePoints} {n : ℕ} → SurrogatePair here a n → here ≡ 123 ∷ rest → ⊥
no_brace_pair (pair h l e k t) f = no_brace h f

pub one_unicode : {unicode : Bool} {here there a b : RemainingCodePoints} {n m : ℕ} → here ≡ there → UnicodeEscape unicode here a n → UnicodeEscape unicode there b m → Same a b n m
one_unicode {unicode} {here} {there} {b = b} {m = m} same d e = go d (subst (λ x. UnicodeEscape unicode x b m) (sym same) e)
  where
    go : {unicode : Bool} {here a b : RemainingCodePoints} {n m : ℕ} → UnicodeEscape unicode here a n → UnicodeEscape unicode here b m → Same a b n m
    go (surrogates u p) (surrogates v q) = one_pair p q
    go (surrogates u p) (four_digits h k) = absurd (k (u, (_, _, p)))
    go (surrogates u p) (code_point v e d f l) = absurd (no_brace_pair p e)
    go (four_digits h k) (surrogates u p) = absurd (k (u, (_, _, p)))
    go (four_digits h k) (four_digits h' k') = one_hex refl h h'
    go (four_digits h k) (code_point v e d f l) = absurd (no_brace h e)
    go (code_point v e d f l) (surrogates u p) = absurd (no_brace_pair p e)
    go (code_point v e d f l) (four_digits h k) = absurd (no_brace h e)
    go (code_point v e d f l) (code_point v' e' d' f' l') = let h = digits_on (behind e e') d d' in (behind f (h.0 ∙ f'), h.1)

abbrev pub is_some : {A : Type 0} → Option A → Bool
is_some None = false
is_some (Some x) = true

pub Some_inj : {A : Type 0} {x y : A} → Some x ≡ Some y → x ≡ y
Some_inj {A} {x} {y} e = ap (λ o. elim o [ None ↦ x | Some z ↦ z ]) e

abbrev pub is_control_letter : ℕ → Bool
is_control_letter c = is_some (control_escape_code_point c)

control_letters : (c : ℕ) → is_control_letter c ≡ true → c ∈ "tnvfr" ≡ true
control_letters c e = grind arith

-- A test that the letters of control escapes pass holds for each of them.
pub control_letter : (test : ℕ → Bool) (c : ℕ) → list_all test (codes "tnvfr") ≡ true → is_control_letter c ≡ true → test c ≡ true
control_letter test c e f = inside test (codes "tnvfr") c e (control_letters c f)

abbrev not_control : ℕ → Bool
not_control c = not (c ∈ "0xu")

-- `0`, `x` and `u` are their own kind, other ASCII letters and digits have 1, and the rest has 0.
abbrev kind : ℕ → ℕ
kind c = if is_ascii_alphanumeric c then (if not_control c then 1 else c) else 0

module _ {unicode : Bool} {here : RemainingCodePoints} where
  abbrev tag : {there : RemainingCodePoints} {c : ℕ} → CharacterEscape unicode here there c → ℕ
  tag (control_escape e f) = 1
  tag (null e k) = 48
  tag (hex_escape e h) = 120
  tag (unicode_escape e h) = 117
  tag (identity_escape e f) = 0

  tagged : {there : RemainingCodePoints} {c : ℕ} (x : CharacterEscape unicode here there c) → (letter : ℕ) × (rest : RemainingCodePoints) × (here ≡ letter ∷ rest) × (kind letter ≡ tag x)
  tagged (control_escape {letter = l} e f) = (l, _, e, rw (control_letter is_ascii_alphanumeric l refl (ap is_some f), control_letter not_control l refl (ap is_some f)) refl)
  tagged (null e k) = (_, _, e, refl)
  tagged (hex_escape e h) = (_, _, e, refl)
  tagged (unicode_escape e h) = (_, _, e, refl)
  tagged (identity_escape e f) = (_, _, e, rw f refl)

  same-tag : {a b : RemainingCodePoints} {n m : ℕ} (x : CharacterEscape unicode here a n) (y : CharacterEscape unicode here b m) → tag x ≡ tag y
  same-tag x y = let (l, r, e, k) = tagged x in let (l', r', e', k') = tagged y in sym k ∙ ap kind (firsts e e') ∙ k'

pub one_character : {unicode : Bool} {here a b : RemainingCodePoints} {n m : ℕ} → CharacterEscape unicode here a n → CharacterEscape unicode here b m → Same a b n m
one_character (control_escape e f) (control_escape {letter = l'} e' f') = (behind e e', Some_inj (sym f ∙ ap control_escape_code_point (firsts e e') ∙ f'))
one_character (null e k) (null e' k') = (behind e e', refl)
one_character (hex_escape e h) (hex_escape e' h') = one_hex (behind e e') h h'
one_character (unicode_escape e h) (unicode_escape e' h') = one_unicode (behind e e') h h'
one_character (identity_escape e f) (identity_escape e' f') = (behind e e', firsts e e')
one_character x y = absurd (unlike (tag x) (tag y) refl (same-tag x y))
