-- Each escape, property and group name of the ECMAScript grammar has at most one reading.
use Rattle.std.proofs.Common.{◌≡◌, ℕ, Bool, true, false, not, ◌&&◌, List, [], ◌∷◌, ◌++◌, true≢false, inl, inr, ⊎_elim, ◌⊎◌, nat_eq, refl, sym, ap, ap₂, subst, ◌∙◌, arith}
use Rattle.std.specs.Prelude.{encode_utf8_all, codes, ◌||◌, nat_lt, nat_le, Option, Some, None, option_map, if◌then◌else◌}
use Rattle.std.specs.Option.{option_or}
use Rattle.std.specs.List.{list_all}
use Rattle.std.specs.Char.{digit_value, is_ascii_digit, is_ascii_alphanumeric}
use Rattle.std.proofs.lemmas.Bool.{or_cases, or_right, and_parts, false_from_ne_true, leb-true, ltb-true, eqb-true, not-true}
use Rattle.std.specs.Cmp.Lexicographic.{same_text}
use Prim.Native.String.{String}
use Rattle.ucd_table.specs.Rows.{in_ranges, Range}
use Rattle.ucd_derived.specs.Binary.{is_id_start, is_id_continue}
use Rattle.ucd_derived.specs.IdStartRanges.{id_start_ranges}
use Rattle.ucd_derived.specs.IdContinueRanges.{id_continue_ranges}
use Rattle.ucd_sets.specs.Names.{category_names, script_names}
use Rattle.ucd_sets.specs.declared.set.Set.{Set}
use Rattle.ucd_sets.specs.declared.set.Set.TheVariants as set
use Rattle.ucd_script.specs.declared.Script.{Script}
use Rattle.regex_meaning.specs.ReadingStatesAndDigits.{RemainingCodePoints, ◌∈◌}
use Rattle.regex_meaning.specs.EscapesNamesQuantifiers.{control_escape_code_point, is_high_surrogate}
use Rattle.regex_meaning.specs.UnicodeProperties.{Property, in_database, is_word, value_named, binary_property_names, binary_property_named, general_category_named, property_named}
use Rattle.regex_meaning.specs.UnicodeProperties.{property_with_value}
use Rattle.regex_meaning.specs.EcmaEscapesAndNames.{GrammarParameters, next_code_point_passes, is_octal_digit, is_zero_to_three, is_four_to_seven, LegacyOctalEscape, one_digit, two_digits}
use Rattle.regex_meaning.specs.EcmaEscapesAndNames.{two_high_digits, three_digits, CharacterEscape, non_identity_escape, identity_escape}
use Rattle.regex_meaning.specs.EcmaEscapesAndNames.{NonIdentityEscape, control_escape, control_letter, null, hex_escape, unicode_escape, legacy_octal_escape, PropertyExpression, with_value, alone}
use Rattle.regex_meaning.specs.EcmaEscapesAndNames.{is_identifier_start, is_identifier_part, NameCharacter, verbatim, escaped}
use Rattle.regex_meaning.specs.EcmaEscapesAndNames.{surrogates, NameRest, name_end, name_part, GroupName, group_name}
use Rattle.regex_meaning.proofs.DisjunctionReadingLemmas.{first, rest_of, unlike}
use Rattle.regex_meaning.proofs.EscapesAndNamesLemmas.{Same, behind, apart, firsts, inside, one_hex, one_unicode, is_some, Some_inj, is_control_letter, control_letter as control_letter_passes}

-- ---- Octal escapes

no_octal : {there rest : RemainingCodePoints} {e : ℕ} → next_code_point_passes is_octal_digit there ≡ false → there ≡ e ∷ rest → is_octal_digit e ≡ true → ⊥
no_octal f e g = true≢false (sym g ∙ sym (ap (next_code_point_passes is_octal_digit) e) ∙ f)

low_or_high : (c : ℕ) → is_zero_to_three c ≡ true → is_four_to_seven c ≡ true → ⊥
low_or_high c e f = grind arith

low_high : {here a b : RemainingCodePoints} {c d : ℕ} → here ≡ c ∷ a → here ≡ d ∷ b → is_zero_to_three c ≡ true → is_four_to_seven d ≡ true → ⊥
low_high {c = c} e f x y = low_or_high c x (ap is_four_to_seven (firsts e f) ∙ y)

pub seconds : {here a b : RemainingCodePoints} {c d x y : ℕ} → here ≡ c ∷ x ∷ a → here ≡ d ∷ y ∷ b → (a ≡ b) × (c ≡ d) × (x ≡ y)
seconds e f = (ap rest_of (behind e f), firsts e f, ap first (behind e f))

pub one_octal : {here a b : RemainingCodePoints} {n m : ℕ} → LegacyOctalEscape here a n → LegacyOctalEscape here b m → Same a b n m
one_octal (one_digit e x k) (one_digit f y l) = (behind e f, ap digit_value (firsts e f))
one_octal (one_digit e x k) (two_digits f y z l) = absurd (no_octal k (behind e f) z)
one_octal (one_digit e x k) (two_high_digits f y z) = absurd (no_octal k (behind e f) z)
one_octal (one_digit e x k) (three_digits f y z v) = absurd (no_octal k (behind e f) z)
one_octal (two_digits f y z l) (one_digit e x k) = absurd (no_octal k (behind e f) z)
one_octal (two_high_digits f y z) (one_digit e x k) = absurd (no_octal k (behind e f) z)
one_octal (three_digits f y z v) (one_digit e x k) = absurd (no_octal k (behind e f) z)
one_octal (two_digits e x z k) (two_digits f y v l) = let s = seconds e f in (s.0, rw (s.1, s.2) refl)
one_octal (two_high_digits e x z) (two_high_digits f y v) = let s = seconds e f in (s.0, rw (s.1, s.2) refl)
one_octal (two_digits e x z k) (two_high_digits f y v) = absurd (low_high e f x y)
one_octal (two_high_digits f y v) (two_digits e x z k) = absurd (low_high e f x y)
one_octal (two_digits e x z k) (three_digits f y v u) = absurd (no_octal k (seconds e f).0 u)
one_octal (three_digits f y v u) (two_digits e x z k) = absurd (no_octal k (seconds e f).0 u)
one_octal (two_high_digits f y v) (three_digits e x z k) = absurd (low_high e f x y)
one_octal (three_digits e x z k) (two_high_digits f y v) = absurd (low_high e f x y)
one_octal (three_digits e x z k) (three_digits f y v l) =
    let s = seconds e f in (ap rest_of s.0, rw (s.1, s.2, ap first s.0) refl)

octal_begins : {here there : RemainingCodePoints} {c : ℕ} → LegacyOctalEscape here there c → (d : ℕ) × (rest : RemainingCodePoints) × (here ≡ d ∷ rest) × (is_octal_digit d ≡ true)
octal_begins (one_digit {d = d} e x k) = (d, _, e, x)
octal_begins (two_digits {d = d} e x y k) = (d, _, e, low d x)
  where
    low : (d : ℕ) → is_zero_to_three d ≡ true → is_octal_digit d ≡ true
    low d x = grind arith
octal_begins (two_high_digits {d = d} e x y) = (d, _, e, high d x)
  where
    high : (d : ℕ) → is_four_to_seven d ≡ true → is_octal_digit d ≡ true
    high d x = grind arith
octal_begins (three_digits {d = d} e x y z) = (d, _, e, low d x)
  where
    low : (d : ℕ) → is_zero_to_three d ≡ true → is_octal_digit d ≡ true
    low d x = grind arith

-- If the next character is no digit, it is no octal digit.
no-octal-digit : {there rest : RemainingCodePoints} {d : ℕ} → next_code_point_passes is_ascii_digit there ≡ false → there ≡ d ∷ rest → is_octal_digit d ≡ true → ⊥
no-octal-digit {d = d} k e y = true≢false (sym (decimal d y) ∙ sym (ap (next_code_point_passes is_ascii_digit) e) ∙ k)
  where
    decimal : (d : ℕ) → is_octal_digit d ≡ true → is_ascii_digit d ≡ true
    decimal d y = grind arith

-- A legacy octal escape of `0` before no digit ends behind the `0` and has the value 0.
null_octal : {here a b : RemainingCodePoints} {m : ℕ} → here ≡ 48 ∷ a → next_code_point_passes is_ascii_digit a ≡ false → LegacyOctalEscape here b m → Same a b 0 m
null_octal e k (one_digit f x l) = (behind e f, ap digit_value (firsts e f))
null_octal e k (two_digits f x y l) = absurd (no-octal-digit k (behind e f) y)
null_octal e k (two_high_digits f x y) = absurd (true≢false (sym x ∙ sym (ap is_four_to_seven (firsts e f))))
null_octal e k (three_digits f x y z) = absurd (no-octal-digit k (behind e f) y)

-- ---- Characters

-- An octal digit has the kind 48, `c`, `x` and `u` have their own code, and others have 1.
abbrev pub escape_kind : ℕ → ℕ
escape_kind c = if is_octal_digit c then 48 else if c ∈ "cxu" then c else 1

abbrev is_control : ℕ → Bool
is_control c = nat_eq (escape_kind c) 1

same-eq : (c d : ℕ) → nat_eq c d ≡ true → c ≡ d
same-eq c d e = eqb-true c d e

module _ {g : GrammarParameters} {here : RemainingCodePoints} where
  abbrev pub tag : {there : RemainingCodePoints} {c : ℕ} → NonIdentityEscape g here there c → ℕ
  tag (control_escape e f) = 1
  tag (control_letter e f) = 99
  tag (null e k) = 48
  tag (hex_escape e h) = 120
  tag (unicode_escape e h) = 117
  tag (legacy_octal_escape u o) = 48

  pub tagged : {there : RemainingCodePoints} {c : ℕ} (x : NonIdentityEscape g here there c) → (letter : ℕ) × (rest : RemainingCodePoints) × (here ≡ letter ∷ rest) × (escape_kind letter ≡ tag x)
  tagged (control_escape {letter = l} e f) = (l, _, e, same-eq (escape_kind l) 1 (control_letter_passes is_control l refl (ap is_some f)))
  tagged (control_letter e f) = (_, _, e, refl)
  tagged (null e k) = (_, _, e, refl)
  tagged (hex_escape e h) = (_, _, e, refl)
  tagged (unicode_escape e h) = (_, _, e, refl)
  tagged (legacy_octal_escape u o) = let b = octal_begins o in (b.0, b.1, b.2, ap (λ x. if x then 48 else if b.0 ∈ "cxu" then b.0 else 1) b.3)

  same-tag : {a b : RemainingCodePoints} {n m : ℕ} (x : NonIdentityEscape g here a n) (y : NonIdentityEscape g here b m) → tag x ≡ tag y
  same-tag x y = let (l, r, e, k) = tagged x in let (l', r', e', k') = tagged y in sym k ∙ ap escape_kind (firsts e e') ∙ k'

  -- A non-identity escape of kind 1 begins with the letter of a control escape.
  pub proper-kind : {there : RemainingCodePoints} {c : ℕ} → NonIdentityEscape g here there c → (escape_kind (first here) ≡ 1 → is_control_letter (first here) ≡ true)
  proper-kind (control_escape {letter = l} e f) k = ap (λ x. is_control_letter (first x)) e ∙ ap is_some f
  proper-kind (control_letter e f) k = absurd (unlike 99 1 refl (sym (ap (λ x. escape_kind (first x)) e) ∙ k))
  proper-kind (null e f) k = absurd (unlike 48 1 refl (sym (ap (λ x. escape_kind (first x)) e) ∙ k))
  proper-kind (hex_escape e f) k = absurd (unlike 120 1 refl (sym (ap (λ x. escape_kind (first x)) e) ∙ k))
  proper-kind (unicode_escape e f) k = absurd (unlike 117 1 refl (sym (ap (λ x. escape_kind (first x)) e) ∙ k))
  proper-kind (legacy_octal_escape u o) k =
      let b = octal_begins o in
      absurd (unlike 48 1 refl (sym (ap (λ x. if x then 48 else if b.0 ∈ "cxu" then b.0 else 1) b.3) ∙ sym (ap (λ x. escape_kind (first x)) b.2) ∙ k))

pub one_proper : {g : GrammarParameters} {here a b : RemainingCodePoints} {n m : ℕ} → NonIdentityEscape g here a n → NonIdentityEscape g here b m → Same a b n m
one_proper (control_escape e f) (control_escape e' f') = (behind e e', Some_inj (sym f ∙ ap control_escape_code_point (firsts e e') ∙ f'))
one_proper (control_letter e f) (control_letter e' f') = let s = seconds e e' in (s.0, rw s.2 refl)
one_proper (null e k) (null e' k') = (behind e e', refl)
one_proper (null e k) (legacy_octal_escape u o) = null_octal e k o
one_proper (legacy_octal_escape u o) (null e k) = let s = null_octal e k o in (sym s.0, sym s.1)
one_proper (hex_escape e h) (hex_escape e' h') = one_hex (behind e e') h h'
one_proper (unicode_escape e h) (unicode_escape e' h') = one_unicode (behind e e') h h'
one_proper (legacy_octal_escape u o) (legacy_octal_escape v p) = one_octal o p
one_proper x y = absurd (unlike (tag x) (tag y) refl (same-tag x y))

pub one_character : {g : GrammarParameters} {here a b : RemainingCodePoints} {n m : ℕ} → CharacterEscape g here a n → CharacterEscape g here b m → Same a b n m
one_character (non_identity_escape p) (non_identity_escape q) = one_proper p q
one_character (non_identity_escape p) (identity_escape e f k) = absurd (k (_, _, p))
one_character (identity_escape e f k) (non_identity_escape p) = absurd (k (_, _, p))
one_character (identity_escape e f k) (identity_escape e' f' k') = (behind e e', firsts e e')

-- ---- Properties

-- The characters of names and values of properties are ASCII letters, ASCII digits and `_`.
abbrev pub is_name_character : ℕ → Bool
is_name_character c = is_ascii_alphanumeric c || c ∈ "_"

abbrev pub is_good : RemainingCodePoints → Bool
is_good name = list_all is_name_character name

word-is : (word : String) (name : RemainingCodePoints) → is_word word name ≡ true → codes word ≡ name
word-is word name e = same_text (codes word) name (sym e)

word-good : (word : String) (name : RemainingCodePoints) → is_good (codes word) ≡ true → is_word word name ≡ true → is_good name ≡ true
word-good word name g e = ap is_good (sym (word-is word name e)) ∙ g

named-good : {V : Type 0} (rows : List (String × V)) (name : RemainingCodePoints) → list_all (λ row. is_good (codes row.0)) rows ≡ true → is_some (value_named rows name) ≡ true → is_good name ≡ true
named-good [] name h e = absurd (true≢false (sym e))
named-good {V} (row ∷ rows) name h e = by (is_word row.0 name) refl e (λ f. named-good rows name (and_parts (is_good (codes row.0)) _ h).1 f)
  where
    by : (b : Bool) → is_word row.0 name ≡ b → is_some (if b then Some row.1 else value_named rows name) ≡ true → (is_some (value_named rows name) ≡ true → is_good name ≡ true) → is_good name ≡ true
    by true f e k = word-good row.0 name (and_parts (is_good (codes row.0)) _ h).0 f
    by false f e k = k e

some-map : {A B : Type 0} (f : A → B) (o : Option A) → is_some (option_map f o) ≡ true → is_some o ≡ true
some-map f None e = e
some-map f (Some x) e = refl

some-or : {A : Type 0} (o p : Option A) → is_some (option_or o p) ≡ true → (is_some o ≡ true) ⊎ (is_some p ≡ true)
some-or None p e = inr e
some-or (Some x) p e = inl refl

categories-good : list_all (λ row. is_good (codes row.0)) category_names ≡ true
unfolding category_names
categories-good = refl

scripts-good : list_all (λ row. is_good (codes row.0)) script_names ≡ true
unfolding script_names
scripts-good = refl

binaries-good : list_all (λ row. is_good (codes row.0)) binary_property_names ≡ true
unfolding binary_property_names
binaries-good = refl

if-either : {A Q : Type 0} (b : Bool) (x y : Option A) → (is_some x ≡ true → Q) → (is_some y ≡ true → Q) → is_some (if b then x else y) ≡ true → Q
if-either true x y f g e = f e
if-either false x y f g e = g e

nothing-named : {Q : Type 0} → is_some {A = Property} None ≡ true → Q
nothing-named e = absurd (true≢false (sym e))

category-good : (name : RemainingCodePoints) → is_some (general_category_named name) ≡ true → is_good name ≡ true
category-good name e =
    if-either (is_word "Any" name || is_word "ASCII" name || is_word "Assigned" name) None (option_map in_database (value_named category_names name))
    (λ f. nothing-named f) (λ f. named-good category_names name categories-good (some-map in_database (value_named category_names name) f)) e

-- A name is good if it is accepted as a good word or by a branch that accepts only good names.
if-word : {A : Type 0} (word : String) (name : RemainingCodePoints) (x y : Option A) → is_good (codes word) ≡ true → (is_some y ≡ true → is_good name ≡ true) → is_some (if is_word word name then x else y) ≡ true → is_good name ≡ true
if-word word name x y g k e = by (is_word word name) refl e
  where
    by : (b : Bool) → is_word word name ≡ b → is_some (if b then x else y) ≡ true → is_good name ≡ true
    by true f e = word-good word name g f
    by false f e = k e

if-words : {A : Type 0} (word other : String) (name : RemainingCodePoints) (x y : Option A) → is_good (codes word) ≡ true → is_good (codes other) ≡ true → (is_some y ≡ true → is_good name ≡ true)
    → is_some (if is_word word name || is_word other name then x else y) ≡ true → is_good name ≡ true
if-words word other name x y g h k e = by (is_word word name || is_word other name) refl e
  where
    by : (b : Bool) → (is_word word name || is_word other name) ≡ b → is_some (if b then x else y) ≡ true → is_good name ≡ true
    by true f e = ⊎_elim (λ a. word-good word name g a) (λ a. word-good other name h a) (or_cases (is_word word name) (is_word other name) f)
    by false f e = k e

binary-good : (name : RemainingCodePoints) → is_some (binary_property_named name) ≡ true → is_good name ≡ true
binary-good name e =
    if-word "ASCII" name _ _ refl (λ e.
    if-word "Any" name _ _ refl (λ e.
    if-word "Assigned" name _ _ refl (λ e.
    if-words "Changes_When_NFKC_Casefolded" "CWKCF" name _ _ refl refl (λ e. named-good binary_property_names name binaries-good (some-map (λ p. in_database (set.Binary p)) (value_named binary_property_names name) e)) e) e) e) e

pub lone-good : (name : RemainingCodePoints) {p : Property} → property_named name ≡ Some p → is_good name ≡ true
lone-good name e = ⊎_elim (category-good name) (binary-good name) (some-or (general_category_named name) (binary_property_named name) (ap is_some e))

pub property-good : (property value : RemainingCodePoints) {p : Property} → property_with_value property value ≡ Some p → is_good property ≡ true
property-good property value e =
    if-words "General_Category" "gc" property _ _ refl refl (λ e.
    if-words "Script" "sc" property _ _ refl refl (λ e.
    if-words "Script_Extensions" "scx" property _ _ refl refl (λ e. absurd (true≢false (sym e))) e) e) (ap is_some e)

abbrev script_named : (Script → Set) → RemainingCodePoints → Option Property
script_named f value = option_map (λ s. in_database (f s)) (value_named script_names value)

script-good : (f : Script → Set) (value : RemainingCodePoints) → is_some (script_named f value) ≡ true → is_good value ≡ true
script-good f value e = named-good script_names value scripts-good (some-map (λ s. in_database (f s)) (value_named script_names value) e)

pub value-good : (property value : RemainingCodePoints) {p : Property} → property_with_value property value ≡ Some p → is_good value ≡ true
value-good property value e =
    let extensions = is_word "Script_Extensions" property || is_word "scx" property in
    let scripts = is_word "Script" property || is_word "sc" property in
    if-either (is_word "General_Category" property || is_word "gc" property) (general_category_named value) (if scripts then script_named set.Script value else (if extensions then script_named set.ScriptExtension value else None))
    (category-good value)
    (if-either scripts (script_named set.Script value) (if extensions then script_named set.ScriptExtension value else None)
    (script-good set.Script value)
    (if-either extensions (script_named set.ScriptExtension value) None (script-good set.ScriptExtension value) (λ f. nothing-named f)))
    (ap is_some e)

-- If two good names, each before another sign, begin the same text, they and the rest are equal.
pub name-and-sign : (n m a b : RemainingCodePoints) (c d : ℕ) → is_good n ≡ true → is_good m ≡ true → is_name_character c ≡ false → is_name_character d ≡ false
    → n ++ c ∷ a ≡ m ++ d ∷ b → (n ≡ m) × (c ∷ a ≡ d ∷ b)
name-and-sign [] [] a b c d g h x y e = (refl, e)
name-and-sign [] (z ∷ m) a b c d g h x y e = absurd (apart is_name_character (and_parts (is_name_character z) _ h).0 x (sym (ap first e)))
name-and-sign (z ∷ n) [] a b c d g h x y e = absurd (apart is_name_character (and_parts (is_name_character z) _ g).0 y (ap first e))
name-and-sign (z ∷ n) (v ∷ m) a b c d g h x y e =
    let k = name-and-sign n m a b c d (and_parts (is_name_character z) _ g).1 (and_parts (is_name_character v) _ h).1 x y (ap rest_of e) in
    (ap₂ (λ s t. s ∷ t) (ap first e) k.0, k.1)

pub one_property : {here a b : RemainingCodePoints} {p q : Property} → PropertyExpression here a p → PropertyExpression here b q → Same a b p q
one_property (with_value {there = u} property value e f) (with_value {there = u'} property' value' e' f') =
    let s = name-and-sign property property' (value ++ 125 ∷ u) (value' ++ 125 ∷ u') 61 61 (property-good property value f) (property-good property' value' f') refl refl (behind e e') in
    let t = name-and-sign value value' u u' 125 125 (value-good property value f) (value-good property' value' f') refl refl (ap rest_of s.1) in
    (ap rest_of t.1, Some_inj (sym f ∙ ap₂ property_with_value s.0 t.0 ∙ f'))
one_property (with_value {there = u} property value e f) (alone {there = u'} name e' f') =
    let s = name-and-sign property name (value ++ 125 ∷ u) u' 61 125 (property-good property value f) (lone-good name f') refl refl (behind e e') in
    absurd (unlike 61 125 refl (ap first s.1))
one_property (alone {there = u'} name e f) (with_value {there = u} property value e' f') =
    let s = name-and-sign name property u' (value ++ 125 ∷ u) 125 61 (lone-good name f) (property-good property value f') refl refl (behind e e') in
    absurd (unlike 125 61 refl (ap first s.1))
one_property (alone {there = u} name e f) (alone {there = u'} name' e' f') =
    let s = name-and-sign name name' u u' 125 125 (lone-good name f) (lone-good name' f') refl refl (behind e e') in
    (ap rest_of s.1, Some_inj (sym f ∙ ap property_named s.0 ∙ f'))

-- ---- Names

-- The range contains no surrogate.
abbrev range_apart : Range → Bool
range_apart r = nat_lt r.1 0xD800 || nat_lt 0xDFFF r.0

none-between : (rs : List Range) (c : ℕ) → list_all range_apart rs ≡ true → is_high_surrogate c ≡ true → in_ranges rs c ≡ false
unfolding in_ranges
none-between [] c h e = refl
none-between (r ∷ rs) c h e =
    let p = and_parts (range_apart r) _ h in
    ap₂ (λ x y. x || y) (false_from_ne_true (nat_le r.0 c && nat_le c r.1) (λ f. within f (or_cases (nat_lt r.1 0xD800) _ p.0))) (none-between rs c p.1 e)
  where
    within : (nat_le r.0 c && nat_le c r.1) ≡ true → (nat_lt r.1 0xD800 ≡ true) ⊎ (nat_lt 0xDFFF r.0 ≡ true) → ⊥
    within f k =
        let q = and_parts (nat_le r.0 c) (nat_le c r.1) f in
        let lead = and_parts (nat_le 0xD800 c) (nat_le c 0xDBFF) e in
        let low = leb-true r.0 c q.0 in
        let high = leb-true c r.1 q.1 in
        let from = leb-true 0xD800 c lead.0 in
        let to = leb-true c 0xDBFF lead.1 in
        ⊎_elim (λ x. let y = ltb-true r.1 0xD800 x in omega (arith, y, high, from)) (λ x. let y = ltb-true 0xDFFF r.0 x in omega (arith, y, low, to)) k

-- A test of names accepts no high surrogate and none of the signs `\[](=!>`.
pub record TestsNames (test : ℕ → Bool) : Type 0 where
  pub no_lead : (c : ℕ) → is_high_surrogate c ≡ true → test c ≡ false
  pub no_signs : list_all (λ c. not (test c)) (codes "\\[](=!>") ≡ true

start-no-lead : (c : ℕ) → is_high_surrogate c ≡ true → is_identifier_start c ≡ false
unfolding is_id_start id_start_ranges
start-no-lead c e =
    ap₂ (λ x y. x || y) (none-between id_start_ranges c refl e)
    (false_from_ne_true (c ∈ "_$") (λ f. apart (λ d. not (is_high_surrogate d)) {c = c} (inside (λ d. not (is_high_surrogate d)) (codes "_$") c refl f) (ap not e) refl))

no-lead-eq : (c k : ℕ) → is_high_surrogate c ≡ true → is_high_surrogate k ≡ false → nat_eq c k ≡ false
no-lead-eq c k e g = false_from_ne_true (nat_eq c k) (λ f. apart is_high_surrogate e g (eqb-true c k f))

four-false : (a b c d : Bool) → a ≡ false → b ≡ false → c ≡ false → d ≡ false → (a || b || c || d) ≡ false
four-false a b c d e f g h = rw (e, f, g, h) refl

part-no-lead : (c : ℕ) → is_high_surrogate c ≡ true → is_identifier_part c ≡ false
unfolding is_id_continue id_continue_ranges
part-no-lead c e =
    four-false (is_id_continue c) (c ∈ "$") (nat_eq c 0x200C) (nat_eq c 0x200D) (none-between id_continue_ranges c refl e) (ap (λ x. x || false) (no-lead-eq c 36 e refl)) (no-lead-eq c 0x200C e refl) (no-lead-eq c 0x200D e refl)

pub start-tests : TestsNames is_identifier_start
unfolding is_id_start id_start_ranges in_ranges
start-tests = record { no_lead = start-no-lead; no_signs = refl }

pub part-tests : TestsNames is_identifier_part
unfolding is_id_continue id_continue_ranges in_ranges
part-tests = record { no_lead = part-no-lead; no_signs = refl }

pub no-sign : {test : ℕ → Bool} → TestsNames test → (c : ℕ) → c ∈ "\\[](=!>" ≡ true → test c ≡ false
no-sign {test} t c e = not-true (test c) (inside (λ d. not (test d)) (codes "\\[](=!>") c t.no_signs e)

pub one_name_character : {test : ℕ → Bool} → TestsNames test → {here a b : RemainingCodePoints} {c d : ℕ} → NameCharacter test here a c → NameCharacter test here b d → Same a b c d
one_name_character t (verbatim e f) (verbatim e' f') = (behind e e', firsts e e')
one_name_character {test} t (verbatim e f) (escaped e' u f') = absurd (apart test f (no-sign t 92 refl) (firsts e e'))
one_name_character {test} t (escaped e' u f') (verbatim e f) = absurd (apart test f (no-sign t 92 refl) (firsts e e'))
one_name_character {test} t (verbatim e f) (surrogates e' l r f') = absurd (apart test f (t.no_lead _ l) (firsts e e'))
one_name_character {test} t (surrogates e' l r f') (verbatim e f) = absurd (apart test f (t.no_lead _ l) (firsts e e'))
one_name_character t (escaped e u f) (escaped e' u' f') = one_unicode (ap rest_of (behind e e')) u u'
one_name_character t (escaped e u f) (surrogates e' l r f') = absurd (apart is_high_surrogate l refl (firsts e' e))
one_name_character t (surrogates e' l r f') (escaped e u f) = absurd (apart is_high_surrogate l refl (firsts e' e))
one_name_character t (surrogates e l r f) (surrogates e' l' r' f') = let s = seconds e e' in (s.0, rw (s.1, s.2) refl)

character-from : {test : ℕ → Bool} {here there a : RemainingCodePoints} {c : ℕ} → here ≡ there → NameCharacter test there a c → NameCharacter test here a c
character-from {test} {a = a} {c = c} e n = subst (λ x. NameCharacter test x a c) (sym e) n

-- A character of a name begins with none of the signs `[](=!>`.
pub name-sign : {test : ℕ → Bool} → TestsNames test → {here a rest : RemainingCodePoints} {c : ℕ} (d : ℕ) → d ∈ "[](=!>" ≡ true → NameCharacter test here a c → here ≡ d ∷ rest → ⊥
name-sign {test} t d e (verbatim f g) h = apart test g (no-sign t d (or_right (nat_eq d 92) _ e)) (firsts f h)
name-sign t d e (escaped f u g) h = apart (λ x. x ∈ "[](=!>") e refl (firsts h f)
name-sign t d e (surrogates f l r g) h = apart (λ x. not (is_high_surrogate x)) (inside (λ x. not (is_high_surrogate x)) (codes "[](=!>") d refl e) (ap not l) (firsts h f)

rest-from : {here there a n : RemainingCodePoints} → here ≡ there → NameRest there a n → NameRest here a n
rest-from {a = a} {n = n} e r = subst (λ x. NameRest x a n) (sym e) r

pub one_rest : {here a b n m : RemainingCodePoints} → NameRest here a n → NameRest here b m → Same a b n m
one_rest (name_end e) (name_end f) = (behind e f, refl)
one_rest (name_end e) (name_part c r) = absurd (name-sign part-tests 62 refl c e)
one_rest (name_part c r) (name_end e) = absurd (name-sign part-tests 62 refl c e)
one_rest (name_part c r) (name_part d s) =
    let h = one_name_character part-tests c d in
    let k = one_rest r (rest-from h.0 s) in (k.0, ap₂ (λ x y. x ∷ y) h.1 k.1)

pub one_name : (here a b n m : RemainingCodePoints) → GroupName here a n → GroupName here b m → Same a b n m
one_name here a b n m (group_name c r) (group_name d s) =
    let h = one_name_character start-tests c d in
    let k = one_rest r (rest-from h.0 s) in (k.0, ap encode_utf8_all (ap₂ (λ x y. x ∷ y) h.1 k.1))

-- No group name begins with `=` or `!`, the signs of a lookbehind.
pub name-no-sign : (c : ℕ) (there name rest : RemainingCodePoints) → c ∈ "=!" ≡ true → GroupName (c ∷ rest) there name → ⊥
name-no-sign c there name rest e (group_name d r) = name-sign start-tests c (inside (λ x. x ∈ "[](=!>") (codes "=!") c refl e) d refl
