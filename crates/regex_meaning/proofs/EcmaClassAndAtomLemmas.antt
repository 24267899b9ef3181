-- Each class and each atom without groups of the ECMAScript grammar has at most one reading.
use Rattle.std.proofs.Common.{◌≡◌, ◌≢◌, ℕ, Bool, true, false, not, ◌&&◌, List, [], ◌∷◌, ◌++◌, true≢false, ⊎_elim, nat_eq, refl, sym, ap, ap₂, subst, ◌∙◌, arith}
use Rattle.std.specs.Prelude.{codes, Some, if◌then◌else◌}
use Rattle.std.specs.List.{list_all}
use Rattle.std.specs.Char.{is_digit}
use Rattle.std.proofs.lemmas.Bool.{or_cases, and_parts, eqb-true}
use Rattle.regex_meaning.specs.NumberListHelpers.{contains}
use Rattle.regex_meaning.specs.Tree.{Node, Flags, BracketContents, Intervals, char, bracket}
use Rattle.regex_meaning.specs.Canonical.{AreCaseVariants}
use Rattle.regex_meaning.proofs.BoolLemmas.{same-truth}
use Rattle.regex_meaning.proofs.CaseVariantListLemmas.{one-case-variants}
use Rattle.regex_meaning.specs.ReadingStatesAndDigits.{RemainingCodePoints, PatternContext, ◌∈◌, begins_with_characters, group_number_of}
use Rattle.regex_meaning.specs.CharacterClasses.{IsRangeDash}
use Rattle.regex_meaning.specs.UnicodeProperties.{Property, has_property}
use Rattle.regex_meaning.specs.EcmaEscapesAndNames.{GrammarParameters, is_identity_escape, CharacterEscape, non_identity_escape, identity_escape, PropertyExpression, GroupName}
use Rattle.regex_meaning.specs.EcmaClasses.{ClassMember, character, range, class, InvertibleSet, is_in_invertible_set, class_escape_set, CharacterClassEscape, by_letter, by_property, IsSetOf}
use Rattle.regex_meaning.specs.EcmaClasses.{SimpleClassEscape, backspace, dash, class_control_letter, ClassEscape, simple_escape, class_escape}
use Rattle.regex_meaning.specs.EcmaClasses.{character_escape as escaped_character, ClassAtom, verbatim, escaped, backslash as backslash_in_class, are_characters, ClassMembers, alone, from_to}
use Rattle.regex_meaning.specs.EcmaClasses.{no_range, ClassRanges, no_more, more, CharacterClass, plain, inverted}
use Rattle.regex_meaning.specs.EcmaGrammarWithAnnexB.{reference_node, has_named_groups, grammar_parameters_of, node_of_case_variants, GroupNumber, group_number, AtomEscape, decimal_escape}
use Rattle.regex_meaning.specs.EcmaGrammarWithAnnexB.{character_class_escape, property_escape, character_escape, named_reference, ecmascript}
use Rattle.regex_meaning.specs.EcmaGrammarWithAnnexB.{SimpleAtom, pattern_character, extended_pattern_character, any_character, atom_escape, backslash, character_class}
use Rattle.regex_meaning.proofs.DisjunctionReadingLemmas.{first, rest_of, unlike, leaf_begins, IsReadInOneWay}
use Rattle.regex_meaning.proofs.EscapesAndNamesLemmas.{Same, behind, apart, firsts, inside, outside, digits_on, is_some, Some_inj, is_control_letter}
use Rattle.regex_meaning.proofs.ClassAndAtomLemmas.{range_from, no_hat}
use Rattle.regex_meaning.proofs.FirstDigitOfNumber.{digit_begins}
use Rattle.regex_meaning.proofs.CanonicalIntervalsLemmas.{one_set}
use Rattle.regex_meaning.proofs.EcmaEscapesAndNamesLemmas.{one_character, proper-kind, one_property, one_name, name-no-sign, seconds, escape_kind}

-- ---- Class escapes

class_letters : (flags : Flags) (c : ℕ) → is_some (class_escape_set flags c) ≡ true → c ∈ "dDwWsS" ≡ true
class_letters flags c e = grind arith

pub class_letter : (test : ℕ → Bool) (flags : Flags) (c : ℕ) {s : InvertibleSet} → list_all test (codes "dDwWsS") ≡ true → class_escape_set flags c ≡ Some s → test c ≡ true
class_letter test flags c e f = inside test (codes "dDwWsS") c e (class_letters flags c (ap is_some f))

abbrev pub property_letter : Bool → ℕ
property_letter true = 80
property_letter false = 112

-- A property escape begins with its letter.
pub property-here : (invert : Bool) {here a : RemainingCodePoints} → here ≡ codes (if invert then "P" else "p") ++ a → here ≡ property_letter invert ∷ a
property-here true e = e
property-here false e = e

same-letter : (i j : Bool) → property_letter i ≡ property_letter j → i ≡ j
same-letter true true e = refl
same-letter false false e = refl
same-letter true false e = absurd (unlike 80 112 refl e)
same-letter false true e = absurd (unlike 112 80 refl e)

property-test : (test : ℕ → Bool) (invert : Bool) → list_all test (80 ∷ 112 ∷ []) ≡ true → test (property_letter invert) ≡ true
property-test test true e = (and_parts (test 80) _ e).0
property-test test false e = (and_parts (test 112) _ (and_parts (test 80) _ e).1).0

pub property-from : {here there a : RemainingCodePoints} {p : Property} → here ≡ there → PropertyExpression there a p → PropertyExpression here a p
property-from {a = a} {p = p} e d = subst (λ x. PropertyExpression x a p) (sym e) d

pub one_class_escape : {flags : Flags} {here a b : RemainingCodePoints} {s t : ℕ → Bool} → CharacterClassEscape flags here a s → CharacterClassEscape flags here b t → Same a b s t
one_class_escape {flags} (by_letter e f) (by_letter e' f') = (behind e e', ap is_in_invertible_set (Some_inj (sym f ∙ ap (class_escape_set flags) (firsts e e') ∙ f')))
one_class_escape {flags} (by_letter {letter = l} e f) (by_property i u e' p) =
    absurd (apart (λ c. not (c ∈ "Pp")) (class_letter (λ c. not (c ∈ "Pp")) flags l refl f) (ap not (property-test (λ c. c ∈ "Pp") i refl)) (firsts e (property-here i e')))
one_class_escape {flags} (by_property i u e' p) (by_letter {letter = l} e f) =
    absurd (apart (λ c. not (c ∈ "Pp")) (class_letter (λ c. not (c ∈ "Pp")) flags l refl f) (ap not (property-test (λ c. c ∈ "Pp") i refl)) (firsts e (property-here i e')))
one_class_escape (by_property i u e p) (by_property j v e' q) =
    let x = property-here i e in
    let y = property-here j e' in
    let s = one_property p (property-from (behind x y) q) in
    (s.0, ap₂ (λ z k. is_in_invertible_set (has_property z, k)) s.1 (same-letter i j (firsts x y)))

-- A class escape begins with one of the letters `dDwWsSpP`.
pub no-class : {flags : Flags} {here there rest : RemainingCodePoints} {s : ℕ → Bool} (c : ℕ) → c ∈ "dDwWsSpP" ≡ false → here ≡ c ∷ rest → CharacterClassEscape flags here there s → ⊥
no-class {flags} c f e (by_letter {letter = l} e' g) = apart (λ d. d ∈ "dDwWsSpP") (class_letter (λ d. d ∈ "dDwWsSpP") flags l refl g) f (firsts e' e)
no-class c f e (by_property i u e' p) = apart (λ d. d ∈ "dDwWsSpP") (property-test (λ d. d ∈ "dDwWsSpP") i refl) f (firsts (property-here i e') e)

-- ---- Escapes in classes

one_simple : {flags : Flags} {here a b : RemainingCodePoints} {c d : ℕ} → SimpleClassEscape flags here a c → SimpleClassEscape flags here b d → Same a b c d
one_simple (backspace e) (backspace f) = (behind e f, refl)
one_simple (dash u e) (dash v f) = (behind e f, refl)
one_simple (class_control_letter u e k) (class_control_letter v f l) = let s = seconds e f in (s.0, rw s.2 refl)
one_simple (backspace e) (dash v f) = absurd (unlike _ _ refl (firsts e f))
one_simple (dash v f) (backspace e) = absurd (unlike _ _ refl (firsts e f))
one_simple (backspace e) (class_control_letter v f l) = absurd (unlike _ _ refl (firsts e f))
one_simple (class_control_letter v f l) (backspace e) = absurd (unlike _ _ refl (firsts e f))
one_simple (dash u e) (class_control_letter v f l) = absurd (unlike _ _ refl (firsts e f))
one_simple (class_control_letter v f l) (dash u e) = absurd (unlike _ _ refl (firsts e f))

pub simple-or-class : {flags : Flags} {here a b : RemainingCodePoints} {c : ℕ} {s : ℕ → Bool} → SimpleClassEscape flags here a c → CharacterClassEscape flags here b s → ⊥
simple-or-class (backspace e) d = no-class 98 refl e d
simple-or-class (dash u e) d = no-class 45 refl e d
simple-or-class (class_control_letter u e k) d = no-class 99 refl e d

one_escape : {flags : Flags} {named : Bool} {here a b : RemainingCodePoints} {m n : ClassMember} → ClassEscape flags named here a m → ClassEscape flags named here b n → Same a b m n
one_escape (simple_escape s) (simple_escape t) = let h = one_simple s t in (h.0, ap character h.1)
one_escape (class_escape s) (class_escape t) = let h = one_class_escape s t in (h.0, ap class h.1)
one_escape (escaped_character s k l) (escaped_character t k' l') = let h = one_character s t in (h.0, ap character h.1)
one_escape (simple_escape s) (class_escape t) = absurd (simple-or-class s t)
one_escape (class_escape t) (simple_escape s) = absurd (simple-or-class s t)
one_escape (simple_escape s) (escaped_character t k l) = absurd (k (_, _, s))
one_escape (escaped_character t k l) (simple_escape s) = absurd (k (_, _, s))
one_escape (class_escape s) (escaped_character t k l) = absurd (l (_, _, s))
one_escape (escaped_character t k l) (class_escape s) = absurd (l (_, _, s))

escape-from : {flags : Flags} {named : Bool} {here there a : RemainingCodePoints} {m : ClassMember} → here ≡ there → ClassEscape flags named there a m → ClassEscape flags named here a m
escape-from {flags} {named} {a = a} {m = m} e d = subst (λ x. ClassEscape flags named x a m) (sym e) d

-- ---- Members

pub one_class_atom : {flags : Flags} {named : Bool} {here a b : RemainingCodePoints} {m n : ClassMember} → ClassAtom flags named here a m → ClassAtom flags named here b n → Same a b m n
one_class_atom (verbatim e f) (verbatim e' f') = (behind e e', ap character (firsts e e'))
one_class_atom (escaped e d) (escaped e' d') = one_escape d (escape-from (behind e e') d')
one_class_atom (backslash_in_class u e f k) (backslash_in_class u' e' f' k') = (behind e e', refl)
one_class_atom (verbatim e f) (escaped e' d') = absurd (apart (λ c. c ∈ "\\]") refl f (firsts e' e))
one_class_atom (escaped e' d') (verbatim e f) = absurd (apart (λ c. c ∈ "\\]") refl f (firsts e' e))
one_class_atom (verbatim e f) (backslash_in_class u e' g k) = absurd (apart (λ c. c ∈ "\\]") refl f (firsts e' e))
one_class_atom (backslash_in_class u e' g k) (verbatim e f) = absurd (apart (λ c. c ∈ "\\]") refl f (firsts e' e))
one_class_atom (escaped e d) (backslash_in_class u e' g k) = absurd (k (_, _, escape-from (behind e' e) d))
one_class_atom (backslash_in_class u e' g k) (escaped e d) = absurd (k (_, _, escape-from (behind e' e) d))

pub atom_starts : {flags : Flags} {named : Bool} {here there : RemainingCodePoints} {m : ClassMember} → ClassAtom flags named here there m → (c : ℕ) × (rest : RemainingCodePoints) × (here ≡ c ∷ rest) × (c ≢ 93)
atom_starts (verbatim {c = c} {there = there} e f) = (c, there, e, (λ g. apart (λ d. d ∈ "\\]") refl f (sym g)))
atom_starts (escaped {a = a} e d) = (92, a, e, unlike 92 93 refl)
atom_starts (backslash_in_class {a = a} u e f k) = (92, a, e, unlike 92 93 refl)

pub is_range : {flags : Flags} {named : Bool} {here b there : RemainingCodePoints} {m : ClassMember} → here ≡ 45 ∷ b → ClassAtom flags named b there m → IsRangeDash here
is_range e d = let h = atom_starts d in (h.0, h.1, e ∙ ap (λ x. 45 ∷ x) h.2, h.3)

pub atom_from : {flags : Flags} {named : Bool} {here there a : RemainingCodePoints} {m : ClassMember} → here ≡ there → ClassAtom flags named there a m → ClassAtom flags named here a m
atom_from {flags} {named} {a = a} {m = m} e d = subst (λ x. ClassAtom flags named x a m) (sym e) d

pub character_inj : {c d : ℕ} → character c ≡ character d → c ≡ d
character_inj {c} {d} e = ap (λ m. elim m [ character x ↦ x | range x y ↦ c | class x ↦ c ]) e

pub one_member : {flags : Flags} {named : Bool} {here a b : RemainingCodePoints} {ms ns : List ClassMember} → ClassMembers flags named here a ms → ClassMembers flags named here b ns → Same a b ms ns
one_member (alone a k) (alone b l) = let h = one_class_atom a b in (h.0, ap (λ x. x ∷ []) h.1)
one_member (alone a k) (from_to b e d le) = let h = one_class_atom a b in absurd (k (range_from h.0 (is_range e d)))
one_member (alone a k) (no_range u b e d f) = let h = one_class_atom a b in absurd (k (range_from h.0 (is_range e d)))
one_member (from_to b e d le) (alone a k) = let h = one_class_atom a b in absurd (k (range_from h.0 (is_range e d)))
one_member (no_range u b e d f) (alone a k) = let h = one_class_atom a b in absurd (k (range_from h.0 (is_range e d)))
one_member (from_to a e d le) (from_to a' e' d' le') =
    let h = one_class_atom a a' in
    let k = one_class_atom d (atom_from (behind e (h.0 ∙ e')) d') in
    (k.0, ap₂ (λ x y. range x y ∷ []) (character_inj h.1) (character_inj k.1))
one_member (no_range u a e d f) (no_range u' a' e' d' f') =
    let h = one_class_atom a a' in
    let k = one_class_atom d (atom_from (behind e (h.0 ∙ e')) d') in
    (k.0, ap₂ (λ x y. x ∷ character 45 ∷ y ∷ []) h.1 k.1)
one_member (from_to a e d le) (no_range u a' e' d' f') =
    let h = one_class_atom a a' in
    let k = one_class_atom d (atom_from (behind e (h.0 ∙ e')) d') in
    absurd (true≢false (ap₂ are_characters h.1 k.1 ∙ f'))
one_member (no_range u a' e' d' f') (from_to a e d le) =
    let h = one_class_atom a a' in
    let k = one_class_atom d (atom_from (behind e (h.0 ∙ e')) d') in
    absurd (true≢false (ap₂ are_characters h.1 k.1 ∙ f'))

pub member_starts : {flags : Flags} {named : Bool} {here there rest : RemainingCodePoints} {ms : List ClassMember} → ClassMembers flags named here there ms → here ≡ 93 ∷ rest → ⊥
member_starts (alone a k) e = let h = atom_starts a in h.3 (firsts h.2 e)
member_starts (from_to a f d le) e = let h = atom_starts a in h.3 (firsts h.2 e)
member_starts (no_range u a f d g) e = let h = atom_starts a in h.3 (firsts h.2 e)

ranges_from : {flags : Flags} {named : Bool} {here there a : RemainingCodePoints} {ms : List ClassMember} → here ≡ there → ClassRanges flags named there a ms → ClassRanges flags named here a ms
ranges_from {flags} {named} {a = a} {ms = ms} e d = subst (λ x. ClassRanges flags named x a ms) (sym e) d

one_ranges : {flags : Flags} {named : Bool} {here a b : RemainingCodePoints} {ms ns : List ClassMember} → ClassRanges flags named here a ms → ClassRanges flags named here b ns → Same a b ms ns
one_ranges (no_more e) (no_more f) = (behind e f, refl)
one_ranges (no_more e) (more m r) = absurd (member_starts m e)
one_ranges (more m r) (no_more e) = absurd (member_starts m e)
one_ranges (more m r) (more m' r') =
    let h = one_member m m' in
    let k = one_ranges r (ranges_from h.0 r') in (k.0, ap₂ (λ x y. x ++ y) h.1 k.1)

same_set : {flags : Flags} {ms ns : List ClassMember} {s t : Intervals} → ms ≡ ns → IsSetOf flags ms s → IsSetOf flags ns t → s ≡ t
same_set {flags} {ms} {ns} {s} {t} e a b =
    let c : IsSetOf flags ms t = subst (λ x. IsSetOf flags x t) (sym e) b in
    one_set s t a.apart c.apart (λ d. same-truth _ _ (λ h. (c.same d).1 ((a.same d).0 h)) (λ h. (a.same d).1 ((c.same d).0 h)))

one_class : {flags : Flags} {named : Bool} {here a b : RemainingCodePoints} {x y : BracketContents} → CharacterClass flags named here a x → CharacterClass flags named here b y → Same a b x y
one_class (plain n r s) (plain n' r' s') = let h = one_ranges r r' in (h.0, ap (λ t. record { invert = false; intervals = t }) (same_set h.1 s s'))
one_class (inverted e r s) (inverted e' r' s') =
    let h = one_ranges r (ranges_from (behind e e') r') in (h.0, ap (λ t. record { invert = true; intervals = t }) (same_set h.1 s s'))
one_class (plain n r s) (inverted e r' s') = absurd (no_hat n e)
one_class (inverted e r' s') (plain n r s) = absurd (no_hat n e)

class_from : {flags : Flags} {named : Bool} {here there a : RemainingCodePoints} {x : BracketContents} → here ≡ there → CharacterClass flags named there a x → CharacterClass flags named here a x
class_from {flags} {named} {a = a} {x = x} e d = subst (λ y. CharacterClass flags named y a x) (sym e) d

-- ---- Escapes outside classes

character-from : {g : GrammarParameters} {here there a : RemainingCodePoints} {c : ℕ} → here ≡ there → CharacterEscape g there a c → CharacterEscape g here a c
character-from {g} {a = a} {c = c} e d = subst (λ x. CharacterEscape g x a c) (sym e) d

-- This number tells which kind of escape a character behind a backslash begins.
abbrev pub kind : ℕ → ℕ
kind c = if is_digit c 10 then 48 else if c ∈ "dDwWsS" then 1 else if c ∈ "pP" then 112 else c

-- In a pattern with named groups, `\k` is no character escape.
pub no-k : (w : PatternContext) {here there rest : RemainingCodePoints} {c : ℕ} → has_named_groups w ≡ true → here ≡ 107 ∷ rest → CharacterEscape (grammar_parameters_of w) here there c → ⊥
no-k w named e (non_identity_escape p) = true≢false (sym (proper-kind p (ap (λ x. escape_kind (first x)) e)) ∙ ap (λ x. is_control_letter (first x)) e)
no-k w named e (identity_escape {c = c} f i k) = true≢false (sym (ap (is_identity_escape (grammar_parameters_of w)) (firsts e f) ∙ i) ∙ by w.flags.unicode (has_named_groups w) named)
  where
    by : (u n : Bool) → n ≡ true → (if u then false else not (n && true)) ≡ false
    by true n h = refl
    by false n h = ap (λ x. not (x && true)) h

module _ {w : PatternContext} {here : RemainingCodePoints} where
  -- Each kind of atom escape has a number, and a character escape has 0.
  abbrev tag : {there : RemainingCodePoints} {n : Node} → AtomEscape w here there n → ℕ
  tag (decimal_escape g) = 48
  tag (character_class_escape e f s) = 1
  tag (property_escape i u e p s) = 112
  tag (character_escape d k l s) = 0
  tag (named_reference h e d f) = 107

pub number-kind : {w : PatternContext} {here there : RemainingCodePoints} {n : ℕ} → GroupNumber w here there n → kind (first here) ≡ 48
number-kind {here = here} (group_number f d l) = ap (λ x. if x then 48 else if first here ∈ "dDwWsS" then 1 else if first here ∈ "pP" then 112 else first here) (digit_begins d)

pub letter-kind : (flags : Flags) (c : ℕ) {s : InvertibleSet} → class_escape_set flags c ≡ Some s → kind c ≡ 1
letter-kind flags c f = eqb (kind c) (class_letter (λ d. nat_eq (kind d) 1) flags c refl f)
  where
    eqb : (n : ℕ) → nat_eq n 1 ≡ true → n ≡ 1
    eqb n e = eqb-true n 1 e

pub property-kind : (i : Bool) → kind (property_letter i) ≡ 112
property-kind true = refl
property-kind false = refl

set-from : {flags : Flags} {m n : ClassMember} {s t : Intervals} → m ≡ n → IsSetOf flags (m ∷ []) s → IsSetOf flags (n ∷ []) t → s ≡ t
set-from e s t = same_set (ap (λ x. x ∷ []) e) s t

names_on : {here there a n : RemainingCodePoints} → here ≡ there → GroupName there a n → GroupName here a n
names_on {a = a} {n = n} e d = subst (λ x. GroupName x a n) (sym e) d

number-from : {w : PatternContext} {here a b : RemainingCodePoints} {n m : ℕ} → GroupNumber w here a n → GroupNumber w here b m → Same a b n m
number-from (group_number f d l) (group_number f' d' l') = digits_on refl d d'

pub apart-kinds : (here : RemainingCodePoints) {n m : ℕ} → kind (first here) ≡ n → kind (first here) ≡ m → nat_eq n m ≡ false → ⊥
apart-kinds here {n} {m} e f g = unlike n m g (sym e ∙ f)

one_atom_escape : (w : PatternContext) (here a b : RemainingCodePoints) (n m : Node) → AtomEscape w here a n → AtomEscape w here b m → Same a b n m
one_atom_escape w here a b n m (decimal_escape g) (decimal_escape h) = let x = number-from g h in (x.0, ap (reference_node w) x.1)
one_atom_escape w here a b n m (decimal_escape g) (character_class_escape {letter = l} e f s) = absurd (apart-kinds here (number-kind g) (ap (λ x. kind (first x)) e ∙ letter-kind w.flags l f) refl)
one_atom_escape w here a b n m (decimal_escape g) (property_escape i u e p s) = absurd (apart-kinds here (number-kind g) (ap (λ x. kind (first x)) (property-here i e) ∙ property-kind i) refl)
one_atom_escape w here a b n m (decimal_escape g) (character_escape d k l s) = absurd (k (_, _, g))
one_atom_escape w here a b n m (decimal_escape g) (named_reference h e d f) = absurd (apart-kinds here (number-kind g) (ap (λ x. kind (first x)) e) refl)
one_atom_escape w here a b n m (character_class_escape {letter = l} e f s) (decimal_escape g) = absurd (apart-kinds here (number-kind g) (ap (λ x. kind (first x)) e ∙ letter-kind w.flags l f) refl)
one_atom_escape w here a b n m (character_class_escape e f s) (character_class_escape e' f' s') =
    let c = Some_inj (sym f ∙ ap (class_escape_set w.flags) (firsts e e') ∙ f') in
    (behind e e', ap₂ (λ i t. bracket (record { invert = i; intervals = t })) (ap (λ x. x.1) c) (set-from (ap (λ x. class x.0) c) s s'))
one_atom_escape w here a b n m (character_class_escape {letter = l} e f s) (property_escape i u e' p s') = absurd (apart-kinds here (ap (λ x. kind (first x)) e ∙ letter-kind w.flags l f) (ap (λ x. kind (first x)) (property-here i e') ∙ property-kind i) refl)
one_atom_escape w here a b n m (character_class_escape e f s) (character_escape d k l s') = absurd (l (_, _, by_letter e f))
one_atom_escape w here a b n m (character_class_escape {letter = l} e f s) (named_reference h e' d f') = absurd (apart-kinds here (ap (λ x. kind (first x)) e ∙ letter-kind w.flags l f) (ap (λ x. kind (first x)) e') refl)
one_atom_escape w here a b n m (property_escape i u e p s) (decimal_escape g) = absurd (apart-kinds here (number-kind g) (ap (λ x. kind (first x)) (property-here i e) ∙ property-kind i) refl)
one_atom_escape w here a b n m (property_escape i u e' p s') (character_class_escape {letter = l} e f s) = absurd (apart-kinds here (ap (λ x. kind (first x)) e ∙ letter-kind w.flags l f) (ap (λ x. kind (first x)) (property-here i e') ∙ property-kind i) refl)
one_atom_escape w here a b n m (property_escape i u e p s) (property_escape j v e' q t) =
    let x = property-here i e in
    let y = property-here j e' in
    let h = one_property p (property-from (behind x y) q) in
    (h.0, ap (λ z. bracket (record { invert = false; intervals = z })) (set-from (ap₂ (λ z k. class (is_in_invertible_set (has_property z, k))) h.1 (same-letter i j (firsts x y))) s t))
one_atom_escape w here a b n m (property_escape i u e p s) (character_escape d k l s') = absurd (l (_, _, by_property i u e p))
one_atom_escape w here a b n m (property_escape i u e p s) (named_reference h e' d f') = absurd (apart-kinds here (ap (λ x. kind (first x)) (property-here i e) ∙ property-kind i) (ap (λ x. kind (first x)) e') refl)
one_atom_escape w here a b n m (character_escape d k l s) (decimal_escape g) = absurd (k (_, _, g))
one_atom_escape w here a b n m (character_escape d k l s) (character_class_escape e f s') = absurd (l (_, _, by_letter e f))
one_atom_escape w here a b n m (character_escape d k l s) (property_escape i u e p s') = absurd (l (_, _, by_property i u e p))
one_atom_escape w here a b n m (character_escape {c = c} d k l s) (character_escape {members = members} d' k' l' s') =
    let h = one_character d d' in
    (h.0, ap₂ node_of_case_variants h.1 (one-case-variants s (subst (λ x. AreCaseVariants w.flags.icase w.flags.unicode x members) (sym h.1) s')))
one_atom_escape w here a b n m (character_escape d k l s) (named_reference h e d' f) = absurd (no-k w h e d)
one_atom_escape w here a b n m (named_reference h e d f) (decimal_escape g) = absurd (apart-kinds here (number-kind g) (ap (λ x. kind (first x)) e) refl)
one_atom_escape w here a b n m (named_reference h e' d f') (character_class_escape {letter = l} e f s) = absurd (apart-kinds here (ap (λ x. kind (first x)) e ∙ letter-kind w.flags l f) (ap (λ x. kind (first x)) e') refl)
one_atom_escape w here a b n m (named_reference h e' d f') (property_escape i u e p s) = absurd (apart-kinds here (ap (λ x. kind (first x)) (property-here i e) ∙ property-kind i) (ap (λ x. kind (first x)) e') refl)
one_atom_escape w here a b n m (named_reference h e d' f) (character_escape d k l s) = absurd (no-k w h e d)
one_atom_escape w here a b n m (named_reference h e d f) (named_reference h' e' d' f') =
    let x = one_name _ _ _ _ _ d (names_on (ap rest_of (behind e e')) d') in
    (x.0, ap (reference_node w) (Some_inj (sym f ∙ ap (λ y. group_number_of y w.groups) x.1 ∙ f')))

pub c-first : (here : RemainingCodePoints) → begins_with_characters "c" here ≡ true → first here ≡ 99
c-first [] e = absurd (true≢false (sym e))
c-first (c ∷ cs) e = by (nat_eq 99 c) refl
  where
    by : (b : Bool) → nat_eq 99 c ≡ b → c ≡ 99
    by true f = sym (eqb-true 99 c f)
    by false f = absurd (true≢false (sym e ∙ rw f refl))

-- If `\c` begins no CharacterEscape, it begins no AtomEscape.
pub no-escape : (w : PatternContext) {here there : RemainingCodePoints} {n : Node} → begins_with_characters "c" here ≡ true → ((a : RemainingCodePoints) (c : ℕ) → CharacterEscape (grammar_parameters_of w) here a c → ⊥) → AtomEscape w here there n → ⊥
no-escape w {here} is none (decimal_escape g) = apart-kinds here (number-kind g) (ap kind (c-first here is)) refl
no-escape w {here} is none (character_class_escape {letter = l} e f s) = apart-kinds here (ap (λ x. kind (first x)) e ∙ letter-kind w.flags l f) (ap kind (c-first here is)) refl
no-escape w {here} is none (property_escape i u e p s) = apart-kinds here (ap (λ x. kind (first x)) (property-here i e) ∙ property-kind i) (ap kind (c-first here is)) refl
no-escape w is none (character_escape d k l s) = none _ _ d
no-escape w {here} is none (named_reference h e d f) = apart-kinds here (ap (λ x. kind (first x)) e) (ap kind (c-first here is)) refl

-- ---- Atoms without groups

abbrev special : RemainingCodePoints
special = codes "^$\\.*+?()[]{}|"

-- This number tells which kind of atom a first character begins.
abbrev pub atom_kind : ℕ → ℕ
atom_kind c = if contains special c then (if c ∈ "{}]" then 1 else c) else 0

abbrev pub is_extended : ℕ → Bool
is_extended c = nat_eq (atom_kind c) 1

module _ {w : PatternContext} {here : RemainingCodePoints} where
  abbrev pub atom_tag : {there : RemainingCodePoints} {n : Node} → SimpleAtom w here there n → ℕ
  atom_tag (pattern_character e f s) = 0
  atom_tag (extended_pattern_character e f k l) = 1
  atom_tag (any_character e) = 46
  atom_tag (atom_escape e f g d) = 92
  atom_tag (backslash u e f k) = 92
  atom_tag (character_class e d) = 91

  pub atom-tagged : {there : RemainingCodePoints} {n : Node} (x : SimpleAtom w here there n) → (c : ℕ) × (rest : RemainingCodePoints) × (here ≡ c ∷ rest) × (atom_kind c ≡ atom_tag x)
  atom-tagged (pattern_character {c = c} e f s) = (c, _, e, ap (λ x. if x then (if c ∈ "{}]" then 1 else c) else 0) f)
  atom-tagged (extended_pattern_character {c = c} e f k l) = (c, _, e, eqb-true (atom_kind c) 1 (inside is_extended (codes "{}]") c refl f))
  atom-tagged (any_character e) = (_, _, e, refl)
  atom-tagged (atom_escape e f g d) = (_, _, e, refl)
  atom-tagged (backslash u e f k) = (_, _, e, refl)
  atom-tagged (character_class e d) = (_, _, e, refl)

  same-atom-tag : {a b : RemainingCodePoints} {n m : Node} (x : SimpleAtom w here a n) (y : SimpleAtom w here b m) → atom_tag x ≡ atom_tag y
  same-atom-tag x y = let (c, r, e, k) = atom-tagged x in let (d, r', e', k') = atom-tagged y in sym k ∙ ap atom_kind (firsts e e') ∙ k'

escape-at : {w : PatternContext} {here there a : RemainingCodePoints} {n : Node} → here ≡ there → AtomEscape w there a n → AtomEscape w here a n
escape-at {w} {a = a} {n = n} e d = subst (λ x. AtomEscape w x a n) (sym e) d

one_leaf : (w : PatternContext) (here a b : RemainingCodePoints) (n m : Node) → SimpleAtom w here a n → SimpleAtom w here b m → Same a b n m
one_leaf w here a b n m (pattern_character e f s) (pattern_character {members = members} e' f' s') =
    let c = firsts e e' in
    (behind e e', ap₂ node_of_case_variants c (one-case-variants s (subst (λ x. AreCaseVariants w.flags.icase w.flags.unicode x members) (sym c) s')))
one_leaf w here a b n m (extended_pattern_character e f k l) (extended_pattern_character e' f' k' l') = (behind e e', ap char (firsts e e'))
one_leaf w here a b n m (any_character e) (any_character e') = (behind e e', refl)
one_leaf w here a b n m (atom_escape e f g d) (atom_escape e' f' g' d') = one_atom_escape w _ _ _ _ _ d (escape-at (behind e e') d')
one_leaf w here a b n m (atom_escape e f g d) (backslash u e' f' k) = absurd (no-escape w f' (λ x c y. k (x, c, y)) (escape-at (behind e' e) d))
one_leaf w here a b n m (backslash u e' f' k) (atom_escape e f g d) = absurd (no-escape w f' (λ x c y. k (x, c, y)) (escape-at (behind e' e) d))
one_leaf w here a b n m (backslash u e f k) (backslash u' e' f' k') = (behind e e', refl)
one_leaf w here a b n m (character_class e d) (character_class e' d') = let x = one_class d (class_from (behind e e') d') in (x.0, ap bracket x.1)
one_leaf w here a b n m x y = absurd (unlike (atom_tag x) (atom_tag y) refl (same-atom-tag x y))

leaf_apart : (w : PatternContext) (here there : RemainingCodePoints) (n : Node) → SimpleAtom w here there n → leaf_begins here ≡ true
leaf_apart w here there n (pattern_character {c = c} e f s) = ap leaf_begins e ∙ ap not (outside (codes "^$*+?()|") special c refl f)
leaf_apart w here there n (extended_pattern_character {c = c} e f k l) = ap leaf_begins e ∙ inside (λ d. not (d ∈ "^$*+?()|")) (codes "{}]") c refl f
leaf_apart w here there n (any_character e) = ap leaf_begins e
leaf_apart w here there n (atom_escape e f g d) = ap leaf_begins e
leaf_apart w here there n (backslash u e f k) = ap leaf_begins e
leaf_apart w here there n (character_class e d) = ap leaf_begins e

-- No atom without groups begins with `\b` or `\B`.
no-boundary : (c : ℕ) → c ∈ "bB" ≡ true → {w : PatternContext} {here there rest : RemainingCodePoints} {n : Node} → SimpleAtom w here there n → here ≡ 92 ∷ c ∷ rest → ⊥
no-boundary c is (pattern_character e f s) k = apart (contains special) refl f (firsts k e)
no-boundary c is (extended_pattern_character e f l m) k = apart (λ d. d ∈ "{}]") f refl (firsts e k)
no-boundary c is (any_character e) k = unlike _ _ refl (firsts e k)
no-boundary c is {rest = rest} (atom_escape e f g d) k =
    ⊎_elim (λ x. true≢false (sym (ap (begins_with_characters "b") (behind e k ∙ ap (λ z. z ∷ rest) (eqb-true c 98 x))) ∙ f))
    (λ x. ⊎_elim (λ y. true≢false (sym (ap (begins_with_characters "B") (behind e k ∙ ap (λ z. z ∷ rest) (eqb-true c 66 y))) ∙ g)) (λ y. true≢false (sym y)) (or_cases (nat_eq c 66) false x))
    (or_cases (nat_eq c 98) _ is)
no-boundary c is (backslash {a = a} u e f l) k = apart (λ d. not (d ∈ "c")) (inside (λ d. not (d ∈ "c")) (codes "bB") c refl is) refl (ap first (behind k e) ∙ c-first a f)
no-boundary c is (character_class e d) k = unlike _ _ refl (firsts e k)

leaf_no_boundary : (w : PatternContext) (here there rest : RemainingCodePoints) (n : Node) (invert : Bool) → SimpleAtom w here there n → here ≡ codes (if invert then "\\B" else "\\b") ++ rest → ⊥
leaf_no_boundary w here there rest n true d e = no-boundary 66 refl d e
leaf_no_boundary w here there rest n false d e = no-boundary 98 refl d e

-- The dialect of all of ECMAScript reads atoms without groups, and names, in one way.
pub ecmascript-reads : IsReadInOneWay ecmascript
ecmascript-reads =
    record {
      one_leaf = one_leaf;
      one_name = one_name;
      no_sign = name-no-sign;
      leaf_apart = leaf_apart;
      leaf_no_boundary = leaf_no_boundary;
    }
