-- Each class and each atom without groups of the profile's grammar has at most one reading.
use Rattle.std.proofs.Common.{◌≡◌, ◌≢◌, ℕ, Bool, true, false, not, List, [], ◌∷◌, ◌++◌, true≢false, ⊎_elim, nat_eq, refl, sym, ap, ap₂, subst, ◌∙◌, arith}
use Rattle.std.specs.Prelude.{codes, ◌||◌, Some, if◌then◌else◌}
use Rattle.std.specs.List.{list_all}
use Rattle.std.specs.Char.{is_digit, is_ascii_alphanumeric}
use Rattle.std.specs.Int.{is_in_range}
use Rattle.std.proofs.lemmas.Bool.{or_left, or_right, or_cases, and_parts, eqb-true, not-true}
use Rattle.regex_meaning.specs.NumberListHelpers.{contains}
use Rattle.regex_meaning.specs.Tree.{Node, Flags, BracketContents, Intervals, back_ref, bracket, by_case}
use Rattle.regex_meaning.specs.ReadingStatesAndDigits.{RemainingCodePoints, PatternContext, ◌∈◌, begins_with_characters, Digits, group_number_of}
use Rattle.regex_meaning.specs.EscapesNamesQuantifiers.{CharacterEscape, control_escape, null, hex_escape, unicode_escape, identity_escape, GroupName, group_name, is_ascii_identifier_start}
use Rattle.regex_meaning.specs.CharacterClasses.{ClassMember, character, range, class, class_escape, ClassAtom, verbatim, of_class, backspace, escaped, are_characters, IsRangeDash, ClassMembers}
use Rattle.regex_meaning.specs.CharacterClasses.{alone, from_to, no_range, ClassRanges, no_more, more, CharacterClass, plain, inverted, IsSetOf}
use Rattle.regex_meaning.specs.Grammar.{SimpleAtom, pattern_character, extended_character, any_character, decimal_escape, named_reference, character_escape, character_class_escape, character_class}
use Rattle.regex_meaning.specs.Grammar.{character_node, profile}
use Rattle.regex_meaning.proofs.DisjunctionReadingLemmas.{first, rest_of, unlike, leaf_begins, IsReadInOneWay}
use Rattle.regex_meaning.proofs.EscapesAndNamesLemmas.{Same, behind, apart, firsts, inside, outside, digits_on, one_character, one_name, is_some, Some_inj, is_control_letter, control_letter}
use Rattle.regex_meaning.proofs.CanonicalIntervalsLemmas.{one_set}
pub use Rattle.regex_meaning.proofs.FirstDigitOfNumber.{digit_begins}

-- ---- Characters behind a backslash

abbrev pub may_escape : ℕ → Bool
may_escape c = is_control_letter c || (c ∈ "0xu" || not (is_ascii_alphanumeric c))

pub escape_begins : {unicode : Bool} {here there : RemainingCodePoints} {c : ℕ} → CharacterEscape unicode here there c → may_escape (first here) ≡ true
escape_begins (control_escape {letter = l} e f) = ap (λ x. may_escape (first x)) e ∙ control_letter may_escape l refl (ap is_some f)
escape_begins (null e k) = ap (λ x. may_escape (first x)) e
escape_begins (hex_escape e k) = ap (λ x. may_escape (first x)) e
escape_begins (unicode_escape e k) = ap (λ x. may_escape (first x)) e
escape_begins (identity_escape {c = c} e f) = ap (λ x. may_escape (first x)) e ∙ or_right (is_control_letter c) _ (or_right (c ∈ "0xu") _ (ap not f))

class_letters : (c : ℕ) → is_some (class_escape c) ≡ true → c ∈ "dDwWsS" ≡ true
class_letters c e = grind arith

pub class_letter : (test : ℕ → Bool) (c : ℕ) {m : ClassMember} → list_all test (codes "dDwWsS") ≡ true → class_escape c ≡ Some m → test c ≡ true
class_letter test c e f = inside test (codes "dDwWsS") c e (class_letters c (ap is_some f))

character_from : {unicode : Bool} {here there a : RemainingCodePoints} {c : ℕ} → here ≡ there → CharacterEscape unicode there a c → CharacterEscape unicode here a c
character_from {unicode} {a = a} {c = c} e d = subst (λ x. CharacterEscape unicode x a c) (sym e) d

no_class_escape : {unicode : Bool} {here there rest : RemainingCodePoints} (l : ℕ) {c : ℕ} {m : ClassMember} → class_escape l ≡ Some m → l ∷ rest ≡ here → CharacterEscape unicode here there c → ⊥
no_class_escape l f e d = apart (λ c. not (may_escape c)) (class_letter (λ c. not (may_escape c)) l refl f) (ap not (escape_begins d)) (ap first e)

no_backspace : {unicode : Bool} {here there rest : RemainingCodePoints} {c : ℕ} → 98 ∷ rest ≡ here → CharacterEscape unicode here there c → ⊥
no_backspace e d = apart (λ c. not (may_escape c)) refl (ap not (escape_begins d)) (ap first e)

-- ---- Members

pub one_class_atom : {flags : Flags} {here a b : RemainingCodePoints} {m n : ClassMember} → ClassAtom flags here a m → ClassAtom flags here b n → Same a b m n
one_class_atom (verbatim e f) (verbatim e' f') = (behind e e', ap character (firsts e e'))
one_class_atom (of_class e f) (of_class e' f') =
    let h = behind e e' in (ap rest_of h, Some_inj (sym f ∙ ap (λ x. class_escape (first x)) h ∙ f'))
one_class_atom (backspace e) (backspace e') = (ap rest_of (behind e e'), refl)
one_class_atom (escaped e d) (escaped e' d') = let h = one_character d (character_from (behind e e') d') in (h.0, ap character h.1)
one_class_atom (verbatim e f) (of_class e' f') = absurd (apart (λ c. c ∈ "\\]") refl f (firsts e' e))
one_class_atom (verbatim e f) (backspace e') = absurd (apart (λ c. c ∈ "\\]") refl f (firsts e' e))
one_class_atom (verbatim e f) (escaped e' d') = absurd (apart (λ c. c ∈ "\\]") refl f (firsts e' e))
one_class_atom (of_class e' f') (verbatim e f) = absurd (apart (λ c. c ∈ "\\]") refl f (firsts e' e))
one_class_atom (backspace e') (verbatim e f) = absurd (apart (λ c. c ∈ "\\]") refl f (firsts e' e))
one_class_atom (escaped e' d') (verbatim e f) = absurd (apart (λ c. c ∈ "\\]") refl f (firsts e' e))
one_class_atom (of_class {letter = l} e f) (backspace e') = absurd (apart (λ c. not (c ∈ "b")) (class_letter (λ c. not (c ∈ "b")) l refl f) refl (ap first (behind e e')))
one_class_atom (backspace e') (of_class {letter = l} e f) = absurd (apart (λ c. not (c ∈ "b")) (class_letter (λ c. not (c ∈ "b")) l refl f) refl (ap first (behind e e')))
one_class_atom (of_class {letter = l} e f) (escaped e' d) = absurd (no_class_escape l f (behind e e') d)
one_class_atom (escaped e' d) (of_class {letter = l} e f) = absurd (no_class_escape l f (behind e e') d)
one_class_atom (backspace e) (escaped e' d) = absurd (no_backspace (behind e e') d)
one_class_atom (escaped e' d) (backspace e) = absurd (no_backspace (behind e e') d)

pub atom_starts : {flags : Flags} {here there : RemainingCodePoints} {m : ClassMember} → ClassAtom flags here there m → (c : ℕ) × (rest : RemainingCodePoints) × (here ≡ c ∷ rest) × (c ≢ 93)
atom_starts (verbatim {c = c} {there = there} e f) = (c, there, e, (λ g. apart (λ d. d ∈ "\\]") refl f (sym g)))
atom_starts (of_class {letter = l} {there = there} e f) = (92, l ∷ there, e, unlike 92 93 refl)
atom_starts (backspace {there = there} e) = (92, 98 ∷ there, e, unlike 92 93 refl)
atom_starts (escaped {a = a} e d) = (92, a, e, unlike 92 93 refl)

pub is_range : {flags : Flags} {here b there : RemainingCodePoints} {m : ClassMember} → here ≡ 45 ∷ b → ClassAtom flags b there m → IsRangeDash here
is_range e d = let h = atom_starts d in (h.0, h.1, e ∙ ap (λ x. 45 ∷ x) h.2, h.3)

pub atom_from : {flags : Flags} {here there a : RemainingCodePoints} {m : ClassMember} → here ≡ there → ClassAtom flags there a m → ClassAtom flags here a m
atom_from {flags} {a = a} {m = m} e d = subst (λ x. ClassAtom flags x a m) (sym e) d

pub range_from : {a b : RemainingCodePoints} → a ≡ b → IsRangeDash b → IsRangeDash a
range_from e k = subst IsRangeDash (sym e) k

pub character_inj : {c d : ℕ} → character c ≡ character d → c ≡ d
character_inj {c} {d} e = ap (λ m. elim m [ character x ↦ x | range x y ↦ c | class x y ↦ c ]) e

pub one_member : {flags : Flags} {here a b : RemainingCodePoints} {ms ns : List ClassMember} → ClassMembers flags here a ms → ClassMembers flags here b ns → Same a b ms ns
one_member (alone a k) (alone b l) = let h = one_class_atom a b in (h.0, ap (λ x. x ∷ []) h.1)
one_member (alone a k) (from_to b e d le) = let h = one_class_atom a b in absurd (k (range_from h.0 (is_range e d)))
one_member (alone a k) (no_range b e d f) = let h = one_class_atom a b in absurd (k (range_from h.0 (is_range e d)))
one_member (from_to b e d le) (alone a k) = let h = one_class_atom a b in absurd (k (range_from h.0 (is_range e d)))
one_member (no_range b e d f) (alone a k) = let h = one_class_atom a b in absurd (k (range_from h.0 (is_range e d)))
one_member (from_to a e d le) (from_to a' e' d' le') =
    let h = one_class_atom a a' in
    let k = one_class_atom d (atom_from (behind e (h.0 ∙ e')) d') in
    (k.0, ap₂ (λ x y. range x y ∷ []) (character_inj h.1) (character_inj k.1))
one_member (no_range a e d f) (no_range a' e' d' f') =
    let h = one_class_atom a a' in
    let k = one_class_atom d (atom_from (behind e (h.0 ∙ e')) d') in
    (k.0, ap₂ (λ x y. x ∷ character 45 ∷ y ∷ []) h.1 k.1)
one_member (from_to a e d le) (no_range a' e' d' f') =
    let h = one_class_atom a a' in
    let k = one_class_atom d (atom_from (behind e (h.0 ∙ e')) d') in
    absurd (true≢false (ap₂ are_characters h.1 k.1 ∙ f'))
one_member (no_range a' e' d' f') (from_to a e d le) =
    let h = one_class_atom a a' in
    let k = one_class_atom d (atom_from (behind e (h.0 ∙ e')) d') in
    absurd (true≢false (ap₂ are_characters h.1 k.1 ∙ f'))

pub member_starts : {flags : Flags} {here there rest : RemainingCodePoints} {ms : List ClassMember} → ClassMembers flags here there ms → here ≡ 93 ∷ rest → ⊥
member_starts (alone a k) e = let h = atom_starts a in h.3 (firsts h.2 e)
member_starts (from_to a f d le) e = let h = atom_starts a in h.3 (firsts h.2 e)
member_starts (no_range a f d g) e = let h = atom_starts a in h.3 (firsts h.2 e)

ranges_from : {flags : Flags} {here there a : RemainingCodePoints} {ms : List ClassMember} → here ≡ there → ClassRanges flags there a ms → ClassRanges flags here a ms
ranges_from {flags} {a = a} {ms = ms} e d = subst (λ x. ClassRanges flags x a ms) (sym e) d

one_ranges : {flags : Flags} {here a b : RemainingCodePoints} {ms ns : List ClassMember} → ClassRanges flags here a ms → ClassRanges flags here b ns → Same a b ms ns
one_ranges (no_more e) (no_more f) = (behind e f, refl)
one_ranges (no_more e) (more m r) = absurd (member_starts m e)
one_ranges (more m r) (no_more e) = absurd (member_starts m e)
one_ranges (more m r) (more m' r') =
    let h = one_member m m' in
    let k = one_ranges r (ranges_from h.0 r') in (k.0, ap₂ (λ x y. x ++ y) h.1 k.1)

same_set : {flags : Flags} {ms ns : List ClassMember} {s t : Intervals} → ms ≡ ns → IsSetOf flags ms s → IsSetOf flags ns t → s ≡ t
same_set {flags} {ms} {ns} {s} {t} e a b = let c : IsSetOf flags ms t = subst (λ x. IsSetOf flags x t) (sym e) b in one_set s t a.apart c.apart (λ d. a.same d ∙ sym (c.same d))

pub no_hat : {here rest : RemainingCodePoints} → begins_with_characters "^" here ≡ false → here ≡ 94 ∷ rest → ⊥
no_hat f e = true≢false (subst (λ x. begins_with_characters "^" x ≡ false) e f)

one_class : {flags : Flags} {here a b : RemainingCodePoints} {x y : BracketContents} → CharacterClass flags here a x → CharacterClass flags here b y → Same a b x y
one_class (plain n o r s) (plain n' o' r' s') = let h = one_ranges r r' in (h.0, ap (λ t. record { invert = false; intervals = t }) (same_set h.1 s s'))
one_class (inverted e o r s) (inverted e' o' r' s') =
    let h = one_ranges r (ranges_from (behind e e') r') in (h.0, ap (λ t. record { invert = true; intervals = t }) (same_set h.1 s s'))
one_class (plain n o r s) (inverted e o' r' s') = absurd (no_hat n e)
one_class (inverted e o' r' s') (plain n o r s) = absurd (no_hat n e)

-- ---- Atoms without groups

pub leaf_apart : (u : PatternContext) (here there : RemainingCodePoints) (n : Node) → SimpleAtom u here there n → leaf_begins here ≡ true
leaf_apart u here there n (pattern_character {c = c} e f) = ap leaf_begins e ∙ ap not (outside (codes "^$*+?()|") (codes "^$\\.*+?()[]{}|") c refl f)
leaf_apart u here there n (extended_character {c = c} e f k l) = ap leaf_begins e ∙ inside (λ d. not (d ∈ "^$*+?()|")) (codes "{}]") c refl f
leaf_apart u here there n (any_character e) = ap leaf_begins e
leaf_apart u here there n (decimal_escape e f d l) = ap leaf_begins e
leaf_apart u here there n (named_reference e d f) = ap leaf_begins e
leaf_apart u here there n (character_escape e d) = ap leaf_begins e
leaf_apart u here there n (character_class_escape e f s) = ap leaf_begins e
leaf_apart u here there n (character_class e d) = ap leaf_begins e

no_zero : {here : RemainingCodePoints} → begins_with_characters "0" here ≡ false → {base : ℕ} {there : RemainingCodePoints} {n : ℕ} → Digits base here there n → first here ≡ 48 → ⊥
no_zero {here = []} f d e = unlike 0 48 refl e
no_zero {here = c ∷ cs} f d e = true≢false (subst (λ x. begins_with_characters "0" (x ∷ cs) ≡ false) e f)

digit_range : (c : ℕ) → is_digit c 10 ≡ true → is_in_range 48 57 c ≡ true
digit_range c e = grind arith

not_both : (c : ℕ) → is_digit c 10 ≡ true → (c ≡ 48 → ⊥) → may_escape c ≡ true → ⊥
not_both c e f g = ⊎_elim (λ x. true≢false (sym e ∙ not-true _ (control_letter (λ d. not (is_digit d 10)) c refl x)))
    (λ x. ⊎_elim letters (λ y. true≢false (sym alphanumeric ∙ not-true _ y)) (or_cases (c ∈ "0xu") _ x)) (or_cases (is_control_letter c) _ g)
  where
    alphanumeric : is_ascii_alphanumeric c ≡ true
    alphanumeric = or_left _ _ (or_left _ _ (digit_range c e))

    letters : c ∈ "0xu" ≡ true → ⊥
    letters x = ⊎_elim (λ k. true≢false (sym e ∙ not-true _ k)) (λ k. f (eqb-true c 48 k))
        (or_cases (not (is_digit c 10)) _ (inside (λ d. not (is_digit d 10) || nat_eq d 48) (codes "0xu") c refl x))

-- These characters are special outside classes.
abbrev special : RemainingCodePoints
special = codes "^$\\.*+?()[]{}|"

no_escape_here : {unicode : Bool} {a there there' : RemainingCodePoints} {n m : ℕ} → begins_with_characters "0" a ≡ false → Digits 10 a there n → CharacterEscape unicode a there' m → ⊥
no_escape_here f d k = not_both _ (digit_begins d) (λ e. no_zero f d e) (escape_begins k)

names_on : {here there a n : RemainingCodePoints} → here ≡ there → GroupName there a n → GroupName here a n
names_on {a = a} {n = n} e d = subst (λ x. GroupName x a n) (sym e) d

class_from : {flags : Flags} {here there a : RemainingCodePoints} {x : BracketContents} → here ≡ there → CharacterClass flags there a x → CharacterClass flags here a x
class_from {flags} {a = a} {x = x} e d = subst (λ y. CharacterClass flags y a x) (sym e) d

set_of : Intervals → ClassMember → Intervals
set_of o (character c) = o
set_of o (range c d) = o
set_of o (class s invert) = s

invert_of : ClassMember → Bool
invert_of (character c) = false
invert_of (range c d) = false
invert_of (class s invert) = invert

same_class : {flags : Flags} {x y s t : Intervals} {i j : Bool} → class x i ≡ class y j → IsSetOf flags (class x false ∷ []) s → IsSetOf flags (class y false ∷ []) t
    → bracket (record { invert = i; intervals = s }) ≡ bracket (record { invert = j; intervals = t })
unfolding set_of invert_of
same_class {x = x} e a b =
    ap₂ (λ k u. bracket (record { invert = k; intervals = u })) (ap invert_of e) (same_set (ap (λ u. class u false ∷ []) (ap (set_of x) e)) a b)

no_boundary_letter : (c : ℕ) → c ∈ "bB" ≡ true → {u : PatternContext} {here there rest : RemainingCodePoints} {n : Node} → SimpleAtom u here there n → here ≡ 92 ∷ c ∷ rest → ⊥
no_boundary_letter c is (pattern_character e f) k = apart (contains special) refl f (firsts k e)
no_boundary_letter c is (extended_character e f l m) k = apart (λ d. d ∈ "{}]") f refl (firsts e k)
no_boundary_letter c is (any_character e) k = unlike _ _ refl (firsts e k)
no_boundary_letter c is (decimal_escape e f d l) k = apart (λ d. not (is_digit d 10)) (inside (λ d. not (is_digit d 10)) (codes "bB") c refl is) (ap not (digit_begins d)) (ap first (behind k e))
no_boundary_letter c is (named_reference e d f) k = apart (λ d. not (d ∈ "k")) (inside (λ d. not (d ∈ "k")) (codes "bB") c refl is) refl (ap first (behind k e))
no_boundary_letter c is (character_escape e d) k = apart (λ d. not (may_escape d)) (inside (λ d. not (may_escape d)) (codes "bB") c refl is) (ap not (escape_begins d)) (ap first (behind k e))
no_boundary_letter c is (character_class_escape {letter = y} e f s) k =
    apart (λ d. not (d ∈ "bB")) (class_letter (λ d. not (d ∈ "bB")) y refl f) (ap not is) (ap first (behind e k))
no_boundary_letter c is (character_class e d) k = unlike _ _ refl (firsts e k)

pub one_leaf : (w : PatternContext) (here a b : RemainingCodePoints) (n m : Node) → SimpleAtom w here a n → SimpleAtom w here b m → Same a b n m
one_leaf w here a b n m (pattern_character e f) (pattern_character e' f') = (behind e e', ap (character_node w.flags) (firsts e e'))
one_leaf w here a b n m (pattern_character e f) (extended_character {c = y} e' f' k' l') = absurd (apart (contains special) (inside (contains special) (codes "{}]") y refl f') f (firsts e' e))
one_leaf w here a b n m (pattern_character e f) (any_character e') = absurd (apart (contains special) refl f (firsts e' e))
one_leaf w here a b n m (pattern_character e f) (decimal_escape e' f' d' l') = absurd (apart (contains special) refl f (firsts e' e))
one_leaf w here a b n m (pattern_character e f) (named_reference e' d' f') = absurd (apart (contains special) refl f (firsts e' e))
one_leaf w here a b n m (pattern_character e f) (character_escape e' d') = absurd (apart (contains special) refl f (firsts e' e))
one_leaf w here a b n m (pattern_character e f) (character_class_escape {letter = y'} e' f' s') = absurd (apart (contains special) refl f (firsts e' e))
one_leaf w here a b n m (pattern_character e f) (character_class e' d') = absurd (apart (contains special) refl f (firsts e' e))
one_leaf w here a b n m (extended_character {c = y} e f k l) (pattern_character e' f') = absurd (apart (contains special) (inside (contains special) (codes "{}]") y refl f) f' (firsts e e'))
one_leaf w here a b n m (extended_character e f k l) (extended_character e' f' k' l') = (behind e e', ap (character_node w.flags) (firsts e e'))
one_leaf w here a b n m (extended_character e f k l) (any_character e') = absurd (apart (λ c. c ∈ "{}]") f refl (firsts e e'))
one_leaf w here a b n m (extended_character e f k l) (decimal_escape e' f' d' l') = absurd (apart (λ c. c ∈ "{}]") f refl (firsts e e'))
one_leaf w here a b n m (extended_character e f k l) (named_reference e' d' f') = absurd (apart (λ c. c ∈ "{}]") f refl (firsts e e'))
one_leaf w here a b n m (extended_character e f k l) (character_escape e' d') = absurd (apart (λ c. c ∈ "{}]") f refl (firsts e e'))
one_leaf w here a b n m (extended_character e f k l) (character_class_escape {letter = y'} e' f' s') = absurd (apart (λ c. c ∈ "{}]") f refl (firsts e e'))
one_leaf w here a b n m (extended_character e f k l) (character_class e' d') = absurd (apart (λ c. c ∈ "{}]") f refl (firsts e e'))
one_leaf w here a b n m (any_character e) (pattern_character e' f') = absurd (apart (contains special) refl f' (firsts e e'))
one_leaf w here a b n m (any_character e) (extended_character e' f' k' l') = absurd (apart (λ c. c ∈ "{}]") f' refl (firsts e' e))
one_leaf w here a b n m (any_character e) (any_character e') = (behind e e', refl)
one_leaf w here a b n m (any_character e) (decimal_escape e' f' d' l') = absurd (unlike _ _ refl (firsts e e'))
one_leaf w here a b n m (any_character e) (named_reference e' d' f') = absurd (unlike _ _ refl (firsts e e'))
one_leaf w here a b n m (any_character e) (character_escape e' d') = absurd (unlike _ _ refl (firsts e e'))
one_leaf w here a b n m (any_character e) (character_class_escape {letter = y'} e' f' s') = absurd (unlike _ _ refl (firsts e e'))
one_leaf w here a b n m (any_character e) (character_class e' d') = absurd (unlike _ _ refl (firsts e e'))
one_leaf w here a b n m (decimal_escape e f d l) (pattern_character e' f') = absurd (apart (contains special) refl f' (firsts e e'))
one_leaf w here a b n m (decimal_escape e f d l) (extended_character e' f' k' l') = absurd (apart (λ c. c ∈ "{}]") f' refl (firsts e' e))
one_leaf w here a b n m (decimal_escape e f d l) (any_character e') = absurd (unlike _ _ refl (firsts e e'))
one_leaf w here a b n m (decimal_escape e f d l) (decimal_escape e' f' d' l') = let x = digits_on (behind e e') d d' in (x.0, ap (λ i. back_ref i (by_case w.flags.icase)) x.1)
one_leaf w here a b n m (decimal_escape e f d l) (named_reference e' d' f') = absurd (apart (λ c. is_digit c 10) (digit_begins d) refl (ap first (behind e e')))
one_leaf w here a b n m (decimal_escape e f d l) (character_escape e' d') = absurd (no_escape_here f d (character_from (behind e e') d'))
one_leaf w here a b n m (decimal_escape e f d l) (character_class_escape {letter = y'} e' f' s') = absurd (apart (λ c. not (is_digit c 10)) (class_letter (λ c. not (is_digit c 10)) y' refl f') (ap not (digit_begins d)) (sym (ap first (behind e e'))))
one_leaf w here a b n m (decimal_escape e f d l) (character_class e' d') = absurd (unlike _ _ refl (firsts e e'))
one_leaf w here a b n m (named_reference e d f) (pattern_character e' f') = absurd (apart (contains special) refl f' (firsts e e'))
one_leaf w here a b n m (named_reference e d f) (extended_character e' f' k' l') = absurd (apart (λ c. c ∈ "{}]") f' refl (firsts e' e))
one_leaf w here a b n m (named_reference e d f) (any_character e') = absurd (unlike _ _ refl (firsts e e'))
one_leaf w here a b n m (named_reference e d f) (decimal_escape e' f' d' l') = absurd (apart (λ c. is_digit c 10) (digit_begins d') refl (ap first (behind e' e)))
one_leaf w here a b n m (named_reference e d f) (named_reference e' d' f') = let x = one_name _ _ _ _ _ d (names_on (ap rest_of (ap rest_of (behind e e'))) d') in (x.0, ap (λ i. back_ref i (by_case w.flags.icase)) (Some_inj (sym f ∙ ap (λ y. group_number_of y w.groups) x.1 ∙ f')))
one_leaf w here a b n m (named_reference e d f) (character_escape e' d') = absurd (apart (λ c. not (may_escape c)) refl (ap not (escape_begins d')) (ap first (behind e e')))
one_leaf w here a b n m (named_reference e d f) (character_class_escape {letter = y'} e' f' s') = absurd (apart (λ c. not (c ∈ "k")) (class_letter (λ c. not (c ∈ "k")) y' refl f') refl (sym (ap first (behind e e'))))
one_leaf w here a b n m (named_reference e d f) (character_class e' d') = absurd (unlike _ _ refl (firsts e e'))
one_leaf w here a b n m (character_escape e d) (pattern_character e' f') = absurd (apart (contains special) refl f' (firsts e e'))
one_leaf w here a b n m (character_escape e d) (extended_character e' f' k' l') = absurd (apart (λ c. c ∈ "{}]") f' refl (firsts e' e))
one_leaf w here a b n m (character_escape e d) (any_character e') = absurd (unlike _ _ refl (firsts e e'))
one_leaf w here a b n m (character_escape e d) (decimal_escape e' f' d' l') = absurd (no_escape_here f' d' (character_from (behind e' e) d))
one_leaf w here a b n m (character_escape e d) (named_reference e' d' f') = absurd (apart (λ c. not (may_escape c)) refl (ap not (escape_begins d)) (ap first (behind e' e)))
one_leaf w here a b n m (character_escape e d) (character_escape e' d') = let x = one_character d (character_from (behind e e') d') in (x.0, ap (character_node w.flags) x.1)
one_leaf w here a b n m (character_escape e d) (character_class_escape {letter = y'} e' f' s') = absurd (no_class_escape y' f' (behind e' e) d)
one_leaf w here a b n m (character_escape e d) (character_class e' d') = absurd (unlike _ _ refl (firsts e e'))
one_leaf w here a b n m (character_class_escape {letter = y} e f s) (pattern_character e' f') = absurd (apart (contains special) refl f' (firsts e e'))
one_leaf w here a b n m (character_class_escape {letter = y} e f s) (extended_character e' f' k' l') = absurd (apart (λ c. c ∈ "{}]") f' refl (firsts e' e))
one_leaf w here a b n m (character_class_escape {letter = y} e f s) (any_character e') = absurd (unlike _ _ refl (firsts e e'))
one_leaf w here a b n m (character_class_escape {letter = y} e f s) (decimal_escape e' f' d' l') = absurd (apart (λ c. not (is_digit c 10)) (class_letter (λ c. not (is_digit c 10)) y refl f) (ap not (digit_begins d')) (sym (ap first (behind e' e))))
one_leaf w here a b n m (character_class_escape {letter = y} e f s) (named_reference e' d' f') = absurd (apart (λ c. not (c ∈ "k")) (class_letter (λ c. not (c ∈ "k")) y refl f) refl (sym (ap first (behind e' e))))
one_leaf w here a b n m (character_class_escape {letter = y} e f s) (character_escape e' d') = absurd (no_class_escape y f (behind e e') d')
one_leaf w here a b n m (character_class_escape {letter = y} e f s) (character_class_escape {letter = y'} e' f' s') = let x = behind e e' in let c = Some_inj (sym f ∙ ap (λ t. class_escape (first t)) x ∙ f') in (ap rest_of x, same_class c s s')
one_leaf w here a b n m (character_class_escape {letter = y} e f s) (character_class e' d') = absurd (unlike _ _ refl (firsts e e'))
one_leaf w here a b n m (character_class e d) (pattern_character e' f') = absurd (apart (contains special) refl f' (firsts e e'))
one_leaf w here a b n m (character_class e d) (extended_character e' f' k' l') = absurd (apart (λ c. c ∈ "{}]") f' refl (firsts e' e))
one_leaf w here a b n m (character_class e d) (any_character e') = absurd (unlike _ _ refl (firsts e e'))
one_leaf w here a b n m (character_class e d) (decimal_escape e' f' d' l') = absurd (unlike _ _ refl (firsts e e'))
one_leaf w here a b n m (character_class e d) (named_reference e' d' f') = absurd (unlike _ _ refl (firsts e e'))
one_leaf w here a b n m (character_class e d) (character_escape e' d') = absurd (unlike _ _ refl (firsts e e'))
one_leaf w here a b n m (character_class e d) (character_class_escape {letter = y'} e' f' s') = absurd (unlike _ _ refl (firsts e e'))
one_leaf w here a b n m (character_class e d) (character_class e' d') = let x = one_class d (class_from (behind e e') d') in (x.0, ap bracket x.1)

pub leaf_no_boundary : (u : PatternContext) (here there rest : RemainingCodePoints) (n : Node) (invert : Bool) → SimpleAtom u here there n → here ≡ codes (if invert then "\\B" else "\\b") ++ rest → ⊥
leaf_no_boundary u here there rest n true d e = no_boundary_letter 66 refl d e
leaf_no_boundary u here there rest n false d e = no_boundary_letter 98 refl d e

-- No group name begins with `=` or `!`, the signs of a lookbehind.
no_sign : (c : ℕ) (there name rest : RemainingCodePoints) → c ∈ "=!" ≡ true → GroupName (c ∷ rest) there name → ⊥
no_sign c there name rest e (group_name {name = []} f g) = true≢false (sym g)
no_sign c there name rest e (group_name {name = d ∷ ds} f g) =
    apart (λ x. not (is_ascii_identifier_start x)) (inside (λ x. not (is_ascii_identifier_start x)) (codes "=!") c refl e) (ap not (and_parts (is_ascii_identifier_start d) _ g).0) (ap first f)

-- The profile's dialect reads atoms without groups, and names, in one way.
pub reads : IsReadInOneWay profile
reads =
    record {
      one_leaf = one_leaf;
      one_name = one_name;
      no_sign = no_sign;
      leaf_apart = leaf_apart;
      leaf_no_boundary = leaf_no_boundary;
    }
