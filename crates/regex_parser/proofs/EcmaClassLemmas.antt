-- The ECMAScript class reader reads the members and sets that the grammar specifies.
use Rattle.std.proofs.Common.{◌≡◌, ◌⊎◌, ℕ, ◌<◌, ◌≤◌, Bool, true, false, ◌&&◌, ◌||◌, List, [], ◌∷◌, ◌++◌, length, true≢false, ⊎_elim, inl, inr, refl, sym, ap, ap₂, subst, ◌∙◌, arith, append_assoc}
use Rattle.std.proofs.Common.{append-nil, Option, Some, None, is_some, nat_eq, not, codes, eqb-true, eq-eqb}
use Rattle.std.specs.Prelude.{IsTrue, Result, Ok, Err, if◌then◌else◌}
use Rattle.std.proofs.lemmas.Bool.{or_cases, or_left}
use Rattle.std.proofs.Math.Bool.{or-false}
use Rattle.regex_meaning.specs.Tree.{Flags, Intervals}
use Rattle.regex_meaning.specs.Outcomes.{in_intervals}
use Rattle.regex_meaning.specs.Canonical.{canonicalize, canonical_character}
use Rattle.regex_meaning.specs.ReadingStatesAndDigits.{RemainingCodePoints, ◌∈◌, begins_with_characters}
use Rattle.regex_meaning.specs.CharacterClasses.{AreCanonicalIntervals, IsRangeDash, digit_class, word_class, space_class}
use Rattle.regex_meaning.specs.CharacterClasses as Profile
use Rattle.regex_meaning.specs.EcmaClasses.{ClassMember, character, range, class, class_member_contains, are_characters, IsSetOf, ClassAtom, verbatim, ClassMembers, alone, from_to, no_range}
use Rattle.regex_meaning.specs.EcmaClasses.{ClassRanges, no_more, more, escaped, backslash, InvertibleSet, is_in_invertible_set}
use Rattle.regex_meaning.specs.EcmaClasses.{class_escape_set, word_characters, CharacterClassEscape, by_letter, SimpleClassEscape, backspace, dash, class_control_letter, ClassEscape, simple_escape}
use Rattle.regex_meaning.specs.EcmaClasses.{class_escape, character_escape, grammar_parameters, by_property, CharacterClass, plain, inverted}
use Rattle.regex_meaning.specs.UnicodeProperties.{Property as SpecProperty, has_property}
use Rattle.regex_meaning.specs.EcmaEscapesAndNames.{CharacterEscape, non_identity_escape, identity_escape, is_identity_escape, PropertyExpression}
use Rattle.regex_meaning.proofs.DisjunctionReadingLemmas.{first, rest_of}
use Rattle.regex_meaning.proofs.ClassAndAtomLemmas.{class_letter}
use Rattle.regex_meaning.proofs.EcmaClassEscapeSets.{classes-are-closed}
use Rattle.regex_meaning.proofs.EscapesAndNamesLemmas.{behind, apart, firsts, is_control_letter}
use Rattle.regex_meaning.proofs.EcmaEscapesAndNamesLemmas.{proper-kind, escape_kind}
use Rattle.regex_meaning.proofs.EcmaClassAndAtomLemmas.{property-from, class_letter as ecma_class_letter, one_class_atom, atom_starts, is_range, atom_from, character_inj, one_member, member_starts}
use Rattle.regex_parser.specs.ClassReaderContracts.{is_in_any_interval, uninverted_digit_word_or_space_set, class_escape_of_letter}
use Rattle.regex_parser.specs.CaseVariantContracts.{AddsMatchingCharacters}
use Rattle.regex_parser.specs.EcmaClassContracts.{AddsEcmaMembers, IsCanonicalClosure, set_of_letter, IsClassControlRead, IsSimpleClassEscapeRead, IsEcmaMemberRead, AreEcmaRangesRead, IsRangeOrCause}
use Rattle.regex_parser.specs.EcmaClassContracts.{member_of_atom}
use Rattle.regex_parser.specs.declared.ecmascript_classes.AtomValue.{AtomValue}
use Rattle.regex_parser.specs.declared.ecmascript_classes.AtomValue.TheVariants.{Character, Letter, Property}
use Rattle.regex_parser.specs.declared.diagnosis.Cause.{Cause}
use Rattle.regex_parser.specs.CodePointReaderContracts.{is_syntax_error, first_char_if_any, IsEaten, IsCodePointReadIfAny, IsReadOrSyntaxError}
use Rattle.regex_parser.specs.declared.parser_error.ParseStopReason.{ParseStopReason}
use Rattle.std.specs.Result.{IsErrAnd}
use Rattle.regex_parser.proofs.ClassMemberListLemmas.{held-append, added-set, added-more, other_in_class}
use Rattle.regex_parser.proofs.NumberReaderLemmas.{no_sign}
use Rattle.regex_parser.specs.declared.character_class_parser.CharacterClassType.{CharacterClassType}
use Rattle.regex_parser.specs.declared.character_class_parser.CharacterClassType.TheVariants.{Digits, WordCharacters, Spaces}
use Rattle.regex_meaning.specs.Text.{is_word_char, nonascii_folds_to_ascii_word_char, is_scalar}
use Rattle.regex_pattern_front.specs.declared.codepointset.Interval.{Interval}

-- ---- Canonical closures

pub closure-plain : (flags : Flags) (test : ℕ → Bool) (set : Intervals) → flags.icase ≡ false → AreCanonicalIntervals set → ((c : ℕ) → in_intervals set c ≡ test c)
    → IsCanonicalClosure flags test set
closure-plain flags test set e apart same = record {
  apart = apart;
  same = λ c. (λ h. (c, sym (same c) ∙ h, refl), λ h. same c ∙ subst (λ d. test d ≡ true) (plain h.0 c h.2) h.1);
}
  where
    plain : (d c : ℕ) → canonical_character flags.icase flags.unicode d ≡ canonical_character flags.icase flags.unicode c → d ≡ c
    plain d c k = by flags.icase e k
      where
        by : (b : Bool) → b ≡ false → canonical_character b flags.unicode d ≡ canonical_character b flags.unicode c → d ≡ c
        by false f k = k
        by true f k = absurd (true≢false f)

pub closure-all : (flags : Flags) (test first : ℕ → Bool) (old new : List Interval) (set : Intervals) → flags.icase ≡ true
    → ((c : ℕ) → is_in_any_interval old c ≡ test c) → ((c : ℕ) → first c ≡ test c) → AddsMatchingCharacters flags.unicode first old new
    → AreCanonicalIntervals set → ((c : ℕ) → in_intervals set c ≡ is_in_any_interval new c) → IsCanonicalClosure flags test set
closure-all flags test first old new set e is firsts a apart same = record { apart = apart; same = λ c. (λ h. from c h, λ h. to c h) }
  where
    folds : (d c : ℕ) → canonicalize flags.unicode d ≡ canonicalize flags.unicode c → canonical_character flags.icase flags.unicode d ≡ canonical_character flags.icase flags.unicode c
    folds d c k = ap (λ b. canonical_character b flags.unicode d) e ∙ k ∙ sym (ap (λ b. canonical_character b flags.unicode c) e)

    unfolds : (d c : ℕ) → canonical_character flags.icase flags.unicode d ≡ canonical_character flags.icase flags.unicode c → canonicalize flags.unicode d ≡ canonicalize flags.unicode c
    unfolds d c k = sym (ap (λ b. canonical_character b flags.unicode d) e) ∙ k ∙ ap (λ b. canonical_character b flags.unicode c) e

    from : (c : ℕ) → in_intervals set c ≡ true → (d : ℕ) × IsTrue (test d) × (canonical_character flags.icase flags.unicode d ≡ canonical_character flags.icase flags.unicode c)
    from c h =
        ⊎_elim (λ k. (c, sym (is c) ∙ k, refl)) (λ k. (k.0, sym (firsts k.0) ∙ k.1, folds k.0 c (eqb-true _ _ k.2))) (a.sound c (sym (same c) ∙ h))

    to : (c : ℕ) → (d : ℕ) × IsTrue (test d) × (canonical_character flags.icase flags.unicode d ≡ canonical_character flags.icase flags.unicode c) → in_intervals set c ≡ true
    to c h =
        same c ∙ ⊎_elim (λ k. a.kept c (is c ∙ sym (firsts c) ∙ k)) (λ k. k) (a.complete c (h.0, firsts h.0 ∙ h.1, eq-eqb _ _ (unfolds h.0 c h.2)))

-- ---- Intervals added

pub adds-none : (xs : List Interval) → AddsEcmaMembers xs xs []
adds-none xs c = sym (or-false (is_in_any_interval xs c))

pub adds-range : (xs : List Interval) (first last : ℕ) → AddsEcmaMembers xs (xs ++ record { first = first; last = last } ∷ []) (range first last ∷ [])
adds-range xs first last c = held-append xs (record { first = first; last = last } ∷ []) c

pub adds-set : (xs ys : List Interval) (m : ClassMember) → ((c : ℕ) → is_in_any_interval ys c ≡ class_member_contains m c) → AddsEcmaMembers xs (xs ++ ys) (m ∷ [])
adds-set xs ys m e = added-set (λ c m. class_member_contains m c) xs ys m e

pub adds-more : (xs ys zs : List Interval) (ms ns : List ClassMember) → AddsEcmaMembers xs ys ms → AddsEcmaMembers ys zs ns → AddsEcmaMembers xs zs (ms ++ ns)
adds-more xs ys zs ms ns a b = added-more (λ c m. class_member_contains m c) xs ys zs ms ns a b

-- The canonical closure of the intervals that members add to none is the set of the members.
pub set-of_members : (flags : Flags) (xs : List Interval) (ms : List ClassMember) (set : Intervals) → AddsEcmaMembers [] xs ms → IsCanonicalClosure flags (is_in_any_interval xs) set → IsSetOf flags ms set
set-of_members flags xs ms set a s = record {
  apart = s.apart;
  same = λ c. (λ h. let k = (s.same c).0 h in (k.0, sym (a k.0) ∙ k.1, k.2), λ h. (s.same c).1 (h.0, a h.0 ∙ h.1, h.2));
}

-- ---- Members

pub member-none : {flags : Flags} {named : Bool} {here : RemainingCodePoints} → ((end : RemainingCodePoints) (m : ClassMember) → ClassAtom flags named here end m → ⊥) → (end : RemainingCodePoints) (ms : List ClassMember) → ClassMembers flags named here end ms → ⊥
member-none none end ms (alone a k) = none _ _ a
member-none none end ms (from_to a e d le) = none _ _ a
member-none none end ms (no_range u a e d f) = none _ _ a

-- No class members are read at an atom if a range's dash follows it and no atom follows the dash.
pub member-no_end : {flags : Flags} {named : Bool} {here a b : RemainingCodePoints} {m : ClassMember} → ClassAtom flags named here a m → a ≡ 45 ∷ b → IsRangeDash a → ((end : RemainingCodePoints) (n : ClassMember) → ClassAtom flags named b end n → ⊥)
    → (end : RemainingCodePoints) (ms : List ClassMember) → ClassMembers flags named here end ms → ⊥
member-no_end p e r none end ms (alone q k) = let h = one_class_atom p q in k (subst IsRangeDash h.0 r)
member-no_end p e r none end ms (from_to q f d le) = let h = one_class_atom p q in none _ _ (atom_from (behind e (h.0 ∙ f)) d)
member-no_end p e r none end ms (no_range u q f d g) = let h = one_class_atom p q in none _ _ (atom_from (behind e (h.0 ∙ f)) d)

pub member-not_in_order : {flags : Flags} {named : Bool} {here a b there : RemainingCodePoints} {x y : ℕ} → ClassAtom flags named here a (character x) → a ≡ 45 ∷ b → ClassAtom flags named b there (character y) → y < x
    → (end : RemainingCodePoints) (ms : List ClassMember) → ClassMembers flags named here end ms → ⊥
member-not_in_order p e r less end ms (alone q k) = let h = one_class_atom p q in k (subst IsRangeDash h.0 (is_range e r))
member-not_in_order {x = x} {y = y} p e r less end ms (from_to {first = x'} {last = y'} q f d le) =
    let h = one_class_atom p q in
    let k = one_class_atom r (atom_from (behind e (h.0 ∙ f)) d) in
    let i : x ≡ x' = character_inj h.1 in
    let j : y ≡ y' = character_inj k.1 in
    let l : x' ≤ y' = le in
    omega arith
member-not_in_order p e r less end ms (no_range u q f d g) =
    let h = one_class_atom p q in
    let k = one_class_atom r (atom_from (behind e (h.0 ∙ f)) d) in true≢false (ap₂ are_characters h.1 k.1 ∙ g)

-- ---- Ranges up to the closing bracket

-- Ranges there give ranges here with `ms` in front, and ranges here need ranges there.
pub record RangesSoFar (flags : Flags) (named : Bool) (here there : RemainingCodePoints) (ms : List ClassMember) : Type 0 where
  pub on : (end : RemainingCodePoints) (others : List ClassMember) → ClassRanges flags named there end others → ClassRanges flags named here end (ms ++ others)
  pub back : (end : RemainingCodePoints) (all : List ClassMember) → ClassRanges flags named here end all → (others : List ClassMember) × ClassRanges flags named there end others

pub ranges-begin : {flags : Flags} {named : Bool} (here : RemainingCodePoints) → RangesSoFar flags named here here []
ranges-begin here = record { on = λ end others r. r; back = λ end all r. (all, r) }

pub ranges-next : {flags : Flags} {named : Bool} {here middle there : RemainingCodePoints} {ms ns : List ClassMember} → RangesSoFar flags named here middle ms → ClassMembers flags named middle there ns
    → RangesSoFar flags named here there (ms ++ ns)
ranges-next {flags} {named} {here} {middle} {there} {ms} {ns} s m = record {
  on = λ end others r. subst (ClassRanges flags named here end) (sym (append_assoc ms ns others)) (s.on end (ns ++ others) (more m r));
  back = λ end all r. let h = s.back end all r in by h.1;
}
  where
    by : {end : RemainingCodePoints} {others : List ClassMember} → ClassRanges flags named middle end others → (left : List ClassMember) × ClassRanges flags named there end left
    by (no_more e) = absurd (member_starts m e)
    by {end} (more {others = left} q r) = let h = one_member m q in (left, subst (λ x. ClassRanges flags named x end left) (sym h.0) r)

pub ranges-end : {flags : Flags} {named : Bool} {here middle there : RemainingCodePoints} {ms : List ClassMember} → RangesSoFar flags named here middle ms → middle ≡ 93 ∷ there → ClassRanges flags named here there ms
ranges-end {flags} {named} {here} {there = there} {ms = ms} s e = subst (ClassRanges flags named here there) (append-nil ms) (s.on there [] (no_more e))

pub ranges-none : {flags : Flags} {named : Bool} {here middle : RemainingCodePoints} {ms : List ClassMember} → RangesSoFar flags named here middle ms → (nat_eq (first middle) 93 ≡ false)
    → ((end : RemainingCodePoints) (ns : List ClassMember) → ClassMembers flags named middle end ns → ⊥) → (end : RemainingCodePoints) (all : List ClassMember) → ClassRanges flags named here end all → ⊥
ranges-none {flags} {named} {middle = middle} s other none end all r = let h = s.back end all r in by h.1
  where
    by : {end : RemainingCodePoints} {others : List ClassMember} → ClassRanges flags named middle end others → ⊥
    by (no_more e) = true≢false (ap (λ x. nat_eq (first x) 93) (sym e) ∙ other)
    by (more m r) = none _ _ m

-- No class members are read at the end of the text.
pub member-nothing : {flags : Flags} {named : Bool} {here : RemainingCodePoints} → here ≡ [] → (end : RemainingCodePoints) (ms : List ClassMember) → ClassMembers flags named here end ms → ⊥
member-nothing e = member-none (λ end m a. let h = atom_starts a in by (sym h.2 ∙ e))
  where
    by : {c : ℕ} {cs : RemainingCodePoints} → c ∷ cs ≡ [] → ⊥
    by f = cc

-- ---- Escapes of one letter

-- `tag` gives the length of the set of a class escape, and whether the escape is inverted.
abbrev tag : Option Profile.ClassMember → ℕ × Bool
tag (Some (Profile.class set invert)) = (length set, invert)
tag _ = (0, false)

letter-case : (flags : Flags) (set : Intervals) (inverts : Bool) (s : InvertibleSet) (base : CharacterClassType) (invert : Bool) → Some (Profile.class set inverts) ≡ Some (Profile.class (uninverted_digit_word_or_space_set base) invert)
    → ((length (uninverted_digit_word_or_space_set base) ≡ length set) → s.0 ≡ set_of_letter flags base) → s.1 ≡ inverts → Some s ≡ Some (set_of_letter flags base, invert)
letter-case flags set inverts s base invert e same sign =
    ap₂ (λ x y. Some (x, y)) (same (sym (ap (λ o. (tag o).0) e))) (sign ∙ ap (λ o. (tag o).1) e)

digits-only : (flags : Flags) (base : CharacterClassType) → length (uninverted_digit_word_or_space_set base) ≡ 1 → in_intervals digit_class ≡ set_of_letter flags base
digits-only flags Digits e = refl
digits-only flags WordCharacters e = absurd (omega (arith, e))
digits-only flags Spaces e = absurd (omega (arith, e))

words-only : (flags : Flags) (base : CharacterClassType) → length (uninverted_digit_word_or_space_set base) ≡ 4 → word_characters flags ≡ set_of_letter flags base
words-only flags Digits e = absurd (omega (arith, e))
words-only flags WordCharacters e = refl
words-only flags Spaces e = absurd (omega (arith, e))

spaces-only : (flags : Flags) (base : CharacterClassType) → length (uninverted_digit_word_or_space_set base) ≡ 10 → in_intervals space_class ≡ set_of_letter flags base
spaces-only flags Digits e = absurd (omega (arith, e))
spaces-only flags WordCharacters e = absurd (omega (arith, e))
spaces-only flags Spaces e = refl

-- A letter that the profile gives a base and an inversion has that base's set in ECMAScript.
pub letter-set : (flags : Flags) (base : CharacterClassType) (invert : Bool) (letter : ℕ) → Profile.class_escape letter ≡ Some (Profile.class (uninverted_digit_word_or_space_set base) invert)
    → class_escape_set flags letter ≡ Some (set_of_letter flags base, invert)
letter-set flags base invert letter e =
    by letter (or_cases (nat_eq letter 100) _ (class_letter (λ c. c ∈ "dDwWsS") letter refl e)) e
  where
    at : (letter n : ℕ) → nat_eq letter n ≡ true → (Profile.class_escape n ≡ Some (Profile.class (uninverted_digit_word_or_space_set base) invert) → class_escape_set flags n ≡ Some (set_of_letter flags base, invert))
        → Profile.class_escape letter ≡ Some (Profile.class (uninverted_digit_word_or_space_set base) invert) → class_escape_set flags letter ≡ Some (set_of_letter flags base, invert)
    at letter n f h e = let same = eqb-true letter n f in ap (class_escape_set flags) same ∙ h (ap Profile.class_escape (sym same) ∙ e)

    by : (letter : ℕ) → (nat_eq letter 100 ≡ true) ⊎ ((nat_eq letter 68 || (nat_eq letter 119 || (nat_eq letter 87 || (nat_eq letter 115 || (nat_eq letter 83 || false))))) ≡ true)
        → Profile.class_escape letter ≡ Some (Profile.class (uninverted_digit_word_or_space_set base) invert) → class_escape_set flags letter ≡ Some (set_of_letter flags base, invert)
    by letter (inl f) e = at letter 100 f (λ k. letter-case flags digit_class false (in_intervals digit_class, false) base invert k (digits-only flags base) refl) e
    by letter (inr f) e =
        ⊎_elim (λ g. at letter 68 g (λ k. letter-case flags digit_class true (in_intervals digit_class, true) base invert k (digits-only flags base) refl) e) (λ g.
        ⊎_elim (λ g. at letter 119 g (λ k. letter-case flags word_class false (word_characters flags, false) base invert k (words-only flags base) refl) e) (λ g.
        ⊎_elim (λ g. at letter 87 g (λ k. letter-case flags word_class true (word_characters flags, true) base invert k (words-only flags base) refl) e) (λ g.
        ⊎_elim (λ g. at letter 115 g (λ k. letter-case flags space_class false (in_intervals space_class, false) base invert k (spaces-only flags base) refl) e) (λ g.
        ⊎_elim (λ g. at letter 83 g (λ k. letter-case flags space_class true (in_intervals space_class, true) base invert k (spaces-only flags base) refl) e) (λ g. absurd (true≢false (sym g)))
        (or_cases (nat_eq letter 83) false g)) (or_cases (nat_eq letter 115) _ g)) (or_cases (nat_eq letter 87) _ g)) (or_cases (nat_eq letter 119) _ g)) (or_cases (nat_eq letter 68) _ f)

-- Canonical intervals with the members of an escape of one letter are the set of that escape.
pub letter-closed : (flags : Flags) (letter : ℕ) (s : InvertibleSet) (set : Intervals) → class_escape_set flags letter ≡ Some s → AreCanonicalIntervals set → ((c : ℕ) → in_intervals set c ≡ s.0 c)
    → IsSetOf flags (class s.0 ∷ []) set
letter-closed flags letter s set e apart same = record {
  apart = apart;
  same = λ c. (
    λ h. (c, or_left (s.0 c) false (sym (same c) ∙ h), refl),
    λ h. same c ∙ sym (classes-are-closed flags letter s e h.0 c h.2) ∙ ⊎_elim (λ k. k) (λ k. absurd (true≢false (sym k))) (or_cases (s.0 h.0) false h.1),
  );
}

words-all : (u : Bool) (c : ℕ) → (in_intervals word_class c || (u && nonascii_folds_to_ascii_word_char c)) ≡ is_word_char u c
words-all true c = grind arith
words-all false c = grind arith

-- ---- Atoms

pub atom-verbatim : {flags : Flags} {named : Bool} {rest : RemainingCodePoints} (c : ℕ) → (c ≡ 92 → ⊥) → (c ≡ 93 → ⊥) → ClassAtom flags named (c ∷ rest) rest (character c)
atom-verbatim c e f = verbatim refl (other_in_class c e f)

pub control-parts : (u b : Bool) → (not u && b) ≡ true → (u ≡ false) × (b ≡ true)
control-parts true b e = absurd (true≢false (sym e))
control-parts false b e = (refl, e)

pub atom-backslash : {flags : Flags} {named : Bool} {here : RemainingCodePoints} → (not flags.unicode && begins_with_characters "c" here) ≡ true
    → ((end : RemainingCodePoints) (m : ClassMember) → ClassEscape flags named here end m → ⊥) → ClassAtom flags named (92 ∷ here) here (character 92)
atom-backslash {flags} e none = let h = control-parts flags.unicode _ e in backslash h.0 refl h.1 (λ k. none k.0 k.1 k.2)

no-atom : {flags : Flags} {named : Bool} {here : RemainingCodePoints} → (not flags.unicode && begins_with_characters "c" here) ≡ false
    → ((end : RemainingCodePoints) (m : ClassMember) → ClassEscape flags named here end m → ⊥) → (end : RemainingCodePoints) (m : ClassMember) → ClassAtom flags named (92 ∷ here) end m → ⊥
no-atom no_c none end m (verbatim e f) = true≢false (sym (ap (λ c. c ∈ "\\]") (sym (ap first e))) ∙ f)
no-atom {flags} {named} no_c none end m (escaped e d) = none end m (subst (λ x. ClassEscape flags named x end m) (sym (ap rest_of e)) d)
no-atom {flags} {here = here} no_c none end m (backslash u e f k) =
    true≢false (sym (ap (λ b. not b && begins_with_characters "c" here) u ∙ ap (λ x. begins_with_characters "c" x) (ap rest_of e) ∙ f) ∙ no_c)

pub atom-escaped : {A : Type 0} (of : A → ClassMember) (flags : Flags) (named : Bool) (here : RemainingCodePoints) (r : Result A ParseStopReason) (there : RemainingCodePoints)
    → (not flags.unicode && begins_with_characters "c" here) ≡ false → IsReadOrSyntaxError of (ClassEscape flags named here) r there → IsReadOrSyntaxError of (ClassAtom flags named (92 ∷ here)) r there
atom-escaped of flags named here (Ok a) there no_c h = escaped refl h
atom-escaped of flags named here (Err e) there no_c h = λ r. no-atom no_c (h r)

-- ---- Escapes, in the order of the alternatives

pub letter-escape : {flags : Flags} {named : Bool} {here there : RemainingCodePoints} (base : CharacterClassType) (invert : Bool) (letter : ℕ) → here ≡ letter ∷ there
    → Profile.class_escape letter ≡ Some (Profile.class (uninverted_digit_word_or_space_set base) invert) → ClassEscape flags named here there (class (is_in_invertible_set (set_of_letter flags base, invert)))
letter-escape {flags} base invert letter e f = class_escape (by_letter e (letter-set flags base invert letter f))

-- If the peeked letter escapes a class, reading it reads the escape of that class.
pub letter-read : {flags : Flags} {named : Bool} (here there : RemainingCodePoints) (o r : Option ℕ) (base : CharacterClassType) (invert : Bool) → o ≡ first_char_if_any here
    → class_escape_of_letter o ≡ Some (Profile.class (uninverted_digit_word_or_space_set base) invert) → IsCodePointReadIfAny here r there → ClassEscape flags named here there (class (is_in_invertible_set (set_of_letter flags base, invert)))
letter-read here there o None base invert e f n = absurd (none (ap class_escape_of_letter (sym (e ∙ ap first_char_if_any n.0)) ∙ f))
  where
    none : {A : Type 0} {x : A} → None ≡ Some x → ⊥
    none e = cc
letter-read {flags} {named} here there o (Some c) base invert e f n = letter-escape base invert c n (by (is_scalar c) (sym (ap class_escape_of_letter (e ∙ ap first_char_if_any n)) ∙ f))
  where
    by : (b : Bool) → class_escape_of_letter (if b then Some c else None) ≡ Some (Profile.class (uninverted_digit_word_or_space_set base) invert) → Profile.class_escape c ≡ Some (Profile.class (uninverted_digit_word_or_space_set base) invert)
    by true g = g
    by false g = absurd cc

-- If the peeked code point is no letter of a class escape, no such letter begins the text.
no-letter : (flags : Flags) (here : RemainingCodePoints) (o : Option ℕ) → o ≡ first_char_if_any here → class_escape_of_letter o ≡ None → (letter : ℕ) (rest : RemainingCodePoints) (s : InvertibleSet) → here ≡ letter ∷ rest
    → class_escape_set flags letter ≡ Some s → ⊥
no-letter flags here o e f letter rest s g h =
    by (is_scalar letter) (ecma_class_letter is_scalar flags letter refl h) (sym (ap class_escape_of_letter (e ∙ ap first_char_if_any g)) ∙ f)
  where
    some : is_some (Profile.class_escape letter) ≡ true
    some = ecma_class_letter (λ c. is_some (Profile.class_escape c)) flags letter refl h

    by : (b : Bool) → b ≡ true → class_escape_of_letter (if b then Some letter else None) ≡ None → ⊥
    by true k g = true≢false (sym some ∙ ap is_some g)
    by false k g = true≢false (sym k)

-- No class escape is read if no letter of one is here and, with `u`, neither `p` nor `P` is.
pub no-class_escape : {flags : Flags} {here : RemainingCodePoints} (o : Option ℕ) → o ≡ first_char_if_any here → class_escape_of_letter o ≡ None
    → (flags.unicode ≡ true → (invert : Bool) (rest : RemainingCodePoints) → here ≡ (if invert then 80 else 112) ∷ rest → ⊥)
    → (end : RemainingCodePoints) (s : ℕ → Bool) → CharacterClassEscape flags here end s → ⊥
no-class_escape {flags} {here} o e f none end s (by_letter {letter = l} {s = t} g h) = no-letter flags here o e f l end t g h
no-class_escape o e f none end s (by_property {a = a} false u g p) = none u false a g
no-class_escape o e f none end s (by_property {a = a} true u g p) = none u true a g

-- A text that begins with the code of `P` or `p` begins with that word.
pub property-begin : (invert : Bool) {here a : RemainingCodePoints} → here ≡ (if invert then 80 else 112) ∷ a → here ≡ codes (if invert then "P" else "p") ++ a
property-begin true e = e
property-begin false e = e

pub property-escape : {flags : Flags} {named : Bool} {here a there : RemainingCodePoints} {p : SpecProperty} (invert : Bool) → (flags.unicode ≡ true) × (here ≡ (if invert then 80 else 112) ∷ a) → PropertyExpression a there p
    → ClassEscape flags named here there (class (is_in_invertible_set (has_property p, invert)))
property-escape invert h d = class_escape (by_property invert h.0 (property-begin invert h.1) d)

no-property : {flags : Flags} {here a : RemainingCodePoints} (invert : Bool) → here ≡ (if invert then 80 else 112) ∷ a → ((end : RemainingCodePoints) (p : SpecProperty) → PropertyExpression a end p → ⊥)
    → (end : RemainingCodePoints) (s : ℕ → Bool) → CharacterClassEscape flags here end s → ⊥
no-property {flags} invert e none end s (by_letter {letter = l} g h) = by invert (sym (ap first e) ∙ ap first g)
  where
    by : (b : Bool) → (if b then 80 else 112) ≡ l → ⊥
    by true k = apart (λ c. not (c ∈ "pP")) (ecma_class_letter (λ c. not (c ∈ "pP")) flags l refl h) refl (sym k)
    by false k = apart (λ c. not (c ∈ "pP")) (ecma_class_letter (λ c. not (c ∈ "pP")) flags l refl h) refl (sym k)
no-property invert e none end s (by_property {a = b} {p = p} other u g d) = none end p (property-from (same-rest invert other e g) d)
  where
    same-rest : (invert other : Bool) {here a b : RemainingCodePoints} → here ≡ (if invert then 80 else 112) ∷ a → here ≡ codes (if other then "P" else "p") ++ b → a ≡ b
    same-rest true true e g = behind e g
    same-rest true false e g = behind e g
    same-rest false true e g = behind e g
    same-rest false false e g = behind e g

pub no-character : (flags : Flags) (named : Bool) {here a : RemainingCodePoints} (invert : Bool) → flags.unicode ≡ true → here ≡ (if invert then 80 else 112) ∷ a
    → (end : RemainingCodePoints) (c : ℕ) → CharacterEscape (grammar_parameters flags named) here end c → ⊥
no-character flags named false u e end c (non_identity_escape p) = true≢false (sym (proper-kind p (ap (λ x. escape_kind (first x)) e)) ∙ ap (λ x. is_control_letter (first x)) e)
no-character flags named true u e end c (non_identity_escape p) = true≢false (sym (proper-kind p (ap (λ x. escape_kind (first x)) e)) ∙ ap (λ x. is_control_letter (first x)) e)
no-character flags named false u e end c (identity_escape f i k) =
    true≢false (sym (ap (is_identity_escape (grammar_parameters flags named)) (firsts e f) ∙ i) ∙ ap (λ b. is_identity_escape (record { unicode = b; named_groups = named }) 112) u)
no-character flags named true u e end c (identity_escape f i k) =
    true≢false (sym (ap (is_identity_escape (grammar_parameters flags named)) (firsts e f) ∙ i) ∙ ap (λ b. is_identity_escape (record { unicode = b; named_groups = named }) 80) u)

-- At `p` or `P` with `u`, no class escape is read if no simple escape and no property is there.
pub no-property_escape : {flags : Flags} {named : Bool} {here a : RemainingCodePoints} (invert : Bool) → (flags.unicode ≡ true) × (here ≡ (if invert then 80 else 112) ∷ a)
    → ((end : RemainingCodePoints) (c : ℕ) → SimpleClassEscape flags here end c → ⊥) → ((end : RemainingCodePoints) (p : SpecProperty) → PropertyExpression a end p → ⊥)
    → (end : RemainingCodePoints) (m : ClassMember) → ClassEscape flags named here end m → ⊥
no-property_escape invert h no_simple none end m (simple_escape d) = no_simple _ _ d
no-property_escape invert h no_simple none end m (class_escape d) = no-property invert h.1 none _ _ d
no-property_escape {flags} {named} invert h no_simple none end m (character_escape d k l) = no-character flags named invert h.0 h.1 _ _ d

pub no-escape : {flags : Flags} {named : Bool} {here : RemainingCodePoints} → ((end : RemainingCodePoints) (c : ℕ) → SimpleClassEscape flags here end c → ⊥)
    → ((end : RemainingCodePoints) (s : ℕ → Bool) → CharacterClassEscape flags here end s → ⊥)
    → ((end : RemainingCodePoints) (c : ℕ) → CharacterEscape (grammar_parameters flags named) here end c → ⊥)
    → (end : RemainingCodePoints) (m : ClassMember) → ClassEscape flags named here end m → ⊥
no-escape no_simple no_class none end m (simple_escape d) = no_simple _ _ d
no-escape no_simple no_class none end m (class_escape d) = no_class _ _ d
no-escape no_simple no_class none end m (character_escape d k l) = none _ _ d

-- ---- Alternatives before CharacterClassEscape

pub control-escape : (flags : Flags) (here there : RemainingCodePoints) (r : Option ℕ) → flags.unicode ≡ false → ((rest : RemainingCodePoints) → here ≡ 98 ∷ rest → ⊥) → IsClassControlRead here r there
    → IsSimpleClassEscapeRead flags here r there
control-escape flags here there (Some c) u no_b h = subst (SimpleClassEscape flags here there) (sym h.3) (class_control_letter u h.1 h.2)
control-escape flags here there None u no_b h = (h.0, none)
  where
    none : (end : RemainingCodePoints) (c : ℕ) → SimpleClassEscape flags here end c → ⊥
    none end c (backspace e) = no_b _ e
    none end c (dash v e) = true≢false (sym v ∙ u)
    none end c (class_control_letter v e k) = h.1 _ _ e k

pub no-dash : {flags : Flags} {here : RemainingCodePoints} → flags.unicode ≡ true → ((rest : RemainingCodePoints) → here ≡ 98 ∷ rest → ⊥) → ((rest : RemainingCodePoints) → here ≡ 45 ∷ rest → ⊥)
    → (end : RemainingCodePoints) (c : ℕ) → SimpleClassEscape flags here end c → ⊥
no-dash u no_b no_dash end c (backspace e) = no_b _ e
no-dash u no_b no_dash end c (dash v e) = no_dash _ e
no-dash u no_b no_dash end c (class_control_letter v e k) = true≢false (sym u ∙ v)

-- ---- Results that follow from those of other readers

pub err-member : {flags : Flags} {named : Bool} {here : RemainingCodePoints} (old new : List Interval) (there : RemainingCodePoints) (r : Result (Unit {0}) ParseStopReason) (e : ParseStopReason) {P : ParseStopReason → Type 0}
    → IsErrAnd r P → ((x : ParseStopReason) → P x → x ≡ e)
    → (IsTrue (is_syntax_error e) → (end : RemainingCodePoints) (ms : List ClassMember) → ClassMembers flags named here end ms → ⊥) → IsEcmaMemberRead flags named here old r new there
err-member old new there (Ok u) e h same none = absurd h
err-member old new there (Err x) e h same none = λ r. none (sym (ap is_syntax_error (same x h)) ∙ r)

pub err-ranges : {P : ParseStopReason → Type 0} {flags : Flags} {named : Bool} {here : RemainingCodePoints} (there : RemainingCodePoints) (r : Result Intervals ParseStopReason) (e : ParseStopReason) → IsErrAnd r P → ((x : ParseStopReason) → P x → x ≡ e)
    → (IsTrue (is_syntax_error e) → (end : RemainingCodePoints) (ms : List ClassMember) → ClassRanges flags named here end ms → ⊥) → AreEcmaRangesRead flags named here r there
err-ranges there (Ok s) e h same none = absurd h
err-ranges there (Err x) e h same none = λ r. none (sym (ap is_syntax_error (same x h)) ∙ r)

pub err-or : {A B : Type 0} {P : ParseStopReason → Type 0} (of : A → B) (reads : RemainingCodePoints → B → Type 0) (there : RemainingCodePoints) (r : Result A ParseStopReason) (e : ParseStopReason) → IsErrAnd r P → ((x : ParseStopReason) → P x → x ≡ e)
    → (IsTrue (is_syntax_error e) → (end : RemainingCodePoints) (b : B) → reads end b → ⊥) → IsReadOrSyntaxError of reads r there
err-or of reads there (Ok s) e h same none = absurd h
err-or of reads there (Err x) e h same none = λ r. none (sym (ap is_syntax_error (same x h)) ∙ r)

-- Ranges after a possible `^` make a character class.
pub class-read : {flags : Flags} {named : Bool} {here middle there : RemainingCodePoints} {ms : List ClassMember} {set : Intervals} (invert : Bool)
    → IsEaten 94 here invert middle → ClassRanges flags named middle there ms → IsSetOf flags ms set → CharacterClass flags named here there (record { invert = invert; intervals = set })
class-read true e r s = inverted e r s
class-read {flags} {named} {here} {middle} {there} {ms} {set} false e r s = plain (no_sign "^" 94 refl here e.1) (subst (λ x. ClassRanges flags named x there ms) e.0 r) s

-- ---- Escapes of one letter as sets

pub base-closed : (flags : Flags) (base : CharacterClassType) (set : Intervals) → AreCanonicalIntervals set → ((c : ℕ) → in_intervals set c ≡ set_of_letter flags base c)
    → IsSetOf flags (class (set_of_letter flags base) ∷ []) set
base-closed flags Digits set apart same = letter-closed flags 100 (in_intervals digit_class, false) set refl apart same
base-closed flags WordCharacters set apart same = letter-closed flags 119 (word_characters flags, false) set refl apart same
base-closed flags Spaces set apart same = letter-closed flags 115 (in_intervals space_class, false) set refl apart same

-- ---- Ranges

member-no_union : {flags : Flags} {named : Bool} {here a b there : RemainingCodePoints} {m n : ClassMember} → flags.unicode ≡ true → ClassAtom flags named here a m → a ≡ 45 ∷ b → ClassAtom flags named b there n
    → are_characters m n ≡ false → (end : RemainingCodePoints) (ms : List ClassMember) → ClassMembers flags named here end ms → ⊥
member-no_union u p e r none end ms (alone q k) = let h = one_class_atom p q in k (subst IsRangeDash h.0 (is_range e r))
member-no_union u p e r none end ms (from_to q f d le) =
    let h = one_class_atom p q in
    let k = one_class_atom r (atom_from (behind e (h.0 ∙ f)) d) in true≢false (sym (ap₂ are_characters h.1 k.1) ∙ none)
member-no_union u p e r none end ms (no_range v q f d g) = true≢false (sym u ∙ v)

no-range : {A : Type 0} {i : Interval} → ◌≡◌ {A = Option Interval} (Some i) None → A
no-range e = absurd (true≢false (ap is_some e))

-- If two atoms around a dash make an interval, members are read that add that interval.
pub member-range : {flags : Flags} {named : Bool} {here a b there : RemainingCodePoints} (first second : AtomValue) (i : Interval) (old : List Interval)
    → ClassAtom flags named here a (member_of_atom flags first) → a ≡ 45 ∷ b → ClassAtom flags named b there (member_of_atom flags second) → IsRangeOrCause first second flags.unicode (Ok (Some i))
    → (ms : List ClassMember) × ClassMembers flags named here there ms × AddsEcmaMembers old (old ++ i ∷ []) ms
member-range (Character c) (Character d) i old p e q h =
    (range c d ∷ [], from_to p e q h.0, λ x. ap₂ (λ f l. is_in_any_interval (old ++ record { first = f; last = l } ∷ []) x) h.1 h.2 ∙ adds-range old c d x)
member-range (Character c) (Letter l) i old p e q h = no-range h.1
member-range (Character c) (Property r invert) i old p e q h = no-range h.1
member-range (Letter l) second i old p e q h = no-range h.1
member-range (Property r invert) second i old p e q h = no-range h.1

-- If two atoms around a dash make no range, they are members, and the dash denotes itself.
pub member-apart : {flags : Flags} {named : Bool} {here a b there : RemainingCodePoints} (first second : AtomValue)
    → ClassAtom flags named here a (member_of_atom flags first) → a ≡ 45 ∷ b → ClassAtom flags named b there (member_of_atom flags second) → IsRangeOrCause first second flags.unicode (Ok None)
    → ClassMembers flags named here there (member_of_atom flags first ∷ character 45 ∷ member_of_atom flags second ∷ [])
member-apart (Character c) (Character d) p e q h = absurd h
member-apart (Character c) (Letter l) p e q h = no_range h.0 p e q refl
member-apart (Character c) (Property r invert) p e q h = no_range h.0 p e q refl
member-apart (Letter l) second p e q h = no_range h.0 p e q refl
member-apart (Property r invert) second p e q h = no_range h.0 p e q refl

-- If two atoms around a dash make a wrong range, no class members are read.
pub member-wrong : {flags : Flags} {named : Bool} {here a b there : RemainingCodePoints} (first second : AtomValue) (cause : Cause)
    → ClassAtom flags named here a (member_of_atom flags first) → a ≡ 45 ∷ b → ClassAtom flags named b there (member_of_atom flags second) → IsRangeOrCause first second flags.unicode (Err cause)
    → (end : RemainingCodePoints) (ms : List ClassMember) → ClassMembers flags named here end ms → ⊥
member-wrong (Character c) (Character d) cause p e q h = member-not_in_order p e q h
member-wrong (Character c) (Letter l) cause p e q h = member-no_union h p e q refl
member-wrong (Character c) (Property r invert) cause p e q h = member-no_union h p e q refl
member-wrong (Letter l) second cause p e q h = member-no_union h p e q refl
member-wrong (Property r invert) second cause p e q h = member-no_union h p e q refl
