-- The class reader reads the members and sets that the profile's grammar specifies.
use Rattle.std.proofs.Common.{◌≡◌, ℕ, ◌<◌, ◌≤◌, ◌⊎◌, inl, inr, Bool, true, false, not, ◌&&◌, ◌||◌, List, [], ◌∷◌, ◌++◌, true≢false, ⊎_elim, nat_eq, refl, sym, ap, ap₂, subst, ◌∙◌, arith}
use Rattle.std.proofs.Common.{append_assoc, append-nil, Some, None}
use Rattle.std.specs.Prelude.{if◌then◌else◌, ◌==◌, nat_le, Option, Result, Ok, Err, IfOk, OnOk, IsErr, IsTrue}
use Rattle.std.specs.Result.{IsErrAnd}
use Rattle.std.specs.List.{list_any}
use Rattle.std.proofs.lemmas.Bool.{ne_eqb, eqb-true, or_cases}
use Rattle.std.proofs.Math.Bool.{or-false}
use Rattle.regex_meaning.specs.Tree.{Intervals, Flags}
use Rattle.regex_meaning.specs.Outcomes.{in_intervals}
use Rattle.regex_meaning.specs.Text.{expand_code_point, is_scalar}
use Rattle.regex_meaning.specs.ReadingStatesAndDigits.{RemainingCodePoints, ◌∈◌}
use Rattle.regex_meaning.specs.EscapesNamesQuantifiers.{CharacterEscape}
use Rattle.regex_meaning.specs.CharacterClasses.{ClassMember, character, range, class, class_escape, closed_under_case_folding, class_member_contains, AreCanonicalIntervals, IsSetOf, ClassAtom}
use Rattle.regex_meaning.specs.CharacterClasses.{verbatim, no_more, more, CharacterClass, plain, inverted, has_set_operation}
use Rattle.regex_meaning.specs.CharacterClasses.{of_class, backspace, escaped, are_characters, IsRangeDash, ClassMembers, alone, from_to, no_range, ClassRanges}
use Rattle.regex_meaning.proofs.DisjunctionReadingLemmas.{first, rest_of}
use Rattle.regex_meaning.proofs.EscapesAndNamesLemmas.{behind}
use Rattle.regex_meaning.proofs.ClassAndAtomLemmas.{class_letter, one_class_atom, atom_starts, is_range, atom_from, character_inj, one_member, member_starts}
use Rattle.regex_pattern_front.specs.declared.codepointset.Interval.{Interval}
use Rattle.regex_parser.specs.declared.parser_error.ParseStopReason.{ParseStopReason}
use Rattle.regex_parser.specs.CodePointReaderContracts.{is_syntax_error, first_char_if_any, IsEaten, IsCodePointReadIfAny, IsUnescapedRead, IsReadAndErrorMeansUnreadable}
use Rattle.regex_parser.specs.ClassReaderContracts.{is_in_any_interval, class_escape_of_letter, begins_nested_class_or_operation, IsCaseClosureOfTest, AddsMembers, IsClassMemberRead}
use Rattle.regex_parser.specs.ClassReaderContracts.{AreClassRangesRead}
use Rattle.regex_parser.proofs.ClassMemberListLemmas.{held-append, added-set, added-more, other_in_class}
use Rattle.regex_parser.proofs.LetterCaseClosureLemmas.{closed-twice}
use Rattle.regex_parser.proofs.NumberReaderLemmas.{no_sign}

-- ---- Closed sets

any-same : (f g : ℕ → Bool) (xs : List ℕ) → ((d : ℕ) → f d ≡ g d) → list_any f xs ≡ list_any g xs
any-same f g [] h = refl
any-same f g (x ∷ xs) h = ap₂ (λ a b. a || b) (h x) (any-same f g xs h)

closed-same : (flags : Flags) (f g : ℕ → Bool) (c : ℕ) → ((d : ℕ) → f d ≡ g d) → closed_under_case_folding flags f c ≡ closed_under_case_folding flags g c
closed-same flags f g c h = any-same f g (expand_code_point c flags.icase flags.unicode) h

pub closure-plain : (flags : Flags) (test : ℕ → Bool) (set : Intervals) → flags.icase ≡ false → AreCanonicalIntervals set → ((c : ℕ) → in_intervals set c ≡ test c)
    → IsCaseClosureOfTest flags test set
unfolding expand_code_point
closure-plain flags test set e apart same = record { apart = apart; same = λ c. same c ∙ sym (or-false (test c)) ∙ by flags.icase e c }
  where
    by : (b : Bool) → b ≡ false → (c : ℕ) → (test c || false) ≡ list_any test (expand_code_point c b flags.unicode)
    by false e c = refl
    by true e c = absurd (true≢false e)

pub closure-all : (flags : Flags) (test first last : ℕ → Bool) (set : Intervals) → flags.icase ≡ true → ((c : ℕ) → first c ≡ test c)
    → ((c : ℕ) → last c ≡ list_any first (expand_code_point c true flags.unicode)) → AreCanonicalIntervals set → ((c : ℕ) → in_intervals set c ≡ last c)
    → IsCaseClosureOfTest flags test set
closure-all flags test first last set e is closed_under_case_folding apart same = record {
  apart = apart;
  same = λ c. same c ∙ closed_under_case_folding c ∙ any-same first test (expand_code_point c true flags.unicode) is
      ∙ ap (λ b. list_any test (expand_code_point c b flags.unicode)) (sym e);
}

-- The case closure of the intervals of a class is the set of that class.
pub set-of_class : (flags : Flags) (base set : Intervals) (test : ℕ → Bool) → ((c : ℕ) → test c ≡ in_intervals base c) → IsCaseClosureOfTest flags test set
    → IsSetOf flags (class base false ∷ []) set
set-of_class flags base set test e s = record {
  apart = s.apart;
  same = λ c.
      s.same c ∙ closed-same flags test (in_intervals base) c e ∙ sym (closed-twice flags (in_intervals base) c)
      ∙ closed-same flags (closed_under_case_folding flags (in_intervals base)) (λ d. closed_under_case_folding flags (in_intervals base) d || false) c (λ d. sym (or-false _));
}

-- The set of a class has exactly the numbers that the class contains.
pub class-has : (flags : Flags) (base set : Intervals) → IsSetOf flags (class base false ∷ []) set → (c : ℕ) → in_intervals set c ≡ class_member_contains flags c (class base false)
class-has flags base set s c =
    s.same c ∙ closed-same flags (λ d. closed_under_case_folding flags (in_intervals base) d || false) (closed_under_case_folding flags (in_intervals base)) c (λ d. or-false _)
    ∙ closed-twice flags (in_intervals base) c

pub class-has_not : (flags : Flags) (base set other : Intervals) → IsSetOf flags (class base false ∷ []) set
    → ((c : ℕ) → in_intervals other c ≡ (nat_le c 0x10_FFFF && not (in_intervals set c))) → (c : ℕ) → in_intervals other c ≡ class_member_contains flags c (class base true)
class-has_not flags base set other s e c = e c ∙ ap (λ b. nat_le c 0x10_FFFF && not b) (class-has flags base set s c)

-- ---- Intervals added

pub adds-none : (flags : Flags) (xs : List Interval) → AddsMembers flags xs xs []
adds-none flags xs c = sym (or-false (is_in_any_interval xs c))

pub adds-range : (flags : Flags) (xs : List Interval) (first last : ℕ) → AddsMembers flags xs (xs ++ record { first = first; last = last } ∷ []) (range first last ∷ [])
adds-range flags xs first last c = held-append xs (record { first = first; last = last } ∷ []) c

pub adds-set : (flags : Flags) (xs ys : List Interval) (m : ClassMember) → ((c : ℕ) → is_in_any_interval ys c ≡ class_member_contains flags c m) → AddsMembers flags xs (xs ++ ys) (m ∷ [])
adds-set flags xs ys m e = added-set (class_member_contains flags) xs ys m e

pub adds-more : (flags : Flags) (xs ys zs : List Interval) (ms ns : List ClassMember) → AddsMembers flags xs ys ms → AddsMembers flags ys zs ns → AddsMembers flags xs zs (ms ++ ns)
adds-more flags xs ys zs ms ns a b = added-more (class_member_contains flags) xs ys zs ms ns a b

-- The case closure of the intervals that members add to none is the set of the members.
pub set-of_members : (flags : Flags) (xs : List Interval) (ms : List ClassMember) (set : Intervals) → AddsMembers flags [] xs ms → IsCaseClosureOfTest flags (is_in_any_interval xs) set → IsSetOf flags ms set
set-of_members flags xs ms set a s = record {
  apart = s.apart;
  same = λ c. s.same c ∙ closed-same flags (is_in_any_interval xs) (λ d. list_any (class_member_contains flags d) ms) c a;
}

-- ---- Atoms

pub atom-verbatim : {flags : Flags} {rest : RemainingCodePoints} (c : ℕ) → (c ≡ 92 → ⊥) → (c ≡ 93 → ⊥) → ClassAtom flags (c ∷ rest) rest (character c)
atom-verbatim c e f = verbatim refl (other_in_class c e f)

-- A backslash begins no class atom if no class letter, no `b` and no character escape follows.
pub no_atom : {flags : Flags} {here : RemainingCodePoints} → ((letter : ℕ) (there : RemainingCodePoints) (m : ClassMember) → here ≡ letter ∷ there → class_escape letter ≡ Some m → ⊥)
    → ((there : RemainingCodePoints) → here ≡ 98 ∷ there → ⊥) → ((end : RemainingCodePoints) (c : ℕ) → CharacterEscape flags.unicode here end c → ⊥)
    → (end : RemainingCodePoints) (m : ClassMember) → ClassAtom flags (92 ∷ here) end m → ⊥
no_atom no_class no_b none end m (verbatim e f) = true≢false (sym (ap (λ c. c ∈ "\\]") (sym (ap first e))) ∙ f)
no_atom no_class no_b none end m (of_class {letter = l} {there = there} e f) = no_class l there m (ap rest_of e) f
no_atom no_class no_b none end m (backspace {there = there} e) = no_b there (ap rest_of e)
no_atom {flags} no_class no_b none end m (escaped {c = c} e d) = none end c (subst (λ x. CharacterEscape flags.unicode x end c) (sym (ap rest_of e)) d)

-- ---- Members

pub member-none : {flags : Flags} {here : RemainingCodePoints} → ((end : RemainingCodePoints) (m : ClassMember) → ClassAtom flags here end m → ⊥) → (end : RemainingCodePoints) (ms : List ClassMember) → ClassMembers flags here end ms → ⊥
member-none none end ms (alone a k) = none _ _ a
member-none none end ms (from_to a e d le) = none _ _ a
member-none none end ms (no_range a e d f) = none _ _ a

-- No class members are read at an atom if a range's dash follows it and no atom follows the dash.
pub member-no_end : {flags : Flags} {here a b : RemainingCodePoints} {m : ClassMember} → ClassAtom flags here a m → a ≡ 45 ∷ b → IsRangeDash a → ((end : RemainingCodePoints) (n : ClassMember) → ClassAtom flags b end n → ⊥)
    → (end : RemainingCodePoints) (ms : List ClassMember) → ClassMembers flags here end ms → ⊥
member-no_end p e r none end ms (alone q k) = let h = one_class_atom p q in k (subst IsRangeDash h.0 r)
member-no_end p e r none end ms (from_to q f d le) = let h = one_class_atom p q in none _ _ (atom_from (behind e (h.0 ∙ f)) d)
member-no_end p e r none end ms (no_range q f d g) = let h = one_class_atom p q in none _ _ (atom_from (behind e (h.0 ∙ f)) d)

pub member-not_in_order : {flags : Flags} {here a b there : RemainingCodePoints} {x y : ℕ} → ClassAtom flags here a (character x) → a ≡ 45 ∷ b → ClassAtom flags b there (character y) → y < x
    → (end : RemainingCodePoints) (ms : List ClassMember) → ClassMembers flags here end ms → ⊥
member-not_in_order p e r less end ms (alone q k) = let h = one_class_atom p q in k (subst IsRangeDash h.0 (is_range e r))
member-not_in_order {x = x} {y = y} p e r less end ms (from_to {first = x'} {last = y'} q f d le) =
    let h = one_class_atom p q in
    let k = one_class_atom r (atom_from (behind e (h.0 ∙ f)) d) in
    let i : x ≡ x' = character_inj h.1 in
    let j : y ≡ y' = character_inj k.1 in
    let l : x' ≤ y' = le in
    omega arith
member-not_in_order p e r less end ms (no_range q f d g) =
    let h = one_class_atom p q in
    let k = one_class_atom r (atom_from (behind e (h.0 ∙ f)) d) in true≢false (ap₂ are_characters h.1 k.1 ∙ g)

-- ---- Ranges up to the closing bracket

-- Ranges there give ranges here with `ms` in front, and ranges here need ranges there.
pub record RangesSoFar (flags : Flags) (here there : RemainingCodePoints) (ms : List ClassMember) : Type 0 where
  pub on : (end : RemainingCodePoints) (others : List ClassMember) → ClassRanges flags there end others → ClassRanges flags here end (ms ++ others)
  pub back : (end : RemainingCodePoints) (all : List ClassMember) → ClassRanges flags here end all → (others : List ClassMember) × ClassRanges flags there end others

pub ranges-begin : {flags : Flags} (here : RemainingCodePoints) → RangesSoFar flags here here []
ranges-begin here = record { on = λ end others r. r; back = λ end all r. (all, r) }

pub ranges-next : {flags : Flags} {here middle there : RemainingCodePoints} {ms ns : List ClassMember} → RangesSoFar flags here middle ms → ClassMembers flags middle there ns
    → RangesSoFar flags here there (ms ++ ns)
ranges-next {flags} {here} {middle} {there} {ms} {ns} s m = record {
  on = λ end others r. subst (ClassRanges flags here end) (sym (append_assoc ms ns others)) (s.on end (ns ++ others) (more m r));
  back = λ end all r. let h = s.back end all r in by h.1;
}
  where
    by : {end : RemainingCodePoints} {others : List ClassMember} → ClassRanges flags middle end others → (left : List ClassMember) × ClassRanges flags there end left
    by (no_more e) = absurd (member_starts m e)
    by {end} (more {others = left} q r) = let h = one_member m q in (left, subst (λ x. ClassRanges flags x end left) (sym h.0) r)

pub ranges-end : {flags : Flags} {here middle there : RemainingCodePoints} {ms : List ClassMember} → RangesSoFar flags here middle ms → middle ≡ 93 ∷ there → ClassRanges flags here there ms
ranges-end {flags} {here} {there = there} {ms = ms} s e = subst (ClassRanges flags here there) (append-nil ms) (s.on there [] (no_more e))

pub ranges-none : {flags : Flags} {here middle : RemainingCodePoints} {ms : List ClassMember} → RangesSoFar flags here middle ms → (nat_eq (first middle) 93 ≡ false)
    → ((end : RemainingCodePoints) (ns : List ClassMember) → ClassMembers flags middle end ns → ⊥) → (end : RemainingCodePoints) (all : List ClassMember) → ClassRanges flags here end all → ⊥
ranges-none {flags} {middle = middle} s other none end all r = let h = s.back end all r in by h.1
  where
    by : {end : RemainingCodePoints} {others : List ClassMember} → ClassRanges flags middle end others → ⊥
    by (no_more e) = true≢false (ap (λ x. nat_eq (first x) 93) (sym e) ∙ other)
    by (more m r) = none _ _ m

-- No class members are read at the end of the text.
pub member-nothing : {flags : Flags} {here : RemainingCodePoints} → here ≡ [] → (end : RemainingCodePoints) (ms : List ClassMember) → ClassMembers flags here end ms → ⊥
member-nothing e = member-none (λ end m a. let h = atom_starts a in by (sym h.2 ∙ e))
  where
    by : {c : ℕ} {cs : RemainingCodePoints} → c ∷ cs ≡ [] → ⊥
    by f = cc

-- ---- Results of calls

pub ok-map : {A E : Type 0} {P Q : A → Type 0} (r : Result A E) → IfOk r P → ((a : A) → P a → Q a) → IfOk r Q
ok-map (Ok a) h f = f a h
ok-map (Err e) h f = tt

pub ok-both : {A E : Type 0} {P Q R : A → Type 0} (r : Result A E) → IfOk r P → IfOk r Q → ((a : A) → P a → Q a → R a) → IfOk r R
ok-both (Ok a) h k f = f a h k
ok-both (Err e) h k f = tt

pub ok-on : {A E : Type 0} (P : Type 0) {Q : Type 0} (r : Result A E) → OnOk r P → (P → Q) → OnOk r Q
ok-on P (Ok a) h f = f h
ok-on P (Err e) h f = tt

-- ---- Class escapes

pub atom-class : {flags : Flags} (here there : RemainingCodePoints) (o r : Option ℕ) (m : ClassMember) → o ≡ first_char_if_any here → class_escape_of_letter o ≡ Some m → IsCodePointReadIfAny here r there
    → ClassAtom flags (92 ∷ here) there m
atom-class here there o None m e f n = absurd (none (ap class_escape_of_letter (sym (e ∙ ap first_char_if_any n.0)) ∙ f))
  where
    none : {A : Type 0} {x : A} → None ≡ Some x → ⊥
    none e = cc
atom-class here there o (Some c) m e f n = of_class {letter = c} (ap (λ x. 92 ∷ x) n) (by (is_scalar c) (sym (ap class_escape_of_letter (e ∙ ap first_char_if_any n)) ∙ f))
  where
    by : (b : Bool) → class_escape_of_letter (if b then Some c else None) ≡ Some m → class_escape c ≡ Some m
    by true g = g
    by false g = absurd cc

-- ---- Set operations

pub sets-closed : (here there : RemainingCodePoints) (c : ℕ) → IsUnescapedRead here (Some c) there → c ≡ 93 → has_set_operation here ≡ false
sets-closed here there c (inl u) e = let f : c ≡ 92 = u.0 in absurd (omega arith)
sets-closed here there c (inr (inl u)) e = let f : c ≡ 92 = u.0 in absurd (omega arith)
sets-closed here there c (inr (inr u)) e = ap has_set_operation (u.1 ∙ ap (λ (x : ℕ). x ∷ there) e) ∙ by there
  where
    by : (there : RemainingCodePoints) → has_set_operation (93 ∷ there) ≡ false
    by [] = refl
    by (d ∷ ds) = refl

first_char_if_any-is : (c d : ℕ) → (c ∈ "[" || (c ∈ "&-" && c == d)) ≡ begins_nested_class_or_operation c (if is_scalar d then Some d else None)
first_char_if_any-is c d = by (is_scalar d) refl
  where
    by : (b : Bool) → is_scalar d ≡ b → (c ∈ "[" || (c ∈ "&-" && c == d)) ≡ begins_nested_class_or_operation c (if b then Some d else None)
    by true e = refl
    by false e = no_sign (nat_eq c 91) (nat_eq c d) refl
      where
        no_sign : (x y : Bool) → nat_eq c d ≡ y → ((x || false) || (c ∈ "&-" && y)) ≡ (x || false)
        no_sign x false f = other x (c ∈ "&-")
          where
            other : (x z : Bool) → ((x || false) || (z && false)) ≡ (x || false)
            other true z = refl
            other false true = refl
            other false false = refl
        no_sign x true f = none x (c ∈ "&-") refl
          where
            none : (x z : Bool) → c ∈ "&-" ≡ z → ((x || false) || (z && true)) ≡ (x || false)
            none true z g = refl
            none false false g = refl
            none false true g = absurd (signs (or_cases (nat_eq c 38) _ g))
              where
                same : c ≡ d
                same = eqb-true c d f

                signs : (nat_eq c 38 ≡ true) ⊎ ((nat_eq c 45 || false) ≡ true) → ⊥
                signs (inl h) = true≢false (ap is_scalar (sym (eqb-true c 38 h) ∙ same) ∙ e)
                signs (inr h) = ⊎_elim (λ k. true≢false (ap is_scalar (sym (eqb-true c 45 k) ∙ same) ∙ e)) (λ k. true≢false (sym k)) (or_cases (nat_eq c 45) false h)

pub sets-next : (here there : RemainingCodePoints) (c : ℕ) → IsUnescapedRead here (Some c) there → (c ≡ 93 → ⊥)
    → has_set_operation here ≡ (if begins_nested_class_or_operation c (first_char_if_any there) then true else has_set_operation there)
sets-next here there c (inl u) ne = ap has_set_operation u.1.0 ∙ sym (rw (u.0, u.1.1) refl)
sets-next here there c (inr (inl u)) ne = ap has_set_operation u.2 ∙ sym (by there)
  where
    by : (there : RemainingCodePoints) → (if begins_nested_class_or_operation c (first_char_if_any there) then true else has_set_operation there) ≡ has_set_operation there
    by [] = rw u.0 refl
    by (e ∷ there) = rw u.0 (at (is_scalar e))
      where
        at : (b : Bool) → (if begins_nested_class_or_operation 92 (if b then Some e else None) then true else has_set_operation (e ∷ there)) ≡ has_set_operation (e ∷ there)
        at true = refl
        at false = refl
sets-next here there c (inr (inr u)) ne = ap has_set_operation u.1 ∙ by there
  where
    by : (there : RemainingCodePoints) → has_set_operation (c ∷ there) ≡ (if begins_nested_class_or_operation c (first_char_if_any there) then true else has_set_operation there)
    by [] = last (nat_eq c 91)
      where
        last : (b : Bool) → (b || false) ≡ (if b || false then true else false)
        last true = refl
        last false = refl
    by (d ∷ there) =
        rw (ne_eqb c 92 u.0, ne_eqb c 93 ne) (merge (nat_eq c 91) (c ∈ "&-" && c == d))
        ∙ ap (λ b. if b then true else has_set_operation (d ∷ there)) (first_char_if_any-is c d)
      where
        merge : (x y : Bool) → (if x || false then true else if y then true else has_set_operation (d ∷ there)) ≡ (if (x || false) || y then true else has_set_operation (d ∷ there))
        merge true y = refl
        merge false true = refl
        merge false false = refl

-- A class has a set operation if one begins here, as the reader's test tells, or in the rest.
pub sets-by : (here there : RemainingCodePoints) (c : ℕ) (next : Option ℕ) (told b : Bool) → IsUnescapedRead here (Some c) there → (c ≡ 93 → ⊥)
    → next ≡ first_char_if_any there → told ≡ begins_nested_class_or_operation c next → told ≡ b
    → has_set_operation here ≡ (if b then true else has_set_operation there)
sets-by here there c next told b read ne peek is test =
    sets-next here there c read ne
    ∙ ap (λ t. if t then true else has_set_operation there) (ap (begins_nested_class_or_operation c) (sym peek) ∙ sym is ∙ test)

-- ---- Results that follow from those of other readers

pub err-member : {flags : Flags} {here : RemainingCodePoints} (old new : List Interval) (there : RemainingCodePoints) (r : Result (Unit {0}) ParseStopReason) → IsErr r
    → ((end : RemainingCodePoints) (ms : List ClassMember) → ClassMembers flags here end ms → ⊥) → IsClassMemberRead flags here old r new there
err-member old new there (Ok u) e none = absurd (true≢false (sym e))
err-member old new there (Err e) f none = λ r. none

pub err-atom : {A E : Type 0} (of : A → ClassMember) {flags : Flags} {here : RemainingCodePoints} (there : RemainingCodePoints) (r : Result A E) → IsErr r
    → ((end : RemainingCodePoints) (m : ClassMember) → ClassAtom flags here end m → ⊥) → IsReadAndErrorMeansUnreadable of (ClassAtom flags here) r there
err-atom of there (Ok u) e none = absurd (true≢false (sym e))
err-atom of there (Err e) f none = none

pub err-ranges : {P : ParseStopReason → Type 0} {flags : Flags} {here : RemainingCodePoints} (there : RemainingCodePoints) (r : Result Intervals ParseStopReason) (e : ParseStopReason) → IsErrAnd r P → ((x : ParseStopReason) → P x → x ≡ e)
    → (IsTrue (is_syntax_error e) → (end : RemainingCodePoints) (ms : List ClassMember) → ClassRanges flags here end ms → ⊥) → AreClassRangesRead flags here r there
err-ranges there (Ok s) e h same none = absurd h
err-ranges there (Err x) e h same none = λ r. none (sym (ap is_syntax_error (same x h)) ∙ r)

-- If the peeked code point is no letter of a class escape, no such letter begins the text.
pub no_class : (here : RemainingCodePoints) (o : Option ℕ) → o ≡ first_char_if_any here → class_escape_of_letter o ≡ None → (letter : ℕ) (there : RemainingCodePoints) (m : ClassMember) → here ≡ letter ∷ there → class_escape letter ≡ Some m → ⊥
no_class here o e f letter there m g h =
    by (is_scalar letter) refl (sym (ap class_escape_of_letter (e ∙ ap first_char_if_any g)) ∙ f)
  where
    scalar : is_scalar letter ≡ false → ⊥
    scalar k = true≢false (sym (class_letter is_scalar letter refl h) ∙ k)

    by : (b : Bool) → is_scalar letter ≡ b → class_escape_of_letter (if b then Some letter else None) ≡ None → ⊥
    by true k g = let x : class_escape letter ≡ None = g in cc
    by false k g = scalar k

-- Ranges after a possible `^` make a class, unless `unicode_sets` finds a set operation in them.
pub class-read : {flags : Flags} {here middle there : RemainingCodePoints} {ms : List ClassMember} {set : Intervals} (invert : Bool)
    → (flags.unicode_sets && has_set_operation here) ≡ false → IsEaten 94 here invert middle → ClassRanges flags middle there ms → IsSetOf flags ms set
    → CharacterClass flags here there (record { invert = invert; intervals = set })
class-read true none e r s = inverted e none r s
class-read {flags} {here} {middle} {there} {ms} {set} false none e r s =
    plain (no_sign "^" 94 refl here e.1) none (subst (λ x. ClassRanges flags x there ms) e.0 r) s
