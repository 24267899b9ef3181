-- If each match begins with a group of one character of one unit that a backreference repeats, no
-- match begins where the next unit is another one.
use Rattle.std.proofs.Common.{◌≡◌, ℕ, zero, suc, ◌+◌, ◌-◌, ◌<◌, ◌≤◌, Bool, true, false, ◌&&◌, ◌||◌}
use Rattle.std.proofs.Common.{List, [], ◌∷◌, length, take, drop, Option, Some, None, refl, ap, ap₂, sym, ◌∙◌, subst, arith, slice_get}
use Rattle.std.proofs.Common.{get_or}
use Rattle.std.specs.Prelude.{slice_set, slice_range, slice_index_or, ◌==◌, nat_lt, nat_le, option_map, option_and_then, if◌then◌else◌}
use Rattle.std.proofs.lemmas.Bool.{cases_lt, ltb-true, lt-ltb, le-leb, leb-true, eqb-true}
use Rattle.std.proofs.lemmas.List.{append-nil}
use Rattle.std.proofs.lemmas.Option.{slice_get_within, slice_get-get_or}
use mathlib.Core.Logic.{inl, inr}
use lib.Pointwise.{pointwise}
use lib.Utf8.{encode}
use Rattle.regex_meaning.specs.Tree.{exact}
use Rattle.regex_meaning.specs.Text.{Text, rightwards, last_place, moved, next_character, next_characters, characters_ahead}
use Rattle.regex_meaning.specs.CodeUnitOffsets.{HasRisingPlaceOffsets, IsBoundary, offset, place_at, units}
use Rattle.regex_meaning.specs.CodeUnits.{Encoding, utf8, utf16, ucs2, code_units_of_character, text_units_in_encoding}
use Rattle.regex_meaning.specs.CompilationRelation.{Program, Insn, BeginCaptureGroup, EndCaptureGroup, BackRef}
use Rattle.regex_meaning.specs.Outcomes.{is_some_and, is_same}
use Rattle.regex_meaning.proofs.BoolLemmas.{and-left, and-right}
use Rattle.regex_meaning.proofs.CodeUnitOffsetsLemmas.{place_at-offset, offset-place_at}
use Rattle.regex_meaning.proofs.CodeUnitLengthLemmas.{has-unit}
use Rattle.regress_input.specs.CharAndByteReadsFromOffset.{past_if}
use Rattle.regress_input.proofs.UnitsAtBoundaries.{units-length}
use Rattle.regress_input.proofs.ListRangeLemmas.{get-cons}
use Rattle.regress_input.proofs.BoundaryPositions.{read-place}
use Rattle.regress_input.proofs.Utf8Reads.{encode_two, encode_three, encode_four}
use Rattle.regress_machine.specs.FirstSetTables.{HasUnitsForTables}
use Rattle.regress_machine.specs.Machine.{State, running, Next, go, go_if, only_if, with_some, next_insn_at_place, read_one, read_group, backref_read, test_of, act_on}
use Rattle.regress_machine.specs.ThreadSimulation.{FindsNothing}
use Rattle.regress_machine.proofs.FailureByStepInduction.{NothingNext, nothing-some, nothing-go, nothing-go_if}
use Rattle.regress_machine.proofs.RequiredPrefixLemmas.{nothing-turned, nothing-below}
use Rattle.regress_program.specs.declared.char_class_tables.Class.{Class}
use Rattle.regress_program.specs.Plans.{reads_class_char, IsPlanOf, IsOpOf}
use Rattle.regress_program.specs.TableKeysOfUnits.{key, is_16_bit_encoding, AreReadLengthsByKey}
use Rattle.regress_program.proofs.LookbehindFilterLemmas.{reads-in}
use Rattle.regress_machine.specs.SearchFindsFirstOutcomeAtPlace.{TreeProgramCanSearchText, state_before_first_insn}
use Rattle.regress_machine.proofs.ExcludedMatchStartLemmas.{nothing-no-match}
use Rattle.regress_machine.proofs.FirstUnitsOfCharacters.{unit-there}
use Rattle.regress_program.specs.declared.ops.Op.{Op}
use Rattle.regress_program.specs.declared.ops.Op.TheVariants as variant
use Rattle.regex_pattern_front.specs.declared.canonical.Sameness.TheVariants.{Exact}
use Rattle.regress_machine.proofs.FirstSetTableLemmas.{passed}
use Rattle.regress_machine.proofs.UnchangedGroupsAndLoops.{slice_get-set_same}
use Rattle.regress_program.specs.InsnsAsSpec.{insn_as_spec_insn}
use Rattle.regress_search.specs.DeadThreads.{MatchFailureExtendsUntil, BeginsWithRepeatedChar, NextUnitDoesNotRepeatCharUnit, may_be_char_unit}
use Rattle.regress_search.specs.ReadsAtOffset.{input_unit_at}
use Rattle.regress_search.specs.TreePlanAndText.{SearchInput, program_of}
use Rattle.regress_search.proofs.AsciiUnitLemmas.{EndsNoPair, low-boundary, beside-boundary}
use Rattle.regress_search.proofs.LeadingLoopOperations.{insn-of-op}
use Rattle.regress_search.proofs.NextCharByUnit.{next-is, past-next, excluded, stepped, own-spelled}
use Rattle.regress_search.proofs.WideUnitLemmas.{key-high}

-- ---- Lists of characters and groups

range-one : (xs : List ℕ) (i c : ℕ) → slice_get xs i ≡ Some c → slice_range xs i (i + 1) ≡ c ∷ []
range-one xs i c is =
    let one : i + 1 - i ≡ 1 = omega arith in
    ap (λ n. take n (drop i xs)) one ∙ ap (take 1) (get-cons xs i c is)

none-left : (xs : List ℕ) (i : ℕ) → slice_get xs i ≡ None → drop i xs ≡ []
none-left [] zero is = refl
none-left [] (suc i) is = refl
none-left (x ∷ xs) zero is = cc
none-left (x ∷ xs) (suc i) is = none-left xs i is

range-none : (xs : List ℕ) (i : ℕ) → slice_get xs i ≡ None → slice_range xs i (i + 1) ≡ []
range-none xs i is =
    let one : i + 1 - i ≡ 1 = omega arith in
    ap (λ n. take n (drop i xs)) one ∙ ap (take 1) (none-left xs i is)

-- ---- Steps of the machine

module _ (program : Program) (text : Text) (has_text : HasRisingPlaceOffsets text) (group : ℕ) (reader : Insn)
    (opens : slice_get program.insns 0 ≡ Some (BeginCaptureGroup group)) (reads : slice_get program.insns 1 ≡ Some reader) (one : reads_class_char reader ≡ true)
    (closes : slice_get program.insns 2 ≡ Some (EndCaptureGroup group)) (again : slice_get program.insns 3 ≡ Some (BackRef group exact)) (p : ℕ) (inside : p ≤ last_place text)
    (apart : (test : ℕ → Bool) → test_of program (Some reader) ≡ Some test → (c : ℕ) → slice_get text.characters p ≡ Some c → test c ≡ true
    → slice_get text.characters (p + 1) ≡ Some c → ⊥) where
  turned : (s : State) (ip : ℕ) (insn : Insn) (x : Next) → s.ip ≡ ip → slice_get program.insns ip ≡ Some insn → act_on program text rightwards (Some insn) s ≡ x
      → ((n : ℕ) → NothingNext program text n rightwards x) → FindsNothing program text rightwards (running s)
  turned s ip insn x at there acts nothing =
      nothing-turned program text s (λ n.
      subst (λ y. NothingNext program text n rightwards y)
      (sym (ap (λ i. act_on program text rightwards (slice_get program.insns i) s) at ∙ ap (λ o. act_on program text rightwards o s) there ∙ acts)) (nothing n))

  module _ (test : ℕ → Bool) (tests : test_of program (Some reader) ≡ Some test) (c : ℕ) (there : slice_get text.characters p ≡ Some c) (accepted : test c ≡ true) where
    next_inside : p + 1 ≤ last_place text
    next_inside = let less = slice_get_within text.characters p c there in omega (arith, less)

    -- The characters of the group do not equal the next ones.
    never : (from to q : ℕ) → from ≡ p → to ≡ p + 1 → q ≡ p + 1
        → pointwise (is_same text exact) (slice_range text.characters from to) (next_characters text rightwards (length (slice_range text.characters from to)) q) ≡ true → ⊥
    never from to q is_from is_to is_q same = by (slice_get text.characters (p + 1)) refl
      where
        first : slice_range text.characters from to ≡ c ∷ []
        first = ap₂ (slice_range text.characters) is_from is_to ∙ range-one text.characters p c there

        second : next_characters text rightwards (length (slice_range text.characters from to)) q ≡ slice_range text.characters (p + 1) (p + 1 + 1)
        second = ap₂ (λ n q. slice_range text.characters q (q + n)) (ap length first) is_q

        both : pointwise (is_same text exact) (c ∷ []) (slice_range text.characters (p + 1) (p + 1 + 1)) ≡ true
        both = sym (ap₂ (pointwise (is_same text exact)) first second) ∙ same

        by : (o : Option ℕ) → slice_get text.characters (p + 1) ≡ o → ⊥
        by None is = let no : false ≡ true = sym (ap (pointwise (is_same text exact) (c ∷ [])) (range-none text.characters (p + 1) is)) ∙ both in cc
        by (Some d) is =
            let equal = sym (ap (pointwise (is_same text exact) (c ∷ [])) (range-one text.characters (p + 1) d is)) ∙ both in
            apart test tests c there accepted (is ∙ ap Some (sym (eqb-true c d (and-left (c == d) true equal))))

    repeats : (s : State) → s.ip ≡ 3 → s.pos ≡ offset text (p + 1) → slice_get s.groups group ≡ Some (Some (offset text p, s.pos)) → FindsNothing program text rightwards (running s)
    repeats s at pos held = turned s 3 (BackRef group exact) (with_some (slice_get s.groups group) (λ range. read_group text exact rightwards range s)) at again refl (λ n.
        nothing-some program text n rightwards (slice_get s.groups group) (λ range. read_group text exact rightwards range s) (λ range is.
        let same : Some (offset text p, s.pos) ≡ range = (let e : Some (Some (offset text p, s.pos)) ≡ Some range = sym held ∙ is in cc) in
        subst (λ r. NothingNext program text n rightwards (read_group text exact rightwards r s)) same (found n)))
      where
        at_next : (q : ℕ) → place_at text s.pos ≡ Some q → q ≡ p + 1
        at_next q is = let e : Some q ≡ Some (p + 1) = sym is ∙ ap (place_at text) pos ∙ place_at-offset text (p + 1) has_text next_inside in cc

        at_first : (q : ℕ) → place_at text (offset text p) ≡ Some q → q ≡ p
        at_first q is = let e : Some q ≡ Some p = sym is ∙ place_at-offset text p has_text inside in cc

        found : (n : ℕ) → NothingNext program text n rightwards (read_group text exact rightwards (Some (offset text p, s.pos)) s)
        found n =
            nothing-some program text n rightwards (place_at text s.pos)
            (λ q. with_some (place_at text (offset text p)) (λ from. with_some (place_at text s.pos) (λ to. backref_read text exact rightwards from to q s))) (λ q q_is.
            nothing-some program text n rightwards (place_at text (offset text p))
            (λ from. with_some (place_at text s.pos) (λ to. backref_read text exact rightwards from to q s)) (λ from from_is.
            nothing-some program text n rightwards (place_at text s.pos) (λ to. backref_read text exact rightwards from to q s) (λ to to_is.
            let cs = slice_range text.characters from to in
            nothing-go_if program text n rightwards
            (nat_le (length cs) (characters_ahead text rightwards q) && pointwise (is_same text exact) cs (next_characters text rightwards (length cs) q))
            (next_insn_at_place text (moved text rightwards (length cs) q) s) (λ yes.
            absurd (never from to q (at_first from from_is) (at_next to to_is) (at_next q q_is)
            (and-right (nat_le (length cs) (characters_ahead text rightwards q)) (pointwise (is_same text exact) cs (next_characters text rightwards (length cs) q)) yes))))))

    closed : (s : State) → s.ip ≡ 2 → s.pos ≡ offset text (p + 1) → slice_get s.starts group ≡ Some (offset text p) → FindsNothing program text rightwards (running s)
    closed s at pos held = turned s 2 (EndCaptureGroup group) (only_if (nat_lt group (length s.groups)) (with_some (slice_get s.starts group) (λ start. go (next start)))) at closes refl
        (λ n. by n (nat_lt group (length s.groups)) refl)
      where
        next : ℕ → State
        next start = record s { ip = s.ip + 1; groups = slice_set s.groups group (Some (start, s.pos)) }

        by : (n : ℕ) (b : Bool) → nat_lt group (length s.groups) ≡ b
            → NothingNext program text n rightwards (only_if b (with_some (slice_get s.starts group) (λ start. go (next start))))
        by n false e = tt
        by n true e = nothing-some program text n rightwards (slice_get s.starts group) (λ start. go (next start)) (λ start is.
            let same : start ≡ offset text p = (let e : Some start ≡ Some (offset text p) = sym is ∙ held in cc) in
            nothing-go program text n rightwards (next start) (nothing-below program text n (next start) (repeats (next start) (ap (λ i. i + 1) at) pos
            (slice_get-set_same s.groups group (Some (start, s.pos)) (ltb-true group (length s.groups) e) ∙ ap (λ start. Some (Some (start, s.pos))) same))))

  read-first : (s : State) → s.ip ≡ 1 → s.pos ≡ offset text p → slice_get s.starts group ≡ Some (offset text p) → FindsNothing program text rightwards (running s)
  read-first s at pos held = turned s 1 reader (with_some (test_of program (Some reader)) (λ test. read_one text test rightwards s)) at reads
      (reads-in rightwards program text reader (inl one) s) (λ n.
      nothing-some program text n rightwards (test_of program (Some reader)) (λ test. read_one text test rightwards s) (λ test tests.
      nothing-some program text n rightwards (place_at text s.pos) (λ q. go_if (is_some_and (next_character text rightwards q) test) (next_insn_at_place text (moved text rightwards 1 q) s)) (λ q q_is.
      let same : q ≡ p = (let e : Some q ≡ Some p = sym q_is ∙ ap (place_at text) pos ∙ place_at-offset text p has_text inside in cc) in
      nothing-go_if program text n rightwards (is_some_and (next_character text rightwards q) test) (next_insn_at_place text (moved text rightwards 1 q) s) (λ yes.
      let c = passed (slice_get text.characters q) test yes in
      nothing-below program text n (next_insn_at_place text (moved text rightwards 1 q) s)
      (closed test tests c.0 (ap (slice_get text.characters) (sym same) ∙ c.1) c.2 (next_insn_at_place text (moved text rightwards 1 q) s) (ap (λ i. i + 1) at)
      (ap (λ q. offset text (q + 1)) same) held)))))

  pub repeated-bars : (s : State) → s.ip ≡ 0 → s.pos ≡ offset text p → FindsNothing program text rightwards (running s)
  repeated-bars s at pos = turned s 0 (BeginCaptureGroup group) (only_if (nat_lt group (length s.groups) && nat_lt group (length s.starts)) (go next)) at opens refl
      (λ n. by n (nat_lt group (length s.groups) && nat_lt group (length s.starts)) refl)
    where
      next : State
      next = record s { ip = s.ip + 1; groups = slice_set s.groups group None; starts = slice_set s.starts group s.pos }

      by : (n : ℕ) (b : Bool) → (nat_lt group (length s.groups) && nat_lt group (length s.starts)) ≡ b → NothingNext program text n rightwards (only_if b (go next))
      by n false e = tt
      by n true e =
          nothing-go program text n rightwards next (nothing-below program text n next (read-first next (ap (λ i. i + 1) at) pos
          (slice_get-set_same s.starts group s.pos (ltb-true group (length s.starts) (and-right (nat_lt group (length s.groups)) (nat_lt group (length s.starts)) e)) ∙ ap Some pos)))

-- ---- Units of a repeated character

one-low : (c : ℕ) → length (code_units_of_character utf8 c) ≡ 1 → c < 128
one-low c one = elim (cases_lt c 128) [
  | inl low ↦ low
  | inr above ↦ elim (cases_lt c 2048) [
    | inl two ↦ let n : length (code_units_of_character utf8 c) ≡ 2 = ap length (append-nil (encode c)) ∙ ap length (encode_two c above two) in absurd (omega (arith, one, n))
    | inr more ↦ elim (cases_lt c 65536) [
      | inl three ↦ let n : length (code_units_of_character utf8 c) ≡ 3 = ap length (append-nil (encode c)) ∙ ap length (encode_three c more three) in absurd (omega (arith, one, n))
      | inr four ↦ let n : length (code_units_of_character utf8 c) ≡ 4 = ap length (append-nil (encode c)) ∙ ap length (encode_four c four) in absurd (omega (arith, one, n))
    ]
  ]
]

module _ (e : Encoding) (text : Text) (has : HasUnitsForTables e text) (test : ℕ → Bool) (steps : List ℕ) (are : AreReadLengthsByKey (is_16_bit_encoding e) test steps)
    (single : (k : ℕ) → slice_index_or steps k 0 ≤ 1) (at p c : ℕ) (on : IsBoundary text at) (place_is : place_at text at ≡ Some p) (there : slice_get text.characters p ≡ Some c)
    (accepted : test c ≡ true) where
  -- An accepted character is one unit, and the next one begins at the next unit.
  pub accepted-single : (u : ℕ) → slice_get (text_units_in_encoding e text) at ≡ Some u
      → (length (code_units_of_character e c) ≡ 1) × (offset text (p + 1) ≡ at + 1) × (0 < slice_index_or steps (key (is_16_bit_encoding e) u) 0)
  accepted-single u unit =
      let k = key (is_16_bit_encoding e) u in
      let keyed = ap (option_map (key (is_16_bit_encoding e))) unit in
      let n = next-is e text has at u on unit in
      let reads : Some (c, offset text (p + 1)) ≡ Some (n.0, at + length (code_units_of_character e n.0)) =
      sym (read-place text rightwards at p place_is ∙ ap (option_map {U = ℕ × ℕ} (λ c. (c, offset text (p + 1)))) there) ∙ n.1.read_is in
      let pair : (c, offset text (p + 1)) ≡ (n.0, at + length (code_units_of_character e n.0)) = cc in
      let same : n.0 ≡ c = sym (ap (λ (r : ℕ × ℕ). r.0) pair) in
      let behind : offset text (p + 1) ≡ at + length (code_units_of_character e n.0) = ap (λ (r : ℕ × ℕ). r.1) pair in
      let past : past_if text test rightwards at ≡ Some (at + length (code_units_of_character e n.0)) =
      past-next e text has test at u n.0 n.1 ∙ ap (λ b. if b then Some (at + length (code_units_of_character e n.0)) else None) (ap test same ∙ accepted) in
      let least = single k in
      elim (cases_lt 0 (slice_index_or steps k 0)) [
        | inl some ↦
            let led = stepped e text has test steps are at k on keyed 1 (at + 1) (omega (arith, some, least)) (λ z. omega (arith, z)) (λ z. omega (arith, z)) refl in
            let ends : Some (at + 1) ≡ Some (at + length (code_units_of_character e n.0)) = led ∙ past in
            let f : at + 1 ≡ at + length (code_units_of_character e n.0) = cc in
            let one : length (code_units_of_character e n.0) ≡ 1 = omega (arith, f) in
            (ap (λ c. length (code_units_of_character e c)) (sym same) ∙ one, behind ∙ ap (λ n. at + n) one, some)
        | inr none ↦
            let no : None ≡ Some (at + length (code_units_of_character e n.0)) = excluded e text has test steps are at k on keyed (omega (arith, none)) ∙ past in cc
      ]

-- ---- Units that may be characters

beside-told : (u : ℕ) → EndsNoPair u → (nat_lt u 0xDC00 || nat_le 0xE000 u) ≡ true
beside-told u (inl less) = ap (λ b. b || nat_le 0xE000 u) (lt-ltb u 0xDC00 less)
beside-told u (inr more) = by (nat_lt u 0xDC00)
  where
    by : (b : Bool) → (b || nat_le 0xE000 u) ≡ true
    by true = refl
    by false = le-leb 0xE000 u more

told-beside : (u : ℕ) → (nat_lt u 0xDC00 || nat_le 0xE000 u) ≡ true → EndsNoPair u
told-beside u told = by (nat_lt u 0xDC00) refl told
  where
    by : (b : Bool) → nat_lt u 0xDC00 ≡ b → (b || nat_le 0xE000 u) ≡ true → EndsNoPair u
    by true less h = inl (ltb-true u 0xDC00 less)
    by false less h = inr (leb-true 0xE000 u h)

-- A unit that may be a character is at a boundary.
pub char-boundary : (e : Encoding) (text : Text) → HasUnitsForTables e text → (at u : ℕ) → slice_get (text_units_in_encoding e text) at ≡ Some u
    → may_be_char_unit (is_16_bit_encoding e) u ≡ true → IsBoundary text at
char-boundary utf8 text has at u there may = low-boundary utf8 text has at u there (ltb-true u 128 may)
char-boundary utf16 text has at u there may = beside-boundary utf16 refl text has at u there (told-beside u may)
char-boundary ucs2 text has at u there may = beside-boundary ucs2 refl text has at u there (told-beside u may)

-- A unit may be a character if it is one, and ends no pair.
single-may : (e : Encoding) (c u : ℕ) → length (code_units_of_character e c) ≡ 1 → slice_get (code_units_of_character e c) 0 ≡ Some u → (is_16_bit_encoding e ≡ true → EndsNoPair u)
    → may_be_char_unit (is_16_bit_encoding e) u ≡ true
single-may utf8 c u one first beside =
    let low = one-low c one in
    let begins : Some c ≡ Some u = sym (ap (λ (l : List ℕ). slice_get l 0) (own-spelled utf8 c (lt-ltb c 0x80 low))) ∙ first in
    let is : c ≡ u = cc in
    lt-ltb u 128 (omega (arith, low, is))
single-may utf16 c u one first beside = beside-told u (beside refl)
single-may ucs2 c u one first beside = beside-told u (beside refl)

-- A table that excludes the keys of trail surrogates has an entry for no other unit that ends a pair.
entered-beside : (steps : List ℕ) → slice_index_or steps 238 0 ≡ 0 → slice_index_or steps 239 0 ≡ 0 → (u : ℕ) → 0 < slice_index_or steps (key true u) 0 → EndsNoPair u
entered-beside steps low high u some = elim (cases_lt u 0xDC00) [
  | inl less ↦ inl less
  | inr more ↦ elim (cases_lt u 0xE000) [
    | inl below ↦
        let is = key-high u (omega (arith, more)) in
        elim (cases_lt (key true u) 239) [
          | inl first ↦
              let k : key true u ≡ 238 = omega (arith, is, first, more) in
              let none : slice_index_or steps (key true u) 0 ≡ 0 = ap (λ k. slice_index_or steps k 0) k ∙ low in absurd (omega (arith, none, some))
          | inr second ↦
              let k : key true u ≡ 239 = omega (arith, is, second, below) in
              let none : slice_index_or steps (key true u) 0 ≡ 0 = ap (λ k. slice_index_or steps k 0) k ∙ high in absurd (omega (arith, none, some))
        ]
    | inr beyond ↦ inr beyond
  ]
]

-- ---- Searches

module _ (w : SearchInput) (has : HasUnitsForTables w.encoding w.text) (plan : IsPlanOf (is_16_bit_encoding w.encoding) (program_of w) w.plan)
    (can : TreeProgramCanSearchText (program_of w) w.tree w.text) (number : ℕ) (begins : BeginsWithRepeatedChar w.plan number)
    (class : Class) (there : slice_get w.plan.classes.items number ≡ Some class) (single : class.single_unit ≡ true)
    (trails : is_16_bit_encoding w.encoding ≡ true → (slice_index_or class.steps 238 0 ≡ 0) × (slice_index_or class.steps 239 0 ≡ 0)) where
  module _ (at p : ℕ) (on : IsBoundary w.text at) (place_is : place_at w.text at ≡ Some p) (alone : NextUnitDoesNotRepeatCharUnit w at) where
    apart-there : (test : ℕ → Bool) → AreReadLengthsByKey (is_16_bit_encoding w.encoding) test class.steps → (c : ℕ) → slice_get w.text.characters p ≡ Some c → test c ≡ true
        → slice_get w.text.characters (p + 1) ≡ Some c → ⊥
    apart-there test are c first accepted second =
        let e = w.encoding in
        let u = get_or (code_units_of_character e c) 0 0 in
        let begun : slice_get (code_units_of_character e c) 0 ≡ Some u = slice_get-get_or (code_units_of_character e c) 0 0 (has-unit e c) in
        let here : input_unit_at w at ≡ Some u =
        unit-there e w.text has.is_text has.spelled at p place_is ∙ ap (option_and_then (λ c. slice_get (code_units_of_character e c) 0)) first ∙ begun in
        let one = accepted-single e w.text has test class.steps are ((plan.classes number class there).single_unit single) at p c on place_is first accepted u here in
        let less = slice_get_within w.text.characters (p + 1) c second in
        let next_place : place_at w.text (at + 1) ≡ Some (p + 1) = ap (place_at w.text) (sym one.1) ∙ place_at-offset w.text (p + 1) has.is_text (omega (arith, less)) in
        let next : input_unit_at w (at + 1) ≡ Some u =
        unit-there e w.text has.is_text has.spelled (at + 1) (p + 1) next_place ∙ ap (option_and_then (λ c. slice_get (code_units_of_character e c) 0)) second ∙ begun in
        let beside : is_16_bit_encoding e ≡ true → EndsNoPair u = λ wide.
        entered-beside class.steps (trails wide).0 (trails wide).1 u (subst (λ b. 0 < slice_index_or class.steps (key b u) 0) wide one.2) in
        alone u (single-may e c u one.0 begun beside) here next

  -- If no unit of a range is repeated by the next one, failures extend over the range.
  pub repeated-vain : (from to : ℕ) → ((at : ℕ) → from ≤ at → at < to → NextUnitDoesNotRepeatCharUnit w at) → MatchFailureExtendsUntil w from to
  repeated-vain from to alone none at on le less p is =
      let first = insn-of-op w plan 0 (variant.OpenGroup begins.group) begins.opens in
      let second = insn-of-op w plan 1 (variant.One number) begins.reads in
      let third = insn-of-op w plan 2 (variant.CloseGroup begins.group) begins.closes in
      let fourth = insn-of-op w plan 3 (variant.MatchBackref (record { slot = begins.group; same = Exact })) begins.repeats in
      let has_class = second.2.0 in
      let class_is : class ≡ has_class.class = (let e : Some class ≡ Some has_class.class = sym there ∙ has_class.is_there in cc) in
      let reader_is : second.0 ≡ insn_as_spec_insn class.insn = has_class.is_class ∙ ap (λ (k : Class). insn_as_spec_insn k.insn) (sym class_is) in
      let here = offset-place_at w.text at p has.is_text is in
      nothing-no-match (program_of w) w.tree w.text can p here.1
      (repeated-bars (program_of w) w.text has.is_text begins.group second.0 (first.1 ∙ ap Some first.2) second.1 second.2.1 (third.1 ∙ ap Some third.2) (fourth.1 ∙ ap Some fourth.2)
      p here.1
      (λ test tests c there_c accepted again.
      apart-there at p on is (alone at le less) test
      ((plan.classes number class there).steps test (ap (λ i. test_of (program_of w) (Some i)) (sym reader_is) ∙ tests))
      c there_c accepted again)
      (state_before_first_insn (program_of w) (offset w.text p)) refl refl)

-- The last unit of a text is not repeated.
pub unrepeated-last : (w : SearchInput) → HasUnitsForTables w.encoding w.text → (at : ℕ) → units w.text ≤ at + 1 → NextUnitDoesNotRepeatCharUnit w at
unrepeated-last w has at last u may here next =
    let long = units-length w.encoding w.text has.spelled in
    let less = slice_get_within (text_units_in_encoding w.encoding w.text) (at + 1) u next in
    absurd (omega (arith, last, long, less))
