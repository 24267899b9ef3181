-- Between two word characters there is no word boundary, so no match that begins with a word
-- boundary begins there.
use Rattle.std.proofs.Common.{◌≡◌, ℕ, zero, suc, ◌+◌, ◌-◌, ◌<◌, ◌≤◌, Bool, true, false, not, ◌&&◌, ◌||◌, length, Option, Some, None, refl, ap, ap₂, sym, ◌∙◌, subst, arith, slice_get}
use Rattle.std.specs.Prelude.{option_map, ◌==◌, nat_lt, if◌then◌else◌}
use Rattle.std.proofs.lemmas.Bool.{cases_lt, lt-ltb, eqb-true}
use Rattle.std.proofs.lemmas.Option.{slice_get_within}
use mathlib.Core.Logic.{inl, inr}
use Rattle.regex_meaning.specs.Text.{Text, rightwards, last_place, is_word_char, nonascii_folds_to_ascii_word_char, character_before, character_after, is_ascii_lowercase, is_ascii_uppercase}
use Rattle.std.specs.Int.{is_in_range}
use Rattle.regex_meaning.proofs.FirstByteOfCharacter.{true-in_range}
use Rattle.regex_meaning.specs.CodeUnitOffsets.{HasRisingPlaceOffsets, IsBoundary, offset, place_at}
use Rattle.regex_meaning.specs.CodeUnits.{Encoding, utf8, utf16, ucs2, code_units_of_character, text_units_in_encoding}
use Rattle.regex_meaning.specs.CompilationRelation.{Program, WordBoundary, WordBoundaryUnicodeICase}
use Rattle.regex_meaning.specs.Outcomes.{exclusive_or, is_at_word_boundary, is_some_and}
use Rattle.regex_meaning.proofs.CodeUnitOffsetsLemmas.{IsBoundary-place, place_at-offset, offset-place_at, offset-IsBoundary}
use Rattle.regress_input.proofs.BoundaryPositions.{read-place}
use Rattle.regress_machine.specs.FailingInsnsAtOffset.{holds_there, insn_may_find}
use Rattle.regress_machine.specs.FirstSetTables.{HasUnitsForTables}
use Rattle.regress_machine.specs.Machine.{State, running}
use Rattle.regress_machine.specs.SearchFindsFirstOutcomeAtPlace.{TreeProgramCanSearchText, state_before_first_insn}
use Rattle.regress_machine.specs.ThreadSimulation.{FindsNothing}
use Rattle.regress_machine.proofs.FailingInsnLemmas.{closed-nothing}
use Rattle.regress_machine.proofs.ExcludedMatchStartLemmas.{nothing-no-match}
use Rattle.regress_machine.proofs.GroupAndAssertionOutcomes.{slice_get_some}
use Rattle.regress_program.specs.declared.ops.Op.TheVariants as variant
use Rattle.regress_program.specs.declared.ops.WordBoundaryKind.{WordBoundaryKind}
use Rattle.regress_program.specs.Plans.{IsPlanOf}
use Rattle.regress_program.specs.TableKeysOfUnits.{key, is_16_bit_encoding}
use Rattle.regress_search.specs.DeadThreads.{NoMatchOfInputAt, MatchFailureExtendsUntil}
use Rattle.regress_search.specs.TreePlanAndText.{SearchInput, program_of, single_unit_begins_its_char}
use Rattle.regress_search.specs.UnitRuns.{IsKeyTestAt}
use Rattle.regress_search.proofs.AsciiUnitLemmas.{low-boundary, key-own}
use Rattle.regress_search.proofs.NextCharByUnit.{next-is, own-only, own-spelled}

-- ---- Word characters

-- A word character is one whether or not case is ignored.
pub word-always : (icase : Bool) (c : ℕ) → is_word_char false c ≡ true → is_word_char icase c ≡ true
word-always false c is = is
word-always true c is = by (is_ascii_lowercase c) (is_ascii_uppercase c) (is_in_range 48 57 c) (c == 95) (nonascii_folds_to_ascii_word_char c) is
  where
    by : (a b d e x : Bool) → (a || b || d || e || (false && x)) ≡ true → (a || b || d || e || (true && x)) ≡ true
    by true b d e x h = refl
    by false true d e x h = refl
    by false false true e x h = refl
    by false false false true x h = refl
    by false false false false x h = cc

-- A word character is less than 128.
pub word-low : (c : ℕ) → is_word_char false c ≡ true → c < 128
word-low c is = by (is_ascii_lowercase c) refl (is_ascii_uppercase c) refl (is_in_range 48 57 c) refl (c == 95) refl is
  where
    by : (a : Bool) → is_ascii_lowercase c ≡ a → (b : Bool) → is_ascii_uppercase c ≡ b → (d : Bool) → is_in_range 48 57 c ≡ d → (e : Bool) → (c == 95) ≡ e
        → (a || b || d || e || false) ≡ true → c < 128
    by true p b q d r e t h = let range = true-in_range 97 122 c p in let most = range.1 in omega (arith, most)
    by false p true q d r e t h = let range = true-in_range 65 90 c q in let most = range.1 in omega (arith, most)
    by false p false q true r e t h = let range = true-in_range 48 57 c r in let most = range.1 in omega (arith, most)
    by false p false q false r true t h = let same = eqb-true c 95 t in omega (arith, same)
    by false p false q false r false t h = cc

-- ---- Word characters in a text

none-some : (x : ℕ × ℕ) → None ≡ Some x → ⊥
none-some x h = cc

module _ (e : Encoding) (text : Text) (has : HasUnitsForTables e text) where
  low-own : (u : ℕ) → u < 128 → single_unit_begins_its_char e u ≡ true
  low-own u low = by e
    where
      by : (e : Encoding) → single_unit_begins_its_char e u ≡ true
      by utf8 = lt-ltb u 0x80 low
      by utf16 = ap (λ b. b || (nat_lt 0xDFFF u && nat_lt u 0x1_0000)) (lt-ltb u 0xD800 (omega (arith, low)))
      by ucs2 = lt-ltb u 0x1_0000 (omega (arith, low))

  -- A unit below 128 is the character at its place, and the next place is one unit on.
  pub record LowUnit (at u : ℕ) : Type 0 where
    pub at_place : ℕ
    pub there : place_at text at ≡ Some at_place
    pub char : slice_get text.characters at_place ≡ Some u
    pub behind : offset text (at_place + 1) ≡ at + 1
    pub within : at_place + 1 ≤ last_place text

  pub low-unit : (at u : ℕ) → slice_get (text_units_in_encoding e text) at ≡ Some u → u < 128 → LowUnit at u
  low-unit at u unit low = by (slice_get text.characters p.0) refl
    where
      on : IsBoundary text at
      on = low-boundary e text has at u unit low

      p : (p : ℕ) × (place_at text at ≡ Some p) × (offset text p ≡ at) × (p ≤ last_place text)
      p = IsBoundary-place text at has.is_text on

      same : (next-is e text has at u on unit).0 ≡ u
      same = let n = next-is e text has at u on unit in own-only e u n.0 (low-own u low) n.1.character n.1.first

      reads : option_map {U = ℕ × ℕ} (λ c. (c, offset text (p.0 + 1))) (slice_get text.characters p.0) ≡ Some (u, at + 1)
      reads =
          let n = next-is e text has at u on unit in
          let one : length (code_units_of_character e n.0) ≡ 1 = ap (λ c. length (code_units_of_character e c)) same ∙ ap length (own-spelled e u (low-own u low)) in
          sym (read-place text rightwards at p.0 p.1) ∙ n.1.read_is ∙ ap₂ (λ c n. Some (c, at + n)) same one

      by : (o : Option ℕ) → slice_get text.characters p.0 ≡ o → LowUnit at u
      by None is = absurd (none-some (u, at + 1) (sym (ap (option_map {U = ℕ × ℕ} (λ c. (c, offset text (p.0 + 1)))) is) ∙ reads))
      by (Some d) is =
          let both : Some (d, offset text (p.0 + 1)) ≡ Some (u, at + 1) = sym (ap (option_map {U = ℕ × ℕ} (λ c. (c, offset text (p.0 + 1)))) is) ∙ reads in
          let pair : (d, offset text (p.0 + 1)) ≡ (u, at + 1) = cc in
          let char : d ≡ u = ap (λ (r : ℕ × ℕ). r.0) pair in
          let behind : offset text (p.0 + 1) ≡ at + 1 = ap (λ (r : ℕ × ℕ). r.1) pair in
          let below = slice_get_within text.characters p.0 d is in
          record {
            at_place = p.0;
            there = p.1;
            char = is ∙ ap Some char;
            behind = behind;
            within = omega (arith, below);
          }

  -- A boundary is behind a unit below 128.
  pub low-behind : (at u : ℕ) → slice_get (text_units_in_encoding e text) at ≡ Some u → u < 128 → IsBoundary text (at + 1)
  low-behind at u unit low = let a = low-unit at u unit low in subst (IsBoundary text) a.behind (offset-IsBoundary text (a.at_place + 1) has.is_text a.within)

  -- There is no word boundary between two units that are word characters.
  pub no-edge : (at u v p : ℕ) (icase : Bool) → slice_get (text_units_in_encoding e text) at ≡ Some u → slice_get (text_units_in_encoding e text) (at + 1) ≡ Some v
      → is_word_char false u ≡ true → is_word_char false v ≡ true → place_at text (at + 1) ≡ Some p → is_at_word_boundary text icase p ≡ false
  no-edge at u v p icase first second before after there =
      let a = low-unit at u first (word-low u before) in
      let b = low-unit (at + 1) v second (word-low v after) in
      let from_a : Some p ≡ Some (a.at_place + 1) = sym there ∙ ap (place_at text) (sym a.behind) ∙ place_at-offset text (a.at_place + 1) has.is_text a.within in
      let from_b : Some p ≡ Some b.at_place = sym there ∙ b.there in
      let same_a : p ≡ suc a.at_place = (let z : p ≡ a.at_place + 1 = cc in omega (arith, z)) in
      let same_b : p ≡ b.at_place = cc in
      ap₂ exclusive_or
      (ap (λ p. is_some_and (character_before text p) (is_word_char icase)) same_a ∙ ap (λ o. is_some_and o (is_word_char icase)) a.char ∙ word-always icase u before)
      (ap (λ p. is_some_and (character_after text p) (is_word_char icase)) same_b ∙ ap (λ o. is_some_and o (is_word_char icase)) b.char ∙ word-always icase v after)

-- ---- Searches for a word boundary

module _ (program : Program) (text : Text) (has_text : HasRisingPlaceOffsets text) (icase : Bool)
    (edge : slice_get program.insns 0 ≡ Some (if icase then WordBoundaryUnicodeICase false else WordBoundary false)) where
  may : ℕ → Bool
  may ip = not (ip == 0)

  edge-bars : (s : State) → s.ip ≡ 0 → (p : ℕ) → place_at text s.pos ≡ Some p → is_at_word_boundary text icase p ≡ false → FindsNothing program text rightwards (running s)
  unfolding may
  edge-bars s is p there apart =
      closed-nothing program text has_text may s (record { closed = closed }) (ap (λ i. not (i == 0)) is)
    where
      fails : (b : Bool) → b ≡ icase → holds_there text s.pos (λ p. exclusive_or false (is_at_word_boundary text b p)) ≡ false
      fails b same =
          ap (λ o. is_some_and o (λ p. exclusive_or false (is_at_word_boundary text b p))) there
          ∙ ap (exclusive_or false) (ap (λ b. is_at_word_boundary text b p) same ∙ apart)

      first : (b : Bool) → b ≡ icase → insn_may_find program text s.pos may (Some (if b then WordBoundaryUnicodeICase false else WordBoundary false)) 0 ≡ false
      first true same = ap (λ b. b && may 1) (fails true same)
      first false same = ap (λ b. b && may 1) (fails false same)

      closed : (ip : ℕ) → may ip ≡ false → insn_may_find program text s.pos may (slice_get program.insns ip) ip ≡ false
      closed ip never =
          let zero_ip : ip ≡ 0 = eqb-true ip 0 (not-not (ip == 0) never) in
          subst (λ i. insn_may_find program text s.pos may (slice_get program.insns i) i ≡ false) (sym zero_ip)
          (ap (λ o. insn_may_find program text s.pos may o 0) edge ∙ first icase refl)
        where
          not-not : (b : Bool) → not b ≡ false → b ≡ true
          not-not true h = refl
          not-not false h = cc

module _ (w : SearchInput) (has : HasUnitsForTables w.encoding w.text) (plan : IsPlanOf (is_16_bit_encoding w.encoding) (program_of w) w.plan)
    (can : TreeProgramCanSearchText (program_of w) w.tree w.text) (edge : WordBoundaryKind) (there : slice_get w.plan.ops.items 0 ≡ Some (variant.WordEdge edge))
    (straight : edge.invert ≡ false) where
  insn-there : slice_get (program_of w).insns 0 ≡ Some (if edge.unicode_icase then WordBoundaryUnicodeICase false else WordBoundary false)
  insn-there =
      let many = plan.as_many in
      let insn = slice_get_some (program_of w).insns 0 (let below = slice_get_within w.plan.ops.items 0 (variant.WordEdge edge) there in omega (arith, below, many)) in
      insn.1 ∙ ap Some (plan.each 0 (variant.WordEdge edge) insn.0 there insn.1)
      ∙ ap (λ b. Some (if edge.unicode_icase then WordBoundaryUnicodeICase b else WordBoundary b)) straight

  -- If the key at an offset is a word character, the unit there is one.
  unit-there : (at : ℕ) → IsKeyTestAt w (is_word_char false) at true → (u : ℕ) × (slice_get (text_units_in_encoding w.encoding w.text) at ≡ Some u) × (is_word_char false u ≡ true)
  unit-there at (k, is, below, word) = by (slice_get (text_units_in_encoding w.encoding w.text) at) refl is
    where
      by : (o : Option ℕ) → slice_get (text_units_in_encoding w.encoding w.text) at ≡ o → option_map (key (is_16_bit_encoding w.encoding)) o ≡ Some k
          → (u : ℕ) × (slice_get (text_units_in_encoding w.encoding w.text) at ≡ Some u) × (is_word_char false u ≡ true)
      by None at h = cc
      by (Some u) at h =
          let same : key (is_16_bit_encoding w.encoding) u ≡ k = cc in
          let own : u ≡ k = key-own (is_16_bit_encoding w.encoding) u (subst (λ k. k < 128) (sym same) (word-low k word)) ∙ same in
          (u, at, ap (is_word_char false) own ∙ word)

  -- A sequence of units that are word characters ends at a boundary.
  pub word-end : (from count : ℕ) → IsBoundary w.text from → ((i : ℕ) → i < count → IsKeyTestAt w (is_word_char false) (from + i) true) → IsBoundary w.text (from + count)
  word-end from zero on each = subst (IsBoundary w.text) (let z : from ≡ from + 0 = omega arith in z) on
  word-end from (suc n) on each =
      let last = unit-there (from + n) (each n (omega arith)) in
      subst (IsBoundary w.text) (let z : from + n + 1 ≡ from + suc n = omega arith in z) (low-behind w.encoding w.text has (from + n) last.0 last.1 (word-low last.0 last.2))

  -- If no match begins at its start, none begins within a sequence of word characters.
  pub word-vain : (from count : ℕ) → ((i : ℕ) → i < count → IsKeyTestAt w (is_word_char false) (from + i) true) → MatchFailureExtendsUntil w from (from + count)
  word-vain from count each none at on le less = elim (cases_lt from at) [
    | inr here ↦ let same : from ≡ at = omega (arith, le, here) in subst (NoMatchOfInputAt w) same none
    | inl inner ↦ λ place is.
        let before : from + (at - from - 1) ≡ at - 1 = omega (arith, inner) in
        let here : from + (at - from) ≡ at = omega (arith, inner) in
        let next : at - 1 + 1 ≡ at = omega (arith, inner) in
        let a = unit-there (at - 1) (subst (λ n. IsKeyTestAt w (is_word_char false) n true) before (each (at - from - 1) (omega (arith, inner, less)))) in
        let b = unit-there at (subst (λ n. IsKeyTestAt w (is_word_char false) n true) here (each (at - from) (omega (arith, inner, less)))) in
        let p = offset-place_at w.text at place has.is_text is in
        let apart = no-edge w.encoding w.text has (at - 1) a.0 b.0 place edge.unicode_icase a.1 (ap (slice_get (text_units_in_encoding w.encoding w.text)) next ∙ b.1) a.2 b.2
        (ap (place_at w.text) next ∙ is) in
        nothing-no-match (program_of w) w.tree w.text can place p.1
        (edge-bars (program_of w) w.text has.is_text edge.unicode_icase insn-there (state_before_first_insn (program_of w) (offset w.text place)) refl place
        (ap (place_at w.text) p.0 ∙ is) apart)
  ]
