-- A leap with a certificate is sound, so no match starts where the goal is not reached.
use Rattle.std.proofs.Common.{◌≡◌, ◌<◌, ◌≤◌, ℕ, zero, suc, ◌+◌, ◌-◌, min, List, [], ◌∷◌, map, reverse, length, Option, Some, None, Bool, true, false, not, ◌&&◌, ◌||◌, refl, ap, ◌∙◌, sym, subst}
use Rattle.std.proofs.Common.{arith, slice_get, inl, inr}
use Rattle.std.specs.Prelude.{◌==◌, encode_utf8_all}
use Rattle.std.specs.List.{prefix_len}
use Rattle.std.proofs.lemmas.Bool.{cases_lt, eqb-true, not-false, and_right, or_from, true≢false}
use mathlib.Core.Logic.{◌⊎◌}
use Rattle.regex_meaning.specs.Tree.{Tree}
use Rattle.regex_meaning.specs.Text.{Text, rightwards, last_place, next_character, moved}
use Rattle.regex_meaning.specs.CodeUnitOffsets.{offset, place_at}
use Rattle.regex_meaning.specs.Outcomes.{is_some_and}
use Rattle.regex_meaning.specs.FirstAndAllMatches.{match_at}
use Rattle.regex_meaning.specs.OutcomesWithStepTicks.{nearest_first}
use Rattle.regex_meaning.specs.NumberListHelpers.{numbers_from}
use Rattle.regex_meaning.specs.CodeUnits.{Encoding, utf8, utf16, ucs2}
use Rattle.regex_meaning.specs.CompilationRelation.{Program, Insn, Goal, JustFail, Char, CharSet, ByteSet, ByteSeq, AsciiBracket, Bracket, MatchAny, MatchAnyExceptLineTerminator, Alt, Jump}
use Rattle.regex_meaning.specs.CompilationRelation.{EnterLoop, LoopAgain, ResetCaptureGroup, Loop1CharBody}
use Rattle.regex_meaning.specs.CompilationRelation.{StartOfLine, EndOfLine, WordBoundary, WordBoundaryUnicodeICase, BeginCaptureGroup, EndCaptureGroup, BackRef, Lookahead, Lookbehind}
use Rattle.regex_meaning.proofs.EachElementLemmas.{Each, Each-map, Each-image, Each-reverse}
use Rattle.regex_meaning.proofs.CodeUnitOffsetsLemmas.{offset-place_at}
use Rattle.regress_machine.specs.Machine.{State, running, Next, with_some, go_if, scan, act, act_on, test_of, next_insn_at_place, read_one, read_bytes, char_loop_states, occurs_beside_offset}
use Rattle.regress_machine.specs.SearchFindsFirstOutcomeAtPlace.{TreeProgramCanSearchText, state_before_first_insn}
use Rattle.regress_machine.proofs.CharLoopRepetitions.{numbers_between}
use Rattle.regress_machine.specs.ThreadSimulation.{FindsNothing}
use Rattle.regress_machine.specs.FailingInsnsAtOffset.{may_repeat, insn_may_find}
use Rattle.regress_machine.specs.FirstSetTables.{is_character_in_encoding, HasUnitsForTables, unit_key_at}
use Rattle.regress_machine.specs.RequiredPrefixes.{unit_is_allowed}
use Rattle.regress_machine.proofs.FailureByStepInduction.{NothingBelow, Drops, NothingNext, EachNothing, turn-nothing, nothing-go, nothing-goes, nothing-in_turn, nothing-below-none, finds-nothing}
use Rattle.regress_machine.proofs.FailingInsnLemmas.{insn-nothing}
use Rattle.regress_machine.proofs.RequiredPrefixLemmas.{nothing-below}
use Rattle.regress_machine.proofs.ExcludedMatchStartLemmas.{nothing-no-match}
use Rattle.regress_machine.proofs.FirstUnitsOfCharacters.{passes-one}
use Rattle.regress_program.specs.PrefixesAndPrefilters.{PrefixAt}
use Rattle.regress_program.specs.TableKeysOfUnits.{key, is_16_bit_encoding}
use Rattle.regress_program.specs.Leaps.{LeapToGoal, may_read_before_goal, goal_occurs_at, ReachesGoalAt, ReachesNoGoal, GoalIsAbsentBetween, GoalIsAbsentFrom, HasBarrierBetween, IsSoundLeap}
use Rattle.regress_program.specs.LeapCertificates.{AcceptsOnlyPassedUnits, ReadsBytesOver, RepeatsLoop, LookaheadReachesGoal, InsnReachesGoal, CertifiesLeap}
use Rattle.regress_program.proofs.LeapPassedUnits.{place-behind, char-over, run-to, bytes-over}

-- ---- One step

module _ (e : Encoding) (program : Program) (text : Text) (has : HasUnitsForTables e text) (leap : LeapToGoal) (way : ℕ → Bool) where
  abbrev k : ℕ → ℕ
  k = key (is_16_bit_encoding e)

  abbrev NoGoal : (from : ℕ) → Type 0
  NoGoal from = ReachesNoGoal leap e text from

  -- If no goal is reached from an offset, none is reached behind units that may be read.
  no-goal-on : (from to : ℕ) → from ≤ to → ((at : ℕ) → from ≤ at → at < to → may_read_before_goal leap e text at ≡ true) → NoGoal from → NoGoal to
  no-goal-on from to le over none goal there =
      let ahead = there.ahead in
      none goal (record {
        ahead = omega (arith, le, ahead);
        over = λ at from_on less. elim (cases_lt at to) [
          | inl early ↦ over at from_on early
          | inr late ↦ there.over at late less
        ];
        occurs = there.occurs;
      })

  -- A state that requires the goal at its offset finds nothing if no goal is reached from there.
  no-goal-stops : (s : State) → PrefixAt (is_16_bit_encoding e) program s.ip 1 (λ ahead. leap.goal) → NoGoal s.pos → FindsNothing program text rightwards (running s)
  no-goal-stops s prefix none = by (goal_occurs_at leap e text s.pos) refl
    where
      as_unit : (o : Option ℕ) → unit_is_allowed (λ ahead. leap.goal) 0 o ≡ is_some_and o leap.goal
      as_unit None = refl
      as_unit (Some key) = refl

      by : (b : Bool) → goal_occurs_at leap e text s.pos ≡ b → FindsNothing program text rightwards (running s)
      by true occurs = absurd (none s.pos (record { ahead = omega arith; over = λ at le less. absurd (omega (arith, le, less)); occurs = occurs }))
      by false fails =
          (prefix e refl).excludes text has s refl 0 (omega arith)
          (as_unit (unit_key_at e k text (s.pos + 0)) ∙ ap (λ at. goal_occurs_at leap e text at) (let z : s.pos + 0 ≡ s.pos = omega arith in z) ∙ fails)

  -- A state is dead if it is a member of the certificate and reaches no goal.
  pub record IsDead (s : State) : Type 0 where
    pub member : way s.ip ≡ true
    pub none : NoGoal s.pos

  module _ (n : ℕ) (s : State) (none : NoGoal s.pos) (below : (u : State) → IsDead u → Drops program text n rightwards (running u)) where
    abbrev Gone : Type 0
    Gone = NothingBelow program text (suc n) rightwards 1 (running s ∷ [])

    abbrev NoNext : Next → Type 0
    NoNext x = NothingNext program text n rightwards x

    -- ---- Instructions that read nothing

    abbrev may : ℕ → Bool
    may i = not (way i)

    excluded-here : (u : State) → u.pos ≡ s.pos → may u.ip ≡ false → Drops program text n rightwards (running u)
    excluded-here u same bar = below u (record { member = not-false (way u.ip) bar; none = subst (λ at. NoGoal at) (sym same) none })

    leads-excluded : (to : ℕ) → way to ≡ true → may to ≡ false
    leads-excluded to leads = ap not leads

    stays : (i : Option Insn) → slice_get program.insns s.ip ≡ i → insn_may_find program text s.pos may i s.ip ≡ false → Gone
    stays i is bar = insn-nothing program text has.is_text may n s excluded-here (ap (λ i. insn_may_find program text s.pos may i s.ip) is ∙ bar)

    repeat-excluded : (i : Option Insn) (begin : ℕ) → RepeatsLoop e k program leap.over way i begin → may_repeat program text s.pos may i begin ≡ false
    repeat-excluded (Some (EnterLoop f)) begin leads =
        or_from (may (begin + 1)) (may f.exit) (leads-excluded (begin + 1) leads.0) (leads-excluded f.exit leads.1)
    repeat-excluded _ begin leads = refl

    enter-excluded : (least exit : ℕ) → (least ≡ 0 → way exit ≡ true) → (least == 0 && may exit) ≡ false
    enter-excluded least exit leads = by (least == 0) refl
      where
        by : (b : Bool) → (least == 0) ≡ b → (b && may exit) ≡ false
        by true none = leads-excluded exit (leads (eqb-true least 0 none))
        by false some = refl

    look-excluded : (negate : Bool) (continuation : ℕ) → LookaheadReachesGoal e k program leap.over way negate s.ip continuation
        → (may continuation && (negate || may (s.ip + 1))) ≡ false
    look-excluded negate continuation (inl past) = ap (λ b. b && (negate || may (s.ip + 1))) (leads-excluded continuation past)
    look-excluded negate continuation (inr inside) =
        and_right (may continuation) (negate || may (s.ip + 1)) (or_from negate (may (s.ip + 1)) inside.0 (leads-excluded (s.ip + 1) inside.1))

    -- ---- Instructions that read units

    moves : (i : Option Insn) → slice_get program.insns s.ip ≡ i → NoNext (act_on program text rightwards i s) → Gone
    moves i is next =
        turn-nothing program text n rightwards s (act program text rightwards s) refl
        (subst (λ x. NoNext x) (sym (ap (λ i. act_on program text rightwards i s) is)) next)

    -- A member behind units that may be read finds nothing in shorter searches.
    behind-units : (u : State) → way u.ip ≡ true → s.pos ≤ u.pos → ((at : ℕ) → s.pos ≤ at → at < u.pos → may_read_before_goal leap e text at ≡ true)
        → Drops program text n rightwards (running u)
    behind-units u leads le over = below u (record { member = leads; none = no-goal-on s.pos u.pos le over none })

    reads : (o : Option (ℕ → Bool)) → AcceptsOnlyPassedUnits e k program leap.over way o → way (s.ip + 1) ≡ true → NoNext (with_some o (λ test. read_one text test rightwards s))
    reads None accepts leads = tt
    reads (Some test) accepts leads = at (place_at text s.pos) refl
      where
        behind-one : (p c : ℕ) → place_at text s.pos ≡ Some p → slice_get text.characters p ≡ Some c → test c ≡ true
            → Drops program text n rightwards (running (next_insn_at_place text (moved text rightwards 1 p) s))
        behind-one p c here there accepted =
            let start = (offset-place_at text s.pos p has.is_text here).0 in
            let end = place-behind e k text has leap.over p c there in
            let character = passes-one (is_character_in_encoding e) text.characters p c has.characters there in
            behind-units (next_insn_at_place text (moved text rightwards 1 p) s) leads (omega (arith, start, end))
            (λ at le less. char-over e k text has leap.over p c there (accepts c character accepted) at (omega (arith, le, start)) less)

        at : (o : Option ℕ) → place_at text s.pos ≡ o
            → NoNext (with_some o (λ p. go_if (is_some_and (next_character text rightwards p) test) (next_insn_at_place text (moved text rightwards 1 p) s)))
        at None here = tt
        at (Some p) here = next (slice_get text.characters p) refl
          where
            next : (o : Option ℕ) → slice_get text.characters p ≡ o → NoNext (go_if (is_some_and o test) (next_insn_at_place text (moved text rightwards 1 p) s))
            next None there = nothing-goes program text n rightwards
            next (Some c) there = by (test c) refl
              where
                by : (b : Bool) → test c ≡ b → NoNext (go_if b (next_insn_at_place text (moved text rightwards 1 p) s))
                by true accepted = nothing-go program text n rightwards (next_insn_at_place text (moved text rightwards 1 p) s) (behind-one p c here there accepted)
                by false accepted = nothing-goes program text n rightwards

    bytes-read : (e' : Encoding) → e ≡ e' → (bytes : List ℕ) → ReadsBytesOver e k program leap.over way e' bytes s.ip → NoNext (read_bytes text bytes rightwards s)
    bytes-read utf8 is bytes leads = by (occurs_beside_offset (encode_utf8_all text.characters) rightwards bytes s.pos) refl
      where
        by : (b : Bool) → occurs_beside_offset (encode_utf8_all text.characters) rightwards bytes s.pos ≡ b → NoNext (go_if b (record s { ip = s.ip + 1; pos = s.pos + length bytes }))
        by true here =
            nothing-go program text n rightwards (record s { ip = s.ip + 1; pos = s.pos + length bytes })
            (behind-units (record s { ip = s.ip + 1; pos = s.pos + length bytes }) leads.1 (omega arith)
            (λ at le less.
            let P : Encoding → Type 0 = λ f. is_some_and (unit_key_at f k text at) leap.over ≡ true in
            subst P (sym is) (bytes-over k text leap.over s.pos bytes here leads.0 at le less)))
        by false here = nothing-goes program text n rightwards
    bytes-read utf16 is bytes leads = absurd leads
    bytes-read ucs2 is bytes leads = absurd leads

    -- ---- Char loops

    module _ (test : ℕ → Bool) (accepts : AcceptsOnlyPassedUnits e k program leap.over way (Some test)) (least most : ℕ) (leads : way (s.ip + 2) ≡ true)
        (p : ℕ) (here : place_at text s.pos ≡ Some p) where
      abbrev last : ℕ
      last = min most (prefix_len test (nearest_first text rightwards p))

      abbrev counts : List ℕ
      counts = numbers_from least (min most (prefix_len test (nearest_first text rightwards p)) + 1 - least)

      abbrev behind : ℕ → State
      behind m = record s { ip = s.ip + 2; pos = offset text (moved text rightwards m p) }

      abbrev Gone-behind : ℕ → Type 0
      Gone-behind m = Drops program text n rightwards (running (behind m))

      gone-behind : (m : ℕ) → m ≤ last → Gone-behind m
      gone-behind m le =
          let start = (offset-place_at text s.pos p has.is_text here).0 in
          let run = run-to e k text has leap.over test accepts p m (omega (arith, le)) in
          let after = run.after in
          behind-units (behind m) leads (omega (arith, start, after))
          (λ at from less. run.each_over at (omega (arith, from, start)) less)

      within-counts : (m : ℕ) → (least ≤ m) × (m < least + (last + 1 - least)) → m ≤ last
      within-counts m inside = let lo = inside.0 in let hi = inside.1 in omega (arith, lo, hi)

      each-count : Each (λ m. Gone-behind m) counts
      each-count =
          Each-map (λ m. (least ≤ m) × (m < least + (last + 1 - least))) (λ m. Gone-behind m) (λ m inside. gone-behind m (within-counts m inside)) counts
          (numbers_between least (last + 1 - least))

      image : (ms : List ℕ) → Each (λ m. Gone-behind m) ms → EachNothing program text n rightwards (map (λ m. behind m) ms)
      image ms h = Each-image (λ m. Gone-behind m) (λ u. Drops program text n rightwards (running u)) (λ m. behind m) (λ m gone. gone) ms h

      each-exit : (greedy : Bool) → EachNothing program text n rightwards (char_loop_states text greedy rightwards least last p s)
      each-exit true = image (reverse counts) (Each-reverse (λ m. Gone-behind m) counts each-count)
      each-exit false = image counts each-count

    loops : (o : Option (ℕ → Bool)) (least most : ℕ) (greedy : Bool) → AcceptsOnlyPassedUnits e k program leap.over way o → way (s.ip + 2) ≡ true
        → NoNext (with_some o (λ test. with_some (place_at text s.pos) (λ p. scan text least most greedy test rightwards p s)))
    loops None least most greedy accepts leads = tt
    loops (Some test) least most greedy accepts leads = at (place_at text s.pos) refl
      where
        at : (o : Option ℕ) → place_at text s.pos ≡ o → NoNext (with_some o (λ p. scan text least most greedy test rightwards p s))
        at None here = tt
        at (Some p) here =
            nothing-in_turn program text n rightwards (char_loop_states text greedy rightwards least (min most (prefix_len test (nearest_first text rightwards p))) p s)
            (each-exit test accepts least most leads p here greedy)

    -- ---- Every instruction

    leads-nowhere : (i : Option Insn) → slice_get program.insns s.ip ≡ i → InsnReachesGoal e k program leap.over way i s.ip → Gone
    leads-nowhere None is leads = moves None is tt
    leads-nowhere (Some Goal) is leads = absurd leads
    leads-nowhere (Some JustFail) is leads = stays (Some JustFail) is refl
    leads-nowhere (Some (Char c)) is leads = moves (Some (Char c)) is (reads (test_of program (Some (Char c))) leads.accepts leads.leads)
    leads-nowhere (Some (CharSet members)) is leads = moves (Some (CharSet members)) is (reads (test_of program (Some (CharSet members))) leads.accepts leads.leads)
    leads-nowhere (Some (ByteSet members)) is leads = moves (Some (ByteSet members)) is (reads (test_of program (Some (ByteSet members))) leads.accepts leads.leads)
    leads-nowhere (Some (ByteSeq bytes)) is leads = moves (Some (ByteSeq bytes)) is (bytes-read e refl bytes leads)
    leads-nowhere (Some (AsciiBracket members)) is leads =
        moves (Some (AsciiBracket members)) is (reads (test_of program (Some (AsciiBracket members))) leads.accepts leads.leads)
    leads-nowhere (Some (Bracket index)) is leads = moves (Some (Bracket index)) is (reads (test_of program (Some (Bracket index))) leads.accepts leads.leads)
    leads-nowhere (Some MatchAny) is leads = moves (Some MatchAny) is (reads (test_of program (Some MatchAny)) leads.accepts leads.leads)
    leads-nowhere (Some MatchAnyExceptLineTerminator) is leads =
        moves (Some MatchAnyExceptLineTerminator) is (reads (test_of program (Some MatchAnyExceptLineTerminator)) leads.accepts leads.leads)
    leads-nowhere (Some (StartOfLine multiline)) is leads = stays (Some (StartOfLine multiline)) is (and_right _ (may (s.ip + 1)) (leads-excluded (s.ip + 1) leads))
    leads-nowhere (Some (EndOfLine multiline)) is leads = stays (Some (EndOfLine multiline)) is (and_right _ (may (s.ip + 1)) (leads-excluded (s.ip + 1) leads))
    leads-nowhere (Some (WordBoundary invert)) is leads = stays (Some (WordBoundary invert)) is (and_right _ (may (s.ip + 1)) (leads-excluded (s.ip + 1) leads))
    leads-nowhere (Some (WordBoundaryUnicodeICase invert)) is leads =
        stays (Some (WordBoundaryUnicodeICase invert)) is (and_right _ (may (s.ip + 1)) (leads-excluded (s.ip + 1) leads))
    leads-nowhere (Some (Alt secondary)) is leads =
        stays (Some (Alt secondary)) is (or_from (may (s.ip + 1)) (may secondary) (leads-excluded (s.ip + 1) leads.0) (leads-excluded secondary leads.1))
    leads-nowhere (Some (Jump target)) is leads = stays (Some (Jump target)) is (leads-excluded target leads)
    leads-nowhere (Some (EnterLoop f)) is leads =
        stays (Some (EnterLoop f)) is
        (or_from (may (s.ip + 1)) (f.min_iters == 0 && may f.exit) (leads-excluded (s.ip + 1) leads.inside) (enter-excluded f.min_iters f.exit leads.outside))
    leads-nowhere (Some (LoopAgain begin)) is leads = stays (Some (LoopAgain begin)) is (repeat-excluded (slice_get program.insns begin) begin leads)
    leads-nowhere (Some (ResetCaptureGroup id)) is leads = stays (Some (ResetCaptureGroup id)) is (leads-excluded (s.ip + 1) leads)
    leads-nowhere (Some (Loop1CharBody least most greedy)) is leads =
        moves (Some (Loop1CharBody least most greedy)) is (loops (test_of program (slice_get program.insns (s.ip + 1))) least most greedy leads.accepts leads.leads)
    leads-nowhere (Some (BeginCaptureGroup id)) is leads = stays (Some (BeginCaptureGroup id)) is (leads-excluded (s.ip + 1) leads)
    leads-nowhere (Some (EndCaptureGroup id)) is leads = stays (Some (EndCaptureGroup id)) is (leads-excluded (s.ip + 1) leads)
    leads-nowhere (Some (BackRef group same)) is leads = absurd leads
    leads-nowhere (Some (Lookahead negate start_group end_group continuation)) is leads =
        stays (Some (Lookahead negate start_group end_group continuation)) is (look-excluded negate continuation leads)
    leads-nowhere (Some (Lookbehind negate start_group end_group continuation)) is leads =
        stays (Some (Lookbehind negate start_group end_group continuation)) is (leads-excluded continuation leads)

  -- ---- Any number of steps

  module _ (certifies : CertifiesLeap (is_16_bit_encoding e) program leap way) where
    dead-below : (n : ℕ) (s : State) → IsDead s → NothingBelow program text n rightwards 1 (running s ∷ [])
    dead-below zero s dead = nothing-below-none program text rightwards s
    dead-below (suc n) s dead = elim (certifies.lead s.ip dead.member) [
      | inl prefix ↦ nothing-below program text (suc n) s (no-goal-stops s prefix dead.none)
      | inr leads ↦ leads-nowhere n s dead.none (λ u gone. dead-below n u gone) (slice_get program.insns s.ip) refl (leads e refl)
    ]

    pub certified-excludes : (s : State) → s.ip ≡ 0 → NoGoal s.pos → FindsNothing program text rightwards (running s)
    certified-excludes s is none =
        finds-nothing program text rightwards (running s) (λ n. dead-below n s (record { member = ap way is ∙ certifies.first; none = none }))

-- A certified leap is sound.
pub certified-sound : (wide : Bool) (program : Program) (leap : LeapToGoal) (way : ℕ → Bool) → CertifiesLeap wide program leap way → IsSoundLeap wide program leap
certified-sound wide program leap way certifies = record {
  excludes = λ e w text has s is none.
      certified-excludes e program text has leap way
      (let P : Bool → Type 0 = λ wide. CertifiesLeap wide program leap way in subst P (sym w) certifies) s is none;
}

-- ---- Offsets at which no match begins

module _ (e : Encoding) (program : Program) (tree : Tree) (text : Text) (leap : LeapToGoal) (can : TreeProgramCanSearchText program tree text)
    (has : HasUnitsForTables e text) (sound : IsSoundLeap (is_16_bit_encoding e) program leap) where
  -- If the goal is absent between two offsets, no match begins between them before a barrier.
  pub starts-cut-off : (from to : ℕ) → GoalIsAbsentBetween leap e text from to → (place : ℕ) → place ≤ last_place text → from ≤ offset text place
      → HasBarrierBetween leap e text (offset text place) to → match_at tree.root text place ≡ None
  starts-cut-off from to absent place inside le barrier =
      nothing-no-match program tree text can place inside
      (sound.excludes e refl text has (state_before_first_insn program (offset text place)) refl (λ goal there. by goal there (cases_lt goal to)))
    where
      by : (goal : ℕ) → ReachesGoalAt leap e text (offset text place) goal → (goal < to) ⊎ (to ≤ goal) → ⊥
      by goal there (inl early) =
          let ahead = there.ahead in
          true≢false (sym there.occurs ∙ absent goal (omega (arith, le, ahead)) early)
      by goal there (inr late) =
          let before = barrier.before in
          true≢false (sym (there.over barrier.at barrier.after (omega (arith, before, late))) ∙ barrier.barred)

  -- If the goal is absent from an offset on, no match begins from there on.
  pub starts-without : (from : ℕ) → GoalIsAbsentFrom leap e text from → (place : ℕ) → place ≤ last_place text → from ≤ offset text place
      → match_at tree.root text place ≡ None
  starts-without from absent place inside le =
      nothing-no-match program tree text can place inside
      (sound.excludes e refl text has (state_before_first_insn program (offset text place)) refl
      (λ goal there. let ahead = there.ahead in true≢false (sym there.occurs ∙ absent goal (omega (arith, le, ahead)))))
