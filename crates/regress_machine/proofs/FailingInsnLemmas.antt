-- A state finds nothing if a closed set excludes its instruction at its offset.
use Rattle.std.proofs.Common.{◌≡◌, ℕ, zero, suc, ◌+◌, ◌-◌, min, map, reverse, List, [], ◌∷◌, Option, Some, None, Bool, true, false, ◌&&◌, ◌||◌, refl, ap, ◌∙◌, sym, subst, arith, slice_get, slice_set}
use Rattle.std.proofs.Common.{length, cond}
use Rattle.std.specs.Prelude.{if◌then◌else◌, nat_lt, ◌==◌, encode_utf8_all}
use Rattle.std.specs.List.{prefix_len}
use Rattle.std.proofs.lemmas.Bool.{ltb-false, leb-true, eq-eqb}
use Rattle.regex_meaning.specs.NumberListHelpers.{numbers_from}
use Rattle.regex_meaning.specs.Text.{Text, rightwards, next_character, moved}
use Rattle.regex_meaning.specs.CodeUnitOffsets.{HasRisingPlaceOffsets, offset, place_at}
use Rattle.regex_meaning.specs.Outcomes.{is_some_and}
use Rattle.regex_meaning.specs.OutcomesWithStepTicks.{nearest_first}
use Rattle.regex_meaning.specs.CompilationRelation.{Program, Insn, Goal, JustFail, Char, CharSet, ByteSet, ByteSeq, AsciiBracket, Bracket, MatchAny, MatchAnyExceptLineTerminator, Alt, Jump}
use Rattle.regex_meaning.specs.CompilationRelation.{EnterLoop, LoopAgain, ResetCaptureGroup, Loop1CharBody}
use Rattle.regex_meaning.specs.CompilationRelation.{BeginCaptureGroup, EndCaptureGroup, BackRef, Lookahead, Lookbehind}
use Rattle.regex_meaning.proofs.CodeUnitOffsetsLemmas.{offset-place_at}
use Rattle.regress_machine.specs.Machine.{LoopData, State, running, waiting, Next, goes, asks, state_with_ip, state_at_next_ip, with_some, go, go_if, iterate_or_leave_at_loop_head, char_loop_states}
use Rattle.regress_machine.specs.Machine.{scan, act_on, act, after_lookaround, range_swapped_if_leftwards}
use Rattle.regress_machine.specs.Machine.{effect_at_iteration_end, loop_again_effect, test_of, occurs_beside_offset, next_insn_at_place, read_one, read_bytes, stay_if}
use Rattle.regress_machine.proofs.NearestCharacterLemmas.{Beside, nothing_left, one_more, beside, moved-zero}
use Rattle.regress_machine.specs.ThreadSimulation.{FindsNothing}
use Rattle.regress_machine.specs.FailingInsnsAtOffset.{holds_there, accepts_char_at_offset, may_repeat, insn_may_find, IsClosedSetOfInsnsThatMayFind}
use Rattle.regress_machine.proofs.FailureByStepInduction.{NothingBelow, Drops, DropAll, NothingNext, EachNothing, turn-nothing, nothing-here, nothing-more, nothing-one, nothing-waits, nothing-ends}
use Rattle.regress_machine.proofs.FailureByStepInduction.{nothing-goes, nothing-only, nothing-some, nothing-go}
use Rattle.regress_machine.proofs.FailureByStepInduction.{nothing-in_turn, nothing-loop, nothing-below-none, finds-nothing}
use Rattle.regex_meaning.proofs.BoolLemmas.{or-false-left, or-false-right}

-- ---- Tests that fail

and-false-then : (a b : Bool) → (a && b) ≡ false → a ≡ true → b ≡ false
and-false-then true b e h = e
and-false-then false b e h = cc

-- At least one of two tests fails.
data Fails (a b : Bool) : Type 0 where
  first : a ≡ false → Fails a b
  second : a ≡ true → b ≡ false → Fails a b

fails : (a b : Bool) → (a && b) ≡ false → Fails a b
fails true b e = second refl e
fails false b e = first refl

-- ---- The instructions

module _ (program : Program) (text : Text) (is : HasRisingPlaceOffsets text) (may : ℕ → Bool) (n : ℕ) where
  abbrev Nothing : State → Type 0
  Nothing s = Drops program text n rightwards (running s)

  abbrev NoNext : Next → Type 0
  NoNext x = NothingNext program text n rightwards x

  module _ (s : State) (known : (u : State) → u.pos ≡ s.pos → may u.ip ≡ false → Nothing u) where
    -- If a closed set excludes the next instruction, the state there finds nothing.
    nothing-on : (p : ℕ) → place_at text s.pos ≡ Some p → may (s.ip + 1) ≡ false → Nothing (next_insn_at_place text p s)
    nothing-on p at bar = known (next_insn_at_place text p s) (offset-place_at text s.pos p is at).0 bar

    nothing-stay : (holds : ℕ → Bool) → (holds_there text s.pos holds && may (s.ip + 1)) ≡ false → NoNext (stay_if text holds s)
    nothing-stay holds bar = by (place_at text s.pos) refl (fails (holds_there text s.pos holds) (may (s.ip + 1)) bar)
      where
        goes-on : (p : ℕ) (b : Bool) → (b ≡ true → Nothing (next_insn_at_place text p s)) → NoNext (go_if b (next_insn_at_place text p s))
        goes-on p true h = nothing-go program text n rightwards (next_insn_at_place text p s) (h refl)
        goes-on p false h = nothing-goes program text n rightwards

        by : (o : Option ℕ) → place_at text s.pos ≡ o → Fails (is_some_and (place_at text s.pos) holds) (may (s.ip + 1))
            → NoNext (with_some o (λ p. go_if (holds p) (next_insn_at_place text p s)))
        by None at f = tt
        by (Some p) at (first none) =
            let no : holds p ≡ false = ap (λ o. is_some_and o holds) (sym at) ∙ none in
            goes-on p (holds p) (λ h. cc)
        by (Some p) at (second some none) = goes-on p (holds p) (λ h. nothing-on p at none)

    nothing-read : (o : Option (ℕ → Bool)) → accepts_char_at_offset text s.pos o ≡ false → NoNext (with_some o (λ test. read_one text test rightwards s))
    nothing-read None bar = tt
    nothing-read (Some test) bar = by (place_at text s.pos) bar
      where
        by : (o : Option ℕ) → is_some_and o (λ p. is_some_and (next_character text rightwards p) test) ≡ false
            → NoNext (with_some o (λ p. go_if (is_some_and (next_character text rightwards p) test) (next_insn_at_place text (moved text rightwards 1 p) s)))
        by None none = tt
        by (Some p) none =
            subst (λ b. NoNext (go_if b (next_insn_at_place text (moved text rightwards 1 p) s))) (sym none) (nothing-goes program text n rightwards)

    nothing-bytes : (bytes : List ℕ) → occurs_beside_offset (encode_utf8_all text.characters) rightwards bytes s.pos ≡ false → NoNext (read_bytes text bytes rightwards s)
    nothing-bytes bytes bar =
        subst (λ b. NoNext (go_if b (record s { ip = s.ip + 1; pos = s.pos + length bytes }))) (sym bar) (nothing-goes program text n rightwards)

    nothing-again : (i : Option Insn) (begin : ℕ) → may_repeat program text s.pos may i begin ≡ false → NoNext (loop_again_effect i begin s)
    nothing-again (Some (EnterLoop f)) begin bar =
        nothing-some program text n rightwards (slice_get s.loops f.loop_id) (λ d. effect_at_iteration_end f begin d s)
        (λ d e. nothing-only program text n rightwards (nat_lt d.iters f.max_iters) _ (by d (d.entry == s.pos && nat_lt f.min_iters (d.iters + 1))))
      where
        by : (d : LoopData) (b : Bool) → NoNext (if b then goes [] else iterate_or_leave_at_loop_head f begin (d.iters + 1) s)
        by d true = nothing-goes program text n rightwards
        by d false =
            let more = record s { ip = begin + 1; loops = slice_set s.loops f.loop_id (record { iters = d.iters + 1; entry = s.pos }) } in
            nothing-loop program text n rightwards f begin (d.iters + 1) s
            (λ h. known more refl (or-false-left (may (begin + 1)) (may f.exit) bar))
            (λ h. known (state_with_ip f.exit s) refl (or-false-right (may (begin + 1)) (may f.exit) bar))
    nothing-again _ begin bar = tt

    -- ---- Lookarounds

    nothing-resumed : (negate : Bool) (w : State) (e : Option State) → w.pos ≡ s.pos → may w.ip ≡ false → DropAll program text n rightwards (after_lookaround negate w e)
    nothing-resumed false w None same bar = nothing-here program text n rightwards
    nothing-resumed false w (Some inner) same bar = nothing-one program text n rightwards _ (known (record inner { ip = w.ip; pos = w.pos }) same bar)
    nothing-resumed true w None same bar = nothing-one program text n rightwards _ (known w same bar)
    nothing-resumed true w (Some inner) same bar = nothing-here program text n rightwards

    nothing-failed : (negate : Bool) (w : State) (e : Option State) → negate ≡ false → None ≡ e → DropAll program text n rightwards (after_lookaround negate w e)
    nothing-failed negate w e bar none =
        subst (λ e. DropAll program text n rightwards (after_lookaround negate w e)) none
        (subst (λ b. DropAll program text n rightwards (after_lookaround b w None)) (sym bar) (nothing-here program text n rightwards))

    nothing-ahead : (negate : Bool) (continuation : ℕ) → (may continuation && (negate || may (s.ip + 1))) ≡ false
        → NoNext (asks rightwards negate (state_at_next_ip s) (state_with_ip continuation s))
    nothing-ahead negate continuation bar = by (fails (may continuation) (negate || may (s.ip + 1)) bar)
      where
        by : Fails (may continuation) (negate || may (s.ip + 1)) → NoNext (asks rightwards negate (state_at_next_ip s) (state_with_ip continuation s))
        by (first out) = λ k g e few. nothing-resumed negate (state_with_ip continuation s) g.end refl out
        by (second out inside) = λ k g e few.
            nothing-failed negate (state_with_ip continuation s) g.end (or-false-left negate (may (s.ip + 1)) inside)
            (nothing-ends program text n rightwards k (running (state_at_next_ip s)) g
            (known (state_at_next_ip s) refl (or-false-right negate (may (s.ip + 1)) inside)) e few)

    -- ---- Char loops

    none-accepted : (p : ℕ) → place_at text s.pos ≡ Some p → (test : ℕ → Bool) → is_some_and (next_character text rightwards p) test ≡ false
        → prefix_len test (nearest_first text rightwards p) ≡ 0
    none-accepted p at test bar = by (beside text rightwards p (offset-place_at text s.pos p is at).1)
      where
        by : Beside text rightwards p → prefix_len test (nearest_first text rightwards p) ≡ 0
        by (nothing_left none nothing left) = ap (prefix_len test) nothing
        by (one_more c is rest left within) =
            let fails : test c ≡ false = ap (λ o. is_some_and o test) (sym is) ∙ bar in
            ap (prefix_len test) rest ∙ ap (λ b. cond b (1 + prefix_len test (nearest_first text rightwards (moved text rightwards 1 p))) 0) fails

    runs-nothing : (p : ℕ) → place_at text s.pos ≡ Some p → (least most : ℕ) (greedy : Bool) → most ≡ 0 → (least == 0 && may (s.ip + 2)) ≡ false
        → EachNothing program text n rightwards (char_loop_states text greedy rightwards least most p s)
    runs-nothing p at zero most greedy none bar =
        subst (λ m. EachNothing program text n rightwards (char_loop_states text greedy rightwards 0 m p s)) (sym none) (by greedy)
      where
        behind : State
        behind = record s { ip = s.ip + 2; pos = offset text (moved text rightwards 0 p) }

        here : Nothing behind
        here = known behind (ap (offset text) (moved-zero text rightwards p) ∙ (offset-place_at text s.pos p is at).0) bar

        by : (greedy : Bool) → EachNothing program text n rightwards (char_loop_states text greedy rightwards 0 0 p s)
        by true = (here, tt)
        by false = (here, tt)
    runs-nothing p at (suc least) most greedy none bar =
        subst (λ m. EachNothing program text n rightwards (states (if greedy then reverse (numbers_from (suc least) m) else numbers_from (suc least) m))) (sym few) (by greedy)
      where
        states : List ℕ → List State
        states counts = map (λ n. record s { ip = s.ip + 2; pos = offset text (moved text rightwards n p) }) counts

        few : most + 1 - suc least ≡ 0
        few = omega (arith, none)

        by : (greedy : Bool) → EachNothing program text n rightwards (states (if greedy then reverse [] else []))
        by true = tt
        by false = tt

    nothing-scan : (least most : ℕ) (greedy : Bool) (o : Option (ℕ → Bool)) → (nat_lt 0 most && accepts_char_at_offset text s.pos o || least == 0 && may (s.ip + 2)) ≡ false
        → NoNext (with_some o (λ test. with_some (place_at text s.pos) (λ p. scan text least most greedy test rightwards p s)))
    nothing-scan least most greedy None bar = tt
    nothing-scan least most greedy (Some test) bar = by (place_at text s.pos) refl
      where
        leaving : (least == 0 && may (s.ip + 2)) ≡ false
        leaving = or-false-right (nat_lt 0 most && accepts_char_at_offset text s.pos (Some test)) (least == 0 && may (s.ip + 2)) bar

        no-more : (p : ℕ) → place_at text s.pos ≡ Some p → Fails (nat_lt 0 most) (accepts_char_at_offset text s.pos (Some test))
            → min most (prefix_len test (nearest_first text rightwards p)) ≡ 0
        no-more p at (first none) = let le = ltb-false 0 most none in omega arith
        no-more p at (second some none) =
            let excludes : is_some_and (next_character text rightwards p) test ≡ false =
            ap (λ o. is_some_and o (λ p. is_some_and (next_character text rightwards p) test)) (sym at) ∙ none in
            let zero_len = none-accepted p at test excludes in
            omega (arith, zero_len)

        by : (o : Option ℕ) → place_at text s.pos ≡ o → NoNext (with_some o (λ p. scan text least most greedy test rightwards p s))
        by None at = tt
        by (Some p) at =
            let accepted = prefix_len test (nearest_first text rightwards p) in
            nothing-in_turn program text n rightwards (char_loop_states text greedy rightwards least (min most accepted) p s)
            (runs-nothing p at least (min most accepted) greedy
            (no-more p at (fails (nat_lt 0 most) (accepts_char_at_offset text s.pos (Some test))
            (or-false-left (nat_lt 0 most && accepts_char_at_offset text s.pos (Some test)) (least == 0 && may (s.ip + 2)) bar)))
            leaving)

    -- ---- Every instruction

    nothing-insn : (i : Option Insn) → insn_may_find program text s.pos may i s.ip ≡ false → NoNext (act_on program text rightwards i s)
    nothing-insn None bar = tt
    nothing-insn (Some Goal) bar = cc
    nothing-insn (Some JustFail) bar = nothing-goes program text n rightwards
    nothing-insn (Some (Char c)) bar = nothing-read (test_of program (Some (Char c))) bar
    nothing-insn (Some (CharSet members)) bar = nothing-read (test_of program (Some (CharSet members))) bar
    nothing-insn (Some (ByteSet members)) bar = nothing-read (test_of program (Some (ByteSet members))) bar
    nothing-insn (Some (ByteSeq bytes)) bar = nothing-bytes bytes bar
    nothing-insn (Some (AsciiBracket members)) bar = nothing-read (test_of program (Some (AsciiBracket members))) bar
    nothing-insn (Some (Bracket index)) bar = nothing-read (test_of program (Some (Bracket index))) bar
    nothing-insn (Some MatchAny) bar = nothing-read (test_of program (Some MatchAny)) bar
    nothing-insn (Some MatchAnyExceptLineTerminator) bar = nothing-read (test_of program (Some MatchAnyExceptLineTerminator)) bar
    nothing-insn (Some (Alt secondary)) bar =
        nothing-more program text n rightwards (running (state_at_next_ip s)) (waiting (state_with_ip secondary s) ∷ [])
        (known (state_at_next_ip s) refl (or-false-left (may (s.ip + 1)) (may secondary) bar))
        (nothing-one program text n rightwards (waiting (state_with_ip secondary s)) (nothing-waits program text n rightwards (state_with_ip secondary s)
        (known (state_with_ip secondary s) refl (or-false-right (may (s.ip + 1)) (may secondary) bar))))
    nothing-insn (Some (Jump target)) bar = nothing-go program text n rightwards (state_with_ip target s) (known (state_with_ip target s) refl bar)
    nothing-insn (Some (EnterLoop f)) bar =
        nothing-loop program text n rightwards f s.ip 0 s
        (λ h. known (record s { ip = s.ip + 1; loops = slice_set s.loops f.loop_id (record { iters = 0; entry = s.pos }) }) refl
        (or-false-left (may (s.ip + 1)) (f.min_iters == 0 && may f.exit) bar))
        (λ h. known (state_with_ip f.exit s) refl
        (and-false-then (f.min_iters == 0) (may f.exit) (or-false-right (may (s.ip + 1)) (f.min_iters == 0 && may f.exit) bar)
        (let le = leb-true f.min_iters 0 h in eq-eqb f.min_iters 0 (omega (arith, le)))))
    nothing-insn (Some (LoopAgain begin)) bar = nothing-again (slice_get program.insns begin) begin bar
    nothing-insn (Some (ResetCaptureGroup id)) bar =
        let u = record s { ip = s.ip + 1; groups = slice_set s.groups id None } in
        nothing-only program text n rightwards (nat_lt id (length s.groups)) (go u) (nothing-go program text n rightwards u (known u refl bar))
    nothing-insn (Some (Loop1CharBody min_iters max_iters greedy)) bar =
        nothing-scan min_iters max_iters greedy (test_of program (slice_get program.insns (s.ip + 1))) bar
    nothing-insn (Some (BeginCaptureGroup id)) bar =
        let u = record s { ip = s.ip + 1; groups = slice_set s.groups id None; starts = slice_set s.starts id s.pos } in
        nothing-only program text n rightwards (nat_lt id (length s.groups) && nat_lt id (length s.starts)) (go u)
        (nothing-go program text n rightwards u (known u refl bar))
    nothing-insn (Some (EndCaptureGroup id)) bar =
        nothing-only program text n rightwards (nat_lt id (length s.groups)) _
        (nothing-some program text n rightwards (slice_get s.starts id)
        (λ start. go (record s { ip = s.ip + 1; groups = slice_set s.groups id (Some (range_swapped_if_leftwards rightwards start s.pos)) }))
        (λ start e.
        let u = record s { ip = s.ip + 1; groups = slice_set s.groups id (Some (range_swapped_if_leftwards rightwards start s.pos)) } in
        nothing-go program text n rightwards u (known u refl bar)))
    nothing-insn (Some (BackRef group icase)) bar = cc
    nothing-insn (Some (Lookahead negate start_group end_group continuation)) bar = nothing-ahead negate continuation bar
    nothing-insn (Some (Lookbehind negate start_group end_group continuation)) bar =
        λ k g e few. nothing-resumed negate (state_with_ip continuation s) g.end refl bar
    nothing-insn (Some _) bar = nothing-stay _ bar

    pub insn-nothing : insn_may_find program text s.pos may (slice_get program.insns s.ip) s.ip ≡ false → NothingBelow program text (suc n) rightwards 1 (running s ∷ [])
    insn-nothing bar =
        turn-nothing program text n rightwards s (act program text rightwards s) refl (nothing-insn (slice_get program.insns s.ip) bar)

-- ---- Every number of steps

module _ (program : Program) (text : Text) (is : HasRisingPlaceOffsets text) (may : ℕ → Bool) (at : ℕ) (all : IsClosedSetOfInsnsThatMayFind program text at may) where
  closed-below : (n : ℕ) (s : State) → at ≡ s.pos → may s.ip ≡ false → NothingBelow program text n rightwards 1 (running s ∷ [])
  closed-below zero s here bar = nothing-below-none program text rightwards s
  closed-below (suc n) s here bar =
      insn-nothing program text is may n s (λ u there excluded. closed-below n u (here ∙ sym there) excluded)
      (subst (λ at. insn_may_find program text at may (slice_get program.insns s.ip) s.ip ≡ false) here (all.closed s.ip bar))

pub closed-nothing : (program : Program) (text : Text) → HasRisingPlaceOffsets text → (may : ℕ → Bool) (s : State)
    → IsClosedSetOfInsnsThatMayFind program text s.pos may → may s.ip ≡ false → FindsNothing program text rightwards (running s)
closed-nothing program text is may s all bar =
    finds-nothing program text rightwards (running s) (λ n. closed-below program text is may s.pos all n s refl bar)
