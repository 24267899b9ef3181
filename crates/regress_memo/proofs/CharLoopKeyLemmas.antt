-- The threads that a char loop without a maximum leaves from a position on have a key.
use Rattle.std.proofs.Common.{◌≡◌, ◌≤◌, ◌<◌, ℕ, suc, ◌+◌, ◌-◌, ◌*◌, ◌/◌, ◌%◌, List, [], ◌∷◌, ◌++◌, map, Option, Some, None, Bool, true, false, not, refl, ap, ap₂, ◌∙◌, sym, subst, arith, slice_get}
use Rattle.std.proofs.Common.{add-one}
use Rattle.std.specs.Prelude.{if◌then◌else◌, ◌==◌, option_map, unwrap_or}
use mathlib.Core.Logic.{inl, inr}
use Rattle.std.proofs.lemmas.Bool.{eqb-true, eqb-false, lt-ltb, le-leb, and_from}
use Rattle.regex_meaning.specs.NumberListHelpers.{numbers_from}
use Rattle.regex_meaning.specs.Text.{Text, Direction, last_place}
use Rattle.regex_meaning.specs.CodeUnitOffsets.{HasRisingPlaceOffsets, offset, place_at, units}
use Rattle.regex_meaning.specs.CompilationRelation.{Program}
use Rattle.regex_meaning.proofs.EachElementLemmas.{Each, Each-map, Each-reverse}
use Rattle.regex_meaning.proofs.CodeUnitOffsetsLemmas.{place_at-offset}
use Rattle.regress_machine.specs.Machine.{LoopData, State, Thread, waiting, first_running_and_others_waiting, test_of}
use Rattle.regress_machine.proofs.NearestCharacterLemmas.{moved-zero}
use Rattle.regress_machine.proofs.OffsetsInsideText.{offset-inside}
use Rattle.regress_machine.proofs.CharLoopRepetitions.{numbers_between}
use Rattle.regress_machine.specs.CharLoopExitStatesByPreference.{behind, fewest_first, most_first}
use Rattle.regress_machine.proofs.CharLoopExitStateLemmas.{most-parts}
use Rattle.regress_memo.specs.ThreadBisimulation.{Relation, AlikeThreads}
use Rattle.regress_memo.specs.Liveness.{Liveness, IsNotAheadInDirection, IsSound, Agree, outermost}
use Rattle.regress_memo.specs.MemoKeys.{IsSoundState}
use Rattle.regress_memo.specs.DistinctLists.{IsIn}
use Rattle.regress_memo.specs.MemoSearch.{Key, Keys, AreSound}
use Rattle.regress_memo.specs.ThreadPotentials.{Shape, stands_there, has_shape}
use Rattle.regress_memo.specs.LoopDataKeyCodes.{Question, is_empty, how_many, number_of_possible_answers, bool_as_digit, answer_to_loop_question, code_of, codes_of, plan_code, plan_codes}
use Rattle.regress_memo.specs.LoopDataKeyCodes.{HasSlotsOfProgram}
use Rattle.regress_memo.specs.CharLoopExitThreadLists.{passing, greedy_loop_threads, pending_loop_threads}
use Rattle.regress_memo.specs.UnboundedCharLoopMemoKeys.{answer_after_read_char, code_after_read_char, first_runs, shape_on, run_row, char_loop_greediness_at, insn_before, row_by, plan_rows}
use Rattle.regress_memo.specs.UnboundedCharLoopMemoKeys.{CharLoopRecords, run_key, plan_keys, IsOfPlan, RunHasKeys, CharLoopsHaveKeys}
use Rattle.regress_memo.proofs.LivenessLemmas.{moves-on, not-here}
use Rattle.regress_memo.proofs.MemoKeyLemmas.{sound-state}
use Rattle.regress_memo.proofs.CharLoopExitLemmas.{passing-left}
use Rattle.regress_memo.proofs.LoopDataKeyCodeLemmas.{digits-same, answer-below, code-below, way-same, stands-here}

-- ---- Codes behind a char loop

code-on : (qs : List Question) (s t : State) → ((q : Question) → IsIn q qs → answer_to_loop_question q t ≡ answer_after_read_char q (answer_to_loop_question q s)) → code_of qs t ≡ code_after_read_char qs (code_of qs s)
code-on [] s t each = refl
code-on (q ∷ qs) s t each =
    let r = number_of_possible_answers q in
    let n = answer_to_loop_question q s + r * code_of qs s in
    let below = answer-below q s in
    let some : 0 < r = omega (arith, below) in
    let less : n % r < r = omega (arith, some) in
    let parts : n % r + r * (n / r) ≡ answer_to_loop_question q s + r * code_of qs s = omega (arith, some) in
    let both = digits-same r (n % r) (answer_to_loop_question q s) (n / r) (code_of qs s) less below parts in
    ap₂ (λ m k. m + r * k) (each q (inl refl) ∙ ap (answer_after_read_char q) (sym both.0))
    (code-on qs s t (λ p there. each p (inr there)) ∙ ap (code_after_read_char qs) (sym both.1))

-- ---- Rows of shapes

module _ (program : Program) (code : State → ℕ) (f : ℕ → Shape) (b : ℕ → State) where
  abbrev Stands : ℕ → Type 0
  Stands n = (stands_there program code (f n) (b n) ≡ true) × ((f n).runs ≡ false)

  waiting-row : (ns : List ℕ) → Each Stands ns → has_shape program code (map f ns) (map waiting (map b ns)) ≡ true
  waiting-row [] h = refl
  waiting-row (n ∷ ns) h = and_from _ _ (ap not h.0.1) (and_from _ _ h.0.0 (waiting-row ns h.1))

  row-in-turn : (ns : List ℕ) → Each Stands ns → has_shape program code (first_runs (map f ns)) (first_running_and_others_waiting (map b ns)) ≡ true
  row-in-turn [] h = refl
  row-in-turn (n ∷ ns) h = and_from _ _ h.0.0 (waiting-row ns h.1)

-- ---- Rows of sound states

module _ (R : Relation) where
  last-waits : (xs : List State) (y : State) → AlikeThreads R (map waiting (xs ++ y ∷ [])) (map waiting (xs ++ y ∷ [])) → R y y
  last-waits [] y h = h.0
  last-waits (x ∷ xs) y h = last-waits xs y h.1

  last-in-turn : (xs : List State) (y : State) → AlikeThreads R (first_running_and_others_waiting (xs ++ y ∷ [])) (first_running_and_others_waiting (xs ++ y ∷ [])) → R y y
  last-in-turn [] y h = h.0
  last-in-turn (x ∷ xs) y h = last-waits xs y h.1

-- ---- Shapes that a char loop leaves

module _ (program : Program) (text : Text) (a : Liveness) (d : Direction) (test : ℕ → Bool) (questions : ℕ → List Question) (place : ℕ) (s : State) (is : HasRisingPlaceOffsets text) (within : place ≤ last_place text) (of : HasSlotsOfProgram program s) where
  abbrev at-place : ℕ → State
  at-place n = behind text d place s n

  abbrev behind-it : List Question
  behind-it = questions (s.ip + 2)

  abbrev code : State → ℕ
  code = plan_code questions

  -- `shapes n` is the shape of the state that the loop leaves after `n` characters.
  abbrev shapes : ℕ → Shape
  shapes n = shape_on text test d behind-it (s.ip + 2) place (code (at-place 0)) n

  abbrev row : Bool → List Shape
  row greedy = run_row text test d behind-it greedy (s.ip + 2) place (code (at-place 0))

  abbrev Asked : Type 0
  Asked = (l : ℕ) → IsIn (is_empty l) behind-it → a.inside (s.ip + 2) l ≡ true

  -- Loop data that is sound at the first place was not entered at any later place.
  not-empty : (n : ℕ) → (n ≡ 0 → ⊥) → n ≤ passing text test d place → (x : LoopData) (l : ℕ)
      → IsSound a (units text) d (at-place 0).pos (s.ip + 2) l x → (x.entry == (at-place n).pos) ≡ false
  not-empty n some le x l sound =
      let few = passing-left text test d place within in
      let m = moves-on text is d (offset text place) place n (place_at-offset text place is within) (omega (arith, few, le)) in
      let here : (at-place 0).pos ≡ offset text place = ap (offset text) (moved-zero text d place) in
      not-here d x.entry (offset text place) (at-place n).pos (subst (λ p. IsNotAheadInDirection d x.entry p) here sound.passed) m.passed (m.further (lt-ltb 0 n (omega (arith, some))))

  module _ (sound : IsSoundState a (units text) d (at-place 0)) (asked : Asked) where
    answer-further : (n : ℕ) → (n ≡ 0 → ⊥) → n ≤ passing text test d place → (q : Question) → IsIn q behind-it → answer_to_loop_question q (at-place n) ≡ answer_after_read_char q (answer_to_loop_question q (at-place 0))
    answer-further n some le (how_many l most) h = refl
    answer-further n some le (is_empty l) h = by (slice_get s.loops l) refl
      where
        by : (o : Option LoopData) → slice_get s.loops l ≡ o → unwrap_or (option_map (λ (x : LoopData). bool_as_digit (x.entry == (at-place n).pos)) o) 0 ≡ 0
        by None e = refl
        by (Some x) e = ap bool_as_digit (not-empty n some le x l (sound.loops l x (asked l h) e))

    shape-stands : (n : ℕ) → n ≤ passing text test d place → stands_there program code (shapes n) (at-place n) ≡ true
    shape-stands n le =
        stands-here program code (shapes n) (at-place n) (record { groups = of.groups; starts = of.starts; loops = of.loops }) refl refl (by (n == 0) refl)
      where
        by : (b : Bool) → (n == 0) ≡ b → code (at-place n) ≡ (if b then code (at-place 0) else code_after_read_char behind-it (code (at-place 0)))
        by true e = ap (λ m. code (at-place m)) (eqb-true n 0 e)
        by false e = code-on behind-it (at-place 0) (at-place n) (answer-further n (eqb-false n 0 e) le)

    all-stand : Each (Stands program code shapes at-place) (numbers_from 0 (passing text test d place + 1))
    all-stand = Each-map _ _ (λ n h. let less = h.1 in (shape-stands n (omega (arith, less)), refl)) _ (numbers_between 0 (passing text test d place + 1))

    count-is : passing text test d place + 1 - 0 ≡ passing text test d place + 1
    count-is = omega arith

    greedy-stands : has_shape program code (row true) (greedy_loop_threads text test d 0 place s) ≡ true
    greedy-stands =
        ap (λ m. has_shape program code (row true) (first_running_and_others_waiting (most_first text d place s 0 m))) count-is
        ∙ row-in-turn program code shapes at-place _ (Each-reverse _ _ all-stand)

    lazy-stands : has_shape program code (row false) (pending_loop_threads text test d 0 place s) ≡ true
    lazy-stands =
        ap (λ m. has_shape program code (row false) (map waiting (fewest_first text d place s 0 m))) count-is
        ∙ waiting-row program code shapes at-place _ all-stand

  -- ---- Keys of the rows

  module _ (way : ℕ → Direction) (ips : List ℕ) (taken : Key → ℕ) where
    abbrev keys : Keys
    keys = plan_keys program text a questions way ips taken

    abbrev key : Key
    key = run_key program text a questions way ips taken d place s

    row-is : (greedy : Bool) → CharLoopRecords program a questions way ips d test greedy s.ip → plan_rows program text questions way key ≡ row greedy
    row-is greedy r =
        let one_on : s.ip + 1 + 1 ≡ s.ip + 2 = omega arith in
        let before : insn_before program (s.ip + 1) ≡ slice_get program.insns s.ip = ap (insn_before program) (add-one s.ip) in
        ap (λ o. row_by program text questions way o (test_of program (slice_get program.insns (s.ip + 1))) (place_at text key.at) key) (ap char_loop_greediness_at before ∙ r.run)
        ∙ ap (λ o. row_by program text questions way (Some greedy) o (place_at text key.at) key) r.body
        ∙ ap (λ o. row_by program text questions way (Some greedy) (Some test) o key) (place_at-offset text place is within)
        ∙ ap (λ w. run_row text test w (questions (s.ip + 1 + 1)) greedy (s.ip + 1 + 1) place (code (at-place 0))) r.goes
        ∙ ap (λ i. run_row text test d (questions i) greedy i place (code (at-place 0))) one_on

    is-of : (greedy : Bool) (ts : List Thread) → CharLoopRecords program a questions way ips d test greedy s.ip → AreSound program text a keys d ts
        → has_shape program code (row greedy) ts ≡ true → IsOfPlan program text a questions way ips taken d key ts
    is-of greedy ts r sound stand =
        let below = code-below behind-it (at-place 0) in
        record {
          is_of =
              and_from _ _ (lt-ltb (code (at-place 0)) (plan_codes questions (s.ip + 1)) (subst (λ qs. code (at-place 0) < codes_of qs) (sym r.asks) below))
              (and_from _ _ (le-leb (offset text place) (units text) (offset-inside text is place))
              (and_from _ _ r.records (and_from _ _ (way-same (way (s.ip + 1)) d r.goes) (ap (λ row. has_shape program code row ts) (row-is greedy r) ∙ stand))));
          sound = sound;
        }

    abbrev Agreeing : Relation
    Agreeing u v = Agree a (units text) outermost d u v

    -- If the threads of a greedy loop are sound, so is the state at the first place.
    greedy-nearest : AreSound program text a keys d (greedy_loop_threads text test d 0 place s) → IsSoundState a (units text) d (at-place 0)
    greedy-nearest h =
        let one_more : passing text test d place + 1 - 0 ≡ 1 + passing text test d place = omega arith in
        let split : most_first text d place s 0 (passing text test d place + 1 - 0) ≡ most_first text d place s 1 (passing text test d place) ++ at-place 0 ∷ [] =
        ap (most_first text d place s 0) one_more ∙ most-parts text d place s 0 1 (passing text test d place) in
        sound-state a (units text) d (at-place 0) (last-in-turn Agreeing (most_first text d place s 1 (passing text test d place)) (at-place 0) (subst (λ us. AlikeThreads Agreeing (first_running_and_others_waiting us) (first_running_and_others_waiting us)) split h))

    -- If the pending threads of a lazy loop are sound, so is the state at the first place.
    lazy-nearest : AreSound program text a keys d (pending_loop_threads text test d 0 place s) → IsSoundState a (units text) d (at-place 0)
    lazy-nearest h =
        let one_more : passing text test d place + 1 - 0 ≡ suc (passing text test d place) = omega arith in
        let g = subst (λ m. AlikeThreads Agreeing (map waiting (fewest_first text d place s 0 m)) (map waiting (fewest_first text d place s 0 m))) one_more h in
        sound-state a (units text) d (at-place 0) g.0

    run-has-keys : RunHasKeys program text a questions way ips taken d test place s
    run-has-keys = record {
      greedy = λ r h. is-of true (greedy_loop_threads text test d 0 place s) r h (greedy-stands (greedy-nearest h) r.inside);
      lazy = λ r h. is-of false (pending_loop_threads text test d 0 place s) r h (lazy-stands (lazy-nearest h) r.inside);
    }

pub runs-have-keys : CharLoopsHaveKeys
runs-have-keys program text a questions way ips taken d test place s is within of =
    run-has-keys program text a d test questions place s is within of way ips taken
