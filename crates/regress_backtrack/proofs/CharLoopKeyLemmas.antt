-- The key of a state at a char loop's body decides what the rest of the loop finds.
use Rattle.std.proofs.Common.{◌≡◌, ◌≤◌, ◌<◌, ℕ, ◌+◌, ◌-◌, Bool, true, false, List, [], ◌∷◌, map, Some, None, refl, ap, sym, ◌∙◌, subst, arith, if◌then◌else◌}
use Rattle.std.specs.Prelude.{◌==◌, ◌^◌, IfSome, Option}
use Rattle.std.proofs.lemmas.Bool.{true_from_ne_false, true≢false}
use Rattle.regex_meaning.specs.NumberListHelpers.{numbers_from}
use Rattle.regex_meaning.specs.Text.{Text, Direction, last_place, moved}
use Rattle.regex_meaning.specs.CodeUnitOffsets.{HasRisingPlaceOffsets, offset, units}
use Rattle.regex_meaning.specs.CompilationRelation.{Program}
use Rattle.regex_meaning.proofs.EachElementLemmas.{Each, Each-map, Each-reverse}
use Rattle.regex_meaning.proofs.CodeUnitOffsetsLemmas.{place_at-offset, offset-place_at}
use Rattle.regress_input.specs.CharAndByteReadsFromOffset.{direction_of_forward_flag}
use Rattle.regress_machine.specs.Machine.{State, Thread, waiting, first_running_and_others_waiting}
use Rattle.regress_machine.proofs.NearestCharacterLemmas.{moved-zero}
use Rattle.regress_machine.proofs.OffsetsInsideText.{offset-inside}
use Rattle.regress_machine.proofs.CharLoopRepetitions.{numbers_between}
use Rattle.regress_machine.specs.CharLoopExitStatesByPreference.{behind, fewest_first, most_first}
use Rattle.regress_memo.specs.ThreadBisimulation.{Relation, AlikeThreads}
use Rattle.regress_memo.specs.Liveness.{IsNotAheadInDirection, Agree, outermost, ReadsAsBytes}
use Rattle.regress_memo.specs.LoopDataKeyCodes.{plan_code, key_of, HasSlotsOfProgram}
use Rattle.regress_memo.specs.MemoKeys.{IsSoundState}
use Rattle.regress_memo.specs.MemoPlanChecksAndGuarantees.{plan_steps_below_record}
use Rattle.regress_memo.specs.UnboundedCharLoopMemoKeys.{char_loop_greediness_at, CharLoopRecords, run_key}
use Rattle.regress_memo.specs.CharLoopExitThreadLists.{passing}
use Rattle.regress_memo.specs.MemoSearch.{Key, KeyStandsFor}
use Rattle.regress_memo.specs.ThreadPotentials.{is_one_of}
use Rattle.regress_memo.proofs.LivenessLemmas.{moves-on, passed-on, still-not-here}
use Rattle.regress_memo.proofs.CharLoopKeyLemmas.{runs-have-keys}
use Rattle.regress_memo.proofs.CharLoopExitLemmas.{passing-left}
use Rattle.regress_memo.specs.declared.analysis_result.MemoAnalysis.{MemoAnalysis}
use Rattle.regress_memo.specs.AnalysisChecks.{unlimited}
use Rattle.regress_memo.specs.AnalysisAsPotentials.{insn_analysis_of, analysis_as_liveness, key_code_questions_of, insn_direction, recorded}
use Rattle.regress_memo.specs.CheckedAnalysis.{IsAnalysisOf}
use Rattle.regress_memo.proofs.CheckedAnalysisLemmas.{ledgers-serve, not-recorded}
use Rattle.regress_memo.specs.Laws.{analysis_keys}
use Rattle.regress_memo.specs.MemoContents.{memo_key_at}
use Rattle.regress_memo.proofs.MemoTableLawLemmas.{keys-are-there}
use Rattle.regress_search.specs.TreePlanAndText.{SearchInput, program_of}
use Rattle.regress_backtrack.specs.declared.position_and_result.ThreadPos.{ThreadPos}
use Rattle.regress_backtrack.specs.declared.failure_memo.RecordKey.{RecordKey as Stored}
use Rattle.regress_backtrack.specs.State.{StateModel, current_thread_state_of}
use Rattle.regress_backtrack.specs.FailuresInMemoTable.{scheme_of}
use Rattle.regress_backtrack.specs.FailureMemo.{MemoScheme, AreFailuresSound, IsLoopRestKey, threads_of_loop_rest, record_key_as_spec}
use Rattle.regress_backtrack.specs.MemoizedCharLoops.{DecidesLoopRest}
use Rattle.regress_backtrack.proofs.ThreadKeyLemmas.{agrees-itself, heads}

-- ---- Rows of sound states

module _ (R : Relation) (f : ℕ → State) where
  waiting-alike : (ns : List ℕ) → Each (λ n. R (f n) (f n)) ns → AlikeThreads R (map waiting (map f ns)) (map waiting (map f ns))
  waiting-alike [] h = tt
  waiting-alike (n ∷ ns) h = (h.0, waiting-alike ns h.1)

  in-turn-alike : (ns : List ℕ) → Each (λ n. R (f n) (f n)) ns → AlikeThreads R (first_running_and_others_waiting (map f ns)) (first_running_and_others_waiting (map f ns))
  in-turn-alike [] h = tt
  in-turn-alike (n ∷ ns) h = (h.0, waiting-alike ns h.1)

-- ---- Sound states behind a character loop

module _ (t : MemoAnalysis) (text : Text) (is : HasRisingPlaceOffsets text) (d : Direction) (test : ℕ → Bool) (place : ℕ) (within : place ≤ last_place text) (s : State) where
  abbrev at-place : ℕ → State
  at-place n = behind text d place s n

  sound-further : (n : ℕ) → n ≤ passing text test d place → IsSoundState (analysis_as_liveness t) (units text) d (at-place 0) → IsSoundState (analysis_as_liveness t) (units text) d (at-place n)
  sound-further n le sound = record {
    within = offset-inside text is (moved text d n place);
    loops = λ l x h e.
        let y = sound.loops l x h e in
        let few = passing-left text test d place within in
        let m = moves-on text is d (offset text place) place n (place_at-offset text place is within) (omega (arith, few, le)) in
        let here : (at-place 0).pos ≡ offset text place = ap (offset text) (moved-zero text d place) in
        let passed : IsNotAheadInDirection d x.entry (offset text place) = subst (λ p. IsNotAheadInDirection d x.entry p) here y.passed in
        record {
          passed = passed-on d x.entry (offset text place) (at-place n).pos passed m.passed;
          moved = λ asked. still-not-here d x.entry (offset text place) (at-place n).pos passed m.passed (subst (λ p. (x.entry == p) ≡ false) here (y.moved asked));
          all = y.all;
          few = y.few;
        };
  }

  abbrev Agreeing : Relation
  Agreeing u v = Agree (analysis_as_liveness t) (units text) outermost d u v

  module _ (sound : IsSoundState (analysis_as_liveness t) (units text) d (at-place 0)) where
    each-sound : Each (λ n. Agreeing (at-place n) (at-place n)) (numbers_from 0 (passing text test d place + 1))
    each-sound =
        Each-map _ _ (λ n h. let less = h.1 in agrees-itself t (units text) d (at-place n) (sound-further n (omega (arith, less)) sound)) _
        (numbers_between 0 (passing text test d place + 1))

    count-is : passing text test d place + 1 - 0 ≡ passing text test d place + 1
    count-is = omega arith

    run-sound : (greedy : Bool) → AlikeThreads Agreeing (threads_of_loop_rest text greedy test d place s) (threads_of_loop_rest text greedy test d place s)
    run-sound true =
        subst (λ m. AlikeThreads Agreeing (first_running_and_others_waiting (most_first text d place s 0 m)) (first_running_and_others_waiting (most_first text d place s 0 m))) (sym count-is)
        (in-turn-alike Agreeing at-place _ (Each-reverse _ _ each-sound))
    run-sound false =
        subst (λ m. AlikeThreads Agreeing (map waiting (fewest_first text d place s 0 m)) (map waiting (fewest_first text d place s 0 m))) (sym count-is)
        (waiting-alike Agreeing at-place _ each-sound)

-- ---- Keys

module _ (program : Program) (text : Text) (t : MemoAnalysis) (of : IsAnalysisOf program t) (is : HasRisingPlaceOffsets text) (bytes : ReadsAsBytes program text) (fits : units text < 2 ^ 63) where
  run-records : (d : Direction) (k : Key) (ts : List Thread) → (r : IsLoopRestKey program text (scheme_of t) d k ts)
      → CharLoopRecords program (analysis_as_liveness t) (key_code_questions_of t) (insn_direction t) (recorded t) d r.test r.greedy r.state.ip
  run-records d k ts r =
      let w = of.runs r.state.ip r.least unlimited r.greedy r.run in
      let only = (ledgers-serve program t of text is bytes fits).only in
      record {
        run = ap char_loop_greediness_at r.run;
        body = r.body;
        goes = r.goes;
        records = true_from_ne_false (is_one_of (recorded t) (r.state.ip + 1)) (λ other. true≢false (not-recorded t (r.state.ip + 1) other true r.records));
        asks = w.asks refl;
        inside = λ l there. ((only.only (r.state.ip + 2)).empty l there).0;
      }

  -- A key of the rest of a char loop stands for its threads.
  pub of-run : (d : Direction) (k : Key) (ts : List Thread) → IsLoopRestKey program text (scheme_of t) d k ts → KeyStandsFor program text (analysis_as_liveness t) (analysis_keys program text t) d k ts
  of-run d k ts r =
      let s = r.state in
      let u : State = record s { ip = s.ip + 1; pos = offset text r.place } in
      let rec = run-records d k ts r in
      let own = run_key program text (analysis_as_liveness t) (key_code_questions_of t) (insn_direction t) (recorded t) (plan_steps_below_record program) d r.place s in
      let made : Some (key_of (plan_code (key_code_questions_of t)) u) ≡ Some own =
      ap (λ b. if b then Some (key_of (plan_code (key_code_questions_of t)) u) else None) (sym r.records) ∙ keys-are-there.run program text t d r.test r.greedy s r.place rec in
      let same : k ≡ own = r.key ∙ (let e : key_of (plan_code (key_code_questions_of t)) u ≡ own = cc in e) in
      let sound = run-sound t text is d r.test r.place r.within s r.sound r.greedy in
      subst (λ us. KeyStandsFor program text (analysis_as_liveness t) (analysis_keys program text t) d k us) (sym r.are)
      (subst (λ j. KeyStandsFor program text (analysis_as_liveness t) (analysis_keys program text t) d j (threads_of_loop_rest text r.greedy r.test d r.place s)) (sym same) (by r.greedy sound rec))
    where
      by : (greedy : Bool) → AlikeThreads (λ u v. Agree (analysis_as_liveness t) (units text) outermost d u v) (threads_of_loop_rest text greedy r.test d r.place r.state) (threads_of_loop_rest text greedy r.test d r.place r.state)
          → CharLoopRecords program (analysis_as_liveness t) (key_code_questions_of t) (insn_direction t) (recorded t) d r.test greedy r.state.ip
          → KeyStandsFor program text (analysis_as_liveness t) (analysis_keys program text t) d
          (run_key program text (analysis_as_liveness t) (key_code_questions_of t) (insn_direction t) (recorded t) (plan_steps_below_record program) d r.place r.state) (threads_of_loop_rest text greedy r.test d r.place r.state)
      by true sound rec =
          (runs-have-keys program text (analysis_as_liveness t) (key_code_questions_of t) (insn_direction t) (recorded t) (plan_steps_below_record program) d r.test r.place r.state is r.within r.of).greedy rec sound
      by false sound rec =
          (runs-have-keys program text (analysis_as_liveness t) (key_code_questions_of t) (insn_direction t) (recorded t) (plan_steps_below_record program) d r.test r.place r.state is r.within r.of).lazy rec sound

-- ---- The key of the rest of a char loop

module _ (w : SearchInput) (is : HasRisingPlaceOffsets w.text) (t : MemoAnalysis) (failed : Key → Bool) (right : AreFailuresSound w (scheme_of t) failed) (forward : Bool) (from : ThreadPos) (h : StateModel) where
  -- The key of the state at a loop's body decides what the rest of the loop finds.
  pub rest-tells : (k : Key) → memo_key_at t (current_thread_state_of h (from.ip + 1) from.at) ≡ Some k → (insn_analysis_of t (from.ip + 1)).records ≡ true → (insn_analysis_of t (from.ip + 1)).forward ≡ forward
      → (insn_analysis_of t (from.ip + 2)).forward ≡ forward → HasSlotsOfProgram (program_of w) (current_thread_state_of h from.ip from.at)
      → IsSoundState (analysis_as_liveness t) (units w.text) (insn_direction t (from.ip + 2)) (current_thread_state_of h (from.ip + 2) from.at) → DecidesLoopRest w (scheme_of t) forward from k h
  rest-tells k is_key records goes beyond of sound ts r =
      right.runs (direction_of_forward_flag forward) k ts
      (record {
        state = s;
        least = r.least;
        greedy = r.greedy;
        test = r.test;
        place = r.place;
        run = r.run;
        body = r.body;
        within = stands.1;
        records = records;
        goes = heads (insn_analysis_of t (from.ip + 1)).forward ∙ ap (λ b. direction_of_forward_flag b) goes;
        key = sym same_key ∙ ap (λ o. key_of (plan_code (key_code_questions_of t)) (current_thread_state_of h (from.ip + 1) o)) (sym stands.0);
        of = of;
        sound =
            subst (λ o. IsSoundState (analysis_as_liveness t) (units w.text) (direction_of_forward_flag forward) (current_thread_state_of h (from.ip + 2) o))
            (sym (ap (offset w.text) (moved-zero w.text (direction_of_forward_flag forward) r.place) ∙ stands.0))
            (subst (λ d. IsSoundState (analysis_as_liveness t) (units w.text) d (current_thread_state_of h (from.ip + 2) from.at)) (heads (insn_analysis_of t (from.ip + 2)).forward ∙ ap (λ b. direction_of_forward_flag b) beyond) sound);
        are = r.are;
      })
    where
      s : State
      s = current_thread_state_of h from.ip from.at

      stands : (offset w.text r.place ≡ from.at) × (r.place ≤ last_place w.text)
      stands = offset-place_at w.text from.at r.place is r.at

      same_key : key_of (plan_code (key_code_questions_of t)) (current_thread_state_of h (from.ip + 1) from.at) ≡ k
      same_key =
          let made : Some (key_of (plan_code (key_code_questions_of t)) (current_thread_state_of h (from.ip + 1) from.at)) ≡ Some k =
          ap (λ b. if b then Some (key_of (plan_code (key_code_questions_of t)) (current_thread_state_of h (from.ip + 1) from.at)) else None) (sym records) ∙ is_key in cc

-- A key stored in the memo decides what the rest of the loop finds.
pub stored-rest : (w : SearchInput) (t : MemoScheme) (forward : Bool) (from : ThreadPos) (h : StateModel) (key : Key) (o : Option Stored)
    → IfSome o (λ k. record_key_as_spec k ≡ key) → DecidesLoopRest w t forward from key h → IfSome o (λ k. DecidesLoopRest w t forward from (record_key_as_spec k) h)
stored-rest w t forward from h key None same of = tt
stored-rest w t forward from h key (Some k) same of = subst (λ j. DecidesLoopRest w t forward from j h) (sym same) of
