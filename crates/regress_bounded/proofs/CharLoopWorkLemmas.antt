-- The laws on work cover each step at a char loop, and the threads that it leaves have keys.
use Rattle.std.proofs.Common.{◌≡◌, ◌≤◌, ◌<◌, ◌^◌, ℕ, zero, suc, ◌+◌, ◌-◌, Bool, true, false, min, List, [], ◌∷◌, ◌++◌, map, reverse, length, Some, None, refl, sym, ap, ◌∙◌, subst, arith}
use Rattle.std.proofs.Common.{append_assoc, append-nil, slice_get, sum_by}
use Rattle.std.specs.Prelude.{if◌then◌else◌, ◌≢◌}
use mathlib.Core.Logic.{inl, inr}
use Rattle.std.proofs.lemmas.Bool.{cases_lt}
use Rattle.std.proofs.lemmas.List.{length-map, length-reverse, reverse-reverse, reverse-append}
use Rattle.std.proofs.lemmas.List.Sums.{sum_by-cons}
use Rattle.regex_meaning.specs.Laws.{Each}
use Rattle.regex_meaning.specs.NumberListHelpers.{numbers_from}
use Rattle.regex_meaning.specs.Text.{Text, Direction, rightwards, leftwards, last_place, moved}
use Rattle.regex_meaning.specs.CodeUnitOffsets.{HasRisingPlaceOffsets, offset, place_at, units}
use Rattle.regex_meaning.specs.CompilationRelation.{Program, Loop1CharBody}
use Rattle.regex_meaning.proofs.EachElementLemmas.{Each-append, Each-map, Each-reverse, Each-left, Each-right}
use Rattle.regex_meaning.proofs.ListLemmas.{length-numbers_from}
use Rattle.regex_meaning.proofs.CodeUnitOffsetsLemmas.{offset-place_at}
use Rattle.regex_meaning.proofs.OutcomeDirectionLemmas.{left-few}
use Rattle.regress_machine.specs.Machine.{State, Thread, running, waiting, scans, first_running_and_others_waiting, char_loop_states, test_of, act}
use Rattle.regress_machine.proofs.NearestCharacterLemmas.{moved-zero}
use Rattle.regress_machine.proofs.CharLoopRepetitions.{numbers_between}
use Rattle.regress_machine.specs.CharLoopExitStatesByPreference.{behind}
use Rattle.regress_machine.specs.ThreadSimulation.{AllFindNothing}
use Rattle.regress_machine.proofs.CharLoopExitStateLemmas.{behind-from, run-turn}
use Rattle.regress_machine.proofs.ThreadSimulationLemmas.{simulates-same}
use Rattle.regress_memo.specs.Liveness.{Agree, outermost, ReadsAsBytes}
use Rattle.regress_memo.specs.ThreadBisimulation.{Relation, AlikeThreads}
use Rattle.regress_memo.specs.CappedCharLoops.{ScanIsPaid, ScanGives}
use Rattle.regress_memo.specs.LoopDataKeyCodes.{HasSlotsOfProgram, plan_code, key_of}
use Rattle.regress_memo.specs.DistinctLists.{IsNew}
use Rattle.regress_memo.specs.PreservedSlotCounts.{state_of_thread}
use Rattle.regress_memo.specs.AmortizedStepCosts.{potential_by, IsCostCovered, GreedyLoopIsCovered, LazyLoopIsCovered, RunTurnsArePaid, LazyTurnsArePaid}
use Rattle.regress_memo.specs.MemoPlanChecksAndGuarantees.{RecordsNewKey, plan_steps_below_record}
use Rattle.regress_memo.specs.UnboundedCharLoopMemoKeys.{char_loop_greediness_at, CharLoopRecords, run_key}
use Rattle.regress_memo.specs.CharLoopExitThreadLists.{passing, pending_loop_threads}
use Rattle.regress_memo.specs.UnboundedCharLoops.{placed, ExitKeysAreNew, AtCharLoop, GreedyGives, LazyGives}
use Rattle.regress_memo.specs.MemoSearch.{Key, Entry, one_thread, thread_group, key_record, thread_entries, threads_in, entry_potential, GoesOnward, KeyStandsFor, AreSound, IsMemoStep}
use Rattle.regress_memo.specs.MemoSearch.{ReachesBySteps, gives}
use Rattle.regress_memo.specs.ThreadPotentials.{each_noted}
use Rattle.regress_memo.proofs.CappedCharLoopLemmas.{others-paid, scans-give}
use Rattle.regress_memo.proofs.SharedMemoLookaroundLemmas.{soundness-stays}
use Rattle.regress_memo.proofs.StepCostLemmas.{turns-paid, one-weighs}
use Rattle.regress_memo.proofs.MemoPlanLemmas.{plans-take}
use Rattle.regress_memo.proofs.CharLoopKeyLemmas.{runs-have-keys}
use Rattle.regress_memo.proofs.CharLoopExitLemmas.{passing-left, passing-on, lazy-runs-go-on}
use Rattle.regress_memo.proofs.UnboundedCharLoopLemmas.{place-inside, row-next, row-last, runs-give}
use Rattle.regress_memo.proofs.MemoSearchLemmas.{threads-tries, turns-right}
use Rattle.regress_memo.proofs.ThreadPotentialLemmas.{turns-give}
use Rattle.regress_memo.specs.declared.analysis_result.MemoAnalysis.{MemoAnalysis}
use Rattle.regress_memo.specs.UnreachedCharLoopBodies.{FlowsPastBodies}
use Rattle.regress_memo.specs.WorkBound.{IsWorkBounded}
use Rattle.regress_memo.specs.AnalysisChecks.{IsConsistentAt, unlimited}
use Rattle.regress_memo.specs.AnalysisAsPotentials.{insn_analysis_of, analysis_as_liveness, key_code_questions_of, recorded, potentials_of, key_cost_of, insn_direction}
use Rattle.regress_memo.specs.Successors.{successors_of_insn_if_any}
use Rattle.regress_memo.specs.CheckedAnalysis.{IsAnalysisOf, IsMemoPlanForText}
use Rattle.regress_memo.proofs.CheckedAnalysisLemmas.{ledgers-serve}
use Rattle.regress_memo.specs.Laws.{analysis_keys, KeyFails}
use Rattle.regress_memo.specs.MemoContents.{memo_key_at}
use Rattle.regress_memo.specs.AmortizedMemoSearchSteps.{IsKeyed, AreKeyed, ReachesEntries}
use Rattle.regress_memo.proofs.MemoTableLawLemmas.{keys-are-there, records-there}
use Rattle.regress_memo.proofs.AmortizedMemoSearchLemmas.{HasKey, has-key, no-key, keyed-joined}
use Rattle.regress_search.proofs.CharLoopReach.{numbers-last}
use Rattle.regress_search.proofs.StopByteScanLemmas.{places-few}
use Rattle.regress_bounded.specs.WorkOfCharLoopsAndAttempts.{StateIsAtUnboundedCharLoop, key_after_chars, threads_after_chars, exits_with_records}

-- ---- Numbers

number-in : (P : ℕ → Type 0) (least count : ℕ) → Each P (numbers_from least count) → (n : ℕ) → least ≤ n → n < least + count → P n
number-in P least zero h n le less = absurd (omega (arith, le, less))
number-in P least (suc count) h n le less = elim (cases_lt least n) [
  | inl further ↦ number-in P (least + 1) count h.1 n (omega (arith, further)) (omega (arith, less))
  | inr same ↦ let e : least ≡ n = omega (arith, le, same) in subst P e h.0
]

each-number : (P : ℕ → Type 0) (least count : ℕ) → ((n : ℕ) → least ≤ n → n < least + count → P n) → Each P (numbers_from least count)
each-number P least count h = Each-map _ P (λ n within. h n within.0 within.1) (numbers_from least count) (numbers_between least count)

-- A property of all elements holds in either order.
either-way : (P : ℕ → Type 0) (ns : List ℕ) → Each P ns → (b : Bool) → Each P (if b then reverse ns else ns)
either-way P ns h true = Each-reverse P ns h
either-way P ns h false = h

of-either-way : (P : ℕ → Type 0) (ns : List ℕ) (b : Bool) → Each P (if b then reverse ns else ns) → Each P ns
of-either-way P ns true h = subst (Each P) (reverse-reverse ns) (Each-reverse P (reverse ns) h)
of-either-way P ns false h = h

-- ---- Lists of threads

module _ (P : State → Type 0) (f : ℕ → State) where
  -- The property holds for the state of each thread.
  abbrev AreSo : List Thread → Type 0
  AreSo ts = Each (λ u. P (state_of_thread u)) ts

  waits-so : (ns : List ℕ) → Each (λ n. P (f n)) ns → AreSo (map waiting (map f ns))
  waits-so [] h = tt
  waits-so (n ∷ ns) h = (h.0, waits-so ns h.1)

  turn-so : (ns : List ℕ) → Each (λ n. P (f n)) ns → AreSo (first_running_and_others_waiting (map f ns))
  turn-so [] h = tt
  turn-so (n ∷ ns) h = (h.0, waits-so ns h.1)

  of-waits : (ns : List ℕ) → AreSo (map waiting (map f ns)) → Each (λ n. P (f n)) ns
  of-waits [] h = tt
  of-waits (n ∷ ns) h = (h.0, of-waits ns h.1)

  of-turn : (ns : List ℕ) → AreSo (first_running_and_others_waiting (map f ns)) → Each (λ n. P (f n)) ns
  of-turn [] h = tt
  of-turn (n ∷ ns) h = (h.0, of-waits ns h.1)

module _ (R : Relation) where
  alike-each : (ts : List Thread) → AlikeThreads R ts ts → Each (λ u. R (state_of_thread u) (state_of_thread u)) ts
  alike-each [] h = tt
  alike-each (running s ∷ ts) h = (h.0, alike-each ts h.1)
  alike-each (waiting s ∷ ts) h = (h.0, alike-each ts h.1)

  each-alike : (ts : List Thread) → Each (λ u. R (state_of_thread u) (state_of_thread u)) ts → AlikeThreads R ts ts
  each-alike [] h = tt
  each-alike (running s ∷ ts) h = (h.0, each-alike ts h.1)
  each-alike (waiting s ∷ ts) h = (h.0, each-alike ts h.1)

-- ---- Texts

-- ---- Loops in general

module _ (program : Program) (t : MemoAnalysis) (of : IsAnalysisOf program t) (bounded : IsWorkBounded t program) (text : Text) (is_text : HasRisingPlaceOffsets text) (bytes : ReadsAsBytes program text)
    (less : units text < 2 ^ 63) (d : Direction) where
  abbrev Keyed : State → Type 0
  Keyed s = IsKeyed program text t d s

  abbrev AllKeyed : List Thread → Type 0
  AllKeyed ts = AreKeyed program text t d ts

  abbrev served : IsMemoPlanForText program t text
  served = ledgers-serve program t of text is_text bytes less

  -- The turn leaves few threads, which have keys and stand behind the loop.
  record LeavesFew (s : State) (least most n : ℕ) (ts : List Thread) : Type 0 where
    states : List State
    are : first_running_and_others_waiting states ≡ ts
    few : n ≤ most
    as_many : length states ≤ most + 1 - least
    there : Each (λ u. u.ip ≡ s.ip + 2) states
    keyed : AllKeyed (threads_in (thread_entries ts))

  module _ (s : State) (keyed : Keyed s) (least most : ℕ) (greedy : Bool) (run : slice_get program.insns s.ip ≡ Some (Loop1CharBody least most greedy))
      (test : ℕ → Bool) (body : test_of program (slice_get program.insns (s.ip + 1)) ≡ Some test) (place : ℕ) (at : place_at text s.pos ≡ Some place) where
    -- The loop takes at most this many characters.
    abbrev furthest : ℕ
    furthest = min most (passing text test d place)

    abbrev its-places : List ℕ
    its-places = numbers_from least (furthest + 1 - least)

    turn : act program text d s ≡ scans (min most (passing text test d place + 1)) (first_running_and_others_waiting (char_loop_states text greedy d least furthest place s))
    turn = run-turn program text d place s least most greedy test run body at

    each-sound : Each (λ n. Agree (analysis_as_liveness t) (units text) outermost d (behind text d place s n) (behind text d place s n)) its-places
    each-sound =
        let R : Relation = λ u v. Agree (analysis_as_liveness t) (units text) outermost d u v in
        let all = (soundness-stays program text (analysis_as_liveness t) served.plan.liveness d).scans outermost s _ _ keyed.sound turn in
        of-either-way _ its-places greedy
        (of-turn (λ u. R u u) (behind text d place s) (if greedy then reverse its-places else its-places) (alike-each R _ all))

    -- A keyed state at a loop stays keyed behind the loop's characters.
    pub scan-keyed : (n : ℕ) → least ≤ n → n ≤ most → n ≤ passing text test d place → Keyed (behind text d place s n)
    scan-keyed n le few passes =
        let right = subst (λ o. IsConsistentAt t program (successors_of_insn_if_any s.ip o) s.ip) run (of.steps s.ip) in
        let past = subst (λ o. FlowsPastBodies program (successors_of_insn_if_any s.ip o) s.ip) run (bounded.past s.ip) in
        record {
          of = record { groups = keyed.of.groups; starts = keyed.of.starts; loops = keyed.of.loops };
          sound = number-in _ least (furthest + 1 - least) each-sound n le (omega (arith, le, few, passes));
          way = right.way ∙ keyed.way;
          no_body = past;
        }

    -- These lemmas are about the threads that one turn over the characters leaves.
    module _ (n : ℕ) (ts : List Thread) (turned : act program text d s ≡ scans n ts) where
      abbrev its-states : List State
      its-states = char_loop_states text greedy d least furthest place s

      same-turn : scans n ts ≡ scans (min most (passing text test d place + 1)) (first_running_and_others_waiting its-states)
      same-turn = sym turned ∙ turn

      same-count : n ≡ min most (passing text test d place + 1)
      same-count = let same = same-turn in cc

      same-threads : first_running_and_others_waiting its-states ≡ ts
      same-threads = let same = same-turn in cc

      places-keyed : Each (λ m. Keyed (behind text d place s m)) its-places
      places-keyed = each-number _ least (furthest + 1 - least) (λ m le few. scan-keyed m le (omega (arith, le, few)) (omega (arith, le, few)))

      as-many : length its-states ≤ most + 1 - least
      as-many =
          let a = length-map (if greedy then reverse its-places else its-places) (behind text d place s) in
          let b = by greedy in
          omega (arith, a, b)
        where
          by : (b : Bool) → length (if b then reverse its-places else its-places) ≡ furthest + 1 - least
          by true = length-reverse its-places ∙ length-numbers_from least (furthest + 1 - least)
          by false = length-numbers_from least (furthest + 1 - least)

      all-there : (ns : List ℕ) → Each (λ (u : State). u.ip ≡ s.ip + 2) (map (behind text d place s) ns)
      all-there [] = tt
      all-there (m ∷ ns) = (refl, all-there ns)

      leaves-few : LeavesFew s least most n ts
      leaves-few = record {
        states = its-states;
        are = same-threads;
        few = let e = same-count in omega (arith, e);
        as_many = as-many;
        there = all-there (if greedy then reverse its-places else its-places);
        keyed =
            subst AllKeyed (sym (threads-tries ts))
            (subst AllKeyed same-threads
            (turn-so Keyed (behind text d place s) (if greedy then reverse its-places else its-places) (either-way _ its-places places-keyed greedy)));
      }

-- ---- Loops without a maximum: their keys and the exits that they leave

module _ (program : Program) (t : MemoAnalysis) (of : IsAnalysisOf program t) (bounded : IsWorkBounded t program) (text : Text) (is_text : HasRisingPlaceOffsets text) (bytes : ReadsAsBytes program text)
    (less : units text < 2 ^ 63) (d : Direction) (s : State) (test : ℕ → Bool) (least : ℕ) (greedy : Bool) (unbounded_loop : StateIsAtUnboundedCharLoop program s test least greedy) where
  abbrev serves-here : IsMemoPlanForText program t text
  serves-here = served program t of bounded text is_text bytes less d

  -- The direction behind the loop is the direction at the loop.
  way-behind : insn_direction t (s.ip + 2) ≡ insn_direction t s.ip
  way-behind = (subst (λ o. IsConsistentAt t program (successors_of_insn_if_any s.ip o) s.ip) unbounded_loop.run (of.steps s.ip)).way

  run-records : insn_direction t s.ip ≡ d → CharLoopRecords program (analysis_as_liveness t) (key_code_questions_of t) (insn_direction t) (recorded t) d test greedy s.ip
  run-records way =
      let written = of.runs s.ip least unlimited greedy unbounded_loop.run in
      record {
        run = ap char_loop_greediness_at unbounded_loop.run;
        body = unbounded_loop.body;
        goes = written.way ∙ way;
        records = records-there t (s.ip + 1) (written.records refl);
        asks = written.asks refl;
        inside = λ l asked. ((serves-here.only.only (s.ip + 2)).empty l asked).0;
      }

  -- The state at the loop's body has the key of the exits from its place onwards.
  pub key-is : insn_direction t s.ip ≡ d → (place n : ℕ)
      → memo_key_at t (record s { ip = s.ip + 1; pos = offset text (moved text d n place) }) ≡ Some (key_after_chars program text t d test place s n)
  key-is way place n = keys-are-there.run program text t d test greedy s (moved text d n place) (run-records way)

  module _ (place : ℕ) (inside : place ≤ last_place text) where
    abbrev passes : ℕ
    passes = passing text test d place

    abbrev at-place : ℕ → State
    at-place n = behind text d place s n

    -- Fewer characters pass than the maximum.
    passes-few : passes < unlimited
    passes-few =
        let a = passing-left text test d place inside in
        let b = left-few text d place inside in
        let c = places-few text is_text (last_place text) (omega arith) in
        omega (arith, a, b, c, less)

    further-inside : (n : ℕ) → n ≤ passes → moved text d n place ≤ last_place text
    further-inside n few = let left = passing-left text test d place inside in place-inside text d n place inside (omega (arith, left, few))

    -- ---- The waiting threads of a lazy loop

    pub lazy-waits : (n : ℕ) → n ≤ passes → pending_loop_threads text test d n place s ≡ pending_loop_threads text test d 0 (moved text d n place) s
    lazy-waits n few = (lazy-runs-go-on text test d place s inside).waits n few

    -- If the next character passes, the threads from the next place wait.
    pub lazy-later : (n : ℕ) → n ≤ passes → passing text test d (moved text d n place) ≡ 1 + passing text test d (moved text d (n + 1) place)
        → pending_loop_threads text test d (n + 1) place s ≡ pending_loop_threads text test d 0 (moved text d (n + 1) place) s
    lazy-later n few more = let sum = passing-on text test d n place inside few in lazy-waits (n + 1) (omega (arith, sum, more))

    -- If the next character does not pass, no thread waits.
    pub lazy-last : (n : ℕ) → n ≤ passes → passing text test d (moved text d n place) ≡ 0 → pending_loop_threads text test d (n + 1) place s ≡ []
    lazy-last n few none =
        let sum = passing-on text test d n place inside few in
        let same : n + 1 ≡ passes + 1 = omega (arith, sum, none) in
        ap (λ m. pending_loop_threads text test d m place s) same ∙ (lazy-runs-go-on text test d place s inside).last

    -- ---- The exits of a greedy loop

    abbrev its-row : ℕ → List Thread
    its-row n = threads_after_chars program text t d test place s n

    abbrev its-key : ℕ → Key
    its-key n = key_after_chars program text t d test place s n

    abbrev its-waiting : ℕ → List (Thread × Key)
    its-waiting count = placed program text (analysis_as_liveness t) (key_code_questions_of t) (insn_direction t) (recorded t) (plan_steps_below_record program) d test s place least count

    abbrev its-places-row : ℕ → List Entry
    its-places-row count = exits_with_records program text t d test place s least count

    waiting-back : (count : ℕ) → its-waiting (suc count) ≡ (waiting (at-place (least + count)), its-key (least + count)) ∷ its-waiting count
    waiting-back count =
        let pair : ℕ → Thread × Key = λ n. (waiting (at-place n), its-key n) in
        let more : suc count ≡ count + 1 = omega arith in
        ap (map pair)
        (ap (λ m. reverse (numbers_from least m)) more ∙ ap reverse (numbers-last least count) ∙ reverse-append (numbers_from least count) ((least + count) ∷ []))

    -- The exits above records are those of the law on work.
    rows-are : (count : ℕ) → least + count ≤ passes → each_noted (its-row (least + count)) (its-waiting count) ≡ its-places-row count
    rows-are zero few = refl
    rows-are (suc count) few =
        let n = least + count in
        let next : least + suc count ≡ n + 1 = omega arith in
        let here : its-row (least + suc count) ++ waiting (at-place n) ∷ [] ≡ its-row n =
        ap (λ m. its-row m ++ waiting (at-place n) ∷ []) next ∙ row-next text is_text test d place s inside n (omega (arith, few)) in
        ap (each_noted (its-row (least + suc count))) (waiting-back count)
        ∙ ap (λ ts. one_thread (waiting (at-place n)) ∷ key_record (its-key n) ts ∷ each_noted ts (its-waiting count)) here
        ∙ ap (λ row. one_thread (waiting (at-place n)) ∷ key_record (its-key n) (its-row n) ∷ row) (rows-are count (omega (arith, few)))

    rows-from : (n : ℕ) → least ≤ n → n ≤ passes → each_noted (its-row n) (its-waiting (n - least)) ≡ its-places-row (n - least)
    rows-from n le few =
        let same : n ≡ least + (n - least) = omega (arith, le) in
        ap (λ m. each_noted (its-row m) (its-waiting (n - least))) same ∙ rows-are (n - least) (omega (arith, le, few))

    -- ---- Keyed exits

    module _ (keyed : IsKeyed program text t d s) (at : place_at text s.pos ≡ Some place) where
      place-keyed : (n : ℕ) → least ≤ n → n ≤ passes → IsKeyed program text t d (at-place n)
      place-keyed n le few =
          let below = passes-few in
          scan-keyed program t of bounded text is_text bytes less d s keyed least unlimited greedy unbounded_loop.run test unbounded_loop.body place at n le (omega (arith, few, below)) few

      row-keyed : (n : ℕ) → least ≤ n → n ≤ passes → AreKeyed program text t d (its-row n)
      row-keyed n le few =
          let q = moved text d n place in
          let count = passing text test d q + 1 - 0 in
          let sum = passing-on text test d n place inside few in
          turn-so (IsKeyed program text t d) (behind text d q s) (reverse (numbers_from 0 count))
          (Each-reverse _ (numbers_from 0 count)
          (each-number _ 0 count (λ m first last.
          subst (IsKeyed program text t d) (behind-from text d place s n m) (place-keyed (n + m) (omega (arith, le)) (omega (arith, sum, last))))))

      waits-keyed : (n : ℕ) → least ≤ n → AreKeyed program text t d (pending_loop_threads text test d n place s)
      waits-keyed n le =
          let count = passes + 1 - n in
          waits-so (IsKeyed program text t d) at-place (numbers_from n count)
          (each-number _ n count (λ m first last. place-keyed m (omega (arith, le, first)) (omega (arith, first, last))))

      places-keyed-over : (rest : List Entry) → AreKeyed program text t d (threads_in rest) → (count : ℕ) → least + count ≤ passes + 1
          → AreKeyed program text t d (threads_in (its-places-row count ++ rest))
      places-keyed-over rest below zero few = below
      places-keyed-over rest below (suc count) few =
          (place-keyed (least + count) (omega arith) (omega (arith, few)), places-keyed-over rest below count (omega (arith, few)))

      at-run : AtCharLoop program text (analysis_as_liveness t) (key_code_questions_of t) (insn_direction t) (recorded t) (plan_steps_below_record program) d test s greedy least unlimited place
      at-run = record {
        run = unbounded_loop.run;
        records = run-records keyed.way;
        at = at;
        unlimited = passes-few;
        of = keyed.of;
        sound = keyed.sound;
      }

module _ (program : Program) (text : Text) (t : MemoAnalysis) (d : Direction) where
  keyed-sound : (ts : List Thread) → AreKeyed program text t d ts → AreSound program text (analysis_as_liveness t) (analysis_keys program text t) d ts
  keyed-sound ts h =
      each-alike (Agree (analysis_as_liveness t) (units text) outermost d) ts
      (Each-map (λ u. IsKeyed program text t d (state_of_thread u)) _ (λ u k. k.sound) ts h)

-- ---- Steps at loops

module _ (program : Program) (t : MemoAnalysis) (of : IsAnalysisOf program t) (bounded : IsWorkBounded t program) (text : Text) (is_text : HasRisingPlaceOffsets text) (bytes : ReadsAsBytes program text)
    (less : units text < 2 ^ 63) (d : Direction) (memory : List Key) (first : List Entry) (work : ℕ) (now : List Key) (rest : List Entry) where
  abbrev Come : (work : ℕ) → List Key → List Entry → Type 0
  Come work now row = ReachesEntries program text t d memory first work now row

  abbrev Steps : (work : ℕ) → List Entry → Type 0
  Steps work row =
      ReachesBySteps program text (analysis_as_liveness t) (analysis_keys program text t) d (λ k. key_cost_of t k.ip) (potential_by program (potentials_of t) (key_cost_of t) (recorded t))
      memory first work now row

  abbrev serves : IsMemoPlanForText program t text
  serves = served program t of bounded text is_text bytes less d

  abbrev Paid : (more : ℕ) → (front entries : List Entry) → Type 0
  Paid more front entries = IsCostCovered program (potentials_of t) (key_cost_of t) (recorded t) more front entries

  -- ---- A loop with a maximum: one turn over its characters

  module _ (s : State) (least most : ℕ) (greedy : Bool) (run : slice_get program.insns s.ip ≡ Some (Loop1CharBody least most greedy))
      (test : ℕ → Bool) (body : test_of program (slice_get program.insns (s.ip + 1)) ≡ Some test) (place : ℕ) (at : place_at text s.pos ≡ Some place)
      (limited : most ≢ unlimited) (n : ℕ) (ts : List Thread) (turned : act program text d s ≡ scans n ts) where
    abbrev left : IsKeyed program text t d s → LeavesFew program t of bounded text is_text bytes less d s least most n ts
    left keyed = leaves-few program t of bounded text is_text bytes less d s keyed least most greedy run test body place at n ts turned

    abbrev paid-for : ScanIsPaid program (potentials_of t) (key_cost_of t) (recorded t) (plan_code (key_code_questions_of t)) s least most
    paid-for =
        others-paid.scans program (potentials_of t) (key_cost_of t) (recorded t) of.paid (plan_code (key_code_questions_of t)) s least most
        ((of.runs s.ip least most greedy run).limited limited)

    abbrev given : ScanGives program text (analysis_as_liveness t) (key_code_questions_of t) (insn_direction t) (recorded t) (plan_steps_below_record program) d now s
    given = scans-give program text (analysis_as_liveness t) (key_code_questions_of t) (insn_direction t) (recorded t) (plan_steps_below_record program) serves.plan d now s

    pub limited-turned : memo_key_at t s ≡ None → Come work now (one_thread (running s) ∷ rest) → Come (work + (n + 1)) now (thread_entries ts ++ rest)
    limited-turned none h =
        let l = left h.keyed.0 in
        record {
          comes = gives work (n + 1) now (one_thread (running s) ∷ []) (thread_entries ts) rest tt h.comes (given.turned n ts turned)
              (subst (λ us. Paid (n + 1) (one_thread (running s) ∷ []) (thread_entries us)) l.are (paid-for.passed n l.states l.few l.as_many l.there (no-key t s none)));
          keyed = keyed-joined program text t d (thread_entries ts) rest l.keyed h.keyed.1;
        }

    with-its-key : HasKey t s (key_of (plan_code (key_code_questions_of t)) s) → IsNew (key_of (plan_code (key_code_questions_of t)) s) now → Come work now (one_thread (running s) ∷ rest)
        → Come (work + (n + 1)) now (thread_entries ts ++ key_record (key_of (plan_code (key_code_questions_of t)) s) (running s ∷ []) ∷ rest)
    with-its-key has new h =
        let key = key_of (plan_code (key_code_questions_of t)) s in
        let its = key_record key (running s ∷ []) in
        let keyed = h.keyed.0 in
        let l = left keyed in
        let there = records-there t s.ip has.records in
        let rec : RecordsNewKey program text (analysis_as_liveness t) (key_code_questions_of t) (insn_direction t) (recorded t) (plan_steps_below_record program) d now s =
        record { records = there; goes = keyed.way; no_body = keyed.no_body; of = keyed.of; sound = keyed.sound; one = plans-take.threads program key keyed.no_body; new = new } in
        subst (Come (work + (n + 1)) now) (append_assoc (thread_entries ts) (its ∷ []) rest) (record {
          comes = gives work (n + 1) now (one_thread (running s) ∷ []) (thread_entries ts ++ its ∷ []) rest tt h.comes (given.recorded n ts turned rec)
              (subst (λ us. Paid (n + 1) (one_thread (running s) ∷ []) (thread_entries us ++ its ∷ [])) l.are (paid-for.recorded n l.states l.few l.as_many l.there there));
          keyed =
              subst (λ row. AreKeyed program text t d (threads_in row)) (sym (append_assoc (thread_entries ts) (its ∷ []) rest))
              (keyed-joined program text t d (thread_entries ts) (its ∷ rest) l.keyed h.keyed.1);
        })

    pub limited-recorded : (k : Key) → memo_key_at t s ≡ Some k → IsNew k now → Come work now (one_thread (running s) ∷ rest)
        → Come (work + (n + 1)) now (thread_entries ts ++ key_record k (running s ∷ []) ∷ rest)
    limited-recorded k is new h =
        let has = has-key t s k is in
        subst (λ k. Come (work + (n + 1)) now (thread_entries ts ++ key_record k (running s ∷ []) ∷ rest)) has.is
        (with-its-key (record { records = has.records; is = refl }) (subst (λ k. IsNew k now) (sym has.is) new) h)

  -- ---- A greedy loop without a maximum

  module _ (s : State) (test : ℕ → Bool) (least place : ℕ) (unbounded_loop : StateIsAtUnboundedCharLoop program s test least true) (at : place_at text s.pos ≡ Some place) where
    -- The keys of the exits from `least` characters up to `n` are new.
    abbrev pub New : (n : ℕ) → Type 0
    New n = ExitKeysAreNew program text (analysis_as_liveness t) (key_code_questions_of t) (insn_direction t) (recorded t) (plan_steps_below_record program) d test s now place least n

    on-text : place ≤ last_place text
    on-text = (offset-place_at text s.pos place is_text at).1

    abbrev greedy-gives : IsKeyed program text t d s → GreedyGives program text (analysis_as_liveness t) (key_code_questions_of t) (insn_direction t) (recorded t) (plan_steps_below_record program) d test s now place least
    greedy-gives keyed =
        runs-give.greedy program text (analysis_as_liveness t) (key_code_questions_of t) (insn_direction t) (recorded t) (plan_steps_below_record program) d test s now place least unlimited serves.plan.liveness
        (at-run program t of bounded text is_text bytes less d s test least true unbounded_loop place on-text keyed at)
        (λ n. let k = key_after_chars program text t d test place s n in plans-take.greedy program s.ip k.at k.code (ap char_loop_greediness_at unbounded_loop.run))

    abbrev greedy-ready : GreedyLoopIsCovered program (potentials_of t) (key_cost_of t) (recorded t) least s.ip
    greedy-ready = (of.runs s.ip least unlimited true unbounded_loop.run).greedy refl refl

    abbrev greedy-paid : RunTurnsArePaid program (potentials_of t) (key_cost_of t) (recorded t) text (analysis_as_liveness t) (key_code_questions_of t) (insn_direction t) (plan_steps_below_record program) d test s place least
    greedy-paid =
        turns-paid.runs program (potentials_of t) (key_cost_of t) (recorded t) text (analysis_as_liveness t) (key_code_questions_of t) (insn_direction t) (plan_steps_below_record program) d test s place least greedy-ready

    -- If the key at an exit is known to fail, the threads from that exit find nothing.
    row-fails : IsKeyed program text t d s → (n : ℕ) → least ≤ n → n ≤ passing text test d place → KeyFails program text t (key_after_chars program text t d test place s n)
        → AllFindNothing program text d (threads_after_chars program text t d test place s n)
    row-fails keyed n le few fails =
        let row = threads_after_chars program text t d test place s n in
        fails d row
        ((runs-have-keys program text (analysis_as_liveness t) (key_code_questions_of t) (insn_direction t) (recorded t) (plan_steps_below_record program) d test (moved text d n place) s is_text
        (further-inside program t of bounded text is_text bytes less d s test least true unbounded_loop place on-text n few) keyed.of).greedy
        (run-records program t of bounded text is_text bytes less d s test least true unbounded_loop keyed.way)
        (keyed-sound program text t d row (row-keyed program t of bounded text is_text bytes less d s test least true unbounded_loop place on-text keyed at n le few)))

    keyed-places : IsKeyed program text t d s → AreKeyed program text t d (threads_in rest) → (n : ℕ) → least ≤ n → n ≤ passing text test d place
        → AreKeyed program text t d (threads_in (exits_with_records program text t d test place s least (n - least) ++ rest))
    keyed-places keyed below n le few =
        places-keyed-over program t of bounded text is_text bytes less d s test least true unbounded_loop place on-text keyed at rest below (n - least) (omega (arith, le, few))

    -- If the key of an exit is known to fail, only the nearer exits are left.
    pub greedy-known : (n : ℕ) → least ≤ n → n ≤ passing text test d place → KeyFails program text t (key_after_chars program text t d test place s n) → New n
        → Come work now (one_thread (running s) ∷ rest) → Come (work + (n + 2)) now (exits_with_records program text t d test place s least (n - least) ++ rest)
    greedy-known n le few fails new h =
        let keyed = h.keyed.0 in
        let waiting_there = its-waiting program t of bounded text is_text bytes less d s test least true unbounded_loop place on-text (n - least) in
        let row = threads_after_chars program text t d test place s n in
        record {
          comes = subst (λ entries. Steps (work + (n + 2)) (entries ++ rest))
              (rows-from program t of bounded text is_text bytes less d s test least true unbounded_loop place on-text n le few)
              (gives work (n + 2) now (one_thread (running s) ∷ []) (each_noted row waiting_there) rest tt h.comes
              ((greedy-gives keyed).known n le few (row-fails keyed n le few fails) new) (greedy-paid.known n le));
          keyed = keyed-places keyed h.keyed.1 n le few;
        }

    -- If no key is known to fail, the furthest exit is taken.
    pub greedy-all : (n : ℕ) → n ≡ passing text test d place → least ≤ n → New (n + 1) → Come work now (one_thread (running s) ∷ rest)
        → Come (work + (n + 2)) now (one_thread (running (behind text d place s n)) ∷ key_record (key_after_chars program text t d test place s n) (threads_after_chars program text t d test place s n)
        ∷ exits_with_records program text t d test place s least (n - least) ++ rest)
    greedy-all n same le new h =
        let keyed = h.keyed.0 in
        let few : n ≤ passing text test d place = omega (arith, same) in
        let waiting_there = its-waiting program t of bounded text is_text bytes less d s test least true unbounded_loop place on-text (n - least) in
        let furthest_one = running (behind text d place s n) in
        let key = key_after_chars program text t d test place s n in
        let entries_are : each_noted [] ((furthest_one, key) ∷ waiting_there)
        ≡ one_thread furthest_one ∷ key_record key (threads_after_chars program text t d test place s n) ∷ exits_with_records program text t d test place s least (n - least) =
        ap (λ ts. one_thread furthest_one ∷ key_record key ts ∷ each_noted ts waiting_there) (row-last text is_text test d place s on-text n same)
        ∙ ap (λ row. one_thread furthest_one ∷ key_record key (threads_after_chars program text t d test place s n) ∷ row)
        (rows-from program t of bounded text is_text bytes less d s test least true unbounded_loop place on-text n le few) in
        record {
          comes = subst (λ entries. Steps (work + (n + 2)) (entries ++ rest)) entries_are
              (gives work (n + 2) now (one_thread (running s) ∷ []) (each_noted [] ((furthest_one, key) ∷ waiting_there)) rest tt h.comes
              ((greedy-gives keyed).all n same le new) (greedy-paid.all n le));
          keyed = (
            place-keyed program t of bounded text is_text bytes less d s test least true unbounded_loop place on-text keyed at n le few,
            keyed-places keyed h.keyed.1 n le few,
          );
        }

    -- If too few characters pass, the loop leaves no thread.
    pub greedy-none : passing text test d place < least → Come work now (one_thread (running s) ∷ rest) → Come (work + (passing text test d place + 2)) now rest
    greedy-none few h = record {
      comes = gives work (passing text test d place + 2) now (one_thread (running s) ∷ []) [] rest tt h.comes ((greedy-gives h.keyed.0).none few)
          ((others-paid.ends program (potentials_of t) (key_cost_of t) (recorded t) s).short least (passing text test d place) greedy-ready (omega (arith, few)));
      keyed = h.keyed.1;
    }

  -- ---- A lazy loop

  module _ (s : State) (test : ℕ → Bool) (least place : ℕ) (unbounded_loop : StateIsAtUnboundedCharLoop program s test least false) where
    abbrev lazy-ready : LazyLoopIsCovered program (potentials_of t) (key_cost_of t) (recorded t) least s.ip
    lazy-ready = (of.runs s.ip least unlimited false unbounded_loop.run).lazy refl refl

    abbrev lazy-paid : LazyTurnsArePaid program (potentials_of t) (key_cost_of t) (recorded t) text (analysis_as_liveness t) (key_code_questions_of t) (insn_direction t) (plan_steps_below_record program) d test s place least
    lazy-paid =
        turns-paid.lazy_runs program (potentials_of t) (key_cost_of t) (recorded t) text (analysis_as_liveness t) (key_code_questions_of t) (insn_direction t) (plan_steps_below_record program) d test s place least lazy-ready

    -- ---- The first turn

    module _ (at : place_at text s.pos ≡ Some place) where
      abbrev on-its-text : place ≤ last_place text
      on-its-text = (offset-place_at text s.pos place is_text at).1

      abbrev lazy-gives : IsKeyed program text t d s → LazyGives program text (analysis_as_liveness t) (key_code_questions_of t) (insn_direction t) (recorded t) (plan_steps_below_record program) d test s now place least
      lazy-gives keyed =
          runs-give.lazy program text (analysis_as_liveness t) (key_code_questions_of t) (insn_direction t) (recorded t) (plan_steps_below_record program) d test s now place least unlimited serves.plan.liveness
          (at-run program t of bounded text is_text bytes less d s test least false unbounded_loop place on-its-text keyed at)

      -- The nearest exit is taken, and the others wait.
      pub lazy-first : least ≤ passing text test d place → Come work now (one_thread (running s) ∷ rest)
          → Come (work + (least + 2)) now (one_thread (running (behind text d place s least)) ∷ thread_group (pending_loop_threads text test d (least + 1) place s) ∷ rest)
      lazy-first le h =
          let keyed = h.keyed.0 in
          let waits = pending_loop_threads text test d (least + 1) place s in
          record {
            comes = gives work (least + 2) now (one_thread (running s) ∷ []) (one_thread (running (behind text d place s least)) ∷ thread_group waits ∷ []) rest tt h.comes
                ((lazy-gives keyed).first le) lazy-paid.taken_up;
            keyed = (
              place-keyed program t of bounded text is_text bytes less d s test least false unbounded_loop place on-its-text keyed at least (omega arith) le,
              Each-append (λ u. IsKeyed program text t d (state_of_thread u)) waits (threads_in rest)
                  (waits-keyed program t of bounded text is_text bytes less d s test least false unbounded_loop place on-its-text keyed at (least + 1) (omega arith)) h.keyed.1,
            );
          }

      -- If too few characters pass, the loop leaves no thread.
      pub lazy-none : passing text test d place < least → Come work now (one_thread (running s) ∷ rest) → Come (work + (passing text test d place + 2)) now rest
      lazy-none few h = record {
        comes = gives work (passing text test d place + 2) now (one_thread (running s) ∷ []) [] rest tt h.comes ((lazy-gives h.keyed.0).none few)
            ((others-paid.ends program (potentials_of t) (key_cost_of t) (recorded t) s).short_lazy least (passing text test d place) lazy-ready (omega (arith, few)));
        keyed = h.keyed.1;
      }

    -- ---- Resumption

    module _ (inside : place ≤ last_place text) where
      abbrev its-waits : List Thread
      its-waits = pending_loop_threads text test d 0 place s

      abbrev more-waits : List Thread
      more-waits = pending_loop_threads text test d 1 place s

      abbrev nearest : State
      nearest = behind text d place s 0

      abbrev its-first-key : Key
      its-first-key = key_after_chars program text t d test place s 0

      nearest-first : its-waits ≡ waiting nearest ∷ more-waits
      nearest-first = (lazy-runs-go-on text test d place s inside).next

      -- These facts hold for the waiting threads and for the loop.
      record Waits : Type 0 where
        nearest_keyed : IsKeyed program text t d nearest
        more_keyed : AreKeyed program text t d more-waits
        all_keyed : AreKeyed program text t d its-waits
        below : AreKeyed program text t d (threads_in rest)

      waits-known : Come work now (thread_group its-waits ∷ rest) → Waits
      waits-known h =
          let all = Each-left (λ u. IsKeyed program text t d (state_of_thread u)) its-waits (threads_in rest) h.keyed in
          let both = subst (AreKeyed program text t d) nearest-first all in
          record {
            nearest_keyed = both.0;
            more_keyed = both.1;
            all_keyed = all;
            below = Each-right (λ u. IsKeyed program text t d (state_of_thread u)) its-waits (threads_in rest) h.keyed;
          }

      run-way : Waits → insn_direction t s.ip ≡ d
      run-way w = sym (way-behind program t of bounded text is_text bytes less d s test least false unbounded_loop) ∙ w.nearest_keyed.way

      run-state : Waits → HasSlotsOfProgram program s
      run-state w = let k = w.nearest_keyed in record { groups = k.of.groups; starts = k.of.starts; loops = k.of.loops }

      its-records : Waits → CharLoopRecords program (analysis_as_liveness t) (key_code_questions_of t) (insn_direction t) (recorded t) d test false s.ip
      its-records w = run-records program t of bounded text is_text bytes less d s test least false unbounded_loop (run-way w)

      waits-sound : Waits → AreSound program text (analysis_as_liveness t) (analysis_keys program text t) d its-waits
      waits-sound w = keyed-sound program text t d its-waits w.all_keyed

      waits-of-key : Waits → KeyStandsFor program text (analysis_as_liveness t) (analysis_keys program text t) d its-first-key its-waits
      waits-of-key w =
          let here : run_key program text (analysis_as_liveness t) (key_code_questions_of t) (insn_direction t) (recorded t) (plan_steps_below_record program) d place s ≡ its-first-key =
          ap (λ q. run_key program text (analysis_as_liveness t) (key_code_questions_of t) (insn_direction t) (recorded t) (plan_steps_below_record program) d q s) (sym (moved-zero text d place)) in
          subst (λ k. KeyStandsFor program text (analysis_as_liveness t) (analysis_keys program text t) d k its-waits) here
          ((runs-have-keys program text (analysis_as_liveness t) (key_code_questions_of t) (insn_direction t) (recorded t) (plan_steps_below_record program) d test place s is_text inside (run-state w)).lazy
          (its-records w) (waits-sound w))

      alone : threads_in (thread_group its-waits ∷ []) ≡ its-waits
      alone = append-nil its-waits

      -- The potential of the waiting threads is at least one.
      some-ready : 1 ≤ sum_by (entry_potential (potential_by program (potentials_of t) (key_cost_of t) (recorded t))) (thread_group its-waits ∷ [])
      some-ready =
          let weight : List Thread → ℕ = λ ts. potential_by program (potentials_of t) (key_cost_of t) (recorded t) ts in
          let x = one-weighs program (potentials_of t) (key_cost_of t) (recorded t) (thread_group its-waits) in
          let y : weight its-waits ≡ (insn_analysis_of t (s.ip + 2)).ready + 1 = ap weight nearest-first in
          omega (arith, x, y)

      pub lazy-way : Come work now (thread_group its-waits ∷ rest) → insn_direction t s.ip ≡ d
      lazy-way h = run-way (waits-known h)

      -- The state at the loop's body has the key of the waiting threads.
      pub lazy-key : Come work now (thread_group its-waits ∷ rest) → memo_key_at t (record s { ip = s.ip + 1; pos = offset text place }) ≡ Some its-first-key
      lazy-key h =
          ap (λ p. memo_key_at t (record s { ip = s.ip + 1; pos = offset text p })) (sym (moved-zero text d place))
          ∙ key-is program t of bounded text is_text bytes less d s test least false unbounded_loop (lazy-way h) place 0

      -- If the key of the waiting threads is known to fail, they are dropped.
      pub lazy-known : KeyFails program text t its-first-key → Come work now (thread_group its-waits ∷ rest) → Come (work + 1) now rest
      lazy-known fails h =
          let w = waits-known h in
          record {
            comes = gives work 1 now (thread_group its-waits ∷ []) [] rest tt h.comes
                (subst (λ ts. IsMemoStep program text (analysis_as_liveness t) (analysis_keys program text t) d now ts []) (sym alone)
                ((turns-right program text (analysis_as_liveness t) (analysis_keys program text t) serves.plan.liveness serves.serves.keys d).dropped now its-first-key its-waits fails (waits-of-key w)))
                (let some = some-ready in omega (arith, some));
            keyed = w.below;
          }

      -- If the key is new, the nearest exit is taken above a record of the key.
      pub lazy-again : IsNew its-first-key now → Come work now (thread_group its-waits ∷ rest)
          → Come (work + 2) now (one_thread (running nearest) ∷ thread_group more-waits ∷ key_record its-first-key its-waits ∷ rest)
      lazy-again new h =
          let w = waits-known h in
          let entries = one_thread (running nearest) ∷ thread_group more-waits ∷ key_record its-first-key its-waits ∷ [] in
          record {
            comes = gives work 2 now (thread_group its-waits ∷ []) entries rest tt h.comes
                (subst (λ ts. IsMemoStep program text (analysis_as_liveness t) (analysis_keys program text t) d now ts entries) (sym alone)
                (runs-give.lazy_again program text (analysis_as_liveness t) (key_code_questions_of t) (insn_direction t) (recorded t) (plan_steps_below_record program) d test s now place serves.plan.liveness inside
                (its-records w) (run-state w) (waits-sound w) (plans-take.lazy program s.ip its-first-key.at its-first-key.code (ap char_loop_greediness_at unbounded_loop.run)) new))
                lazy-paid.again;
            keyed = (w.nearest_keyed, Each-append (λ u. IsKeyed program text t d (state_of_thread u)) more-waits (threads_in rest) w.more_keyed w.below);
          }

-- ---- No waiting threads

module _ (program : Program) (t : MemoAnalysis) (text : Text) (memory : List Key) (first : List Entry) (work : ℕ) (now : List Key) (rest : List Entry) (r : State) where
  stays-on : (d : Direction) → GoesOnward d (running r ∷ []) (one_thread (running r) ∷ [])
  stays-on rightwards = (omega arith, tt, tt)
  stays-on leftwards = tt

  -- A thread group that has no threads is dropped.
  pub kept-none : (d : Direction) → ReachesEntries program text t d memory first work now (one_thread (running r) ∷ thread_group [] ∷ rest)
      → ReachesEntries program text t d memory first work now (one_thread (running r) ∷ rest)
  kept-none d h =
      let front = one_thread (running r) ∷ thread_group [] ∷ [] in
      let weight : List Thread → ℕ = λ ts. potential_by program (potentials_of t) (key_cost_of t) (recorded t) ts in
      let x = sum_by-cons (entry_potential weight) (one_thread (running r)) (thread_group [] ∷ []) in
      let y = one-weighs program (potentials_of t) (key_cost_of t) (recorded t) (one_thread (running r)) in
      let none : work + 0 ≡ work = omega arith in
      record {
        comes = subst (λ n. ReachesBySteps program text (analysis_as_liveness t) (analysis_keys program text t) d (λ k. key_cost_of t k.ip) weight memory first n now (one_thread (running r) ∷ rest)) none
            (gives work 0 now front (one_thread (running r) ∷ []) rest tt h.comes
            ((turns-give program text (analysis_as_liveness t) (analysis_keys program text t) d now).passed 0 (one_thread (running r) ∷ []) (running r ∷ []) tt
            (simulates-same program text false d (running r ∷ [])) (stays-on d))
            (omega (arith, x, y)));
        keyed = h.keyed;
      }
