-- The steps of char loops without a maximum are memo steps with a record for each exit.
use Rattle.std.proofs.Common.{◌≡◌, ◌≤◌, ◌<◌, ℕ, zero, suc, ◌+◌, ◌-◌, List, [], ◌∷◌, ◌++◌, map, reverse, Bool, true, false, refl, ap, ap₂, ◌∙◌, sym, subst, arith, append-nil}
use Rattle.std.specs.Prelude.{nat_lt}
use Rattle.std.proofs.lemmas.Bool.{lt-ltb}
use Rattle.std.proofs.lemmas.List.{reverse-append}
use Rattle.regex_meaning.specs.NumberListHelpers.{numbers_from}
use Rattle.regex_meaning.specs.Text.{Text, Direction, rightwards, leftwards, last_place, moved, characters_ahead}
use Rattle.regex_meaning.specs.CodeUnitOffsets.{HasRisingPlaceOffsets, offset, units}
use Rattle.regex_meaning.specs.CompilationRelation.{Program}
use Rattle.regex_meaning.proofs.EachElementLemmas.{Each, Each-map, Each-reverse}
use Rattle.regex_meaning.proofs.CodeUnitOffsetsLemmas.{place_at-offset, offset-place_at}
use Rattle.regex_meaning.proofs.OutcomeDirectionLemmas.{moved-twice}
use Rattle.regress_machine.specs.Machine.{State, Thread, running, waiting, scans, first_running_and_others_waiting, act}
use Rattle.regress_machine.proofs.NearestCharacterLemmas.{moved-zero}
use Rattle.regress_machine.proofs.CharLoopRepetitions.{numbers_between}
use Rattle.regress_machine.specs.ThreadSimulation.{Simulates, AllFindNothing}
use Rattle.regress_machine.specs.CharLoopExitStatesByPreference.{behind, fewest_first, most_first}
use Rattle.regress_machine.proofs.ThreadSimulationLemmas.{simulates-scans, simulates-waits, simulates-before, simulates-same}
use Rattle.regress_machine.proofs.CharLoopExitStateLemmas.{behind-from}
use Rattle.regress_memo.specs.ThreadBisimulation.{Relation, AlikeThreads}
use Rattle.regress_memo.specs.Liveness.{Liveness, IsLivenessFor, IsNotAheadInDirection, Agree, outermost}
use Rattle.regress_memo.specs.DistinctLists.{IsNew, AreDistinct}
use Rattle.regress_memo.specs.MemoSearch.{Key, Keys, Entry, one_thread, thread_group, key_record, keys_in, offset_of_thread, AreOnward, GoesOnward, KeyStandsFor, AreSound, IsMemoStep}
use Rattle.regress_memo.specs.ThreadPotentials.{each_noted, AreOfEach}
use Rattle.regress_memo.specs.LoopDataKeyCodes.{Question, HasSlotsOfProgram}
use Rattle.regress_memo.specs.CharLoopExitThreadLists.{passing, greedy_loop_threads, lazy_loop_threads, pending_loop_threads}
use Rattle.regress_memo.specs.UnboundedCharLoopMemoKeys.{CharLoopRecords, run_key, plan_keys}
use Rattle.regress_memo.specs.UnboundedCharLoops.{key_behind, placed, ExitKeysAreNew, AtCharLoop, UnboundedCharLoopsAreMemoSteps}
use Rattle.regress_memo.proofs.LivenessLemmas.{Moves, moves-on}
use Rattle.regress_memo.proofs.SharedMemoLookaroundLemmas.{soundness-stays}
use Rattle.regress_memo.proofs.CharLoopExitLemmas.{passing-left, passing-on, runs-leave, runs-begin, lazy-runs-go-on}
use Rattle.regress_memo.proofs.CharLoopKeyLemmas.{runs-have-keys}
use Rattle.regress_memo.proofs.ThreadPotentialLemmas.{turns-give, turn-ahead}

-- ---- Lists of numbers

numbers-end : (least count : ℕ) → numbers_from least (suc count) ≡ numbers_from least count ++ (least + count) ∷ []
numbers-end least zero = let e : least ≡ least + 0 = omega arith in ap (λ n. n ∷ []) e
numbers-end least (suc count) =
    let e : least + 1 + count ≡ least + suc count = omega arith in
    ap (λ ns. least ∷ ns) (numbers-end (least + 1) count ∙ ap (λ n. numbers_from (least + 1) count ++ n ∷ []) e)

numbers-back : (least count : ℕ) → reverse (numbers_from least (suc count)) ≡ (least + count) ∷ reverse (numbers_from least count)
numbers-back least count = ap reverse (numbers-end least count) ∙ reverse-append (numbers_from least count) ((least + count) ∷ [])

-- ---- Lists of sound threads

module _ (R : Relation) where
  alike-first : (xs ys : List Thread) → AlikeThreads R (xs ++ ys) (xs ++ ys) → AlikeThreads R xs xs
  alike-first [] ys h = tt
  alike-first (running s ∷ xs) ys h = (h.0, alike-first xs ys h.1)
  alike-first (waiting s ∷ xs) ys h = (h.0, alike-first xs ys h.1)

-- ---- Places of a char loop

pub place-inside : (text : Text) (d : Direction) (n p : ℕ) → p ≤ last_place text → n ≤ characters_ahead text d p → moved text d n p ≤ last_place text
place-inside text rightwards n p inside few = omega (arith, few, inside)
place-inside text leftwards n p inside few = omega (arith, inside)

module _ (text : Text) (is : HasRisingPlaceOffsets text) (test : ℕ → Bool) where
  -- `Moves` relates the offset of a place of a char loop to that of a place further on.
  way-on : (d : Direction) (m n p : ℕ) → p ≤ last_place text → m + n ≤ passing text test d p
      → Moves d (nat_lt 0 n) (offset text (moved text d m p)) (offset text (moved text d (m + n) p))
  way-on d m n p inside few =
      let q = moved text d m p in
      let left = passing-left text test d p inside in
      let within = place-inside text d m p inside (omega (arith, left, few)) in
      let sum = passing-on text test d m p inside (omega (arith, few)) in
      let left' = passing-left text test d q within in
      subst (λ r. Moves d (nat_lt 0 n) (offset text q) (offset text r)) (moved-twice text d m n p)
      (moves-on text is d (offset text q) q n (place_at-offset text q is within) (omega (arith, sum, left', few)))

  pub run-onward : (d : Direction) (m M p : ℕ) → p ≤ last_place text → m ≤ M → M ≤ passing text test d p
      → IsNotAheadInDirection d (offset text (moved text d m p)) (offset text (moved text d M p))
  run-onward d m M p inside le few =
      let e : m + (M - m) ≡ M = omega (arith, le) in
      subst (λ n. IsNotAheadInDirection d (offset text (moved text d m p)) (offset text (moved text d n p))) e (way-on d m (M - m) p inside (omega (arith, le, few))).passed

  run-apart : (d : Direction) (m M p : ℕ) → p ≤ last_place text → m < M → M ≤ passing text test d p
      → offset text (moved text d m p) ≡ offset text (moved text d M p) → ⊥
  run-apart d m M p inside less few same =
      let e : m + (M - m) ≡ M = omega (arith, less) in
      (way-on d m (M - m) p inside (omega (arith, less, few))).further (lt-ltb 0 (M - m) (omega (arith, less))) (same ∙ ap (λ n. offset text (moved text d n p)) (sym e))

-- ---- Threads that a greedy loop leaves

module _ (text : Text) (is : HasRisingPlaceOffsets text) (test : ℕ → Bool) (d : Direction) (p : ℕ) (s : State) (inside : p ≤ last_place text) where
  -- `row-from n` lists the threads that a greedy loop leaves from `n` characters on.
  abbrev row-from : ℕ → List Thread
  row-from n = greedy_loop_threads text test d 0 (moved text d n p) s

  -- The row from a place on is that from the next place on, with the thread that waits here last.
  pub row-next : (n : ℕ) → n + 1 ≤ passing text test d p → row-from (n + 1) ++ waiting (behind text d p s n) ∷ [] ≡ row-from n
  row-next n few =
      let q = moved text d n p in
      let left = passing-left text test d p inside in
      let within = place-inside text d n p inside (omega (arith, left, few)) in
      let sum = passing-on text test d n p inside (omega (arith, few)) in
      let zero_on : n + 0 ≡ n = omega arith in
      let here : behind text d q s 0 ≡ behind text d p s n = sym (behind-from text d p s n 0) ∙ ap (behind text d p s) zero_on in
      sym (runs-begin text test d q 0 1 s within (omega arith) (omega (arith, sum, few))
      ∙ ap₂ (λ r u. greedy_loop_threads text test d 0 r s ++ waiting u ∷ []) (moved-twice text d n 1 p) here)

  -- Where no character passes any more, the row is the running thread alone.
  pub row-last : (n : ℕ) → n ≡ passing text test d p → running (behind text d p s n) ∷ [] ≡ row-from n
  row-last n same =
      let q = moved text d n p in
      let sum = passing-on text test d n p inside (omega (arith, same)) in
      let one : 1 ≡ passing text test d q + 1 - 0 = omega (arith, sum, same) in
      let zero_on : n ≡ n + 0 = omega arith in
      let here : behind text d p s n ≡ behind text d q s 0 = ap (behind text d p s) zero_on ∙ behind-from text d p s n 0 in
      ap (λ u. running u ∷ []) here ∙ ap (λ m. first_running_and_others_waiting (most_first text d q s 0 m)) one

module _ (program : Program) (text : Text) (a : Liveness) (questions : ℕ → List Question) (way : ℕ → Direction) (ips : List ℕ) (taken : Key → ℕ) (test : ℕ → Bool) (s : State) (is : HasRisingPlaceOffsets text) (p : ℕ) (inside : p ≤ last_place text) where
  abbrev keys : Keys
  keys = plan_keys program text a questions way ips taken

  module _ (d : Direction) where
    abbrev key : ℕ → Key
    key n = key_behind program text a questions way ips taken d test s p n

    abbrev waits-at : ℕ → Thread
    waits-at n = waiting (behind text d p s n)

    abbrev pair : ℕ → Thread × Key
    pair n = (waiting (behind text d p s n), key n)

    abbrev all-placed : (least count : ℕ) → List (Thread × Key)
    all-placed least count = placed program text a questions way ips taken d test s p least count

    -- `row n` lists the threads that a greedy loop leaves from `n` characters on.
    abbrev row : ℕ → List Thread
    row n = greedy_loop_threads text test d 0 (moved text d n p) s

    abbrev Agreeing : Relation
    Agreeing u v = Agree a (units text) outermost d u v

    -- ---- Threads with their keys

    threads-placed : (ns : List ℕ) → map (λ (x : Thread × Key). x.0) (map pair ns) ≡ map waiting (map (behind text d p s) ns)
    threads-placed [] = refl
    threads-placed (n ∷ ns) = ap (λ ts. waits-at n ∷ ts) (threads-placed ns)

    -- ---- Keys that are distinct

    keys-apart : (M : ℕ) → M ≤ passing text test d p → (ns : List ℕ) → Each (λ n. n < M) ns → IsNew (key M) (map (λ (x : Thread × Key). x.1) (map pair ns))
    keys-apart M few [] h = tt
    keys-apart M few (n ∷ ns) h = (λ e. run-apart text is test d n M p inside h.0 few (ap (λ (k : Key). k.at) e), keys-apart M few ns h.1)

    below-it : (least count : ℕ) → Each (λ n. n < least + count) (reverse (numbers_from least count))
    below-it least count = Each-reverse (λ n. n < least + count) (numbers_from least count) (Each-map _ _ (λ n h. h.1) _ (numbers_between least count))

    placed-apart : (least count : ℕ) → least + count ≤ passing text test d p + 1 → AreDistinct (map (λ (x : Thread × Key). x.1) (all-placed least count))
    placed-apart least zero few = tt
    placed-apart least (suc count) few =
        subst (λ ns. AreDistinct (map (λ (x : Thread × Key). x.1) (map pair ns))) (sym (numbers-back least count))
        (keys-apart (least + count) (omega (arith, few)) (reverse (numbers_from least count)) (below-it least count), placed-apart least count (omega (arith, few)))

    -- ---- Keys that stand for rows

    module _ (memory : List Key) (records : CharLoopRecords program a questions way ips d test true s.ip) (of : HasSlotsOfProgram program s) (none-below : (n : ℕ) → taken (key n) ≡ 0) where
      row-of-key : (n : ℕ) → n ≤ passing text test d p → AreSound program text a keys d (row n) → KeyStandsFor program text a keys d (key n) (row n)
      row-of-key n few sound =
          let left = passing-left text test d p inside in
          (runs-have-keys program text a questions way ips taken d test (moved text d n p) s is (place-inside text d n p inside (omega (arith, left, few))) of).greedy records sound

      each-of-key : (least count : ℕ) → least + count ≤ passing text test d p → ((n : ℕ) → least ≤ n → n < least + count → AreSound program text a keys d (row n))
          → ExitKeysAreNew program text a questions way ips taken d test s memory p least (least + count)
          → AreOfEach program text a keys d memory (row (least + count)) (all-placed least count)
      each-of-key least zero few sound new = tt
      each-of-key least (suc count) few sound new =
          let n = least + count in
          let next : n + 1 ≡ least + suc count = omega arith in
          let here : row (least + suc count) ++ waits-at n ∷ [] ≡ row n = ap (λ m. row m ++ waits-at n ∷ []) (sym next) ∙ row-next text is test d p s inside n (omega (arith, few)) in
          subst (λ ns. AreOfEach program text a keys d memory (row (least + suc count)) (map pair ns)) (sym (numbers-back least count)) (
            (
              subst (λ ts. KeyStandsFor program text a keys d (key n) ts) (sym here) (row-of-key n (omega (arith, few)) (sound n (omega arith) (omega arith))),
              none-below n,
              new n (omega arith) (omega arith),
            ),
            subst (λ ts. AreOfEach program text a keys d memory ts (all-placed least count)) (sym here)
                (each-of-key least count (omega (arith, few)) (λ m le less. sound m le (omega (arith, less))) (λ m le less. new m le (omega (arith, less)))),
          )

  -- ---- Places to the right of the first one

  waiting-onward : (from : ℕ) (ks : List Key) (ns : List ℕ)
      → Each (λ n. (from ≤ offset text (moved text rightwards n p)) × Each (λ (k : Key). k.at ≤ offset text (moved text rightwards n p)) ks) ns
      → Each (λ t. (from ≤ offset_of_thread t) × Each (λ (k : Key). k.at ≤ offset_of_thread t) ks) (map waiting (map (behind text rightwards p s) ns))
  waiting-onward from ks [] h = tt
  waiting-onward from ks (n ∷ ns) h = (h.0, waiting-onward from ks ns h.1)

  module _ (begins : offset text p ≡ s.pos) where
    from-here : (n : ℕ) → n ≤ passing text test rightwards p → s.pos ≤ offset text (moved text rightwards n p)
    from-here n few =
        let on = run-onward text is test rightwards 0 n p inside (omega arith) few in
        let zero_on = ap (offset text) (moved-zero text rightwards p) in
        omega (arith, on, zero_on, begins)

    keys-near : (M : ℕ) → M ≤ passing text test rightwards p → (above : List Thread) (ns : List ℕ) → Each (λ n. n < M) ns
        → Each (λ k. k.at ≤ offset text (moved text rightwards M p)) (keys_in (each_noted above (map (pair rightwards) ns)))
    keys-near M few above [] h = tt
    keys-near M few above (n ∷ ns) h =
        let less = h.0 in
        (run-onward text is test rightwards n M p inside (omega (arith, less)) few, keys-near M few (above ++ waits-at rightwards n ∷ []) ns h.1)

    placed-onward : (least count : ℕ) (above : List Thread) → least + count ≤ passing text test rightwards p + 1
        → AreOnward s.pos (each_noted above (all-placed rightwards least count))
    placed-onward least zero above few = tt
    placed-onward least (suc count) above few =
        let n = least + count in
        let here = from-here n (omega (arith, few)) in
        subst (λ ns. AreOnward s.pos (each_noted above (map (pair rightwards) ns))) (sym (numbers-back least count)) (
          here,
          (omega arith, keys-near n (omega (arith, few)) (above ++ waits-at rightwards n ∷ []) (reverse (numbers_from least count)) (below-it rightwards least count)),
          (here, placed-onward least count (above ++ waits-at rightwards n ∷ []) (omega (arith, few))),
        )

    onward-known : (d : Direction) (least count : ℕ) (above : List Thread) → least + count ≤ passing text test d p + 1
        → GoesOnward d (running s ∷ []) (each_noted above (all-placed d least count))
    onward-known rightwards least count above few = placed-onward least count above few
    onward-known leftwards least count above few = tt

    -- The threads of the later places are not before the keys of the nearer ones.
    exits-onward : (from M : ℕ) (ks : List Key) → Each (λ (k : Key). k.at ≤ offset text (moved text rightwards M p)) ks → from ≤ offset text (moved text rightwards M p) → M ≤ passing text test rightwards p
        → (ns : List ℕ) → Each (λ n. M + n ≤ passing text test rightwards p) ns
        → Each (λ t. (from ≤ offset_of_thread t) × Each (λ (k : Key). k.at ≤ offset_of_thread t) ks) (first_running_and_others_waiting (map (behind text rightwards (moved text rightwards M p) s) ns))
    exits-onward from M ks near le few ns inside_all = in-turn ns inside_all
      where
        far : (n : ℕ) → M + n ≤ passing text test rightwards p → offset text (moved text rightwards M p) ≤ offset text (moved text rightwards n (moved text rightwards M p))
        far n within =
            subst (λ q. offset text (moved text rightwards M p) ≤ offset text q) (sym (moved-twice text rightwards M n p))
            (run-onward text is test rightwards M (M + n) p inside (omega arith) within)

        both : (n : ℕ) → M + n ≤ passing text test rightwards p
            → (from ≤ offset text (moved text rightwards n (moved text rightwards M p))) × Each (λ (k : Key). k.at ≤ offset text (moved text rightwards n (moved text rightwards M p))) ks
        both n within =
            let on = far n within in
            (omega (arith, le, on), Each-map (λ (k : Key). k.at ≤ offset text (moved text rightwards M p)) _ (λ k h. omega (arith, h, on)) ks near)

        waits : (ns : List ℕ) → Each (λ n. M + n ≤ passing text test rightwards p) ns
            → Each (λ t. (from ≤ offset_of_thread t) × Each (λ (k : Key). k.at ≤ offset_of_thread t) ks) (map waiting (map (behind text rightwards (moved text rightwards M p) s) ns))
        waits [] h = tt
        waits (n ∷ ns) h = (both n h.0, waits ns h.1)

        in-turn : (ns : List ℕ) → Each (λ n. M + n ≤ passing text test rightwards p) ns
            → Each (λ t. (from ≤ offset_of_thread t) × Each (λ (k : Key). k.at ≤ offset_of_thread t) ks) (first_running_and_others_waiting (map (behind text rightwards (moved text rightwards M p) s) ns))
        in-turn [] h = tt
        in-turn (n ∷ ns) h = (both n h.0, waits ns h.1)

    onward-ahead : (d : Direction) (n least count : ℕ) → least + count ≡ n → n ≤ passing text test d p
        → GoesOnward d (running s ∷ []) (thread_group (row d n) ∷ each_noted (row d n) (all-placed d least count))
    onward-ahead rightwards n least count same few =
        let sum = passing-on text test rightwards n p inside few in
        let left = passing text test rightwards (moved text rightwards n p) + 1 - 0 in
        let below = subst (λ m. Each (λ k. k < m) (reverse (numbers_from least count))) same (below-it rightwards least count) in (
          exits-onward s.pos n (keys_in (each_noted (row rightwards n) (all-placed rightwards least count))) (keys-near n few (row rightwards n) (reverse (numbers_from least count)) below) (from-here n few) few
              (reverse (numbers_from 0 left))
              (Each-reverse (λ m. n + m ≤ passing text test rightwards p) (numbers_from 0 left) (Each-map _ _ (λ m h. let less = h.1 in omega (arith, less, sum)) _ (numbers_between 0 left))),
          placed-onward least count (row rightwards n) (omega (arith, same, few)),
        )
    onward-ahead leftwards n least count same few = tt

    onward-all : (d : Direction) (n least count : ℕ) → least + count ≡ n → n ≤ passing text test d p
        → GoesOnward d (running s ∷ []) (each_noted [] ((running (behind text d p s n), key d n) ∷ all-placed d least count))
    onward-all rightwards n least count same few =
        let here = from-here n few in
        let last = running (behind text rightwards p s n) ∷ [] in (
          here,
          (
            omega arith,
            keys-near n few last (reverse (numbers_from least count)) (subst (λ m. Each (λ k. k < m) (reverse (numbers_from least count))) same (below-it rightwards least count)),
          ),
          (here, placed-onward least count last (omega (arith, same, few))),
        )
    onward-all leftwards n least count same few = tt

    onward-none : (d : Direction) → GoesOnward d (running s ∷ []) []
    onward-none rightwards = tt
    onward-none leftwards = tt

    onward-lazy : (d : Direction) (least : ℕ) → least ≤ passing text test d p
        → GoesOnward d (running s ∷ []) (one_thread (running (behind text d p s least)) ∷ thread_group (pending_loop_threads text test d (least + 1) p s) ∷ [])
    onward-lazy rightwards least le =
        let count = passing text test rightwards p + 1 - (least + 1) in
        let full : least + 1 + count ≤ passing text test rightwards p + 1 = omega (arith, le) in (
          from-here least le,
          tt,
          (
            waiting-onward s.pos [] (numbers_from (least + 1) count)
                (Each-map _ _ (λ n h. let less = h.1 in (from-here n (omega (arith, less, full)), tt)) _ (numbers_between (least + 1) count)),
            tt,
          ),
        )
    onward-lazy leftwards least le = tt

  -- ---- Greedy runs

  module _ (acc : IsLivenessFor program text a) (d : Direction) (memory : List Key) (least most : ℕ) where
    abbrev GivesHere : List Thread → List Entry → Type 0
    GivesHere ts entries = IsMemoStep program text a keys d memory ts entries

    module _ (at : AtCharLoop program text a questions way ips taken d test s true least most p) (none-below : (n : ℕ) → taken (key d n) ≡ 0) where
      begins-here : offset text p ≡ s.pos
      begins-here = (offset-place_at text s.pos p is at.at).0

      leaves : act program text d s ≡ scans (passing text test d p + 1) (greedy_loop_threads text test d least p s)
      leaves = runs-leave program text test d p least most true s at.run at.records.body at.at at.unlimited

      whole : Simulates program text false d (1 + (passing text test d p + 1)) (greedy_loop_threads text test d least p s) (running s ∷ [])
      whole = simulates-scans program text false d s (passing text test d p + 1) (greedy_loop_threads text test d least p s) leaves

      parts : (n : ℕ) → least ≤ n → n ≤ passing text test d p
          → greedy_loop_threads text test d least p s ≡ row d n ++ map (λ (x : Thread × Key). x.0) (all-placed d least (n - least))
      parts n le few =
          runs-begin text test d p least n s inside le few ∙ ap (λ ts. row d n ++ ts) (sym (threads-placed d (reverse (numbers_from least (n - least)))))

      sound-row : (n : ℕ) → least ≤ n → n ≤ passing text test d p → AreSound program text a keys d (row d n)
      sound-row n le few =
          let all = (soundness-stays program text a acc d).scans outermost s (passing text test d p + 1) (greedy_loop_threads text test d least p s) at.sound leaves in
          alike-first (Agreeing d) (row d n) _ (subst (λ ts. AlikeThreads (Agreeing d) ts ts) (parts n le few) all)

      each-key : (n : ℕ) → least ≤ n → n ≤ passing text test d p → ExitKeysAreNew program text a questions way ips taken d test s memory p least n
          → AreOfEach program text a keys d memory (row d n) (all-placed d least (n - least))
      each-key n le few new =
          let e : least + (n - least) ≡ n = omega (arith, le) in
          subst (λ m. AreOfEach program text a keys d memory (row d m) (all-placed d least (n - least))) e
          (each-of-key d memory at.records at.of none-below least (n - least) (omega (arith, e, few))
          (λ m first less. sound-row m first (omega (arith, less, e, few))) (λ m first less. new m first (omega (arith, less, e))))

      greedy-known : (n : ℕ) → least ≤ n → n ≤ passing text test d p → AllFindNothing program text d (row d n)
          → ExitKeysAreNew program text a questions way ips taken d test s memory p least n → GivesHere (running s ∷ []) (each_noted (row d n) (all-placed d least (n - least)))
      greedy-known n le few none new =
          (turns-give program text a keys d memory).run (1 + (passing text test d p + 1)) (running s ∷ []) (row d n) (all-placed d least (n - least))
          (subst (λ ts. Simulates program text false d (1 + (passing text test d p + 1)) ts (running s ∷ [])) (parts n le few) whole)
          (omega arith) none (each-key n le few new) (placed-apart d least (n - least) (omega (arith, le, few)))
          (onward-known begins-here d least (n - least) (row d n) (omega (arith, le, few)))

      greedy-ahead : (n : ℕ) → least ≤ n → n ≤ passing text test d p → ExitKeysAreNew program text a questions way ips taken d test s memory p least n
          → GivesHere (running s ∷ []) (thread_group (row d n) ∷ each_noted (row d n) (all-placed d least (n - least)))
      greedy-ahead n le few new =
          turn-ahead program text a keys d memory (1 + (passing text test d p + 1)) (running s ∷ []) (row d n) (all-placed d least (n - least))
          (subst (λ ts. Simulates program text false d (1 + (passing text test d p + 1)) ts (running s ∷ [])) (parts n le few) whole)
          (omega arith) (each-key n le few new) (placed-apart d least (n - least) (omega (arith, le, few)))
          (onward-ahead begins-here d n least (n - least) (omega (arith, le)) few)

      greedy-all : (n : ℕ) → n ≡ passing text test d p → least ≤ n → ExitKeysAreNew program text a questions way ips taken d test s memory p least (n + 1)
          → GivesHere (running s ∷ []) (each_noted [] ((running (behind text d p s n), key d n) ∷ all-placed d least (n - least)))
      greedy-all n same le new =
          let last = row-last text is test d p s inside n same in
          let few : n ≤ passing text test d p = omega (arith, same) in
          let full : least + (n - least) ≡ n = omega (arith, le) in
          let xs = (running (behind text d p s n), key d n) ∷ all-placed d least (n - least) in
          (turns-give program text a keys d memory).run (1 + (passing text test d p + 1)) (running s ∷ []) [] xs
          (subst (λ ts. Simulates program text false d (1 + (passing text test d p + 1)) ts (running s ∷ []))
          (parts n le few ∙ ap (λ ts. ts ++ map (λ (x : Thread × Key). x.0) (all-placed d least (n - least))) (sym last)) whole)
          (omega arith) (simulates-same program text false d []) (
            (
              subst (λ ts. KeyStandsFor program text a keys d (key d n) ts) (sym last) (row-of-key d memory at.records at.of none-below n few (sound-row n le few)),
              none-below n,
              new n le (omega arith),
            ),
            subst (λ ts. AreOfEach program text a keys d memory ts (all-placed d least (n - least))) (sym last)
                (each-key n le few (λ m first less. new m first (omega (arith, less)))),
          ) (
            keys-apart d n few (reverse (numbers_from least (n - least))) (subst (λ m. Each (λ k. k < m) (reverse (numbers_from least (n - least)))) full (below-it d least (n - least))),
            placed-apart d least (n - least) (omega (arith, full, few)),
          )
          (onward-all begins-here d n least (n - least) full few)

      greedy-none : passing text test d p < least → GivesHere (running s ∷ []) []
      greedy-none less =
          let none : passing text test d p + 1 - least ≡ 0 = omega (arith, less) in
          (turns-give program text a keys d memory).passed (1 + (passing text test d p + 1)) [] (running s ∷ []) tt
          (subst (λ m. Simulates program text false d (1 + (passing text test d p + 1)) (first_running_and_others_waiting (most_first text d p s least m)) (running s ∷ [])) none whole)
          (onward-none begins-here d)

    -- ---- Lazy runs

    module _ (at : AtCharLoop program text a questions way ips taken d test s false least most p) where
      lazy-begins : offset text p ≡ s.pos
      lazy-begins = (offset-place_at text s.pos p is at.at).0

      lazy-whole : Simulates program text false d (1 + (passing text test d p + 1)) (lazy_loop_threads text test d least p s) (running s ∷ [])
      lazy-whole =
          simulates-scans program text false d s (passing text test d p + 1) (lazy_loop_threads text test d least p s)
          (runs-leave program text test d p least most false s at.run at.records.body at.at at.unlimited)

      lazy-first : least ≤ passing text test d p
          → GivesHere (running s ∷ []) (one_thread (running (behind text d p s least)) ∷ thread_group (pending_loop_threads text test d (least + 1) p s) ∷ [])
      lazy-first le =
          let waits = pending_loop_threads text test d (least + 1) p s in
          let same : lazy_loop_threads text test d least p s ≡ running (behind text d p s least) ∷ (waits ++ []) =
          (lazy-runs-go-on text test d p s inside).begins least le ∙ ap (λ ts. running (behind text d p s least) ∷ ts) (sym (append-nil waits)) in
          (turns-give program text a keys d memory).passed (1 + (passing text test d p + 1)) (one_thread (running (behind text d p s least)) ∷ thread_group waits ∷ []) (running s ∷ []) tt
          (subst (λ ts. Simulates program text false d (1 + (passing text test d p + 1)) ts (running s ∷ [])) same lazy-whole)
          (onward-lazy lazy-begins d least le)

      lazy-none : passing text test d p < least → GivesHere (running s ∷ []) []
      lazy-none less =
          let none : passing text test d p + 1 - least ≡ 0 = omega (arith, less) in
          (turns-give program text a keys d memory).passed (1 + (passing text test d p + 1)) [] (running s ∷ []) tt
          (subst (λ m. Simulates program text false d (1 + (passing text test d p + 1)) (first_running_and_others_waiting (fewest_first text d p s least m)) (running s ∷ [])) none lazy-whole)
          (onward-none lazy-begins d)

  -- The resumption of a lazy loop is a memo step that goes onward.
  module _ (d : Direction) (memory : List Key) where
    again-onward : (e : Direction) → GoesOnward e (waiting (behind text e p s 0) ∷ pending_loop_threads text test e 1 p s)
        (one_thread (running (behind text e p s 0)) ∷ thread_group (pending_loop_threads text test e 1 p s) ∷ key_record (key e 0) (pending_loop_threads text test e 0 p s) ∷ [])
    again-onward leftwards = tt
    again-onward rightwards =
        let from = offset text (moved text rightwards 0 p) in
        let count = passing text test rightwards p + 1 - 1 in
        let on : Each (λ n. (from ≤ offset text (moved text rightwards n p)) × Each (λ (k : Key). k.at ≤ offset text (moved text rightwards n p)) (key rightwards 0 ∷ [])) (numbers_from 1 count) =
        Each-map _ _ (λ n h. let less = h.1 in let far = run-onward text is test rightwards 0 n p inside (omega arith) (omega (arith, less)) in (far, (far, tt))) _ (numbers_between 1 count) in (
          omega arith,
          (omega arith, tt),
          (waiting-onward from (key rightwards 0 ∷ []) (numbers_from 1 count) on, (omega arith, tt)),
        )

    lazy-again : CharLoopRecords program a questions way ips d test false s.ip → HasSlotsOfProgram program s → AreSound program text a keys d (pending_loop_threads text test d 0 p s)
        → taken (key d 0) ≡ 1 → IsNew (key d 0) memory
        → IsMemoStep program text a keys d memory (pending_loop_threads text test d 0 p s)
        (one_thread (running (behind text d p s 0)) ∷ thread_group (pending_loop_threads text test d 1 p s) ∷ key_record (key d 0) (pending_loop_threads text test d 0 p s) ∷ [])
    lazy-again records of sound one new =
        let first = behind text d p s 0 in
        let waits = pending_loop_threads text test d 1 p s in
        let next = (lazy-runs-go-on text test d p s inside).next in
        let bare = one_thread (running first) ∷ thread_group waits ∷ [] in
        let step : Simulates program text false d 1 (running first ∷ (waits ++ [])) (pending_loop_threads text test d 0 p s) =
        subst (λ ts. Simulates program text false d 1 (running first ∷ (waits ++ [])) ts) (sym next)
        (subst (λ ts. Simulates program text false d 1 (running first ∷ ts) (waiting first ∷ waits)) (sym (append-nil waits))
        (simulates-before program text false d 1 (running first ∷ []) (waiting first ∷ []) waits (simulates-waits program text false d first))) in
        let same : run_key program text a questions way ips taken d p s ≡ key d 0 = ap (λ q. run_key program text a questions way ips taken d q s) (sym (moved-zero text d p)) in
        let of_key = subst (λ k. KeyStandsFor program text a keys d k (pending_loop_threads text test d 0 p s)) same
        ((runs-have-keys program text a questions way ips taken d test p s is inside of).lazy records sound) in
        (turns-give program text a keys d memory).made 1 bare (pending_loop_threads text test d 0 p s) (key d 0) tt step of_key (omega (arith, one)) (omega (arith, one)) new
        (subst (λ ts. GoesOnward d ts (one_thread (running first) ∷ thread_group waits ∷ key_record (key d 0) (pending_loop_threads text test d 0 p s) ∷ [])) (sym next) (again-onward d))

-- ---- The law

pub runs-give : UnboundedCharLoopsAreMemoSteps
runs-give = record {
  greedy = λ program text a questions way ips taken d test s memory place least most acc at none_below.
      let inside = (offset-place_at text s.pos place acc.is_text at.at).1 in
      record {
        known = greedy-known program text a questions way ips taken test s acc.is_text place inside acc d memory least most at none_below;
        ahead = greedy-ahead program text a questions way ips taken test s acc.is_text place inside acc d memory least most at none_below;
        all = greedy-all program text a questions way ips taken test s acc.is_text place inside acc d memory least most at none_below;
        none = greedy-none program text a questions way ips taken test s acc.is_text place inside acc d memory least most at none_below;
      };
  lazy = λ program text a questions way ips taken d test s memory place least most acc at.
      let inside = (offset-place_at text s.pos place acc.is_text at.at).1 in
      record {
        first = lazy-first program text a questions way ips taken test s acc.is_text place inside acc d memory least most at;
        none = lazy-none program text a questions way ips taken test s acc.is_text place inside acc d memory least most at;
      };
  lazy_again = λ program text a questions way ips taken d test s memory place acc inside records of sound one new.
      lazy-again program text a questions way ips taken test s acc.is_text place inside d memory records of sound one new;
}
