-- The steps of an executor are memo steps, and potentials cover the threads that they leave.
use Rattle.std.proofs.Common.{flat_map, ◌≡◌, ℕ, zero, suc, ◌+◌, ◌*◌, ◌≤◌, ◌<◌, List, [], ◌∷◌, ◌++◌, map, length, Option, Some, None, Bool, true, false, not, ◌&&◌, ◌||◌, refl, ap, ◌∙◌, sym, subst}
use Rattle.std.proofs.Common.{arith, append_assoc, append-nil, sum_by, slice_get, slice_set}
use Rattle.std.specs.Prelude.{if◌then◌else◌, nat_lt, nat_le, ◌==◌}
use mathlib.Core.Logic.{inl, inr}
use Rattle.std.proofs.lemmas.Bool.{cases_lt, eqb-true, leb-true, ltb-true}
use Rattle.std.proofs.lemmas.List.Sums.{sum_by-cons, sum_by-append}
use Rattle.regex_meaning.specs.Tree.{Sameness}
use Rattle.regex_meaning.specs.NumberListHelpers.{numbers_from}
use Rattle.regex_meaning.specs.Text.{Text, Direction, rightwards, leftwards}
use Rattle.regex_meaning.specs.CodeUnitOffsets.{units, place_at}
use Rattle.regex_meaning.specs.CompilationRelation.{Program, LoopFields, Insn, Goal, JustFail, ByteSeq, StartOfLine, EndOfLine, WordBoundary, WordBoundaryUnicodeICase, Alt, Jump, EnterLoop}
use Rattle.regex_meaning.specs.CompilationRelation.{LoopAgain, ResetCaptureGroup, Loop1CharBody}
use Rattle.regex_meaning.specs.CompilationRelation.{BeginCaptureGroup, EndCaptureGroup, BackRef, Lookahead, Lookbehind}
use Rattle.regex_meaning.proofs.BoolLemmas.{and-left, and-right}
use Rattle.regress_machine.specs.Machine.{State, Thread, running, waiting, Next, goes, state_with_ip, with_some, only_if, go, go_if, first_running_and_others_waiting, choice_in_order_of_greediness}
use Rattle.regress_machine.specs.Machine.{stay_if, read_group, scan, act_on, act}
use Rattle.regress_machine.specs.Machine.{iterate_or_leave_at_loop_head, effect_at_iteration_end, loop_again_effect, test_of, range_swapped_if_leftwards, next_insn_at_place, read_one}
use Rattle.regress_machine.specs.ThreadSimulation.{Simulates, AllFindNothing}
use Rattle.regress_machine.proofs.ThreadSimulationLemmas.{simulates-same, simulates-fewer, simulates-then, simulates-before}
use Rattle.regress_memo.specs.ThreadBisimulation.{AlikeThreads}
use Rattle.regress_memo.specs.Liveness.{Liveness, Agree, outermost}
use Rattle.regress_memo.specs.MemoKeys.{NoGroupsAreLive}
use Rattle.regress_memo.specs.DistinctLists.{IsIn, IsNew, AreDistinct}
use Rattle.regress_memo.specs.MemoSearch.{Key, Keys, Entry, one_thread, thread_group, key_record, IsBare, entry_potential, threads_in, keys_in, GoesOnward, KeyStandsFor, AreKeys, AreRightKeyRecords}
use Rattle.regress_memo.specs.MemoSearch.{AreOpened, IsMemoStep}
use Rattle.regress_memo.specs.StepSoundness.{IsSoundStep, StepsAreSound}
use Rattle.regress_memo.specs.ThreadPotentials.{Potentials, potential_of, CoversOne, CoversRepeat, CoversInsn, AreCovering, is_same_direction, is_one_of, keys_of_insns_at_offsets, Shape}
use Rattle.regress_memo.specs.ThreadPotentials.{Distinguishes, KeysCoverRecordedExits, OffsetsAndCodesAreKeys}
use Rattle.regress_memo.specs.ThreadPotentials.{stands_there, has_shape, place_keys, each_noted, AreOfEach, StepsAreMemoSteps, ThreadsLeftFitInsnPotentials}
use Rattle.regress_memo.proofs.MemoKeyLemmas.{keys-agree, sound-state, unasked-count}
use Rattle.regress_memo.proofs.MemoSearchLemmas.{threads-joined, keys-bare, given, turn-left}

-- ---- Steps with records

module _ (program : Program) (text : Text) (a : Liveness) (keys : Keys) (d : Direction) (memory : List Key) where
  pub none-noted : (above : List Thread) (bare rest : List Entry) → IsBare bare → AreRightKeyRecords program text a keys d (above ++ threads_in bare) rest → AreRightKeyRecords program text a keys d above (bare ++ rest)
  none-noted above [] rest b h = subst (λ vs. AreRightKeyRecords program text a keys d vs rest) (append-nil above) h
  none-noted above (one_thread u ∷ bare) rest b h = none-noted (above ++ u ∷ []) bare rest b (subst (λ vs. AreRightKeyRecords program text a keys d vs rest) (sym (append_assoc above (u ∷ []) (threads_in bare))) h)
  none-noted above (thread_group us ∷ bare) rest b h = none-noted (above ++ us) bare rest b (subst (λ vs. AreRightKeyRecords program text a keys d vs rest) (sym (append_assoc above us (threads_in bare))) h)
  none-noted above (key_record k us ∷ bare) rest b h = absurd b

  none-opened : (ts : List Thread) (bare rest : List Entry) → IsBare bare → AreOpened program text a keys d memory ts rest → AreOpened program text a keys d memory ts (bare ++ rest)
  none-opened ts [] rest b h = h
  none-opened ts (one_thread u ∷ bare) rest b h = none-opened ts bare rest b h
  none-opened ts (thread_group us ∷ bare) rest b h = none-opened ts bare rest b h
  none-opened ts (key_record k us ∷ bare) rest b h = absurd b

  no-entries : (xs : List Entry) → xs ++ [] ≡ xs
  no-entries xs = append-nil xs

  left-passed : (n : ℕ) (bare : List Entry) (ts : List Thread) → IsBare bare → Simulates program text false d n (threads_in bare) ts → IsSoundStep program text a keys d memory ts bare
  left-passed n bare ts b s = record {
    spent = n;
    simulates = s;
    noted = subst (λ xs. AreRightKeyRecords program text a keys d [] xs) (no-entries bare) (none-noted [] bare [] b tt);
    opened = subst (λ xs. AreOpened program text a keys d memory ts xs) (no-entries bare) (none-opened ts bare [] b tt);
    distinct = subst (λ xs. AreDistinct (keys_in xs)) (no-entries bare) (subst AreDistinct (sym (keys-bare bare [] b)) tt);
  }

  left-made : (n : ℕ) (bare : List Entry) (ts : List Thread) (k : Key) → IsBare bare → Simulates program text false d n (threads_in bare) ts → KeyStandsFor program text a keys d k ts → 1 ≤ keys.taken k → keys.taken k ≤ n → IsNew k memory
      → IsSoundStep program text a keys d memory ts (bare ++ key_record k ts ∷ [])
  left-made n bare ts k b s is some few new =
      let same : threads_in (bare ++ key_record k ts ∷ []) ≡ threads_in bare = threads-joined bare (key_record k ts ∷ []) ∙ append-nil (threads_in bare) in
      record {
        spent = n;
        simulates = subst (λ vs. Simulates program text false d n vs ts) (sym same) s;
        noted = none-noted [] bare (key_record k ts ∷ []) b (record { is_of = is; simulates = simulates-fewer program text d (keys.taken k) n (threads_in bare) ts few s }, tt);
        opened =
            none-opened ts bare (key_record k ts ∷ []) b (
              record {
                new = new;
                others = [];
                spent = 0;
                comes = subst (λ vs. Simulates program text false d 0 vs ts) (sym (append-nil ts)) (simulates-itself ts);
                some = omega (arith, some);
              },
              tt,
            );
        distinct = subst AreDistinct (sym (keys-bare bare (key_record k ts ∷ []) b)) (tt, tt);
      }
    where
      simulates-itself : (ts : List Thread) → Simulates program text false d 0 ts ts
      simulates-itself ts = simulates-same program text false d ts

  with-onward : (ts : List Thread) (entries : List Entry) → IsSoundStep program text a keys d memory ts entries → GoesOnward d ts entries → IsMemoStep program text a keys d memory ts entries
  with-onward ts entries l on = record { spent = l.spent; simulates = l.simulates; noted = l.noted; opened = l.opened; distinct = l.distinct; onward = on }

  turn-passed : (n : ℕ) (bare : List Entry) (ts : List Thread) → IsBare bare → Simulates program text false d n (threads_in bare) ts → GoesOnward d ts bare → IsMemoStep program text a keys d memory ts bare
  turn-passed n bare ts b s on = with-onward ts bare (left-passed n bare ts b s) on

  turn-made : (n : ℕ) (bare : List Entry) (ts : List Thread) (k : Key) → IsBare bare → Simulates program text false d n (threads_in bare) ts → KeyStandsFor program text a keys d k ts → 1 ≤ keys.taken k → keys.taken k ≤ n → IsNew k memory
      → GoesOnward d ts (bare ++ key_record k ts ∷ []) → IsMemoStep program text a keys d memory ts (bare ++ key_record k ts ∷ [])
  turn-made n bare ts k b s is some few new on = with-onward ts (bare ++ key_record k ts ∷ []) (left-made n bare ts k b s is some few new) on

  threads-noted : (above : List Thread) (xs : List (Thread × Key)) → threads_in (each_noted above xs) ≡ map (λ x. x.0) xs
  threads-noted above [] = refl
  threads-noted above (x ∷ xs) = ap (λ ts. x.0 ∷ ts) (threads-noted (above ++ x.0 ∷ []) xs)

  keys-noted : (above : List Thread) (xs : List (Thread × Key)) → keys_in (each_noted above xs) ≡ map (λ x. x.1) xs
  keys-noted above [] = refl
  keys-noted above (x ∷ xs) = ap (λ ks. x.1 ∷ ks) (keys-noted (above ++ x.0 ∷ []) xs)

  module _ (known : List Thread) (none : AllFindNothing program text d known) where
    run-noted : (front : List Thread) (xs : List (Thread × Key)) → AreOfEach program text a keys d memory (known ++ front) xs → AreRightKeyRecords program text a keys d front (each_noted (known ++ front) xs)
    run-noted front [] h = tt
    run-noted front (x ∷ xs) h =
        let here = front ++ x.0 ∷ [] in
        let e = append_assoc known front (x.0 ∷ []) in (
          record {
            is_of = h.0.0;
            simulates =
                subst (λ m. Simulates program text false d m here ((known ++ front) ++ x.0 ∷ [])) (sym h.0.1)
                (subst (λ vs. Simulates program text false d 0 here vs) (sym e) (simulates-before program text false d 0 [] known here none));
          },
          subst (λ vs. AreRightKeyRecords program text a keys d here (each_noted vs xs)) (sym e) (run-noted here xs (subst (λ vs. AreOfEach program text a keys d memory vs xs) e h.1)),
        )

  run-opened : (n : ℕ) (ts : List Thread) → 1 ≤ n → (above : List Thread) (xs : List (Thread × Key)) → Simulates program text false d n (above ++ map (λ x. x.0) xs) ts
      → AreOfEach program text a keys d memory above xs → AreOpened program text a keys d memory ts (each_noted above xs)
  run-opened n ts some above [] s h = tt
  run-opened n ts some above (x ∷ xs) s h =
      let e = append_assoc above (x.0 ∷ []) (map (λ (x : Thread × Key). x.0) xs) in
      let s' = subst (λ vs. Simulates program text false d n vs ts) (sym e) s in (
        record { new = h.0.2; others = map (λ (x : Thread × Key). x.0) xs; spent = n; comes = s'; some = omega (arith, some) },
        run-opened n ts some (above ++ x.0 ∷ []) xs s' h.1,
      )

  turn-run : (n : ℕ) (ts known : List Thread) (xs : List (Thread × Key)) → Simulates program text false d n (known ++ map (λ x. x.0) xs) ts → 1 ≤ n → AllFindNothing program text d known
      → AreOfEach program text a keys d memory known xs → AreDistinct (map (λ x. x.1) xs) → GoesOnward d ts (each_noted known xs) → IsMemoStep program text a keys d memory ts (each_noted known xs)
  turn-run n ts known xs s some none are distinct on =
      let all = map (λ (x : Thread × Key). x.0) xs in
      let dropped = simulates-before program text false d 0 [] known all none in
      let both = simulates-then program text false d n 0 ts (known ++ all) all s dropped in
      let here = append-nil known in
      record {
        spent = n + 0;
        simulates = subst (λ vs. Simulates program text false d (n + 0) vs ts) (sym (threads-noted known xs)) both;
        noted = subst (λ vs. AreRightKeyRecords program text a keys d [] (each_noted vs xs)) here (run-noted known none [] xs (subst (λ vs. AreOfEach program text a keys d memory vs xs) (sym here) are));
        opened = run-opened n ts some known xs s are;
        distinct = subst AreDistinct (sym (keys-noted known xs)) distinct;
        onward = on;
      }

  -- ---- A char loop that is known to find an end from some position on

  each-noted : (above : List Thread) (xs : List (Thread × Key)) → AreOfEach program text a keys d memory above xs → AreRightKeyRecords program text a keys d above (each_noted above xs)
  each-noted above [] h = tt
  each-noted above (x ∷ xs) h =
      let here = above ++ x.0 ∷ [] in (
        record { is_of = h.0.0; simulates = subst (λ m. Simulates program text false d m here here) (sym h.0.1) (simulates-same program text false d here) },
        each-noted here xs h.1,
      )

  -- Like `turn-run`, but the threads of the later positions come first, as one group.
  pub turn-ahead : (n : ℕ) (ts ahead : List Thread) (xs : List (Thread × Key)) → Simulates program text false d n (ahead ++ map (λ x. x.0) xs) ts → 1 ≤ n
      → AreOfEach program text a keys d memory ahead xs → AreDistinct (map (λ x. x.1) xs) → GoesOnward d ts (thread_group ahead ∷ each_noted ahead xs)
      → IsMemoStep program text a keys d memory ts (thread_group ahead ∷ each_noted ahead xs)
  turn-ahead n ts ahead xs s some are distinct on = record {
    spent = n;
    simulates = subst (λ vs. Simulates program text false d n (ahead ++ vs) ts) (sym (threads-noted ahead xs)) s;
    noted = each-noted ahead xs are;
    opened = run-opened n ts some ahead xs s are;
    distinct = subst AreDistinct (sym (keys-noted ahead xs)) distinct;
    onward = on;
  }

pub turns-give : StepsAreMemoSteps
turns-give program text a keys d memory = record {
  passed = turn-passed program text a keys d memory;
  made = turn-made program text a keys d memory;
  run = turn-run program text a keys d memory;
}

pub turns-leave : StepsAreSound
turns-leave program text a keys acc are d memory = record {
  given = given program text a keys d memory;
  passed = left-passed program text a keys d memory;
  made = left-made program text a keys d memory;
  turned = turn-left program text a keys d acc are memory;
  regrouped = λ front bare rest f b c same h.
      turn-left program text a keys d acc are memory front bare rest f b
      (left-passed program text a keys d memory 0 bare (threads_in front) c
      (subst (λ ts. Simulates program text false d 0 ts (threads_in front)) (sym same) (simulates-same program text false d (threads_in front)))) h;
}

-- ---- Potentials of threads

module _ (w : Potentials) (most : ℕ) where
  abbrev NextFew : Next → Type 0
  NextFew (goes ts) = sum_by (potential_of w) ts ≤ most
  NextFew _ = Unit {0}

  one : (t : Thread) → potential_of w t ≤ most → sum_by (potential_of w) (t ∷ []) ≤ most
  one t h = let x = sum_by-cons (potential_of w) t [] in omega (arith, x, h)

  few-with_some : {X : Type 0} (o : Option X) (f : X → Next) → ((x : X) → NextFew (f x)) → NextFew (with_some o f)
  few-with_some None f h = tt
  few-with_some (Some x) f h = h x

  few-only_if : (b : Bool) (x : Next) → NextFew x → NextFew (only_if b x)
  few-only_if true x h = h
  few-only_if false x h = tt

  few-go : (s : State) → w.at s.ip ≤ most → NextFew (go s)
  few-go s h = one (running s) h

  few-go_if : (b : Bool) (s : State) → w.at s.ip ≤ most → NextFew (go_if b s)
  few-go_if true s h = few-go s h
  few-go_if false s h = omega arith

  few-dropped : (b : Bool) (x : Next) → NextFew x → NextFew (if b then goes [] else x)
  few-dropped true x h = omega arith
  few-dropped false x h = h

  few-two : (x y : State) → w.at x.ip + w.at y.ip + 1 ≤ most → sum_by (potential_of w) (running x ∷ waiting y ∷ []) ≤ most
  few-two x y h = let p = sum_by-cons (potential_of w) (running x) (waiting y ∷ []) in let q = sum_by-cons (potential_of w) (waiting y) [] in omega (arith, p, q, h)

  few-choice_in_order_of_greediness : (again leave : State) → w.at again.ip + w.at leave.ip + 1 ≤ most → (greedy b c : Bool)
      → sum_by (potential_of w) (first_running_and_others_waiting (choice_in_order_of_greediness greedy (if b then again ∷ [] else []) (if c then leave ∷ [] else []))) ≤ most
  few-choice_in_order_of_greediness again leave h true true true = few-two again leave h
  few-choice_in_order_of_greediness again leave h false true true = few-two leave again (omega (arith, h))
  few-choice_in_order_of_greediness again leave h true true false = one (running again) (omega (arith, h))
  few-choice_in_order_of_greediness again leave h false true false = one (running again) (omega (arith, h))
  few-choice_in_order_of_greediness again leave h true false true = one (running leave) (omega (arith, h))
  few-choice_in_order_of_greediness again leave h false false true = one (running leave) (omega (arith, h))
  few-choice_in_order_of_greediness again leave h true false false = omega arith
  few-choice_in_order_of_greediness again leave h false false false = omega arith

  few-loop_turn : (f : LoopFields) (begin k : ℕ) (s : State) → w.at (begin + 1) + w.at f.exit + 1 ≤ most → NextFew (iterate_or_leave_at_loop_head f begin k s)
  few-loop_turn f begin k s h =
      few-only_if (nat_lt f.loop_id (length s.loops)) _
      (few-choice_in_order_of_greediness (record s { ip = begin + 1; loops = slice_set s.loops f.loop_id (record { iters = k; entry = s.pos }) }) (state_with_ip f.exit s) h f.greedy (nat_lt k f.max_iters) (nat_le f.min_iters k))

  few-again_at : (o : Option Insn) (ip begin : ℕ) (s : State) → w.left ip ≡ most → CoversRepeat w o ip begin → NextFew (loop_again_effect o begin s)
  few-again_at (Some (EnterLoop f)) ip begin s e h =
      few-with_some (slice_get s.loops f.loop_id) (λ d. effect_at_iteration_end f begin d s) (λ d.
      few-only_if (nat_lt d.iters f.max_iters) (if d.entry == s.pos && nat_lt f.min_iters (d.iters + 1) then goes [] else iterate_or_leave_at_loop_head f begin (d.iters + 1) s)
      (few-dropped (d.entry == s.pos && nat_lt f.min_iters (d.iters + 1)) (iterate_or_leave_at_loop_head f begin (d.iters + 1) s) (few-loop_turn f begin (d.iters + 1) s (omega (arith, h, e)))))
  few-again_at _ ip begin s e h = tt

module _ (program : Program) (text : Text) (w : Potentials) (d : Direction) (s : State) where
  abbrev Few : Next → Type 0
  Few x = NextFew w (w.left s.ip) x

  read-few : (o : Option (ℕ → Bool)) → CoversOne w s.ip (s.ip + 1) → Few (with_some o (λ test. read_one text test d s))
  read-few o h = few-with_some w (w.left s.ip) o _ (λ test. few-with_some w (w.left s.ip) (place_at text s.pos) _ (λ p. few-go_if w (w.left s.ip) _ _ h))

  stay-few : (holds : ℕ → Bool) → CoversOne w s.ip (s.ip + 1) → Few (stay_if text holds s)
  stay-few holds h = few-with_some w (w.left s.ip) (place_at text s.pos) _ (λ p. few-go_if w (w.left s.ip) _ _ h)

  group-few : (sameness : Sameness) (o : Option (ℕ × ℕ)) → CoversOne w s.ip (s.ip + 1) → Few (read_group text sameness d o s)
  group-few sameness None h = few-with_some w (w.left s.ip) (place_at text s.pos) _ (λ p. few-go w (w.left s.ip) (next_insn_at_place text p s) h)
  group-few sameness (Some range) h =
      few-with_some w (w.left s.ip) (place_at text s.pos) _ (λ p. few-with_some w (w.left s.ip) (place_at text range.0) _ (λ from.
      few-with_some w (w.left s.ip) (place_at text range.1) _ (λ to. few-go_if w (w.left s.ip) _ _ h)))

  scan-few : (o : Option (ℕ → Bool)) (least most : ℕ) (greedy : Bool) → Few (with_some o (λ test. with_some (place_at text s.pos) (λ p. scan text least most greedy test d p s)))
  scan-few o least most greedy = few-with_some w (w.left s.ip) o _ (λ test. few-with_some w (w.left s.ip) (place_at text s.pos) _ (λ p. tt))

  act-few : (o : Option Insn) → CoversInsn w program o s.ip → Few (act_on program text d o s)
  act-few None h = tt
  act-few (Some Goal) h = tt
  act-few (Some JustFail) h = omega arith
  act-few (Some (ByteSeq bytes)) h = few-go_if w (w.left s.ip) _ _ h
  act-few (Some (StartOfLine multiline)) h = stay-few _ h
  act-few (Some (EndOfLine multiline)) h = stay-few _ h
  act-few (Some (WordBoundary invert)) h = stay-few _ h
  act-few (Some (WordBoundaryUnicodeICase invert)) h = stay-few _ h
  act-few (Some (Alt secondary)) h =
      let p = sum_by-cons (potential_of w) (running (state_with_ip (s.ip + 1) s)) (waiting (state_with_ip secondary s) ∷ []) in
      let q = sum_by-cons (potential_of w) (waiting (state_with_ip secondary s)) [] in
      omega (arith, p, q, h)
  act-few (Some (Jump target)) h = few-go w (w.left s.ip) (state_with_ip target s) h
  act-few (Some (EnterLoop f)) h = few-loop_turn w (w.left s.ip) f s.ip 0 s h
  act-few (Some (LoopAgain begin)) h = few-again_at w (w.left s.ip) (slice_get program.insns begin) s.ip begin s refl h
  act-few (Some (ResetCaptureGroup id)) h =
      few-only_if w (w.left s.ip) (nat_lt id (length s.groups)) (go (record s { ip = s.ip + 1; groups = slice_set s.groups id None }))
      (few-go w (w.left s.ip) (record s { ip = s.ip + 1; groups = slice_set s.groups id None }) h)
  act-few (Some (Loop1CharBody least most greedy)) h = scan-few (test_of program (slice_get program.insns (s.ip + 1))) least most greedy
  act-few (Some (BeginCaptureGroup id)) h =
      few-only_if w (w.left s.ip) (nat_lt id (length s.groups) && nat_lt id (length s.starts))
      (go (record s { ip = s.ip + 1; groups = slice_set s.groups id None; starts = slice_set s.starts id s.pos }))
      (few-go w (w.left s.ip) (record s { ip = s.ip + 1; groups = slice_set s.groups id None; starts = slice_set s.starts id s.pos }) h)
  act-few (Some (EndCaptureGroup id)) h = few-only_if w (w.left s.ip) _ _ (few-with_some w (w.left s.ip) (slice_get s.starts id) _ (λ start. few-go w (w.left s.ip) (record s { ip = s.ip + 1; groups = slice_set s.groups id (Some (range_swapped_if_leftwards d start s.pos)) }) h))
  act-few (Some (BackRef group sameness)) h = few-with_some w (w.left s.ip) (slice_get s.groups group) _ (λ range. group-few sameness range h)
  act-few (Some (Lookahead negate start_group end_group continuation)) h = tt
  act-few (Some (Lookbehind negate start_group end_group continuation)) h = tt
  act-few o h = read-few (test_of program o) h

  act-weighed : AreCovering w program → (ts : List Thread) → act program text d s ≡ goes ts → sum_by (potential_of w) ts ≤ w.left s.ip
  act-weighed are ts e = subst Few e (act-few (slice_get program.insns s.ip) (are.enough s.ip))

-- These potentials cover the instructions of every program.
ones : Potentials
ones = record { at = λ ip. 1; left = λ ip. 3 }

ones-enough : (program : Program) (o : Option Insn) (ip : ℕ) → CoversInsn (record { at = λ ip. 1; left = λ ip. 3 }) program o ip
ones-enough program None ip = tt
ones-enough program (Some Goal) ip = tt
ones-enough program (Some JustFail) ip = tt
ones-enough program (Some (LoopAgain begin)) ip = repeated (slice_get program.insns begin)
  where
    repeated : (o : Option Insn) → CoversRepeat (record { at = λ ip. 1; left = λ ip. 3 }) o ip begin
    repeated (Some (EnterLoop f)) = omega arith
    repeated _ = tt
ones-enough program (Some (Loop1CharBody least most greedy)) ip = tt
ones-enough program _ ip = omega arith

pub turns-weighed : ThreadsLeftFitInsnPotentials
turns-weighed = record {
  weighed = λ program text w are d s ts e. act-weighed program text w d s are ts e;
  each = λ program. record { enough = λ ip. ones-enough program (slice_get program.insns ip) ip };
}

-- ---- Keys of places

in-joined-left : (k : Key) (xs ys : List Key) → IsIn k xs → IsIn k (xs ++ ys)
in-joined-left k [] ys h = absurd h
in-joined-left k (x ∷ xs) ys (inl e) = inl e
in-joined-left k (x ∷ xs) ys (inr h) = inr (in-joined-left k xs ys h)

in-joined-right : (k : Key) (xs ys : List Key) → IsIn k ys → IsIn k (xs ++ ys)
in-joined-right k [] ys h = h
in-joined-right k (x ∷ xs) ys h = inr (in-joined-right k xs ys h)

abbrev place : (ip code at : ℕ) → Key
place ip code at = record { ip = ip; at = at; code = code }

abbrev row-of : (ip code first count : ℕ) → List Key
row-of ip code first count = map (λ at. record { ip = ip; at = at; code = code }) (numbers_from first count)

abbrev rows-of : (ip top first count : ℕ) → List Key
rows-of ip top first count = flat_map (λ code. map (λ at. record { ip = ip; at = at; code = code }) (numbers_from 0 (top + 1))) (numbers_from first count)

in-row : (ip code at first count : ℕ) → first ≤ at → at < first + count → IsIn (place ip code at) (row-of ip code first count)
in-row ip code at first zero le less = absurd (omega (arith, le, less))
in-row ip code at first (suc count) le less = elim (cases_lt first at) [
  | inl past ↦ inr (in-row ip code at (first + 1) count (omega (arith, past)) (omega (arith, less)))
  | inr ge ↦ let same : first ≡ at = omega (arith, le, ge) in inl (ap (λ at. place ip code at) same)
]

in-rows : (ip top code at first count : ℕ) → at ≤ top → first ≤ code → code < first + count → IsIn (place ip code at) (rows-of ip top first count)
in-rows ip top code at first zero inside le less = absurd (omega (arith, le, less))
in-rows ip top code at first (suc count) inside le less = elim (cases_lt first code) [
  | inl past ↦
      in-joined-right (place ip code at) (row-of ip first 0 (top + 1)) (rows-of ip top (first + 1) count) (in-rows ip top code at (first + 1) count inside (omega (arith, past)) (omega (arith, less)))
  | inr ge ↦
      let same : code ≡ first = omega (arith, le, ge) in
      in-joined-left (place ip code at) (row-of ip first 0 (top + 1)) (rows-of ip top (first + 1) count)
      (subst (λ c. IsIn (place ip code at) (row-of ip c 0 (top + 1))) same (in-row ip code at 0 (top + 1) (omega arith) (omega (arith, inside))))
]

pub in-places : (top : ℕ) (codes : ℕ → ℕ) (ip code at : ℕ) → at ≤ top → code < codes ip → (ips : List ℕ) → is_one_of ips ip ≡ true → IsIn (place ip code at) (keys_of_insns_at_offsets ips top codes)
in-places top codes ip code at le less [] h = cc
in-places top codes ip code at le less (i ∷ ips) h = by (i == ip) refl (λ there. in-places top codes ip code at le less ips there)
  where
    by : (b : Bool) → (i == ip) ≡ b → (is_one_of ips ip ≡ true → IsIn (place ip code at) (keys_of_insns_at_offsets ips top codes)) → IsIn (place ip code at) (keys_of_insns_at_offsets (i ∷ ips) top codes)
    by true e later =
        in-joined-left (place ip code at) (rows-of i top 0 (codes i)) (keys_of_insns_at_offsets ips top codes)
        (subst (λ j. IsIn (place ip code at) (rows-of j top 0 (codes j))) (sym (eqb-true i ip e)) (in-rows ip top code at 0 (codes ip) le (omega arith) (omega (arith, less))))
    by false e later = in-joined-right (place ip code at) (rows-of i top 0 (codes i)) (keys_of_insns_at_offsets ips top codes) (later (ap (λ b. b || is_one_of ips ip) (sym e) ∙ h))

row-sum : (key_cost : ℕ → ℕ) (ip code first count : ℕ) → sum_by (λ (k : Key). key_cost k.ip) (row-of ip code first count) ≡ key_cost ip * count
row-sum key_cost ip code first zero = omega arith
row-sum key_cost ip code first (suc count) =
    let x = sum_by-cons (λ (k : Key). key_cost k.ip) (place ip code first) (row-of ip code (first + 1) count) in
    let y = row-sum key_cost ip code (first + 1) count in
    omega (arith, x, y)

rows-sum : (key_cost : ℕ → ℕ) (ip top first count : ℕ) → sum_by (λ (k : Key). key_cost k.ip) (rows-of ip top first count) ≡ key_cost ip * (count * (top + 1))
rows-sum key_cost ip top first zero = omega arith
rows-sum key_cost ip top first (suc count) =
    let x = sum_by-append (λ (k : Key). key_cost k.ip) (row-of ip first 0 (top + 1)) (rows-of ip top (first + 1) count) in
    let y = row-sum key_cost ip first 0 (top + 1) in
    let z = rows-sum key_cost ip top (first + 1) count in
    omega (arith, x, y, z)

places-cost : (top : ℕ) (codes key_cost : ℕ → ℕ) (ips : List ℕ)
    → sum_by (λ (k : Key). key_cost k.ip) (keys_of_insns_at_offsets ips top codes) ≡ sum_by (λ ip. key_cost ip * codes ip) ips * (top + 1)
places-cost top codes key_cost [] = omega arith
places-cost top codes key_cost (ip ∷ ips) =
    let x = sum_by-append (λ (k : Key). key_cost k.ip) (rows-of ip top 0 (codes ip)) (keys_of_insns_at_offsets ips top codes) in
    let y = rows-sum key_cost ip top 0 (codes ip) in
    let z = places-cost top codes key_cost ips in
    let c = ap (λ n. n * (top + 1)) (sum_by-cons (λ ip. key_cost ip * codes ip) ip ips) in
    omega (arith, x, y, z, c)

module _ (program : Program) (text : Text) (a : Liveness) (no_groups : NoGroupsAreLive a) (code_of : State → ℕ) (tells : Distinguishes a (units text) code_of) where
  -- A state has the instruction, offset and code of a shape, and the slots of the program.
  record StandsThere (x : Shape) (s : State) : Type 0 where
    ip : s.ip ≡ x.ip
    pos : s.pos ≡ x.pos
    code : code_of s ≡ x.code
    groups : length s.groups ≡ program.groups
    starts : length s.starts ≡ program.groups
    loops : length s.loops ≡ program.loops

  stands-there : (x : Shape) (s : State) → stands_there program code_of x s ≡ true → StandsThere x s
  stands-there x s h =
      let h1 = and-right _ _ h in
      let h2 = and-right _ _ h1 in
      let h3 = and-right _ _ h2 in
      let h4 = and-right _ _ h3 in
      record {
        ip = eqb-true s.ip x.ip (and-left _ _ h);
        pos = eqb-true s.pos x.pos (and-left _ _ h1);
        code = eqb-true (code_of s) x.code (and-left _ _ h2);
        groups = eqb-true (length s.groups) program.groups (and-left _ _ h3);
        starts = eqb-true (length s.starts) program.groups (and-left _ _ h4);
        loops = eqb-true (length s.loops) program.loops (and-right _ _ h4);
      }

  module _ (d : Direction) where
    abbrev Agreeing : State → State → Type 0
    Agreeing s t = Agree a (units text) outermost d s t

    places-agree : (x : Shape) (s t : State) → StandsThere x s → StandsThere x t → Agreeing s s → Agreeing t t → Agreeing s t
    places-agree x s t p q g h =
        let x' = sound-state a (units text) d s g in
        let y' = sound-state a (units text) d t h in
        keys-agree a (units text) d s t no_groups x' y'
        (tells.tells d s t x' y'
        (record {
          ip = p.ip ∙ sym q.ip;
          pos = p.pos ∙ sym q.pos;
          groups = p.groups ∙ sym q.groups;
          starts = p.starts ∙ sym q.starts;
          loops = p.loops ∙ sym q.loops;
        })
        (p.code ∙ sym q.code))

    rows-agree : (xs : List Shape) (ts us : List Thread) → has_shape program code_of xs ts ≡ true → has_shape program code_of xs us ≡ true → AlikeThreads Agreeing ts ts → AlikeThreads Agreeing us us → AlikeThreads Agreeing ts us
    rows-agree [] [] [] h k p q = tt
    rows-agree [] (t ∷ ts) us h k p q = cc
    rows-agree [] [] (u ∷ us) h k p q = cc
    rows-agree (x ∷ xs) [] us h k p q = cc
    rows-agree (x ∷ xs) (running s ∷ ts) [] h k p q = cc
    rows-agree (x ∷ xs) (waiting s ∷ ts) [] h k p q = cc
    rows-agree (x ∷ xs) (running s ∷ ts) (running t ∷ us) h k p q =
        let h1 = and-right _ _ h in
        let k1 = and-right _ _ k in
        (places-agree x s t (stands-there x s (and-left _ _ h1)) (stands-there x t (and-left _ _ k1)) p.0 q.0, rows-agree xs ts us (and-right _ _ h1) (and-right _ _ k1) p.1 q.1)
    rows-agree (x ∷ xs) (waiting s ∷ ts) (waiting t ∷ us) h k p q =
        let h1 = and-right _ _ h in
        let k1 = and-right _ _ k in
        (places-agree x s t (stands-there x s (and-left _ _ h1)) (stands-there x t (and-left _ _ k1)) p.0 q.0, rows-agree xs ts us (and-right _ _ h1) (and-right _ _ k1) p.1 q.1)
    rows-agree (x ∷ xs) (running s ∷ ts) (waiting t ∷ us) h k p q = absurd (apart x.runs (and-left _ _ h) (and-left _ _ k))
      where
        apart : (b : Bool) → b ≡ true → not b ≡ true → ⊥
        apart true e f = cc
        apart false e f = cc
    rows-agree (x ∷ xs) (waiting s ∷ ts) (running t ∷ us) h k p q = absurd (apart x.runs (and-left _ _ k) (and-left _ _ h))
      where
        apart : (b : Bool) → b ≡ true → not b ≡ true → ⊥
        apart true e f = cc
        apart false e f = cc

  module _ (way : ℕ → Direction) (ips : List ℕ) (codes : ℕ → ℕ) (rows : Key → List Shape) (taken : Key → ℕ) where
    abbrev Is : Direction → Key → List Thread → Type 0
    Is d k ts = KeyStandsFor program text a (place_keys program code_of way ips (units text) codes rows taken) d k ts

    record PlaceOf (d : Direction) (k : Key) (ts : List Thread) : Type 0 where
      code : k.code < codes k.ip
      within : k.at ≤ units text
      there : is_one_of ips k.ip ≡ true
      same_way : is_same_direction (way k.ip) d ≡ true
      shape : has_shape program code_of (rows k) ts ≡ true

    place-of : (d : Direction) (k : Key) (ts : List Thread) → Is d k ts → PlaceOf d k ts
    place-of d k ts p =
        let h = p.is_of in
        let h1 = and-right _ _ h in
        let h2 = and-right _ _ h1 in
        let h3 = and-right _ _ h2 in
        record {
          code = ltb-true k.code (codes k.ip) (and-left _ _ h);
          within = leb-true k.at (units text) (and-left _ _ h1);
          there = and-left _ _ h2;
          same_way = and-left _ _ h3;
          shape = and-right _ _ h3;
        }

    keys-one-way : (d e : Direction) (k : Key) (ts us : List Thread) → Is d k ts → Is e k us → d ≡ e
    keys-one-way d e k ts us p q = by (way k.ip) d e (place-of d k ts p).same_way (place-of e k us q).same_way
      where
        by : (w d e : Direction) → is_same_direction w d ≡ true → is_same_direction w e ≡ true → d ≡ e
        by rightwards rightwards rightwards h k = refl
        by leftwards leftwards leftwards h k = refl
        by rightwards leftwards e h k = cc
        by leftwards rightwards e h k = cc
        by rightwards rightwards leftwards h k = cc
        by leftwards leftwards rightwards h k = cc

    keys-inside : (d : Direction) (k : Key) (ts : List Thread) → Is d k ts → IsIn k (keys_of_insns_at_offsets ips (units text) codes)
    keys-inside d k ts p = let x = place-of d k ts p in in-places (units text) codes k.ip k.code k.at x.within x.code ips x.there

    places-are : AreKeys program text a (place_keys program code_of way ips (units text) codes rows taken)
    places-are = record {
      alike = λ d k ts us p q. rows-agree d (rows k) ts us (place-of d k ts p).shape (place-of d k us q).shape p.sound q.sound;
      one_way = keys-one-way;
      inside = keys-inside;
    }

pub places-keys : OffsetsAndCodesAreKeys
places-keys = record {
  are = λ program text a way ips code codes rows taken acc no_groups tells. places-are program text a no_groups code tells way ips codes rows taken;
  cost = λ ips top codes key_cost. places-cost top codes key_cost ips;
  alone = λ a top alone. record {
    tells = λ d s t p q place same. record {
      place = place;
      empty = λ l x y h e f g. let off = alone.empty s.ip l in cc;
      count = λ l x y h e f. unasked-count x.iters y.iters (a.up_to l) (alone.up_to l);
    };
  };
}

-- ---- Steps of char loops

pub runs-pay : KeysCoverRecordedExits
runs-pay key_cost weight known [] first ready more le few each = omega (arith, le, few)
runs-pay key_cost weight known (x ∷ xs) first ready more le few each =
    let above = known ++ x.0 ∷ [] in
    let p = sum_by-cons (entry_potential weight) (one_thread x.0) (key_record x.1 above ∷ each_noted above xs) in
    let q = sum_by-cons (entry_potential weight) (key_record x.1 above) (each_noted above xs) in
    let r = sum_by-cons key_cost x.1 (keys_in (each_noted above xs)) in
    let l = runs-pay key_cost weight above xs first ready (first + length xs) le (omega arith) each.1 in
    let one = each.0 in
    omega (arith, p, q, r, l, one, few)
