-- The laws on work cover the cost of each event, so they hold for each sequence of events.
use Rattle.std.proofs.Common.{◌≡◌, ◌≤◌, ◌<◌, ℕ, ◌+◌, Bool, true, false, List, ◌∷◌, ◌++◌, Option, Some, None, refl, sym, ap, ◌∙◌, subst, arith}
use Rattle.std.specs.Prelude.{◌==◌, ◌≢◌, slice_get}
use Rattle.regex_meaning.specs.Text.{Text, Direction, rightwards}
use Rattle.regex_meaning.specs.CodeUnitOffsets.{place_at, units}
use Rattle.regex_meaning.specs.CompilationRelation.{Program, Loop1CharBody}
use Rattle.regex_meaning.proofs.CodeUnitOffsetsLemmas.{offset-place_at}
use Rattle.regress_machine.specs.Machine.{State, Thread, running, Next, goes, scans, with_some, scan, test_of, act, act_on}
use Rattle.regress_machine.specs.InsnEffects.{IsNotStuck}
use Rattle.regress_memo.specs.CharLoopExitThreadLists.{passing}
use Rattle.regress_memo.specs.MemoSearch.{Key, Entry, one_thread, thread_group, thread_entries}
use Rattle.regress_memo.specs.declared.analysis_result.MemoAnalysis.{MemoAnalysis}
use Rattle.regress_memo.specs.WorkBound.{initial_threads}
use Rattle.regress_memo.specs.AnalysisChecks.{unlimited}
use Rattle.regress_memo.specs.MemoContents.{memo_key_at}
use Rattle.regress_memo.specs.AmortizedMemoSearchSteps.{ReachesEntries, StepsReachEntries}
use Rattle.regress_memo.proofs.AmortizedMemoSearchLemmas.{searches-are-paid}
use Rattle.regress_bounded.specs.CostsOfSearchEvents.{IsSearchEvent, Costs, ThreadsPendAbove, none_waits, some_wait, drops, turns, tries_chars, too_few, fails_from, takes_furthest, takes_nearest}
use Rattle.regress_bounded.specs.CostsOfSearchEvents.{drops_loop, resumes_loop, searches_contents, resumes, reaches, nothing_yet, then_happens}
use Rattle.regress_bounded.specs.CostsOfSearchEvents.{IsKeyNewIfAny, entries_with_record_of_state}
use Rattle.regress_bounded.specs.BoundedState.{AnalysisBoundsSearch}
use Rattle.regress_bounded.specs.WorkOfCharLoopsAndAttempts.{StateIsAtUnboundedCharLoop}
use Rattle.regress_bounded.proofs.CharLoopWorkLemmas.{limited-turned, limited-recorded, greedy-none, greedy-known, greedy-all, lazy-none, lazy-first, lazy-known, lazy-again, kept-none}

-- ---- The characters that a loop reads

-- A loop that scans has a test and stands at a place.
pub record ScansAt (program : Program) (text : Text) (s : State) : Type 0 where
  pub test : ℕ → Bool
  pub body : test_of program (slice_get program.insns (s.ip + 1)) ≡ Some test
  pub place : ℕ
  pub at : place_at text s.pos ≡ Some place

module _ (program : Program) (text : Text) (d : Direction) (s : State) (least most : ℕ) (greedy : Bool) where
  abbrev over : (ℕ → Bool) → ℕ → Next
  over test p = scan text least most greedy test d p s

  pub scans-at : slice_get program.insns s.ip ≡ Some (Loop1CharBody least most greedy) → IsNotStuck (act program text d s) → ScansAt program text s
  scans-at run can =
      by (test_of program (slice_get program.insns (s.ip + 1))) refl (place_at text s.pos) refl (subst (λ o. IsNotStuck (act_on program text d o s)) run can)
    where
      by : (o : Option (ℕ → Bool)) → test_of program (slice_get program.insns (s.ip + 1)) ≡ o → (q : Option ℕ) → place_at text s.pos ≡ q
          → IsNotStuck (with_some o (λ test. with_some q (λ p. over test p))) → ScansAt program text s
      by None e q f h = absurd h
      by (Some test) e None f h = absurd h
      by (Some test) e (Some p) f h = record { test = test; body = e; place = p; at = f }

not-unlimited : (most : ℕ) → (most == unlimited) ≡ false → most ≢ unlimited
not-unlimited most other e = let yes : (most == unlimited) ≡ true = ap (λ m. m == unlimited) e in let never : true ≡ false = sym yes ∙ other in cc

-- ---- One event

-- Each event costs at least one unit of work.
pub cost-some : {program : Program} {text : Text} {t : MemoAnalysis} {d : Direction} {memory : List Key} {cost : ℕ} {row : List Entry} {now' : List Key} {row' : List Entry}
    → IsSearchEvent program text t d memory cost row now' row' → 1 ≤ cost
cost-some (drops s k rest is known) = omega arith
cost-some (turns s ts key rest acts is new) = omega arith
cost-some (tries_chars s least most greedy n ts key rest run limited acts is new) = omega arith
cost-some (too_few s test least place greedy rest unbounded_loop at few) = omega arith
cost-some (fails_from s test least place n rest unbounded_loop at le few new known) = omega arith
cost-some (takes_furthest s test least place n rest unbounded_loop at all le new) = omega arith
cost-some (takes_nearest s test least place rest row unbounded_loop at le wait) = omega arith
cost-some (drops_loop s test least place rest unbounded_loop at known) = omega arith
cost-some (resumes_loop s test least place rest row unbounded_loop at new wait) = omega arith
cost-some (searches_contents s look n f rest is e) = omega arith
cost-some (resumes s rest) = omega arith
cost-some (reaches k ts rest) = omega arith

module _ (program : Program) (text : Text) (t : MemoAnalysis) (paid : AnalysisBoundsSearch program text t) (memory : List Key) (first : List Entry) where
  abbrev pub Come : (work : ℕ) → List Key → List Entry → Type 0
  Come work now row = ReachesEntries program text t rightwards memory first work now row

  abbrev Event : List Key → (cost : ℕ) → List Entry → List Key → List Entry → Type 0
  Event now cost row now' row' = IsSearchEvent program text t rightwards now cost row now' row'

  abbrev laws : (work : ℕ) (now : List Key) (rest : List Entry) → StepsReachEntries program text t rightwards memory first work now rest
  laws work now rest = searches-are-paid.comes_on program t paid.memo_analysis paid.bounded text paid.is_text paid.bytes paid.short rightwards memory first work now rest

  -- An entry for the waiting threads stands above the others if there are any.
  waits-above : (work : ℕ) (now : List Key) (r : State) (ts : List Thread) (rest row : List Entry) → ThreadsPendAbove ts rest row
      → Come work now (one_thread (running r) ∷ thread_group ts ∷ rest) → Come work now (one_thread (running r) ∷ row)
  waits-above work now r ts rest row (none_waits e) h =
      kept-none program t text memory first work now rest r rightwards (subst (λ ts. Come work now (one_thread (running r) ∷ thread_group ts ∷ rest)) e h)
  waits-above work now r ts rest row some_wait h = h

  turned : (work : ℕ) (now : List Key) (rest : List Entry) (s : State) (ts : List Thread) (key : Option Key) → act program text rightwards s ≡ goes ts
      → memo_key_at t s ≡ key → IsKeyNewIfAny key now → Come work now (one_thread (running s) ∷ rest) → Come (work + 1) now (thread_entries ts ++ entries_with_record_of_state s key rest)
  turned work now rest s ts None acts is new h = (laws work now rest).turned s ts acts is h
  turned work now rest s ts (Some k) acts is new h = (laws work now rest).recorded s ts k acts is new h

  module _ (work : ℕ) (now : List Key) (rest : List Entry) (s : State) (least most : ℕ) (greedy : Bool) (run : slice_get program.insns s.ip ≡ Some (Loop1CharBody least most greedy))
      (limited : (most == unlimited) ≡ false) (n : ℕ) (ts : List Thread) (acts : act program text rightwards s ≡ scans n ts) where
    its : ScansAt program text s
    its = scans-at program text rightwards s least most greedy run (subst IsNotStuck (sym acts) tt)

    tried-chars : (key : Option Key) → memo_key_at t s ≡ key → IsKeyNewIfAny key now → Come work now (one_thread (running s) ∷ rest) → Come (work + (n + 1)) now (thread_entries ts ++ entries_with_record_of_state s key rest)
    tried-chars None is new h =
        limited-turned program t paid.memo_analysis paid.bounded text paid.is_text paid.bytes paid.short rightwards memory first work now rest
        s least most greedy run its.test its.body its.place its.at (not-unlimited most limited) n ts acts is h
    tried-chars (Some k) is new h =
        limited-recorded program t paid.memo_analysis paid.bounded text paid.is_text paid.bytes paid.short rightwards memory first work now rest
        s least most greedy run its.test its.body its.place its.at (not-unlimited most limited) n ts acts k is new h

  had-too-few : (work : ℕ) (now : List Key) (rest : List Entry) (s : State) (test : ℕ → Bool) (least place : ℕ) (greedy : Bool) → StateIsAtUnboundedCharLoop program s test least greedy → place_at text s.pos ≡ Some place
      → passing text test rightwards place < least → Come work now (one_thread (running s) ∷ rest) → Come (work + (passing text test rightwards place + 2)) now rest
  had-too-few work now rest s test least place true unbounded_loop at few h =
      greedy-none program t paid.memo_analysis paid.bounded text paid.is_text paid.bytes paid.short rightwards memory first work now rest s test least place unbounded_loop at few h
  had-too-few work now rest s test least place false unbounded_loop at few h =
      lazy-none program t paid.memo_analysis paid.bounded text paid.is_text paid.bytes paid.short rightwards memory first work now rest s test least place unbounded_loop at few h

  -- The events before it and the event itself are covered.
  pub event-comes : (work cost : ℕ) (now now' : List Key) (row row' : List Entry) → Event now cost row now' row' → Come work now row → Come (work + cost) now' row'
  event-comes work cost now now' row row' (drops s k rest is known) h = (laws work now rest).known s k is known.fails h
  event-comes work cost now now' row row' (turns s ts key rest acts is new) h = turned work now rest s ts key acts is new h
  event-comes work cost now now' row row' (tries_chars s least most greedy n ts key rest run limited acts is new) h =
      tried-chars work now rest s least most greedy run limited n ts acts key is new h
  event-comes work cost now now' row row' (too_few s test least place greedy rest unbounded_loop at few) h = had-too-few work now rest s test least place greedy unbounded_loop at few h
  event-comes work cost now now' row row' (fails_from s test least place n rest unbounded_loop at le few new known) h =
      greedy-known program t paid.memo_analysis paid.bounded text paid.is_text paid.bytes paid.short rightwards memory first work now rest s test least place unbounded_loop at n le few known.fails new h
  event-comes work cost now now' row row' (takes_furthest s test least place n rest unbounded_loop at all le new) h =
      greedy-all program t paid.memo_analysis paid.bounded text paid.is_text paid.bytes paid.short rightwards memory first work now rest s test least place unbounded_loop at n all le new h
  event-comes work cost now now' row row' (takes_nearest s test least place rest above unbounded_loop at le wait) h =
      waits-above (work + (least + 2)) now _ _ rest above wait
      (lazy-first program t paid.memo_analysis paid.bounded text paid.is_text paid.bytes paid.short rightwards memory first work now rest s test least place unbounded_loop at le h)
  event-comes work cost now now' row row' (drops_loop s test least place rest unbounded_loop at known) h =
      lazy-known program t paid.memo_analysis paid.bounded text paid.is_text paid.bytes paid.short rightwards memory first work now rest s test least place unbounded_loop
      (offset-place_at text s.pos place paid.is_text at).1 known.fails h
  event-comes work cost now now' row row' (resumes_loop s test least place rest above unbounded_loop at new wait) h =
      waits-above (work + 2) now _ _ _ above wait
      (lazy-again program t paid.memo_analysis paid.bounded text paid.is_text paid.bytes paid.short rightwards memory first work now rest s test least place unbounded_loop
      (offset-place_at text s.pos place paid.is_text at).1 new h)
  event-comes work cost now now' row row' (searches_contents s look n f rest is e) h = (laws work now rest).looked s look n f is e h
  event-comes work cost now now' row row' (resumes s rest) h = (laws work now rest).taken_up s h
  event-comes work cost now now' row row' (reaches k ts rest) h = (laws work now rest).reached k ts h

-- ---- A sequence of events

-- The laws on work cover the cost of each sequence of events.
pub costs-come : (program : Program) (text : Text) (t : MemoAnalysis) → AnalysisBoundsSearch program text t → (at : ℕ) → at ≤ units text → (memory : List Key) (work : ℕ) (now : List Key) (row : List Entry)
    → Costs program text t rightwards memory (thread_entries (initial_threads program at)) work now row → ReachesEntries program text t rightwards memory (thread_entries (initial_threads program at)) work now row
costs-come program text t paid at inside memory work now row nothing_yet =
    searches-are-paid.begins program t paid.memo_analysis text paid.is_text paid.bytes paid.short at inside memory
costs-come program text t paid at inside memory work now row (then_happens before cost now0 now' row0 row' c e) =
    event-comes program text t paid memory (thread_entries (initial_threads program at)) before cost now0 now' row0 row' e (costs-come program text t paid at inside memory before now0 row0 c)
