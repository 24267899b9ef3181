-- A search with a memo table, step by step. Each thread at a recording instruction has a key, and
-- the work is covered by potentials and costs.
use Rattle.std.specs.Prelude.{◌≡◌, ◌≤◌, ◌<◌, ◌^◌, ℕ, ◌+◌, List, ◌∷◌, ◌++◌, [], Some, None, slice_get}
use Rattle.regex_meaning.specs.Laws.{Each}
use Rattle.regex_meaning.specs.Text.{Text, Direction, rightwards}
use Rattle.regex_meaning.specs.CodeUnitOffsets.{HasRisingPlaceOffsets, units}
use Rattle.regex_meaning.specs.CompilationRelation.{Program}
use Rattle.regress_machine.specs.Machine.{State, Thread, running, waiting, goes, Found, after_lookaround, state_with_ip, state_at_next_ip, act, search}
use Rattle.regress_memo.specs.Liveness.{Agree, outermost, ReadsAsBytes}
use Rattle.regress_memo.specs.SkippedLookarounds.{LookaroundInsn, lookaround_at}
use Rattle.regress_memo.specs.LoopDataKeyCodes.{HasSlotsOfProgram}
use Rattle.regress_memo.specs.DistinctLists.{IsNew}
use Rattle.regress_memo.specs.PreservedSlotCounts.{state_of_thread}
use Rattle.regress_memo.specs.AmortizedStepCosts.{potential_by}
use Rattle.regress_memo.specs.MemoSearch.{Key, Entry, one_thread, key_record, thread_entries, threads_in, ReachesBySteps}
use Rattle.regress_memo.specs.declared.analysis_result.MemoAnalysis.{MemoAnalysis}
use Rattle.regress_memo.specs.UnreachedCharLoopBodies.{IsNotLoopBody}
use Rattle.regress_memo.specs.WorkBound.{IsWorkBounded, initial_threads}
use Rattle.regress_memo.specs.AnalysisAsPotentials.{analysis_as_liveness, recorded, potentials_of, key_cost_of, insn_direction}
use Rattle.regress_memo.specs.CheckedAnalysis.{IsAnalysisOf}
use Rattle.regress_memo.specs.Laws.{analysis_keys, KeyFails}
use Rattle.regress_memo.specs.MemoContents.{memo_key_at}

module _ (program : Program) (text : Text) (t : MemoAnalysis) (d : Direction) where
  -- A sound state of the program at an instruction that is searched in direction `d` and is not the
  -- body of a char loop.
  pub record IsKeyed (s : State) : Type 0 where
    pub of : HasSlotsOfProgram program s
    pub sound : Agree (analysis_as_liveness t) (units text) outermost d s s
    pub way : insn_direction t s.ip ≡ d
    pub no_body : IsNotLoopBody program s.ip

  -- All threads have such states, so each thread at a recording instruction has a key.
  abbrev pub AreKeyed : List Thread → Type 0
  AreKeyed ts = Each (λ u. IsKeyed (state_of_thread u)) ts

  -- A search that began with the entries `first` and the memo table `memory` reaches the entries
  -- `row` and the memo table `now` in `work` units of work. Each unit is covered by the initial
  -- potential or by the cost of a key whose record was made.
  pub record ReachesEntries (memory : List Key) (first : List Entry) (work : ℕ) (now : List Key)
      (row : List Entry) : Type 0 where
    pub comes : ReachesBySteps program text (analysis_as_liveness t) (analysis_keys program text t) d
        (λ k. key_cost_of t k.ip)
        (potential_by program (potentials_of t) (key_cost_of t) (recorded t)) memory first work now row
    pub keyed : AreKeyed (threads_in row)

  module _ (memory : List Key) (first : List Entry) (work : ℕ) (now : List Key) (rest : List Entry) where
    -- The steps of a search. Each one does one more unit of work, except for lookarounds.
    pub record StepsReachEntries : Type 0 where
      -- A thread executes a step without a record, because it has no key.
      pub turned : (s : State) (ts : List Thread) → act program text d s ≡ goes ts → memo_key_at t s ≡ None
          → ReachesEntries memory first work now (one_thread (running s) ∷ rest)
          → ReachesEntries memory first (work + 1) now (thread_entries ts ++ rest)
      -- A thread with a new key executes a step and leaves a record of it.
      pub recorded : (s : State) (ts : List Thread) (k : Key) → act program text d s ≡ goes ts
          → memo_key_at t s ≡ Some k
          → IsNew k now → ReachesEntries memory first work now (one_thread (running s) ∷ rest)
          → ReachesEntries memory first (work + 1) now (thread_entries ts ++ key_record k (running s ∷ []) ∷ rest)
      -- A thread is dropped because its key is known to fail.
      pub known : (s : State) (k : Key) → memo_key_at t s ≡ Some k → KeyFails program text t k
          → ReachesEntries memory first work now (one_thread (running s) ∷ rest)
          → ReachesEntries memory first (work + 1) now rest
      -- A thread executes a lookaround. The search of its contents does one unit of work in each
      -- step.
      pub looked : (s : State) (l : LookaroundInsn) (turns : ℕ) (f : Found)
          → lookaround_at (slice_get program.insns s.ip) ≡ Some l
          → search program text turns l.inner (running (state_at_next_ip s) ∷ []) ≡ Some f
          → ReachesEntries memory first work now (one_thread (running s) ∷ rest)
          → ReachesEntries memory first (work + (f.steps + 1)) now
          (thread_entries (after_lookaround l.negate (state_with_ip l.continuation s) f.end) ++ rest)
      -- A waiting thread is resumed.
      pub taken_up : (s : State) → ReachesEntries memory first work now (one_thread (waiting s) ∷ rest)
          → ReachesEntries memory first (work + 1) now (one_thread (running s) ∷ rest)
      -- A record is reached, so its key becomes known.
      pub reached : (k : Key) (ts : List Thread) → ReachesEntries memory first work now (key_record k ts ∷ rest)
          → ReachesEntries memory first (work + 1) (k ∷ now) rest

-- ---- Laws

-- Each attempt begins with the initial thread, and all of its work is covered.
pub record WorkIsCoveredByKeyCosts : Type 0 where
  pub begins : (program : Program) (t : MemoAnalysis) → IsAnalysisOf program t
      → (text : Text) → HasRisingPlaceOffsets text → ReadsAsBytes program text → units text < 2 ^ 63
      → (at : ℕ) → at ≤ units text → (memory : List Key)
      → ReachesEntries program text t rightwards memory (thread_entries (initial_threads program at)) 0 memory
      (thread_entries (initial_threads program at))
  pub comes_on : (program : Program) (t : MemoAnalysis) → IsAnalysisOf program t → IsWorkBounded t program
      → (text : Text) → HasRisingPlaceOffsets text → ReadsAsBytes program text → units text < 2 ^ 63
      → (d : Direction) (memory : List Key) (first : List Entry) (work : ℕ) (now : List Key) (rest : List Entry)
      → StepsReachEntries program text t d memory first work now rest
