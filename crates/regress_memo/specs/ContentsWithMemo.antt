-- The contents of a lookaround are searched with the memo table of the search around them. What
-- this search learns pays for its work, and no record is discarded: if an end is found, the keys of
-- pending records succeed.
use Rattle.std.specs.Prelude.{◌≡◌, ◌≤◌, ◌<◌, ◌^◌, ℕ, ◌+◌, Bool, false, List, [], ◌∷◌, ◌++◌, Some, None, IsSome, slice_get}
use Rattle.std.specs.List.{sum_by}
use Rattle.regex_meaning.specs.Laws.{Each}
use Rattle.regex_meaning.specs.Text.{Text, Direction}
use Rattle.regex_meaning.specs.CodeUnitOffsets.{HasRisingPlaceOffsets, units}
use Rattle.regex_meaning.specs.CompilationRelation.{Program}
use Rattle.regress_machine.specs.Machine.{State, Thread, running, waiting, goes, ends, Found, after_lookaround, state_with_ip, state_at_next_ip, act, search}
use Rattle.regress_memo.specs.Liveness.{Liveness, ReadsAsBytes}
use Rattle.regress_memo.specs.SkippedLookarounds.{LookaroundInsn, lookaround_at}
use Rattle.regress_memo.specs.MemoSearch.{Key, Keys, Entry, one_thread, key_record, thread_entries, threads_in, keys_in, IsBare, entry_potential, FindEnd, Answers, IsMemory, IsMemoStep}
use Rattle.regress_memo.specs.MemoSearch.{HoldsInvariant, ReachesBySteps}
use Rattle.regress_memo.specs.AmortizedStepCosts.{IsCostCovered}
use Rattle.regress_memo.specs.DistinctLists.{IsNew}
use Rattle.regress_memo.specs.declared.analysis_result.MemoAnalysis.{MemoAnalysis}
use Rattle.regress_memo.specs.UnreachedCharLoopBodies.{FlowsPastBodies}
use Rattle.regress_memo.specs.WorkBound.{RecordsNothing, BoundsSilentContents}
use Rattle.regress_memo.specs.AnalysisAsPotentials.{insn_analysis_of, analysis_as_liveness, recorded as recording_insns, potentials_of, key_cost_of}
use Rattle.regress_memo.specs.Successors.{successors_of_insn_if_any}
use Rattle.regress_memo.specs.CheckedAnalysis.{IsAnalysisOf}
use Rattle.regress_memo.specs.Laws.{analysis_keys, KeyFails, KeySucceeds}
use Rattle.regress_memo.specs.MemoContents.{memo_key_at}
use Rattle.regress_memo.specs.AmortizedMemoSearchSteps.{AreKeyed, ReachesEntries}
use Rattle.regress_memo.specs.ContentsApart.{is_in_contents, AreOnSide, IsSide, IsArea, ContentsAreApart, IsSearchApart}

-- What a work bound requires if contents are searched with the memo table: each thread has some
-- potential, no thread reaches the body of a char loop, and contents are apart.
pub record AllowsMemoInContents (t : MemoAnalysis) (program : Program) : Type 0 where
  pub ready : (ip : ℕ) → 1 ≤ (insn_analysis_of t ip).ready
  pub past : (ip : ℕ) → FlowsPastBodies program (successors_of_insn_if_any ip (slice_get program.insns ip)) ip
  pub apart : ContentsAreApart program

-- The potential left by a lookaround covers the first instruction of its contents and the
-- instruction after it. The lookaround itself does not record.
pub record CoversContents (t : MemoAnalysis) (past ip : ℕ) : Type 0 where
  pub contents : (insn_analysis_of t (ip + 1)).ready + (insn_analysis_of t past).ready ≤ (insn_analysis_of t ip).left
  pub silent : (insn_analysis_of t ip).records ≡ false

-- The thread with which the search of a lookaround's contents begins.
abbrev pub contents_of : State → List Thread
contents_of s = running (state_at_next_ip s) ∷ []

module _ (program : Program) (text : Text) (t : MemoAnalysis) where
  -- A search has a result, began with right memory, and has come to these entries. Its instructions
  -- are those on the side.
  pub record HasComeTo (side : ℕ → Bool) (d : Direction) (memory : List Key) (first : List Thread) (work : ℕ)
      (now : List Key) (row : List Entry) : Type 0 where
    pub is_memory : IsMemory program text (analysis_as_liveness t) (analysis_keys program text t) memory
    pub answers : Answers program text d first
    pub comes : ReachesEntries program text t d memory (thread_entries first) work now row
    pub apart : IsSearchApart side program memory now row

  module _ (side : ℕ → Bool) (d : Direction) (memory : List Key) (first : List Thread) (work : ℕ) (now : List Key)
    where
      -- What is known of such a search. It has the result `f`.
      pub record SearchComesOn (row : List Entry) (turns : ℕ) (f : Found) : Type 0 where
        -- The invariant holds, and the known keys are a right memory.
        pub holds : HoldsInvariant program text (analysis_as_liveness t) (analysis_keys program text t) d now row f
        pub is_memory : IsMemory program text (analysis_as_liveness t) (analysis_keys program text t) now
        -- Without entries, it has failed.
        pub fails : row ≡ [] → f.end ≡ None
        -- If a thread ends, this is the end of the search.
        pub ends : (s u : State) (rest : List Entry) → row ≡ one_thread (running s) ∷ rest → act program text d s ≡ ends u
            → f.end ≡ Some u
        -- If the first threads find an end, as the thread that ends and those of a key that is known
        -- to succeed do, the search finds an end, and the keys of its records succeed.
        pub found : (front rest : List Entry) → row ≡ front ++ rest → IsBare front
            → FindEnd program text d (threads_in front) → IsSome f.end × Each (KeySucceeds program text t) (keys_in rest)

  module _ (side : ℕ → Bool) (d : Direction) (memory : List Key) (first : List Thread) (work : ℕ) (now : List Key)
      (rest : List Entry) where
    -- The search has come to these entries in so much work.
    abbrev pub IsAfter : (work : ℕ) → List Key → List Entry → Type 0
    IsAfter work now row = HasComeTo side d memory first work now row

    -- The steps of such a search, each of which does one more unit of work.
    pub record ThreadsComeOn : Type 0 where
      -- A thread executes a step without a record, because it has no key.
      pub turned : (s : State) (ts : List Thread) → act program text d s ≡ goes ts → memo_key_at t s ≡ None
          → IsAfter work now (one_thread (running s) ∷ rest) → IsAfter (work + 1) now (thread_entries ts ++ rest)
      -- A thread with a new key executes a step and leaves a record of it.
      pub recorded : (s : State) (ts : List Thread) (k : Key) → act program text d s ≡ goes ts
          → memo_key_at t s ≡ Some k → IsNew k now → IsAfter work now (one_thread (running s) ∷ rest)
          → IsAfter (work + 1) now (thread_entries ts ++ key_record k (running s ∷ []) ∷ rest)
      -- A thread is dropped because its key is known to fail.
      pub known : (s : State) (k : Key) → memo_key_at t s ≡ Some k → KeyFails program text t k
          → IsAfter work now (one_thread (running s) ∷ rest) → IsAfter (work + 1) now rest
      -- A waiting thread is resumed.
      pub taken_up : (s : State) → IsAfter work now (one_thread (waiting s) ∷ rest)
          → IsAfter (work + 1) now (one_thread (running s) ∷ rest)
      -- A record is reached, so its key becomes known.
      pub reached : (k : Key) (ts : List Thread) → IsAfter work now (key_record k ts ∷ rest)
          → IsAfter (work + 1) (k ∷ now) rest
      -- Any other step, as that of a char loop, if it is covered and keeps sides.
      pub gives : (more : ℕ) (front entries : List Entry) → IsBare front
          → IsMemoStep program text (analysis_as_liveness t) (analysis_keys program text t) d now (threads_in front)
          entries → IsCostCovered program (potentials_of t) (key_cost_of t) (recording_insns t) more
          front entries
          → AreKeyed program text t d (threads_in entries)
          → ((other : ℕ → Bool) → IsSide other program → AreOnSide other front → AreOnSide other entries)
          → IsAfter work now (front ++ rest) → IsAfter (work + more) now (entries ++ rest)

  -- ---- Lookarounds

  module _ (side : ℕ → Bool) (d : Direction) (memory : List Key) (first : List Thread) (work : ℕ) (now : List Key)
      (rest : List Entry) (s : State) (l : LookaroundInsn) where
    -- The search around a lookaround, which is about to execute it.
    abbrev pub IsAtLookaround : Type 0
    IsAtLookaround = HasComeTo side d memory first work now (one_thread (running s) ∷ rest)

    -- The search of the contents, which began with the known keys.
    abbrev pub ContentsHaveComeTo : (more : ℕ) → List Key → List Entry → Type 0
    ContentsHaveComeTo more now' row =
        HasComeTo (is_in_contents s.ip l.continuation) l.inner now (contents_of s) more now' row

    -- The search of the contents has the result `f`. The search around goes on with what it learned.
    abbrev pub GoesOnAfterLookaround : (cost : ℕ) → List Key → Found → Type 0
    GoesOnAfterLookaround cost now' f = HasComeTo side d memory first (work + cost) now'
        (thread_entries (after_lookaround l.negate (state_with_ip l.continuation s) f.end) ++ rest)

    -- A lookaround whose contents record. Its cost is that of its contents and one unit. The step
    -- or the drop of the threads that find an end is a unit of the contents.
    pub record LookaroundIsCovered (turns : ℕ) (f : Found) : Type 0 where
      pub failed : (more : ℕ) (now' : List Key) → ContentsHaveComeTo more now' []
          → GoesOnAfterLookaround (more + 1) now' f
      pub found : (more : ℕ) (now' : List Key) (front row : List Entry) → ContentsHaveComeTo more now' (front ++ row)
          → IsBare front → FindEnd program text l.inner (threads_in front)
          → GoesOnAfterLookaround (more + 1 + 1) (keys_in row ++ now') f

-- ---- Laws

-- The work of a part of a search, from any entries on, is covered by their potential and by the
-- costs of the keys that are recorded or become known in it.
abbrev pub PartsOfSearchesAreCovered : Type 0
PartsOfSearchesAreCovered = (program : Program) (text : Text) (a : Liveness) (keys : Keys) (d : Direction)
    (key_cost : Key → ℕ) (weight : List Thread → ℕ) (memory : List Key) (row : List Entry) (work : ℕ) (now : List Key)
    (to : List Entry) → ReachesBySteps program text a keys d key_cost weight memory row work now to
    → work + sum_by (entry_potential weight) to + sum_by key_cost (keys_in row ++ memory)
    ≤ sum_by (entry_potential weight) row + sum_by key_cost (keys_in to ++ now)

-- The search of a lookaround's contents begins with the known keys, and comes on, as the one around
-- it does.
pub record SearchesOfContentsComeOn : Type 0 where
  pub begins : (program : Program) (t : MemoAnalysis) → IsAnalysisOf program t → AllowsMemoInContents t program
      → (text : Text) → HasRisingPlaceOffsets text → ReadsAsBytes program text → units text < 2 ^ 63
      → (side : ℕ → Bool) (d : Direction) (memory : List Key) (first : List Thread) (work : ℕ) (now : List Key)
      (rest : List Entry) (s : State) (l : LookaroundInsn) → lookaround_at (slice_get program.insns s.ip) ≡ Some l
      → IsAtLookaround program text t side d memory first work now rest s l
      → ContentsHaveComeTo program text t side d memory first work now rest s l 0 now (thread_entries (contents_of s))
  pub comes_on : (program : Program) (t : MemoAnalysis) → IsAnalysisOf program t
      → (text : Text) → HasRisingPlaceOffsets text → ReadsAsBytes program text → units text < 2 ^ 63
      → (side : ℕ → Bool) (d : Direction) (memory : List Key) (first : List Thread) (work : ℕ) (now : List Key)
      (row : List Entry) → HasComeTo program text t side d memory first work now row
      → (turns : ℕ) (f : Found) → search program text turns d first ≡ Some f
      → SearchComesOn program text t side d memory first work now row turns f
  pub steps : (program : Program) (t : MemoAnalysis) → IsAnalysisOf program t → AllowsMemoInContents t program
      → (text : Text) → HasRisingPlaceOffsets text → ReadsAsBytes program text → units text < 2 ^ 63
      → (side : ℕ → Bool) → IsArea side program
      → (d : Direction) (memory : List Key) (first : List Thread) (work : ℕ) (now : List Key) (rest : List Entry)
      → ThreadsComeOn program text t side d memory first work now rest

-- A lookaround whose contents record nothing is covered if they are searched without the memo table,
-- for which each step is a unit of work.
abbrev pub SilentLookaroundsAreCovered : Type 0
SilentLookaroundsAreCovered =
    (program : Program) (t : MemoAnalysis) → IsAnalysisOf program t → AllowsMemoInContents t program
    → BoundsSilentContents t program
    → (text : Text) → HasRisingPlaceOffsets text → ReadsAsBytes program text → units text < 2 ^ 63
    → (side : ℕ → Bool) → IsArea side program
    → (d : Direction) (memory : List Key) (first : List Thread) (work : ℕ) (now : List Key)
    (rest : List Entry) (s : State) (l : LookaroundInsn) → lookaround_at (slice_get program.insns s.ip) ≡ Some l
    → RecordsNothing t l.continuation s.ip → IsAtLookaround program text t side d memory first work now rest s l
    → (turns : ℕ) (f : Found) → search program text turns l.inner (contents_of s) ≡ Some f
    → GoesOnAfterLookaround program text t side d memory first work now rest s l (f.steps + 1) now f

-- A lookaround whose contents record is covered: its potential covers the first instruction of the
-- contents and the instruction after it, and the keys of the contents pay for themselves.
abbrev pub LookaroundsThatRecordAreCovered : Type 0
LookaroundsThatRecordAreCovered =
    (program : Program) (t : MemoAnalysis) → IsAnalysisOf program t → AllowsMemoInContents t program
    → (text : Text) → HasRisingPlaceOffsets text → ReadsAsBytes program text → units text < 2 ^ 63
    → (side : ℕ → Bool) → IsArea side program
    → (d : Direction) (memory : List Key) (first : List Thread) (work : ℕ) (now : List Key)
    (rest : List Entry) (s : State) (l : LookaroundInsn) → lookaround_at (slice_get program.insns s.ip) ≡ Some l
    → CoversContents t l.continuation s.ip → IsAtLookaround program text t side d memory first work now rest s l
    → (turns : ℕ) (f : Found) → search program text turns l.inner (contents_of s) ≡ Some f
    → LookaroundIsCovered program text t side d memory first work now rest s l turns f
