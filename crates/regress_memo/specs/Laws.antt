-- Laws of memo tables. The contents of a table are stated as a list of keys.
use Rattle.std.specs.Prelude.{◌≡◌, ◌+◌, ℕ, Bool, true, false, List, [], ◌∷◌, None, Some}
use Rattle.regex_meaning.specs.Text.{Text, Direction}
use Rattle.regex_meaning.specs.CodeUnitOffsets.{offset, units}
use Rattle.regex_meaning.specs.CompilationRelation.{Program}
use Rattle.regress_machine.specs.Machine.{State, Thread, running}
use Rattle.regress_memo.specs.Liveness.{Agree, outermost}
use Rattle.regress_memo.specs.DistinctLists.{IsIn, IsNew}
use Rattle.regress_memo.specs.LoopDataKeyCodes.{HasSlotsOfProgram}
use Rattle.regress_memo.specs.UnboundedCharLoopMemoKeys.{plan_keys, char_loop_greediness_at, insn_before, CharLoopRecords, run_key}
use Rattle.regress_memo.specs.MemoPlanChecksAndGuarantees.{plan_steps_below_record}
use Rattle.regress_memo.specs.MemoSearch.{Key, Keys, KeyStandsFor, Fails, Succeeds, IsMemory}
use Rattle.regress_memo.specs.declared.analysis_result.MemoAnalysis.{MemoAnalysis}
use Rattle.regress_memo.specs.AnalysisAsPotentials.{analysis_as_liveness, key_code_questions_of, insn_direction, recorded}
use Rattle.regress_memo.specs.CheckedAnalysis.{IsRecordableMemoKey, IsAnalysisOf}
use Rattle.regress_memo.specs.MemoContractView.{MemoView}
use Rattle.regress_memo.specs.MemoContents.{memo_key_at, has_failure, has_success, knows, IsEmptyMemo, RecordsFailure, RecordsSuccess}

-- ---- Definitions

-- The keys that may be memoized for a program in a text, given its memo analysis.
abbrev pub analysis_keys : Program → Text → MemoAnalysis → Keys
analysis_keys program text t =
    plan_keys program text (analysis_as_liveness t) (key_code_questions_of t) (insn_direction t) (recorded t)
    (plan_steps_below_record program)

module _ (program : Program) (text : Text) where
  -- The key fails: all threads that it stands for find nothing.
  abbrev pub KeyFails : MemoAnalysis → Key → Type 0
  KeyFails t k = Fails program text (analysis_as_liveness t) (analysis_keys program text t) k

  -- The key succeeds: all threads that it stands for find an end.
  abbrev pub KeySucceeds : MemoAnalysis → Key → Type 0
  KeySucceeds t k = Succeeds program text (analysis_as_liveness t) (analysis_keys program text t) k

  -- The table belongs to an analysis of the program, has an entry for each offset of the text, and
  -- all that it records is true.
  pub record IsTrueOf (m : MemoView) : Type 0 where
    pub of : IsAnalysisOf program m.memo_analysis
    pub places : m.places ≡ units text + 1
    pub fails : (k : Key) → has_failure m k ≡ true → KeyFails m.memo_analysis k
    pub reaches : (k : Key) → has_success m k ≡ true → KeySucceeds m.memo_analysis k

-- The list contains exactly the known keys.
pub record ListsExactlyKnownKeys (known : Key → Bool) (memory : List Key) : Type 0 where
  pub only : (k : Key) → IsIn k memory → known k ≡ true
  pub all : (k : Key) → known k ≡ true → IsIn k memory

-- ---- Laws

-- The known keys as a list. The invariant of a search may begin with this list as its memory.
pub record HasMemory (program : Program) (text : Text) (m : MemoView) (known : Key → Bool) : Type 0 where
  pub memory : List Key
  pub holds : ListsExactlyKnownKeys known memory
  pub is : IsMemory program text (analysis_as_liveness m.memo_analysis) (analysis_keys program text m.memo_analysis)
      memory

-- Recording a key adds it to the list of known keys. If the table records successes, all known keys
-- are the memory of a search; otherwise the memory has only the keys that are known to fail.
pub record RecordingAddsKnownKeys : Type 0 where
  pub begun : (t : MemoAnalysis) (places : ℕ) (records_successes : Bool) (m : MemoView)
      → IsEmptyMemo t places records_successes m
      → ListsExactlyKnownKeys (has_failure m) [] × ListsExactlyKnownKeys (knows m) []
  -- A key that is not known is not in the list.
  pub new : (known : Key → Bool) (memory : List Key) (k : Key) → ListsExactlyKnownKeys known memory → known k ≡ false
      → IsNew k memory
  pub failure : (k : Key) (m n : MemoView) (memory : List Key) → RecordsFailure k m n
      → ListsExactlyKnownKeys (has_failure m) memory → ListsExactlyKnownKeys (has_failure n) (k ∷ memory)
  pub known_failure : (k : Key) (m n : MemoView) (memory : List Key) → RecordsFailure k m n
      → ListsExactlyKnownKeys (knows m) memory → ListsExactlyKnownKeys (knows n) (k ∷ memory)
  pub end : (k : Key) (m n : MemoView) (memory : List Key) → RecordsSuccess k m n
      → ListsExactlyKnownKeys (has_failure m) memory → ListsExactlyKnownKeys (has_failure n) memory
  pub known_end : (k : Key) (m n : MemoView) (memory : List Key) → RecordsSuccess k m n
      → ListsExactlyKnownKeys (knows m) memory → ListsExactlyKnownKeys (knows n) (k ∷ memory)

-- An empty table is right for the program and the text, and stays right if only true facts are
-- recorded.
pub record MemosAreSound : Type 0 where
  pub begun : (program : Program) (text : Text) (t : MemoAnalysis) (records_successes : Bool) (m : MemoView)
      → IsAnalysisOf program t → IsEmptyMemo t (units text + 1) records_successes m → IsTrueOf program text m
  pub failure : (program : Program) (text : Text) (k : Key) (m n : MemoView)
      → RecordsFailure k m n → KeyFails program text m.memo_analysis k → IsTrueOf program text m
      → IsTrueOf program text n
  pub end : (program : Program) (text : Text) (k : Key) (m n : MemoView)
      → RecordsSuccess k m n → KeySucceeds program text m.memo_analysis k → IsTrueOf program text m
      → IsTrueOf program text n
  pub failures : (program : Program) (text : Text) (m : MemoView) → IsTrueOf program text m
      → HasMemory program text m (has_failure m)
  pub all : (program : Program) (text : Text) (m : MemoView) → IsTrueOf program text m
      → HasMemory program text m (knows m)

-- The keys of a memo analysis are exactly those that have bits.
pub record KeysAreThoseWithBits : Type 0 where
  -- Each key that stands for threads has a bit.
  pub has_bit : (program : Program) (text : Text) (t : MemoAnalysis) → IsAnalysisOf program t
      → (d : Direction) (k : Key) (ts : List Thread)
      → KeyStandsFor program text (analysis_as_liveness t) (analysis_keys program text t) d k ts
      → IsRecordableMemoKey t (units text + 1) k
  pub inside : (program : Program) (text : Text) (t : MemoAnalysis) → IsAnalysisOf program t
      → (k : Key) → IsRecordableMemoKey t (units text + 1) k → IsIn k (analysis_keys program text t).all
  -- A running thread has a key if its instruction records and is not the body of a char loop.
  pub thread : (program : Program) (text : Text) (t : MemoAnalysis) → IsAnalysisOf program t
      → (d : Direction) (s : State) (k : Key) → memo_key_at t s ≡ Some k
      → char_loop_greediness_at (insn_before program s.ip) ≡ None
      → insn_direction t s.ip ≡ d → HasSlotsOfProgram program s
      → Agree (analysis_as_liveness t) (units text) outermost d s s
      → KeyStandsFor program text (analysis_as_liveness t) (analysis_keys program text t) d k (running s ∷ [])
  -- The key of a char loop at a place is the key of a state at the loop's body at this place.
  pub run : (program : Program) (text : Text) (t : MemoAnalysis) (d : Direction) (test : ℕ → Bool) (greedy : Bool)
      (s : State)
      (place : ℕ) → CharLoopRecords program (analysis_as_liveness t) (key_code_questions_of t) (insn_direction t)
      (recorded t) d test greedy s.ip
      → memo_key_at t (record s { ip = s.ip + 1; pos = offset text place })
      ≡ Some (run_key program text (analysis_as_liveness t) (key_code_questions_of t) (insn_direction t) (recorded t)
      (plan_steps_below_record program) d place s)
