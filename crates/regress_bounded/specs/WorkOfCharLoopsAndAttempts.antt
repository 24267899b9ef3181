-- The work of a search that remembers failures from its first attempt on: of char loops without a
-- maximum, and of all attempts of an iterator.
use Rattle.std.specs.Prelude.{◌≡◌, ◌≤◌, ℕ, zero, suc, ◌+◌, Bool, List, [], ◌∷◌, Some, slice_get}
use Rattle.regex_meaning.specs.Text.{Text, Direction, rightwards, moved}
use Rattle.regex_meaning.specs.CompilationRelation.{Program, Loop1CharBody}
use Rattle.regress_machine.specs.Machine.{State, Thread, waiting, test_of}
use Rattle.regress_machine.specs.CharLoopExitStatesByPreference.{behind}
use Rattle.regress_memo.specs.AmortizedStepCosts.{potential_by}
use Rattle.regress_memo.specs.MemoPlanChecksAndGuarantees.{plan_steps_below_record}
use Rattle.regress_memo.specs.UnboundedCharLoops.{key_behind}
use Rattle.regress_memo.specs.CharLoopExitThreadLists.{greedy_loop_threads}
use Rattle.regress_memo.specs.SuccessiveMatches.{Attempted}
use Rattle.regress_memo.specs.MemoSearch.{Key, Entry, one_thread, key_record, thread_entries, IsMemory}
use Rattle.regress_memo.specs.declared.analysis_result.MemoAnalysis.{MemoAnalysis}
use Rattle.regress_memo.specs.WorkBound.{initial_threads}
use Rattle.regress_memo.specs.AnalysisChecks.{unlimited}
use Rattle.regress_memo.specs.AnalysisAsPotentials.{analysis_as_liveness, key_code_questions_of, recorded, potentials_of, key_cost_of, insn_direction}
use Rattle.regress_memo.specs.Laws.{analysis_keys, ListsExactlyKnownKeys}
use Rattle.regress_memo.specs.AmortizedMemoSearchSteps.{ReachesEntries}

-- ---- Char loops

-- A state at a char loop without a maximum, whose body tests characters with `test`.
pub record StateIsAtUnboundedCharLoop (program : Program) (s : State) (test : ℕ → Bool) (least : ℕ)
    (greedy : Bool) : Type 0
  where
    pub run : slice_get program.insns s.ip ≡ Some (Loop1CharBody least unlimited greedy)
    pub body : test_of program (slice_get program.insns (s.ip + 1)) ≡ Some test

module _ (program : Program) (text : Text) (t : MemoAnalysis) (d : Direction) (test : ℕ → Bool) (place : ℕ) (s : State)
  where
    -- The key of the threads that the loop leaves from the position `n` characters after a place.
    abbrev pub key_after_chars : (n : ℕ) → Key
    key_after_chars n =
        key_behind program text (analysis_as_liveness t) (key_code_questions_of t) (insn_direction t) (recorded t)
        (plan_steps_below_record program)
        d test s place n

    -- The threads that a greedy loop leaves from the position `n` characters after a place.
    abbrev pub threads_after_chars : (n : ℕ) → List Thread
    threads_after_chars n = greedy_loop_threads text test d 0 (moved text d n place) s

    -- The exits after `least` to `least + count - 1` characters. The furthest comes first. Each one
    -- is above the record of the loop at this exit.
    abbrev pub exits_with_records : (least count : ℕ) → List Entry
    exits_with_records least zero = []
    exits_with_records least (suc count) =
        one_thread (waiting (behind text d place s (least + count)))
        ∷ key_record (key_after_chars (least + count)) (threads_after_chars (least + count))
        ∷ exits_with_records least count

-- ---- Attempts

module _ (program : Program) (text : Text) (t : MemoAnalysis) where
  -- The attempts of an iterator, each of which began no earlier than the one before it ended. The
  -- next one begins at `ahead` or later. They did `done` units of work, and the memory has these
  -- keys.
  pub record HasMadeAttempts (ahead done : ℕ) (memory : List Key) : Type 0 where
    pub from : ℕ
    pub looks : ℕ
    pub starts : List ℕ
    pub attempted : Attempted program text (analysis_as_liveness t) (analysis_keys program text t)
        (λ k. key_cost_of t k.ip)
        (potential_by program (potentials_of t) (key_cost_of t) (recorded t)) (initial_threads program)
        from ahead looks done memory starts
    pub order : from ≤ ahead
    pub is : IsMemory program text (analysis_as_liveness t) (analysis_keys program text t) memory

  -- Such attempts whose memory is the list of known keys.
  pub record AttemptsHaveKnownKeys (known : Key → Bool) (ahead done : ℕ) : Type 0 where
    pub memory : List Key
    pub has : HasMadeAttempts ahead done memory
    pub holds : ListsExactlyKnownKeys known memory

  -- An attempt at an offset after such attempts. It has reached the entries `row` in `work` units
  -- of work.
  pub record AttemptIsUnderWay (known : Key → Bool) (at done work : ℕ) (row : List Entry) : Type 0 where
    pub memory : List Key
    pub now : List Key
    pub has : HasMadeAttempts at done memory
    pub comes : ReachesEntries program text t rightwards memory (thread_entries (initial_threads program at)) work now
        row
    pub holds : ListsExactlyKnownKeys known now
