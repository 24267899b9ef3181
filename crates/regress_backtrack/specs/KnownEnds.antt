-- Threads that are known to find an end.
use Rattle.std.specs.Prelude.{◌≡◌, ◌≤◌, ◌<◌, ℕ, ◌+◌, ◌-◌, Bool, true, [], ◌∷◌, length, Some, slice_get}
use Rattle.regress_input.specs.CharAndByteReadsFromOffset.{direction_of_forward_flag, place}
use Rattle.regress_machine.specs.Machine.{running}
use Rattle.regress_memo.specs.MemoSearch.{FindEnd}
use Rattle.regress_memo.specs.CharLoopExitThreadLists.{greedy_loop_threads}
use Rattle.regress_program.specs.declared.char_class_tables.Class.{Class}
use Rattle.regress_search.specs.CharLoopExits.{IsClassTest}
use Rattle.regress_search.specs.TreePlanAndText.{SearchInput, program_of}
use Rattle.regress_backtrack.specs.declared.position_and_result.ThreadPos.{ThreadPos}
use Rattle.regress_backtrack.specs.declared.failure_memo.RecordKey.{RecordKey as Stored}
use Rattle.regress_backtrack.specs.FailureMemo.{MemoScheme, KeyFindsEnd, record_key_as_spec}
use Rattle.regress_backtrack.specs.State.{StateModel, current_thread_state_of}
use Rattle.regress_backtrack.specs.ChoicePoints.{resume_points_of_choice_point}
use Rattle.regress_backtrack.specs.PendingThreads.{pending_above}
use Rattle.regress_backtrack.specs.declared.choice_point_resumption.StackAndLogBase.{StackAndLogBase}
use Rattle.regress_backtrack.specs.declared.state.ChoicePointKind.TheVariants.{Lazy, Record}
use Rattle.regress_backtrack.specs.declared.state.ChoicePoint.{ChoicePoint}

module _ (w : SearchInput) (forward : Bool) where
  -- The thread at this position finds an end.
  abbrev pub ThreadFindsEnd : (here : ThreadPos) → StateModel → Type 0
  ThreadFindsEnd here h = FindEnd (program_of w) w.text (direction_of_forward_flag forward)
      (running (current_thread_state_of h here.ip here.at) ∷ [])

  -- The rest of a greedy loop over a class, from an offset on, finds an end.
  abbrev pub LoopRestFindsEnd : Class → (from : ThreadPos) → StateModel → Type 0
  LoopRestFindsEnd class from h = (test : ℕ → Bool) → IsClassTest w class test
      → FindEnd (program_of w) w.text (direction_of_forward_flag forward)
      (greedy_loop_threads w.text test (direction_of_forward_flag forward) 0 (place w.text from.at)
      (current_thread_state_of h from.ip from.at))

  -- The thread and those that are pending above this many choice points find an end.
  abbrev pub FindsEndAbove : (base : ℕ) → (here : ThreadPos) → StateModel → Type 0
  FindsEndAbove base here h = FindEnd (program_of w) w.text (direction_of_forward_flag forward)
      (running (current_thread_state_of h here.ip here.at) ∷ pending_above (resume_points_of_choice_point w) base h)

  -- The same holds above each record that is above the base.
  abbrev pub FindsEndAboveRecords : (base : ℕ) → (here : ThreadPos) → StateModel → Type 0
  FindsEndAboveRecords base here h = (i : ℕ) (m : ChoicePoint) → base ≤ i → slice_get h.choice_points i ≡ Some m
      → m.kind ≡ Record → FindsEndAbove (i + 1) here h

module _ (w : SearchInput) (t : MemoScheme) (forward : Bool) where
  -- The thread at this position finds an end, and so does each thread of the key.
  abbrev pub ThreadHasKnownEnd : (here : ThreadPos) → StateModel → Stored → Type 0
  ThreadHasKnownEnd here h key = ThreadFindsEnd w forward here h
      × KeyFindsEnd (program_of w) w.text t (record_key_as_spec key)

  -- The thread at this position and those that are pending above the base find an end, and so do
  -- those above each record. Each thread of the key finds an end.
  pub record IsKnownEnd (base : StackAndLogBase) (here : ThreadPos) (h : StateModel) (key : Stored) : Type 0 where
    pub found : FindsEndAbove w forward base.choice_points here h
    pub above_records : FindsEndAboveRecords w forward base.choice_points here h
    pub key_finds : KeyFindsEnd (program_of w) w.text t (record_key_as_spec key)

-- The last choice point, which is above the base, holds exits of a lazy char loop in a search to the
-- right, and nothing has changed since it was pushed.
pub record AreLastLazyExits (forward : Bool) (base : StackAndLogBase) (h : StateModel) (m : ChoicePoint) : Type 0 where
  pub rightwards : forward ≡ true
  pub some : base.choice_points < length h.choice_points
  pub last : slice_get h.choice_points (length h.choice_points - 1) ≡ Some m
  pub lazy : m.kind ≡ Lazy
  pub unchanged : m.log ≡ length h.log
