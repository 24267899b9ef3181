-- The state of a bounded search as a list of search entries: threads, pending lazy loops, and
-- records.
use Rattle.std.specs.Prelude.{◌≡◌, ◌≤◌, ◌<◌, ◌^◌, ◌+◌, ◌-◌, ℕ, Bool, true, false, List, [], ◌∷◌, ◌++◌, map, reverse, Option, Some, None, option_map, Result, Ok, Err, IfSome, ◌⊎◌, ◌==◌, if◌then◌else◌}
use Rattle.std.specs.Prelude.{slice_get}
use Rattle.regex_meaning.specs.Text.{Text, Direction, rightwards, moved, last_place}
use Rattle.regex_meaning.specs.CodeUnitOffsets.{HasRisingPlaceOffsets, offset as text_offset, place_at, units}
use Rattle.regex_meaning.specs.CompilationRelation.{Program, Insn, Loop1CharBody}
use Rattle.regex_pattern_front.specs.AstToSpecTree.{tree_of}
use Rattle.regex_pattern_front.specs.declared.ir.Regex.{Regex}
use Rattle.regress_program.specs.InsnsAsSpec.{insn_as_spec_insn}
use Rattle.regress_program.specs.CompilationOfTreesAsFunction.{compiled}
use Rattle.regress_machine.specs.Machine as machine
use Rattle.regress_machine.specs.Machine.{Thread, running, waiting, first_running_and_others_waiting, ends, act, Found, search}
use Rattle.regress_machine.specs.InsnEffects.{state_after_char_loop_to_offset}
use Rattle.regress_machine.specs.CharLoopExitStatesByPreference.{behind}
use Rattle.regress_memo.specs.Liveness.{ReadsAsBytes}
use Rattle.regress_memo.specs.CharLoopExitThreadLists.{passing, pending_loop_threads}
use Rattle.regress_memo.specs.MemoSearch.{Key, Entry, one_thread, thread_group, key_record, thread_entries, IsMemory}
use Rattle.regress_memo.specs.declared.analysis_result.MemoAnalysis.{MemoAnalysis}
use Rattle.regress_memo.specs.WorkBound.{IsWorkBounded, initial_threads}
use Rattle.regress_memo.specs.AnalysisChecks.{unlimited}
use Rattle.regress_memo.specs.AnalysisAsPotentials.{analysis_as_liveness}
use Rattle.regress_memo.specs.CheckedAnalysis.{IsAnalysisOf}
use Rattle.regress_memo.specs.declared.memo.ThreadMemoKey.{ThreadMemoKey as Stored}
use Rattle.regress_memo.specs.Laws.{IsTrueOf, ListsExactlyKnownKeys, analysis_keys}
use Rattle.regress_memo.specs.MemoContents.{memo_key_as_spec, has_failure, memo_key_at}
use Rattle.regress_memo.specs.MemoContractView.{MemoView}
use Rattle.regress_bounded.specs.declared.memo_and_work_budget.MemoAndWorkBudget.{MemoAndWorkBudget}
use Rattle.regress_bounded.specs.declared.memo_and_work_budget.AttemptAbortReason.{AttemptAbortReason}
use Rattle.regress_bounded.specs.declared.memo_and_work_budget.AttemptAbortReason.TheVariants.{Memory, Work}
use Rattle.regress_bounded.specs.declared.pending_stack.UnboundedCharLoop.{UnboundedCharLoop}
use Rattle.regress_bounded.specs.declared.pending_stack.StackEntry.{StackEntry}
use Rattle.regress_bounded.specs.declared.pending_stack.StackEntry.TheVariants.{Thread as AsThread, PendingLazyLoop as AsRun, Record as AsRecord}
use Rattle.regress_bounded.specs.declared.thread_steps_and_backtracking.StepResult.{StepResult}
use Rattle.regress_bounded.specs.declared.thread_steps_and_backtracking.StepResult.TheVariants.{ContinueWith, End}
use Rattle.regress_pikevm.specs.declared.pikevm.states.State.{State}
use Rattle.regress_bounded.specs.BudgetSpending.{LowersBudgetByWork}
use Rattle.regress_bounded.specs.CostsOfSearchEvents.{Costs, IsSearchEvent}
use Rattle.regress_bounded.specs.WorkOfCharLoopsAndAttempts.{StateIsAtUnboundedCharLoop, key_after_chars, threads_after_chars, exits_with_records}
use Rattle.regress_pikevm.specs.States.{machine_state_of, states_by_priority, current_thread_if_any}

-- The stack with a record of the key on top. If there is no key, the stack is unchanged.
abbrev pub stack_with_record_if_any : {P : Type 0} → Option Stored → List (StackEntry P) → List (StackEntry P)
stack_with_record_if_any None stack = stack
stack_with_record_if_any (Some key) stack = stack ++ AsRecord key ∷ []

module _ (program : Program) (text : Text) where
  -- The memo analysis bounds the searches of this text with the program.
  pub record AnalysisBoundsSearch (t : MemoAnalysis) : Type 0 where
    pub memo_analysis : IsAnalysisOf program t
    pub bounded : IsWorkBounded t program
    pub is_text : HasRisingPlaceOffsets text
    pub bytes : ReadsAsBytes program text
    pub short : units text < 2 ^ 63

  -- The memo table is right: each key that is known to fail does fail.
  pub record IsSoundMemo (m : MemoView) : Type 0 where
    pub paid : AnalysisBoundsSearch m.memo_analysis
    pub is_true : IsTrueOf program text m

  -- `IsSoundMemo` as a proposition.
  abbrev pub IsMemoRight : MemoView → Type 0
  IsMemoRight m = ∥ IsSoundMemo m ∥₁

-- `IsMemoRight` for the program of a regex.
abbrev pub IsMemoRightForRegex : Regex → Text → MemoView → Type 0
IsMemoRightForRegex re text m = IsMemoRight (compiled (tree_of re)) text m

-- `key` is the key of the state. It is `None` if the state has no key; otherwise it is not known to
-- fail.
pub record IsUnfailedStateKeyIfAny (m : MemoView) (s : machine.State) (key : Option Stored) : Type 0 where
  pub is : memo_key_at m.memo_analysis s ≡ option_map memo_key_as_spec key
  pub unknown : IfSome key (λ k. has_failure m (memo_key_as_spec k) ≡ false)

-- Whether there is a key and it is known.
abbrev pub is_known_key : (Key → Bool) → Option Key → Bool
is_known_key known None = false
is_known_key known (Some k) = known k

-- The minimum of a char loop without a maximum, and whether it is greedy.
abbrev pub min_and_greed_of_loop : Insn → Option (ℕ × Bool)
min_and_greed_of_loop (Loop1CharBody least most greedy) = if most == unlimited then Some (least, greedy) else None
min_and_greed_of_loop _ = None

-- The maximum of a char loop. `None` for other instructions.
abbrev pub char_loop_max : Insn → Option ℕ
char_loop_max (Loop1CharBody least most greedy) = Some most
char_loop_max _ = None

-- The instruction is not a char loop without a maximum.
abbrev pub IsNotUnboundedCharLoop : Program → (ip : ℕ) → Type 0
IsNotUnboundedCharLoop program ip = (least most : ℕ) (greedy : Bool)
    → slice_get program.insns ip ≡ Some (Loop1CharBody least most greedy) → (most == unlimited) ≡ false

-- An attempt: its start offset, the failures known at its start, the work allowed, and the result
-- of the search.
pub record BoundedAttempt : Type 0 where
  pub at : ℕ
  pub memory : List Key
  pub total : ℕ
  pub turns : ℕ
  pub found : Found

-- The attempt begins at an offset with this memo table and work budget.
pub record BoundedAttemptBegins (program : Program) (text : Text) (from : ℕ) (c : MemoAndWorkBudget)
    (b : BoundedAttempt) : Type 0 where
  pub right : IsSoundMemo program text c.memo
  pub at : b.at ≡ from
  pub is_memory : IsMemory program text (analysis_as_liveness c.memo.memo_analysis)
      (analysis_keys program text c.memo.memo_analysis) b.memory
  pub holds : ListsExactlyKnownKeys (has_failure c.memo) b.memory
  pub total : b.total ≡ c.left
  pub answers : search program text b.turns rightwards (initial_threads program b.at) ≡ Some b.found

module _ {P : Type 0} (offset : P → ℕ) where
  -- The entry of the current thread. Empty if there is no current thread.
  abbrev pub entry_of_current_thread : Option (State P) → List Entry
  entry_of_current_thread next = thread_entries (current_thread_if_any offset next)

  module _ (program : Program) (text : Text) where
    -- ---- Pending entries

    -- A pending lazy loop represents its exits from a place on.
    pub record IsPendingLazyLoop (s : machine.State) (e : Entry) : Type 0 where
      pub test : ℕ → Bool
      pub least : ℕ
      pub place : ℕ
      pub run : StateIsAtUnboundedCharLoop program s test least false
      pub at : place_at text s.pos ≡ Some place
      pub is : e ≡ thread_group (pending_loop_threads text test rightwards 0 place s)

    -- A record on the stack represents the record entry of its key.
    pub record IsRecordOf (k : Key) (e : Entry) : Type 0 where
      pub threads : List Thread
      pub is : e ≡ key_record k threads

    -- The search entry that a stack entry represents.
    abbrev pub StackEntryStandsFor : StackEntry P → Entry → Type 0
    StackEntryStandsFor (AsThread s) e = e ≡ one_thread (waiting (machine_state_of offset s))
    StackEntryStandsFor (AsRun s) e = IsPendingLazyLoop (machine_state_of offset s) e
    StackEntryStandsFor (AsRecord k) e = IsRecordOf (memo_key_as_spec k) e

    -- Stack entries and search entries correspond one to one, in the same order.
    abbrev pub StackStandsFor : List (StackEntry P) → List Entry → Type 0
    StackStandsFor [] [] = Unit {0}
    StackStandsFor (w ∷ ws) (e ∷ row) = StackEntryStandsFor w e × StackStandsFor ws row
    StackStandsFor _ _ = ⊥

    -- A stack represents a list of search entries, which begins with the top of the stack.
    abbrev pub IsStackOfEntriesFromTop : List (StackEntry P) → List Entry → Type 0
    IsStackOfEntriesFromTop stack row = StackStandsFor (reverse stack) row

    -- ---- The state of an attempt

    -- The events so far led to the entries `front`, followed by those of the stack. The initial
    -- budget is the sum of their costs and of the work left. The memo table has exactly the known
    -- failures.
    pub record AttemptHasState (b : BoundedAttempt) (front : List Entry) (stack : List (StackEntry P))
        (c : MemoAndWorkBudget) : Type 0 where
      pub right : IsSoundMemo program text c.memo
      pub inside : b.at ≤ units text
      pub is_memory :
          IsMemory program text (analysis_as_liveness c.memo.memo_analysis)
          (analysis_keys program text c.memo.memo_analysis) b.memory
      pub answers : search program text b.turns rightwards (initial_threads program b.at) ≡ Some b.found
      pub work : ℕ
      pub now : List Key
      pub row : List Entry
      pub costs : Costs program text c.memo.memo_analysis rightwards b.memory
          (thread_entries (initial_threads program b.at)) work now (front ++ row)
      pub is : IsStackOfEntriesFromTop stack row
      pub holds : ListsExactlyKnownKeys (has_failure c.memo) now
      pub spent : work + c.left ≡ b.total

    -- An attempt exists that has this state.
    pub record SomeAttemptHasState (front : List Entry) (stack : List (StackEntry P)) (c : MemoAndWorkBudget) : Type 0
      where
        pub begin : BoundedAttempt
        pub stands : AttemptHasState begin front stack c

    -- `SomeAttemptHasState` as a proposition.
    abbrev pub HasAttemptState : (front : List Entry) → List (StackEntry P) → MemoAndWorkBudget → Type 0
    HasAttemptState front stack c = ∥ SomeAttemptHasState front stack c ∥₁

    module _ (b : BoundedAttempt) {front : List Entry} {stack : List (StackEntry P)} {c : MemoAndWorkBudget}
        (h : AttemptHasState b front stack c) where
      -- An event that may happen next, with its cost.
      abbrev pub MayBeNextSearchEvent : (cost : ℕ) → List Key → List Entry → Type 0
      MayBeNextSearchEvent cost now row =
          IsSearchEvent program text c.memo.memo_analysis rightwards h.now cost (front ++ h.row) now row

      -- The next event costs more than the work left. Afterwards, no work is left.
      pub record NextEventExceedsWorkLeft (after : MemoAndWorkBudget) : Type 0 where
        pub cost : ℕ
        pub now : List Key
        pub row : List Entry
        pub happens : MayBeNextSearchEvent cost now row
        pub over : c.left < cost
        pub none : after.left ≡ 0

      -- One event leads to the next thread. Exactly its cost is taken from the work left.
      pub record TakesOneEvent (next : Option (State P)) (new : List (StackEntry P)) (after : MemoAndWorkBudget) : Type
          0 where
        pub stands : AttemptHasState b (entry_of_current_thread next) new after
        pub cost : ℕ
        pub happens : MayBeNextSearchEvent cost stands.now (entry_of_current_thread next ++ stands.row)
        pub spent : LowersBudgetByWork cost c.left after.left

      -- When an attempt may be aborted. `Memory`: at any time. `Work`: only if the next event costs
      -- more than the work left.
      abbrev pub MayAbortAttempt : AttemptAbortReason → MemoAndWorkBudget → Type 0
      MayAbortAttempt Memory after = Unit {0}
      MayAbortAttempt Work after = NextEventExceedsWorkLeft after

      -- The result of a part of an attempt: the attempt continues with the next thread, or is
      -- aborted.
      abbrev pub ContinuesOrStops : Result (Option (State P)) AttemptAbortReason → List (StackEntry P)
          → MemoAndWorkBudget → Type 0
      ContinuesOrStops (Ok next) new after = TakesOneEvent next new after
      ContinuesOrStops (Err e) new after = MayAbortAttempt e after

    -- `ContinuesOrStops` for each attempt that was in this state.
    abbrev pub ContinuesOrStopsInEachAttempt : (front : List Entry) (old : List (StackEntry P)) → MemoAndWorkBudget
        → Result (Option (State P)) AttemptAbortReason
        → (new : List (StackEntry P)) → MemoAndWorkBudget → Type 0
    ContinuesOrStopsInEachAttempt front old c r new after = (b : BoundedAttempt) (h : AttemptHasState b front old c)
        → ContinuesOrStops b h r new after

    -- The step of the current thread ends the search.
    pub record AttemptEndsAt (b : BoundedAttempt) (end : State P) (c : MemoAndWorkBudget) : Type 0 where
      pub stack : List (StackEntry P)
      pub from : machine.State
      pub stands : AttemptHasState b (one_thread (running from) ∷ []) stack c
      pub ends : act program text rightwards from ≡ ends (machine_state_of offset end)

    -- The result of a step: the attempt continues, ends, or is aborted.
    abbrev pub StepResultIs : (b : BoundedAttempt) {front : List Entry} {stack : List (StackEntry P)}
        {c : MemoAndWorkBudget} → AttemptHasState b front stack c
        → Result (StepResult P) AttemptAbortReason → List (StackEntry P) → MemoAndWorkBudget → Type 0
    StepResultIs b h (Ok (ContinueWith next)) new after = TakesOneEvent b h next new after
    StepResultIs b h (Ok (End s)) new after = AttemptEndsAt b s after
    StepResultIs b h (Err e) new after = MayAbortAttempt b h e after

    -- `StepResultIs` for each attempt that was in this state.
    abbrev pub StepResultInEachAttempt : (front : List Entry) (old : List (StackEntry P)) → MemoAndWorkBudget
        → Result (StepResult P) AttemptAbortReason
        → (new : List (StackEntry P)) → MemoAndWorkBudget → Type 0
    StepResultInEachAttempt front old c r new after = (b : BoundedAttempt) (h : AttemptHasState b front old c)
        → StepResultIs b h r new after

    -- The attempt was aborted before an event that costs more than the work left. Now no work is
    -- left.
    pub record AbortedBecauseWorkIsSpent (b : BoundedAttempt) (c : MemoAndWorkBudget) : Type 0 where
      pub front : List Entry
      pub stack : List (StackEntry P)
      pub before : MemoAndWorkBudget
      pub stands : AttemptHasState b front stack before
      pub same : c.memo.memo_analysis ≡ before.memo.memo_analysis
      pub short : NextEventExceedsWorkLeft b stands c

    -- The result of an attempt: no entry is left, an end was found, or the attempt was aborted.
    abbrev pub AttemptResultIs : BoundedAttempt → Result (Option (State P)) AttemptAbortReason → MemoAndWorkBudget
        → Type 0
    AttemptResultIs b (Ok None) c = AttemptHasState b [] [] c
    AttemptResultIs b (Ok (Some s)) c = AttemptEndsAt b s c
    AttemptResultIs b (Err Memory) c = Unit {0}
    AttemptResultIs b (Err Work) c = AbortedBecauseWorkIsSpent b c

    -- ---- Char loops without a maximum

    -- The char loop at a state, and the instruction that reads its characters.
    pub record IsStateAtUnboundedLoopOverInsn (run : UnboundedCharLoop) (greedy : Bool) (s : machine.State) : Type 0
      where
        pub insn : slice_get program.insns s.ip ≡ Some (Loop1CharBody run.least unlimited greedy)
        pub body : slice_get program.insns (s.ip + 1) ≡ Some (insn_as_spec_insn run.body)

    module _ (t : MemoAnalysis) (known : Key → Bool) (test : ℕ → Bool) (place : ℕ) (s : machine.State) (least : ℕ) where
      -- The key of the loop after `n` characters.
      abbrev pub loop_key_after_chars : (n : ℕ) → Key
      loop_key_after_chars n = key_after_chars program text t rightwards test place s n

      -- The exits after at least `least` and fewer than `n` characters are pending, each with its
      -- record.
      pub record ExitsArePending (old new : List (StackEntry P)) (n : ℕ) : Type 0 where
        pub enough : least ≤ n
        pub pass : n ≤ passing text test rightwards place
        pub unknown : (m : ℕ) → least ≤ m → m < n → known (loop_key_after_chars m) ≡ false
        pub rows : (row : List Entry) → IsStackOfEntriesFromTop old row
            → IsStackOfEntriesFromTop new (exits_with_records program text t rightwards test place s least
            (n - least) ++ row)

      -- All exits before the furthest one are pending with their records, and the thread at the
      -- furthest exit is current.
      pub record AllExitsArePending (old new : List (StackEntry P)) (here : State P) (n : ℕ) : Type 0 where
        pub enough : least ≤ n
        pub all : n ≡ passing text test rightwards place
        pub unknown : (m : ℕ) → least ≤ m → m < n + 1 → known (loop_key_after_chars m) ≡ false
        pub is_here : machine_state_of offset here ≡ behind text rightwards place s n
        pub rows : (row : List Entry) → IsStackOfEntriesFromTop old row
            → IsStackOfEntriesFromTop new (key_record (loop_key_after_chars n)
            (threads_after_chars program text t rightwards test place s n)
            ∷ exits_with_records program text t rightwards test place s least (n - least) ++ row)

      -- How a scan ends. Without a thread, it stopped after `n` characters, because the loop is
      -- known to fail from there or the work left does not suffice. With a thread, the loop was
      -- scanned to its end.
      abbrev pub ScansWithMemo : (left : ℕ) (old new : List (StackEntry P)) → Option (State P) × ℕ → Type 0
      ScansWithMemo left old new (None, n) = ExitsArePending old new n
          × ((known (loop_key_after_chars n) ≡ true) ⊎ (left < n + 2))
      ScansWithMemo left old new (Some here, n) = AllExitsArePending old new here n

  -- ---- Characters read

  -- The position is `count` characters after a place in the direction, and all of these characters
  -- pass the test.
  pub record IsPositionAfterCharsOfClass (text : Text) (d : Direction) (test : ℕ → Bool) (place count : ℕ)
      (pos : P) : Type 0 where
    pub at : offset pos ≡ text_offset text (moved text d count place)
    pub within : moved text d count place ≤ last_place text
    pub sum : passing text test d place ≡ count + passing text test d (moved text d count place)

  -- `count` characters, at most `least`, pass the test. If there are fewer than `least`, the next
  -- one does not pass.
  pub record HasPassedRequiredChars (text : Text) (d : Direction) (test : ℕ → Bool) (least place count : ℕ)
      (pos : P) : Type 0 where
    pub few : count ≤ least
    pub past : IsPositionAfterCharsOfClass text d test place count pos
    pub all : count < least → passing text test d (moved text d count place) ≡ 0

  -- The pending entry of a lazy loop that continues after the next character.
  pub record LaterLazyExitsArePending (text : Text) (place : ℕ) (s : State P) (old new : List (StackEntry P)) : Type 0
    where
      pub next : State P
      pub is : machine_state_of offset next ≡ record (machine_state_of offset s) {
        pos =
            text_offset text (moved text rightwards 1 place);
      }
      pub waits : new ≡ old ++ AsRun next ∷ []

  -- The thread at the nearest exit of a lazy loop. If there are further exits, they are pending.
  pub record TakesNearestExit (text : Text) (test : ℕ → Bool) (place : ℕ) (at : P) (s here : State P)
      (old new : List (StackEntry P)) : Type 0 where
    pub is_here : machine_state_of offset here ≡ state_after_char_loop_to_offset (offset at) (machine_state_of offset s)
    pub alone : passing text test rightwards place ≡ 0 → new ≡ old
    pub others : 1 ≤ passing text test rightwards place → LaterLazyExitsArePending text place s old new

  -- The last state becomes current, and the others are pushed.
  pub record TakesLastState (states : List (State P)) (old : List (StackEntry P)) (s : State P)
      (new : List (StackEntry P)) : Type 0 where
    pub others : List (State P)
    pub is : states ≡ others ++ s ∷ []
    pub wait : new ≡ old ++ map (λ o. AsThread o) others

  -- The preferred state becomes current if there is one, and the others are pushed.
  abbrev pub TakesPreferredState : (states : List (State P)) (old : List (StackEntry P)) → Option (State P)
      → (new : List (StackEntry P)) → Type 0
  TakesPreferredState states old None new = (states ≡ []) × (new ≡ old)
  TakesPreferredState states old (Some s) new = TakesLastState states old s new

  -- The preferred thread becomes current, and the others are pushed.
  pub record TakesPreferredThread (ts : List Thread) (old : List (StackEntry P)) (next : Option (State P))
      (new : List (StackEntry P)) : Type 0 where
    pub states : List (State P)
    pub are : ts ≡ first_running_and_others_waiting (states_by_priority offset states)
    pub taken : TakesPreferredState states old next new
