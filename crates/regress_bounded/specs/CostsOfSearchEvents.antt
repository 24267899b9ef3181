-- The cost of a search with a memo table. A search is a list of entries, and the first one is
-- current. Each event replaces the first entry and has a cost. The cost of a search is the sum of
-- the costs of its events.
--
-- A unit of work is an operation that is executed, a character that a char loop tests, a thread
-- that is resumed or dropped, or a record that is reached. The end of a search is not an event.
-- The contents of a lookaround are searched without the memo table. This costs a unit for each step
-- of the machine, and the end is one of them.
use Rattle.std.specs.Prelude.{◌≡◌, ◌≤◌, ◌<◌, ◌+◌, ◌-◌, ◌==◌, ℕ, Bool, true, false, List, [], ◌∷◌, ◌++◌, Option, Some, None, slice_get}
use Rattle.regex_meaning.specs.Text.{Text, Direction}
use Rattle.regex_meaning.specs.CodeUnitOffsets.{place_at}
use Rattle.regex_meaning.specs.CompilationRelation.{Program, Loop1CharBody}
use Rattle.regress_machine.specs.Machine.{State, Thread, Next, running, waiting, goes, scans, Found, after_lookaround, state_with_ip, state_at_next_ip, act, search}
use Rattle.regress_machine.specs.CharLoopExitStatesByPreference.{behind}
use Rattle.regress_machine.specs.InsnEffects.{tested_char_count_of_step}
use Rattle.regress_memo.specs.CharLoopExitThreadLists.{passing, pending_loop_threads}
use Rattle.regress_memo.specs.SkippedLookarounds.{LookaroundInsn, lookaround_at}
use Rattle.regress_memo.specs.DistinctLists.{IsIn, IsNew}
use Rattle.regress_memo.specs.MemoSearch.{Key, Entry, one_thread, thread_group, key_record, thread_entries}
use Rattle.regress_memo.specs.declared.analysis_result.MemoAnalysis.{MemoAnalysis}
use Rattle.regress_memo.specs.AnalysisChecks.{unlimited}
use Rattle.regress_memo.specs.Laws.{KeyFails}
use Rattle.regress_memo.specs.MemoContents.{memo_key_at}
use Rattle.regress_bounded.specs.WorkOfCharLoopsAndAttempts.{StateIsAtUnboundedCharLoop, key_after_chars, threads_after_chars, exits_with_records}

-- ---- Steps of the machine

-- The work of a step: 1, plus 1 for each character that it tests.
abbrev pub work_of_machine_step : Next → ℕ
work_of_machine_step step = tested_char_count_of_step step + 1

-- The threads that a step leaves.
abbrev pub threads_after_step : Next → List Thread
threads_after_step (goes ts) = ts
threads_after_step (scans tries ts) = ts
threads_after_step _ = []

-- The step leaves threads: it neither ends the search nor starts another one.
abbrev pub StepLeavesOnlyThreads : Next → Type 0
StepLeavesOnlyThreads (goes ts) = Unit {0}
StepLeavesOnlyThreads (scans tries ts) = Unit {0}
StepLeavesOnlyThreads _ = ⊥

-- ---- Events

-- The entries `row` with a record of the state on top. If the state has no key, only `row`.
abbrev pub entries_with_record_of_state : State → Option Key → List Entry → List Entry
entries_with_record_of_state s None row = row
entries_with_record_of_state s (Some k) row = key_record k (running s ∷ []) ∷ row

-- The key is not in the memory. Holds if there is no key.
abbrev pub IsKeyNewIfAny : Option Key → List Key → Type 0
IsKeyNewIfAny None memory = Unit {0}
IsKeyNewIfAny (Some k) memory = IsNew k memory

-- The threads `ts` wait together above the entries `row`. If there are none, there is no entry for
-- them.
pub data ThreadsPendAbove (ts : List Thread) (row : List Entry) : List Entry → Type 0 where
  none_waits : ts ≡ [] → ThreadsPendAbove ts row row
  some_wait : ThreadsPendAbove ts row (thread_group ts ∷ row)

module _ (program : Program) (text : Text) (t : MemoAnalysis) (d : Direction) where
  -- The key is in the memory and fails.
  pub record IsKnownToFail (k : Key) (memory : List Key) : Type 0 where
    pub known : IsIn k memory
    pub fails : KeyFails program text t k

  -- An event of a search with the memory `memory`: its cost, the entries before it, and the memory
  -- and entries after it.
  pub data IsSearchEvent (memory : List Key) : (cost : ℕ) → List Entry → List Key → List Entry → Type 0 where
    -- A thread that is known to fail is dropped.
    drops : (s : State) (k : Key) (rest : List Entry) → memo_key_at t s ≡ Some k → IsKnownToFail k memory
        → IsSearchEvent memory 1 (one_thread (running s) ∷ rest) memory rest
    -- A thread executes an operation.
    turns : (s : State) (ts : List Thread) (key : Option Key) (rest : List Entry) → act program text d s ≡ goes ts
        → memo_key_at t s ≡ key → IsKeyNewIfAny key memory
        → IsSearchEvent memory 1 (one_thread (running s) ∷ rest) memory
        (thread_entries ts ++ entries_with_record_of_state s key rest)
    -- A thread executes a char loop with a maximum, which tests `n` characters.
    tries_chars : (s : State) (least most : ℕ) (greedy : Bool) (n : ℕ) (ts : List Thread) (key : Option Key)
        (rest : List Entry) → slice_get program.insns s.ip ≡ Some (Loop1CharBody least most greedy)
        → (most == unlimited) ≡ false
        → act program text d s ≡ scans n ts → memo_key_at t s ≡ key → IsKeyNewIfAny key memory
        → IsSearchEvent memory (n + 1) (one_thread (running s) ∷ rest) memory
        (thread_entries ts ++ entries_with_record_of_state s key rest)
    -- A thread executes a char loop without a maximum, which accepts fewer characters than it
    -- requires.
    too_few : (s : State) (test : ℕ → Bool) (least place : ℕ) (greedy : Bool) (rest : List Entry)
        → StateIsAtUnboundedCharLoop program s test least greedy → place_at text s.pos ≡ Some place
        → passing text test d place < least
        → IsSearchEvent memory (passing text test d place + 2) (one_thread (running s) ∷ rest) memory rest
    -- A greedy loop is known to fail from its exit after `n` characters. The cost is the same as if
    -- the next character were tested.
    fails_from : (s : State) (test : ℕ → Bool) (least place n : ℕ) (rest : List Entry)
        → StateIsAtUnboundedCharLoop program s test least true → place_at text s.pos ≡ Some place
        → least ≤ n → n ≤ passing text test d place
        → ((m : ℕ) → least ≤ m → m < n → IsNew (key_after_chars program text t d test place s m) memory)
        → IsKnownToFail (key_after_chars program text t d test place s n) memory
        → IsSearchEvent memory (n + 2) (one_thread (running s) ∷ rest) memory
        (exits_with_records program text t d test place s least (n - least) ++ rest)
    -- A greedy loop continues at its furthest exit. `n` characters are accepted, and one more is
    -- tested.
    takes_furthest : (s : State) (test : ℕ → Bool) (least place n : ℕ) (rest : List Entry)
        → StateIsAtUnboundedCharLoop program s test least true → place_at text s.pos ≡ Some place
        → n ≡ passing text test d place → least ≤ n
        → ((m : ℕ) → least ≤ m → m < n + 1 → IsNew (key_after_chars program text t d test place s m) memory)
        → IsSearchEvent memory (n + 2) (one_thread (running s) ∷ rest) memory
        (one_thread (running (behind text d place s n))
        ∷ key_record (key_after_chars program text t d test place s n)
        (threads_after_chars program text t d test place s n)
        ∷ exits_with_records program text t d test place s least (n - least) ++ rest)
    -- A lazy loop continues at its nearest exit, and tests one more character.
    takes_nearest : (s : State) (test : ℕ → Bool) (least place : ℕ) (rest row : List Entry)
        → StateIsAtUnboundedCharLoop program s test least false → place_at text s.pos ≡ Some place
        → least ≤ passing text test d place
        → ThreadsPendAbove (pending_loop_threads text test d (least + 1) place s) rest row
        → IsSearchEvent memory (least + 2) (one_thread (running s) ∷ rest) memory
        (one_thread (running (behind text d place s least)) ∷ row)
    -- A waiting lazy loop is dropped, because it is known to fail from its position.
    drops_loop : (s : State) (test : ℕ → Bool) (least place : ℕ) (rest : List Entry)
        → StateIsAtUnboundedCharLoop program s test least false → place_at text s.pos ≡ Some place
        → IsKnownToFail (key_after_chars program text t d test place s 0) memory
        → IsSearchEvent memory 1 (thread_group (pending_loop_threads text test d 0 place s) ∷ rest) memory rest
    -- A waiting lazy loop continues at its next exit, and tests one more character.
    resumes_loop : (s : State) (test : ℕ → Bool) (least place : ℕ) (rest row : List Entry)
        → StateIsAtUnboundedCharLoop program s test least false → place_at text s.pos ≡ Some place
        → IsNew (key_after_chars program text t d test place s 0) memory
        → ThreadsPendAbove (pending_loop_threads text test d 1 place s)
        (key_record (key_after_chars program text t d test place s 0)
        (pending_loop_threads text test d 0 place s) ∷ rest) row
        → IsSearchEvent memory 2 (thread_group (pending_loop_threads text test d 0 place s) ∷ rest) memory
        (one_thread (running (behind text d place s 0)) ∷ row)
    -- A thread executes a lookaround, and its contents are searched.
    searches_contents : (s : State) (look : LookaroundInsn) (turns : ℕ) (f : Found) (rest : List Entry)
        → lookaround_at (slice_get program.insns s.ip) ≡ Some look
        → search program text turns look.inner (running (state_at_next_ip s) ∷ []) ≡ Some f
        → IsSearchEvent memory (f.steps + 1) (one_thread (running s) ∷ rest) memory
        (thread_entries (after_lookaround look.negate (state_with_ip look.continuation s) f.end) ++ rest)
    -- A waiting thread is resumed.
    resumes : (s : State) (rest : List Entry)
        → IsSearchEvent memory 1 (one_thread (waiting s) ∷ rest) memory (one_thread (running s) ∷ rest)
    -- A record is reached, and its key is added to the memory.
    reaches : (k : Key) (ts : List Thread) (rest : List Entry)
        → IsSearchEvent memory 1 (key_record k ts ∷ rest) (k ∷ memory) rest

  -- Events lead from one memory and list of entries to others. Their total cost is `work`.
  pub data Costs (memory : List Key) (first : List Entry) : (work : ℕ) → List Key → List Entry → Type 0 where
    nothing_yet : Costs memory first 0 memory first
    then_happens : (work cost : ℕ) (now now' : List Key) (row row' : List Entry) → Costs memory first work now row
        → IsSearchEvent now cost row now' row' → Costs memory first (work + cost) now' row'
