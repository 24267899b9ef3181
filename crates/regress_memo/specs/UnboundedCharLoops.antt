-- The steps of char loops without a maximum. For each place there is a record of the threads that
-- the loop leaves from there.
use Rattle.std.specs.Prelude.{◌≡◌, ◌≤◌, ◌<◌, ℕ, ◌+◌, ◌-◌, Bool, true, false, List, [], ◌∷◌, map, reverse, Some, slice_get}
use Rattle.regex_meaning.specs.NumberListHelpers.{numbers_from}
use Rattle.regex_meaning.specs.Text.{Text, Direction, last_place, moved}
use Rattle.regex_meaning.specs.CodeUnitOffsets.{place_at, units}
use Rattle.regex_meaning.specs.CompilationRelation.{Program, Loop1CharBody}
use Rattle.regress_machine.specs.Machine.{State, Thread, running, waiting}
use Rattle.regress_machine.specs.ThreadSimulation.{AllFindNothing}
use Rattle.regress_machine.specs.CharLoopExitStatesByPreference.{behind}
use Rattle.regress_memo.specs.Liveness.{Liveness, IsLivenessFor, Agree, outermost}
use Rattle.regress_memo.specs.DistinctLists.{IsNew}
use Rattle.regress_memo.specs.MemoSearch.{Key, Entry, one_thread, thread_group, key_record, AreSound, IsMemoStep}
use Rattle.regress_memo.specs.ThreadPotentials.{each_noted}
use Rattle.regress_memo.specs.LoopDataKeyCodes.{Question, HasSlotsOfProgram}
use Rattle.regress_memo.specs.CharLoopExitThreadLists.{passing, greedy_loop_threads, pending_loop_threads}
use Rattle.regress_memo.specs.UnboundedCharLoopMemoKeys.{CharLoopRecords, run_key, plan_keys}

module _ (program : Program) (text : Text) (a : Liveness) (questions : ℕ → List Question)
    (way : ℕ → Direction) (ips : List ℕ) (taken : Key → ℕ) (d : Direction) (test : ℕ → Bool) (s : State) where
  -- The key of the threads that the loop leaves `n` characters after a place.
  abbrev pub key_behind : (place n : ℕ) → Key
  key_behind place n = run_key program text a questions way ips taken d (moved text d n place) s

  -- The threads that wait after `least` or more characters, with their keys. The furthest one comes
  -- first.
  abbrev pub placed : (place least count : ℕ) → List (Thread × Key)
  placed place least count =
      map (λ n. (waiting (behind text d place s n), key_behind place n)) (reverse (numbers_from least count))

  -- The memo table has no key of a place after at least `least` and fewer than `end` characters.
  abbrev pub ExitKeysAreNew : (memory : List Key) (place least end : ℕ) → Type 0
  ExitKeysAreNew memory place least end = (n : ℕ) → least ≤ n → n < end → IsNew (key_behind place n) memory

  -- A sound state at a char loop whose maximum is out of reach.
  pub record AtCharLoop (greedy : Bool) (least most place : ℕ) : Type 0 where
    pub run : slice_get program.insns s.ip ≡ Some (Loop1CharBody least most greedy)
    pub records : CharLoopRecords program a questions way ips d test greedy s.ip
    pub at : place_at text s.pos ≡ Some place
    pub unlimited : passing text test d place < most
    pub of : HasSlotsOfProgram program s
    pub sound : Agree a (units text) outermost d s s

  module _ (memory : List Key) where
    -- The entries replace the threads in a memo step with the keys of a plan.
    abbrev pub GivesRun : (ts : List Thread) → List Entry → Type 0
    GivesRun ts entries =
        IsMemoStep program text a (plan_keys program text a questions way ips taken) d memory ts entries

    module _ (place least : ℕ) where
      -- The steps of a greedy char loop. There is no step below its records.
      pub record GreedyGives : Type 0 where
        -- The loop is known to fail from some place on, so only nearer places are left.
        pub known : (n : ℕ) → least ≤ n → n ≤ passing text test d place
            → AllFindNothing program text d (greedy_loop_threads text test d 0 (moved text d n place) s)
            → ExitKeysAreNew memory place least n
            → GivesRun (running s ∷ [])
            (each_noted (greedy_loop_threads text test d 0 (moved text d n place) s) (placed place least (n - least)))
        -- The loop is not known to fail from any place.
        pub all : (n : ℕ) → n ≡ passing text test d place → least ≤ n → ExitKeysAreNew memory place least (n + 1)
            → GivesRun (running s ∷ [])
            (each_noted [] ((running (behind text d place s n), key_behind place n) ∷ placed place least (n - least)))
        -- The loop is known to find an end from some place on. The threads from there on come first,
        -- as one group.
        pub ahead : (n : ℕ) → least ≤ n → n ≤ passing text test d place → ExitKeysAreNew memory place least n
            → GivesRun (running s ∷ [])
            (thread_group (greedy_loop_threads text test d 0 (moved text d n place) s)
            ∷ each_noted (greedy_loop_threads text test d 0 (moved text d n place) s) (placed place least (n - least)))
        -- There are too few characters, so no thread is left.
        pub none : passing text test d place < least → GivesRun (running s ∷ []) []

      -- The steps of a lazy char loop. It continues at its nearest place. The other places wait
      -- together, and a record is made when they are resumed.
      pub record LazyGives : Type 0 where
        pub first : least ≤ passing text test d place
            → GivesRun (running s ∷ [])
            (one_thread (running (behind text d place s least)) ∷ thread_group
            (pending_loop_threads text test d (least + 1) place s) ∷ [])
        pub none : passing text test d place < least → GivesRun (running s ∷ []) []

-- ---- Laws

-- If the threads that wait from a place of a lazy char loop are resumed under a new key, the one at that place
-- runs, those from the next place on wait, and below them is a record of the key.
abbrev pub LazyRunsComeBack : Type 0
LazyRunsComeBack =
    (program : Program) (text : Text) (a : Liveness) (questions : ℕ → List Question) (way : ℕ → Direction)
    (ips : List ℕ) (taken : Key → ℕ) (d : Direction) (test : ℕ → Bool) (s : State) (memory : List Key) (place : ℕ)
    → IsLivenessFor program text a → place ≤ last_place text
    → CharLoopRecords program a questions way ips d test false s.ip
    → HasSlotsOfProgram program s
    → AreSound program text a (plan_keys program text a questions way ips taken) d
    (pending_loop_threads text test d 0 place s)
    → taken (key_behind program text a questions way ips taken d test s place 0) ≡ 1
    → IsNew (key_behind program text a questions way ips taken d test s place 0) memory
    → GivesRun program text a questions way ips taken d test s memory (pending_loop_threads text test d 0 place s)
    (one_thread (running (behind text d place s 0)) ∷ thread_group (pending_loop_threads text test d 1 place s)
    ∷ key_record (key_behind program text a questions way ips taken d test s place 0)
    (pending_loop_threads text test d 0 place s) ∷ [])

-- The steps of char loops without a maximum are memo steps.
pub record UnboundedCharLoopsAreMemoSteps : Type 0 where
  pub greedy : (program : Program) (text : Text) (a : Liveness) (questions : ℕ → List Question) (way : ℕ → Direction)
      (ips : List ℕ) (taken : Key → ℕ) (d : Direction) (test : ℕ → Bool) (s : State) (memory : List Key)
      (place least most : ℕ) → IsLivenessFor program text a
      → AtCharLoop program text a questions way ips taken d test s true least most place
      → ((n : ℕ) → taken (key_behind program text a questions way ips taken d test s place n) ≡ 0)
      → GreedyGives program text a questions way ips taken d test s memory place least
  pub lazy : (program : Program) (text : Text) (a : Liveness) (questions : ℕ → List Question) (way : ℕ → Direction)
      (ips : List ℕ) (taken : Key → ℕ) (d : Direction) (test : ℕ → Bool) (s : State) (memory : List Key)
      (place least most : ℕ) → IsLivenessFor program text a
      → AtCharLoop program text a questions way ips taken d test s false least most place
      → LazyGives program text a questions way ips taken d test s memory place least
  pub lazy_again : LazyRunsComeBack
