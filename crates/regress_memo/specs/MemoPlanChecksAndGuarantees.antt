-- What is checked of a memo plan, and what follows: keys, steps of threads, and the work of all
-- attempts.
use Rattle.std.specs.Prelude.{◌≡◌, ◌≤◌, ℕ, ◌+◌, ◌*◌, Bool, true, false, List, [], ◌∷◌, ◌++◌, Option, Some, None, slice_get}
use Rattle.std.specs.List.{sum_by}
use Rattle.regex_meaning.specs.NumberListHelpers.{numbers_from}
use Rattle.regex_meaning.specs.Text.{Text, Direction}
use Rattle.regex_meaning.specs.CodeUnitOffsets.{units}
use Rattle.regex_meaning.specs.CompilationRelation.{Program}
use Rattle.regress_machine.specs.Machine.{State, Thread, running, waiting, goes, Found, after_lookaround, state_with_ip, state_at_next_ip, act, search}
use Rattle.regress_machine.specs.ThreadSimulation.{AllFindNothing}
use Rattle.regress_memo.specs.Liveness.{Liveness, Agree, outermost, IsLivenessFor}
use Rattle.regress_memo.specs.MemoKeys.{NoGroupsAreLive}
use Rattle.regress_memo.specs.DistinctLists.{IsNew}
use Rattle.regress_memo.specs.MemoSearch.{Key, Entry, one_thread, key_record, thread_entries, FindEnd, AreKeys, IsMemoStep}
use Rattle.regress_memo.specs.ThreadPotentials.{is_one_of}
use Rattle.regress_memo.specs.SuccessiveMatches.{Attempted, ready_at}
use Rattle.regress_memo.specs.LoopDataKeyCodes.{Question, plan_code, plan_codes, AsksAll, HasSlotsOfProgram, key_of}
use Rattle.regress_memo.specs.UnboundedCharLoopMemoKeys.{char_loop_greediness_at, insn_before, plan_keys}
use Rattle.regress_memo.specs.SkippedLookarounds.{LookaroundInsn, lookaround_at}

module _ (program : Program) (text : Text) (a : Liveness) (questions : ℕ → List Question)
    (way : ℕ → Direction) (ips : List ℕ) (taken : Key → ℕ) where
  -- The liveness analysis is sound, no groups are live, and the questions include all live data.
  pub record IsPlan : Type 0 where
    pub liveness : IsLivenessFor program text a
    pub no_groups : NoGroupsAreLive a
    pub asks : AsksAll questions a

  -- ---- Steps of threads

  -- A sound thread at a recording instruction that is not the body of a char loop, whose key is
  -- new.
  pub record RecordsNewKey (d : Direction) (memory : List Key) (s : State) : Type 0 where
    pub records : is_one_of ips s.ip ≡ true
    pub goes : way s.ip ≡ d
    pub no_body : char_loop_greediness_at (insn_before program s.ip) ≡ None
    pub of : HasSlotsOfProgram program s
    pub sound : Agree a (units text) outermost d s s
    pub one : taken (key_of (plan_code questions) s) ≡ 1
    pub new : IsNew (key_of (plan_code questions) s) memory

  module _ (d : Direction) (memory : List Key) where
    -- The entries replace the threads in a memo step with the keys of the plan.
    abbrev pub GivesByPlan : List Thread → List Entry → Type 0
    GivesByPlan ts entries =
        IsMemoStep program text a (plan_keys program text a questions way ips taken) d memory ts entries

    -- The memo steps of a thread: it is resumed if it waits, and executed with or without a record
    -- if it runs.
    pub record ThreadGives (s : State) : Type 0 where
      pub taken_up : GivesByPlan (waiting s ∷ []) (one_thread (running s) ∷ [])
      pub turned : (ts : List Thread) → act program text d s ≡ goes ts
          → GivesByPlan (running s ∷ []) (thread_entries ts)
      pub recorded : (ts : List Thread) → act program text d s ≡ goes ts → RecordsNewKey d memory s
          → GivesByPlan (running s ∷ []) (thread_entries ts ++ key_record (key_of (plan_code questions) s)
          (running s ∷ []) ∷ [])

    -- The memo steps of a lookaround: it is decided by a search of its contents, or by what is
    -- known of them.
    pub record LookGives (s : State) (look : LookaroundInsn) : Type 0 where
      pub searched : (turns : ℕ) (f : Found) → search program text turns look.inner
          (running (state_at_next_ip s) ∷ []) ≡ Some f
          → GivesByPlan (running s ∷ []) (thread_entries
          (after_lookaround look.negate (state_with_ip look.continuation s) f.end))
      pub fails : AllFindNothing program text look.inner (running (state_at_next_ip s) ∷ [])
          → GivesByPlan (running s ∷ []) (thread_entries
          (after_lookaround look.negate (state_with_ip look.continuation s) None))
      pub reaches : look.negate ≡ true → FindEnd program text look.inner (running (state_at_next_ip s) ∷ [])
          → GivesByPlan (running s ∷ []) []

  -- ---- Work

  -- The cost of all keys of recording instructions.
  abbrev pub all_keys_cost : (key_cost : ℕ → ℕ) → ℕ
  all_keys_cost key_cost = sum_by (λ ip. key_cost ip * plan_codes questions ip) ips * (units text + 1)

  -- The work of all attempts in a text, up to the next start position, is linear in the text.
  abbrev pub AttemptsAreLinear : Type 0
  AttemptsAreLinear = (key_cost : ℕ → ℕ) (weight : List Thread → ℕ) (row : ℕ → List Thread)
      (from next looks work : ℕ) (memory : List Key) (starts : List ℕ)
      → Attempted program text a (plan_keys program text a questions way ips taken) (λ k. key_cost k.ip) weight row
      from next looks work memory starts
      → (last : ℕ) → next ≤ last
      → work + looks
      ≤ 2 * (sum_by (λ at. ready_at program text a (plan_keys program text a questions way ips taken)
      (λ k. key_cost k.ip) weight row at) (numbers_from 0 (last + 1)) + last)
      + 3 * all_keys_cost key_cost

  -- What a checked plan guarantees.
  pub record PlanServes : Type 0 where
    pub keys : AreKeys program text a (plan_keys program text a questions way ips taken)
    pub gives : (d : Direction) (memory : List Key) (s : State) → ThreadGives d memory s
    pub looks : (d : Direction) (memory : List Key) (s : State) (look : LookaroundInsn)
        → lookaround_at (slice_get program.insns s.ip) ≡ Some look → LookGives d memory s look
    pub linear : AttemptsAreLinear

-- ---- Steps below records

-- The number of steps below a record: 0 for a record of a greedy char loop, 1 for others.
abbrev pub steps_below_record_of_loop : Option Bool → ℕ
steps_below_record_of_loop (Some true) = 0
steps_below_record_of_loop _ = 1

-- The number of steps below a record of a key, as the laws on threads and char loops require.
abbrev pub plan_steps_below_record : Program → Key → ℕ
plan_steps_below_record program k = steps_below_record_of_loop (char_loop_greediness_at (insn_before program k.ip))

-- ---- Laws

-- These numbers of steps are right for threads and for char loops.
pub record ZeroOrOneStepBelowRecord : Type 0 where
  pub threads : (program : Program) (k : Key) → char_loop_greediness_at (insn_before program k.ip) ≡ None
      → plan_steps_below_record program k ≡ 1
  pub greedy : (program : Program) (ip at code : ℕ) → char_loop_greediness_at (slice_get program.insns ip) ≡ Some true
      → plan_steps_below_record program (record { ip = ip + 1; at = at; code = code }) ≡ 0
  pub lazy : (program : Program) (ip at code : ℕ) → char_loop_greediness_at (slice_get program.insns ip) ≡ Some false
      → plan_steps_below_record program (record { ip = ip + 1; at = at; code = code }) ≡ 1

-- Each plan that passes its checks has these guarantees.
abbrev pub CheckedMemoPlansAreSound : Type 0
CheckedMemoPlansAreSound = (program : Program) (text : Text) (a : Liveness) (questions : ℕ → List Question)
    (way : ℕ → Direction) (ips : List ℕ) (taken : Key → ℕ) → IsPlan program text a questions way ips taken
    → PlanServes program text a questions way ips taken
