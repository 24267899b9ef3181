-- The results of lookarounds, whose contents are searched within the work budget.
use Rattle.std.specs.Prelude.{◌≡◌, ◌+◌, ℕ, ◌⊎◌, List, [], ◌∷◌, Option, Some, None, option_map, Result, Ok, Err, slice_get}
use Rattle.regex_meaning.specs.Text.{Text, Direction}
use Rattle.regex_meaning.specs.CompilationRelation.{Program}
use Rattle.regress_machine.specs.Machine as machine
use Rattle.regress_machine.specs.Machine.{Thread, running, waiting, Found, after_lookaround, state_with_ip, state_at_next_ip, search}
use Rattle.regress_memo.specs.SkippedLookarounds.{LookaroundInsn, lookaround_at}
use Rattle.regress_memo.specs.MemoSearch.{Answers}
use Rattle.regress_pikevm.specs.declared.pikevm.states.State.{State}
use Rattle.regress_pikevm.specs.States.{machine_state_of, current_thread_if_any, threads_of_stack}
use Rattle.regress_bounded.specs.BudgetSpending.{LowersBudgetByWork, WorkExceedsBudget}
use Rattle.regress_bounded.specs.declared.memo_and_work_budget.AttemptAbortReason.{AttemptAbortReason}
use Rattle.regress_bounded.specs.declared.memo_and_work_budget.AttemptAbortReason.TheVariants.{Memory, Work}

module _ (program : Program) (text : Text) where
  -- The search of these threads has a result (as a proposition).
  abbrev pub HasResult : Direction → List Thread → Type 0
  HasResult d ts = ∥ Answers program text d ts ∥₁

  -- The lookaround at a state, and the result of the search of its contents.
  pub record ContentsOfLookaround (s : machine.State) : Type 0 where
    pub look : LookaroundInsn
    pub there : lookaround_at (slice_get program.insns s.ip) ≡ Some look
    pub turns : ℕ
    pub found : Found
    pub searches : search program text turns look.inner (running (state_at_next_ip s) ∷ []) ≡ Some found

module _ {P : Type 0} (offset : P → ℕ) where
  -- The first thread becomes current, and the states `rest` remain. Resuming a waiting thread takes
  -- one unit of work.
  abbrev pub ResumesFirstThread : List Thread → Result (Option (State P)) AttemptAbortReason → (rest : List (State P))
      → (old new : ℕ) → Type 0
  ResumesFirstThread ts (Ok None) rest old new = (ts ≡ []) × (new ≡ old)
  ResumesFirstThread ts (Ok (Some s)) rest old new =
      ((ts ≡ running (machine_state_of offset s) ∷ threads_of_stack offset rest) × (new ≡ old))
      ⊎ ((ts ≡ waiting (machine_state_of offset s) ∷ threads_of_stack offset rest) × LowersBudgetByWork 1 old new)
  ResumesFirstThread ts (Err Memory) rest old new = ⊥
  ResumesFirstThread ts (Err Work) rest old new =
      ((s : State P) × (ts ≡ waiting (machine_state_of offset s) ∷ threads_of_stack offset rest))
      × WorkExceedsBudget 1 old new

  -- A search has the result `f`. It takes as much work as the machine takes steps, and is refused
  -- for lack of work only if that is more than is left.
  abbrev pub SearchResultIs : Found → Result (Option (State P)) AttemptAbortReason → (old new : ℕ) → Type 0
  SearchResultIs f (Ok end) old new =
      (option_map (λ s. machine_state_of offset s) end ≡ f.end) × LowersBudgetByWork f.steps old new
  SearchResultIs f (Err Memory) old new = Unit {0}
  SearchResultIs f (Err Work) old new = WorkExceedsBudget f.steps old new

  -- A lookaround leads to the next thread, if there is one. It takes one unit of work more than the
  -- search of its contents.
  abbrev pub LookaroundResultIs : {program : Program} {text : Text} {s : machine.State}
      → ContentsOfLookaround program text s → Result (Option (State P)) AttemptAbortReason → (old new : ℕ) → Type 0
  LookaroundResultIs {s = s} x (Ok next) old new =
      (current_thread_if_any offset next
      ≡ after_lookaround x.look.negate (state_with_ip x.look.continuation s) x.found.end)
      × LowersBudgetByWork (x.found.steps + 1) old new
  LookaroundResultIs x (Err Memory) old new = Unit {0}
  LookaroundResultIs x (Err Work) old new = WorkExceedsBudget (x.found.steps + 1) old new
