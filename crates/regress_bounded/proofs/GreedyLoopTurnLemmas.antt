-- A turn at a greedy unbounded char loop with enough characters takes one event and exactly its cost.
use Rattle.std.proofs.Common.{◌≡◌, ◌≤◌, ◌<◌, ℕ, ◌+◌, ◌-◌, Bool, true, List, [], ◌∷◌, ◌++◌, Option, Some, None, sym, subst, arith, inl, inr}
use Rattle.std.specs.Prelude.{◌⊎◌}
use Rattle.regex_meaning.specs.Text.{Text, rightwards}
use Rattle.regex_meaning.specs.CodeUnitOffsets.{HasRisingPlaceOffsets, units}
use Rattle.regex_meaning.specs.CompilationRelation.{Program}
use Rattle.regress_program.specs.InsnsAsSpec.{insn_as_spec_insn}
use Rattle.regress_machine.specs.Machine as machine
use Rattle.regress_machine.specs.Machine.{running, test_of}
use Rattle.regress_memo.specs.CharLoopExitThreadLists.{passing}
use Rattle.regress_memo.specs.MemoSearch.{one_thread, key_record}
use Rattle.regress_memo.specs.MemoContents.{has_failure}
use Rattle.regress_bounded.specs.declared.memo_and_work_budget.MemoAndWorkBudget.{MemoAndWorkBudget}
use Rattle.regress_bounded.specs.declared.pending_stack.UnboundedCharLoop.{UnboundedCharLoop}
use Rattle.regress_bounded.specs.declared.pending_stack.StackEntry.{StackEntry}
use Rattle.regress_pikevm.specs.declared.pikevm.states.State.{State}
use Rattle.regress_bounded.specs.BoundedState.{BoundedAttempt, IsStateAtUnboundedLoopOverInsn, ScansWithMemo, IsPositionAfterCharsOfClass, AttemptHasState, TakesOneEvent, NextEventExceedsWorkLeft}
use Rattle.regress_bounded.specs.BoundedState.{MayBeNextSearchEvent}
use Rattle.regress_bounded.specs.BudgetSpending.{LowersBudgetByWork, WorkExceedsBudget}
use Rattle.regress_bounded.specs.WorkOfCharLoopsAndAttempts.{StateIsAtUnboundedCharLoop, key_after_chars, threads_after_chars, exits_with_records}
use Rattle.regress_bounded.proofs.LazyLoopTurnsAndResumption.{few-passed, PassesOver, unbounded_loop-by}
use Rattle.regress_bounded.proofs.CharLoopEventLemmas.{known-happens, furthest-happens, greedy-at-least}
use Rattle.regress_bounded.proofs.BoundedStateLemmas.{CostsAtLeast, comes-on, falls-short}

module _ {P : Type 0} {offset : P → ℕ} {program : Program} {text : Text} {run : UnboundedCharLoop} {limit : ℕ} {s : machine.State} {passed : ℕ} {pos : P}
    (p : PassesOver offset program text run limit s passed pos) (few : limit ≤ run.least) (le : run.least ≤ passed) where
  -- If enough characters pass, the position is behind the required ones.
  pub all-passed : IsPositionAfterCharsOfClass offset text rightwards p.test p.place run.least pos
  all-passed =
      let most = p.over.few in
      let same : passed ≡ run.least = omega (arith, most, few, le) in
      subst (λ n. IsPositionAfterCharsOfClass offset text rightwards p.test p.place n pos) same p.over.past

  module _ (c : MemoAndWorkBudget) (old last : List (StackEntry P)) (next : Option (State P)) (n : ℕ) where
    abbrev Meets : (test : ℕ → Bool) (place : ℕ) → Option (State P) → Type 0
    Meets test place next = ScansWithMemo offset program text c.memo.memo_analysis (has_failure c.memo) test place s run.least c.left old last (next, n)

    -- The scan has met these exits, for each test and place.
    abbrev pub HasMet : Type 0
    HasMet = (test : ℕ → Bool) (place : ℕ) → test_of program (Some (insn_as_spec_insn run.body)) ≡ Some test → IsPositionAfterCharsOfClass offset text rightwards test place run.least pos → Meets test place next

    pub met-few : HasRisingPlaceOffsets text → HasMet → n ≤ units text
    met-few is_text met =
        let few = few-passed text is_text rightwards p.test p.place p.inside in
        let reached = passes next (met p.test p.place p.tests all-passed) in
        omega (arith, few, reached)
      where
        passes : (next : Option (State P)) → Meets p.test p.place next → n ≤ passing text p.test rightwards p.place
        passes None w = w.0.pass
        passes (Some here) w = let e = w.all in omega (arith, e)

module _ {P : Type 0} {offset : P → ℕ} {program : Program} {text : Text} {b : BoundedAttempt} {s : machine.State} {stack : List (StackEntry P)} {c : MemoAndWorkBudget}
    (h : AttemptHasState offset program text b (one_thread (running s) ∷ []) stack c) {run : UnboundedCharLoop} (here : IsStateAtUnboundedLoopOverInsn offset program text run true s)
    {limit : ℕ} {passed : ℕ} {pos : P} (p : PassesOver offset program text run limit s passed pos) (few : limit ≤ run.least) (le : run.least ≤ passed) (last : List (StackEntry P)) (next : Option (State P)) (n : ℕ)
    (met : HasMet p few le c stack last next n) where
  abbrev unbounded_loop : StateIsAtUnboundedCharLoop program s p.test run.least true
  unbounded_loop = unbounded_loop-by here p.test p.tests

  abbrev its : Meets p few le c stack last next n p.test p.place next
  its = met p.test p.place p.tests (all-passed p few le)

  -- If the cost exceeds the work left, the work is too little.
  pub met-over : (c' : MemoAndWorkBudget) → WorkExceedsBudget (n + 2) c.left c'.left → NextEventExceedsWorkLeft offset program text b h c'
  met-over c' spent = falls-short offset program text b h (n + 2) c' (by next its) spent
    where
      by : (next : Option (State P)) → Meets p few le c stack last next n p.test p.place next → CostsAtLeast offset program text b h (n + 2)
      by None w = greedy-at-least offset program text b s h p.test run.least p.place unbounded_loop p.at n w.0.enough w.0.pass w.0.unknown
      by (Some furthest) w =
          let all = w.all in
          greedy-at-least offset program text b s h p.test run.least p.place unbounded_loop p.at n w.enough (omega (arith, all)) (λ m first less. w.unknown m first (omega (arith, less)))

  pub met-goes : (c' : MemoAndWorkBudget) → c'.memo ≡ c.memo → LowersBudgetByWork (n + 2) c.left c'.left → TakesOneEvent offset program text b h next last c'
  met-goes c' same spent = by next its
    where
      known : has_failure c.memo (key_after_chars program text c.memo.memo_analysis rightwards p.test p.place s n) ≡ true ⊎ (c.left < n + 2) → has_failure c.memo (key_after_chars program text c.memo.memo_analysis rightwards p.test p.place s n) ≡ true
      known (inl is) = is
      known (inr out) = absurd (let left : c.left ≡ n + 2 + c'.left = spent in omega (arith, left, out))

      by : (next : Option (State P)) → Meets p few le c stack last next n p.test p.place next → TakesOneEvent offset program text b h next last c'
      by None w =
          comes-on offset program text b h None (exits_with_records program text c.memo.memo_analysis rightwards p.test p.place s run.least (n - run.least) ++ h.row) last (n + 2) c'
          (known-happens offset program text b s h p.test run.least p.place unbounded_loop p.at n w.0.enough w.0.pass w.0.unknown (known w.1)) (w.0.rows h.row h.is) same spent
      by (Some furthest) w =
          let row = key_record (key_after_chars program text c.memo.memo_analysis rightwards p.test p.place s n) (threads_after_chars program text c.memo.memo_analysis rightwards p.test p.place s n)
          ∷ exits_with_records program text c.memo.memo_analysis rightwards p.test p.place s run.least (n - run.least) ++ h.row in
          comes-on offset program text b h (Some furthest) row last (n + 2) c'
          (subst (λ r. MayBeNextSearchEvent offset program text b h (n + 2) h.now (one_thread (running r) ∷ row)) (sym w.is_here)
          (furthest-happens offset program text b s h p.test run.least p.place unbounded_loop p.at n w.all w.enough w.unknown)) (w.rows h.row h.is) same spent
