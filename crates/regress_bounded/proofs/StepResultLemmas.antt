-- A step results in the next thread, in an end, or in the error of a function that it calls.
use Rattle.std.proofs.Common.{◌≡◌, ◌<◌, ℕ, ◌+◌, List, Option, refl, sym, subst, arith}
use Rattle.std.specs.Prelude.{Result, Ok, Err, IsErrAnd}
use Rattle.regex_meaning.specs.Text.{Text}
use Rattle.regex_meaning.specs.CompilationRelation.{Program}
use Rattle.regress_memo.specs.MemoSearch.{Entry}
use Rattle.regress_pikevm.specs.declared.pikevm.states.State.{State}
use Rattle.regress_bounded.specs.declared.memo_and_work_budget.MemoAndWorkBudget.{MemoAndWorkBudget}
use Rattle.regress_bounded.specs.declared.memo_and_work_budget.AttemptAbortReason.{AttemptAbortReason}
use Rattle.regress_bounded.specs.declared.memo_and_work_budget.AttemptAbortReason.TheVariants.{Memory, Work}
use Rattle.regress_bounded.specs.declared.pending_stack.StackEntry.{StackEntry}
use Rattle.regress_bounded.specs.declared.thread_steps_and_backtracking.StepResult.{StepResult}
use Rattle.regress_bounded.specs.declared.thread_steps_and_backtracking.StepResult.TheVariants.{ContinueWith, End}
use Rattle.regress_bounded.specs.BoundedState.{BoundedAttempt, AttemptHasState, HasAttemptState, NextEventExceedsWorkLeft, MayAbortAttempt, TakesOneEvent, ContinuesOrStops, AttemptEndsAt}
use Rattle.regress_bounded.specs.BoundedState.{StepResultIs, StepResultInEachAttempt, AttemptResultIs}
use Rattle.regress_bounded.proofs.SearchEventCostLemmas.{cost-some}

-- A property of an error holds for the result that hands the error on.
pub handed-on : {X : Type 0} (P : Result X AttemptAbortReason → Type 0) (r : Result X AttemptAbortReason) (e : AttemptAbortReason) → IsErrAnd r (λ f. f ≡ e) → P (Err e) → P r
handed-on P (Ok x) e h p = absurd h
handed-on P (Err f) e h p = subst (λ f. P (Err f)) (sym h) p

module _ {P : Type 0} {offset : P → ℕ} {program : Program} {text : Text} {b : BoundedAttempt} {front : List Entry} {stack : List (StackEntry P)} {c : MemoAndWorkBudget}
    (h : AttemptHasState offset program text b front stack c) where
  -- An event takes at least one unit of work.
  pub comes-less : {next : Option (State P)} {new : List (StackEntry P)} {after : MemoAndWorkBudget} → TakesOneEvent offset program text b h next new after → after.left < c.left
  comes-less {after = after} x = let e : c.left ≡ x.cost + after.left = x.spent in let some = cost-some x.happens in omega (arith, e, some)

  -- An attempt may stop if the next event costs more than the work left.
  pub may-stop : (e : AttemptAbortReason) (after : MemoAndWorkBudget) → (e ≡ Work → NextEventExceedsWorkLeft offset program text b h after) → MayAbortAttempt offset program text b h e after
  may-stop Memory after short = tt
  may-stop Work after short = short refl

  module _ (stack' : List (StackEntry P)) (after : MemoAndWorkBudget) where
    pub goes-short : (r : Result (Option (State P)) AttemptAbortReason) (e : AttemptAbortReason) → IsErrAnd r (λ f. f ≡ e) → e ≡ Work → NextEventExceedsWorkLeft offset program text b h after
        → ContinuesOrStops offset program text b h r stack' after
    goes-short r e handed is short = handed-on (λ r. ContinuesOrStops offset program text b h r stack' after) r e handed (may-stop e after (λ is. short))

    pub turns-handed : (r : Result (StepResult P) AttemptAbortReason) (e : AttemptAbortReason) → IsErrAnd r (λ f. f ≡ e) → MayAbortAttempt offset program text b h e after
        → StepResultIs offset program text b h r stack' after
    turns-handed r e handed stops = handed-on (λ r. StepResultIs offset program text b h r stack' after) r e handed stops

    pub turns-short : (r : Result (StepResult P) AttemptAbortReason) (e : AttemptAbortReason) → IsErrAnd r (λ f. f ≡ e) → (e ≡ Work → NextEventExceedsWorkLeft offset program text b h after)
        → StepResultIs offset program text b h r stack' after
    turns-short r e handed short = turns-handed r e handed (may-stop e after short)

  -- An error in a part of an attempt is the error of the attempt.
  stops-all : (after : MemoAndWorkBudget) → after.memo.memo_analysis ≡ c.memo.memo_analysis → (e : AttemptAbortReason) → MayAbortAttempt offset program text b h e after → AttemptResultIs offset program text b (Err e) after
  stops-all after same Memory stops = tt
  stops-all after same Work stops = record { front = front; stack = stack; before = c; stands = h; same = same; short = stops }

  pub runs-stopped : (after : MemoAndWorkBudget) → after.memo.memo_analysis ≡ c.memo.memo_analysis → (r : Result (Option (State P)) AttemptAbortReason) (e : AttemptAbortReason) → IsErrAnd r (λ f. f ≡ e)
      → MayAbortAttempt offset program text b h e after → AttemptResultIs offset program text b r after
  runs-stopped after same r e handed stops = handed-on (λ r. AttemptResultIs offset program text b r after) r e handed (stops-all after same e stops)

-- An error of an attempt is handed on.
pub runs-handed : {P : Type 0} (offset : P → ℕ) (program : Program) (text : Text) (b : BoundedAttempt) (after : MemoAndWorkBudget) (r : Result (Option (State P)) AttemptAbortReason)
    (e : AttemptAbortReason) → IsErrAnd r (λ f. f ≡ e) → AttemptResultIs offset program text b (Err e) after → AttemptResultIs offset program text b r after
runs-handed offset program text b after r e handed stops = handed-on (λ r. AttemptResultIs offset program text b r after) r e handed stops

-- These lemmas are about the result of a turn.
module _ {P : Type 0} {offset : P → ℕ} {program : Program} {text : Text} {front : List Entry} {old : List (StackEntry P)} {before : MemoAndWorkBudget}
    (there : HasAttemptState offset program text front old before) (new : List (StackEntry P)) (behind : MemoAndWorkBudget) {came : StepResult P} where
  pub came-on : {next : Option (State P)} → came ≡ ContinueWith next → StepResultInEachAttempt offset program text front old before (Ok came) new behind
      → (b : BoundedAttempt) (h : AttemptHasState offset program text b front old before) → TakesOneEvent offset program text b h next new behind
  came-on is goes b h = subst (λ came. StepResultIs offset program text b h (Ok came) new behind) is (goes b h)

  pub came-end : {end : State P} → came ≡ End end → StepResultInEachAttempt offset program text front old before (Ok came) new behind
      → (b : BoundedAttempt) → AttemptHasState offset program text b front old before → AttemptEndsAt offset program text b end behind
  came-end is goes b h = subst (λ came. StepResultIs offset program text b h (Ok came) new behind) is (goes b h)
