-- An attempt pays exactly the cost of its events, or stops where they cost more than is left.
use Rattle.std.proofs.Common.{◌≡◌, ◌≤◌, ◌+◌, ℕ, true, false, [], ◌∷◌, Option, Result, Ok, Err, refl, sym, ◌∙◌, subst, arith, inl, inr, true≢false}
use Rattle.std.specs.Result.{IsErrAnd}
use Rattle.regex_meaning.specs.Text.{Text, rightwards}
use Rattle.regex_meaning.specs.CodeUnits.{Encoding}
use Rattle.regex_meaning.specs.Tree.{Tree}
use Rattle.regress_machine.specs.Machine.{State, running}
use Rattle.regress_search.specs.ReadsAtOffset.{input_units}
use Rattle.regress_search.specs.TreePlanAndText.{SearchInput, program_of}
use Rattle.regress_search.specs.CostsOfSearches.{Failures, LeavesWorkWithoutResult}
use Rattle.regress_backtrack.specs.declared.failure_memo.FailureMemo.{Ghosts as Remembering}
use Rattle.regress_backtrack.specs.declared.step_and_work_budgets.StepCounter.{Ghosts as Counting}
use Rattle.regress_backtrack.specs.State.{StateModel}
use Rattle.regress_backtrack.specs.BudgetAccounting.{Budget}
use Rattle.regress_backtrack.specs.WorkOfSearches.{IsRefusedOrUnpaid, EndsAtCost, StopsAtCost, next_cost, nothing_yet, here}
use Rattle.regress_backtrack.specs.WorkOfAttempts.{AttemptCostsWork, AttemptIsPaid, no_failures, threads_of_attempt}
use Rattle.regress_backtrack.proofs.StepBudgetLemmas.{taken-none}
use Rattle.regress_backtrack.specs.PaidSearches.{PaysAtEnd, PaysToStop}

module _ {S M : Type 0} (s : Counting S) (m : Remembering M) (w : SearchInput) {u v : State} (is : u ≡ v) where
  -- If the first states are equal, the same was paid.
  pub ends-from : {steps steps' : S} (h' : StateModel) (end : Option ℕ) → PaysAtEnd s m w true (running u ∷ []) steps h' steps' end → PaysAtEnd s m w true (running v ∷ []) steps h' steps' end
  ends-from {steps = steps} {steps' = steps'} h' end paid = subst (λ s0. PaysAtEnd s m w true (running s0 ∷ []) steps h' steps' end) is paid

  pub stops-from : {steps steps' : S} → PaysToStop s m w true (running u ∷ []) steps steps' → PaysToStop s m w true (running v ∷ []) steps steps'
  stops-from {steps = steps} {steps' = steps'} short = subst (λ s0. PaysToStop s m w true (running s0 ∷ []) steps steps') is short

abbrev Costs : SearchInput → (at cost : ℕ) → Option Failures → Type 0
Costs w at = AttemptCostsWork w.encoding w.tree w.text no_failures at

module _ (w : SearchInput) (at : ℕ) {before after : Budget} (fresh : before.out ≡ false) where
  -- The attempt ended.
  pub attempt-paid : {X E : Type 0} {x : X} {end : Option State} → EndsAtCost (program_of w) w.text (input_units w) rightwards (threads_of_attempt w.tree at) end before after → AttemptIsPaid w.encoding w.tree w.text at {E = E} before after (Ok x)
  attempt-paid {end = end} e =
      let out = e.paid.same ∙ fresh in
      let exact = e.paid.counted refl in
      record {
        cost = (e.work + e.last, (record { work = e.work; last = e.last; now = e.now; end = end; course = e.course; come = e.come; is_sum = refl }, refl), exact);
        less = omega (arith, exact);
        begun = λ is. tt;
        spent = λ is. absurd (true≢false (sym is ∙ out));
        within = out;
      }

  -- The attempt stopped.
  pub attempt-short : {X E : Type 0} {e : E} → StopsAtCost (program_of w) w.text (input_units w) rightwards (threads_of_attempt w.tree at) before after → AttemptIsPaid w.encoding w.tree w.text at {X = X} before after (Err e)
  attempt-short {X = X} {e = e} s = by s.stops
    where
      by : IsRefusedOrUnpaid s.work s.next before after → AttemptIsPaid w.encoding w.tree w.text at {X = X} before after (Err e)
      by (inl short) =
          let none = short.none in
          record {
            cost = subst (λ out. LeavesWorkWithoutResult (Costs w at) before.left out after.left) (sym short.was_refused) ∣ (s.work + s.next, record { work = s.work; next = s.next; reaches = s.reaches; is_sum = refl }, short.few) ∣₁;
            less = omega (arith, none);
            begun = λ is. absurd (true≢false (sym short.was_refused ∙ is));
            spent = λ is. none;
            within = tt;
          }
      by (inr paid) =
          let out = paid.2.same ∙ fresh in
          let exact = paid.2.counted refl in
          let less : after.left ≤ before.left = omega (arith, exact) in
          record {
            cost = subst (λ out. LeavesWorkWithoutResult (Costs w at) before.left out after.left) (sym out) less;
            less = less;
            begun = λ is. record { work = s.work; next = s.next; part = paid.0; reaches = s.reaches; no_more = paid.1; paid = paid.2 };
            spent = λ is. absurd (true≢false (sym is ∙ out));
            within = tt;
          }

-- If the attempt could not begin, nothing was paid.
pub attempt-unbegun : (w : SearchInput) (at : ℕ) {X E : Type 0} (P : E → Type 0) {b : Budget} → b.out ≡ false → (r : Result X E) → IsErrAnd r P → AttemptIsPaid w.encoding w.tree w.text at b b r
attempt-unbegun w at P fresh (Ok x) never = absurd never
attempt-unbegun w at P {b = b} fresh (Err e) failed =
    let less : b.left ≤ b.left = omega arith in
    record {
      cost = subst (λ out. LeavesWorkWithoutResult (Costs w at) b.left out b.left) (sym fresh) less;
      less = less;
      begun = λ is. record {
        work = 0;
        next = next_cost (program_of w) w.text (input_units w) rightwards (threads_of_attempt w.tree at);
        part = 0;
        reaches = here rightwards (threads_of_attempt w.tree at) 0 (threads_of_attempt w.tree at) (nothing_yet rightwards (threads_of_attempt w.tree at));
        no_more = omega arith;
        paid = taken-none true b;
      };
      spent = λ is. absurd (true≢false (sym is ∙ fresh));
      within = tt;
    }

-- An attempt with an equal tree is paid in the same way.
pub paid-with-tree : {e : Encoding} {text : Text} {at : ℕ} {X E : Type 0} {before after : Budget} {r : Result X E} {tree tree' : Tree} → tree ≡ tree' → AttemptIsPaid e tree text at before after r → AttemptIsPaid e tree' text at before after r
paid-with-tree {e = e} {text = text} {at = at} {before = before} {after = after} {r = r} same paid = subst (λ tree. AttemptIsPaid e tree text at before after r) same paid
