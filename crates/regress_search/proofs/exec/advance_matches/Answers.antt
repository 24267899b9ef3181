use Rattle.std.proofs.Common.{◌≡◌, ℕ, Bool, Option, Some, ap, sym, subst, option_map, refl, ◌∙◌}
use Rattle.std.specs.Prelude.{IfSome}
use Rattle.regex_meaning.specs.CodeUnitOffsets.{IsBoundary}
use Rattle.regex_meaning.specs.Text.{Text}
use Rattle.regex_meaning.specs.Tree.{Tree}
use Rattle.regress_search.specs.CostsOfSearches.{Failures, IfWorkIsCounted, LeavesWorkWithoutResult, SearchCosts, TakesExactCost, WorkCosts}
use Rattle.regress_search.specs.SearchEffects.{IsNextStartAfterFirstMatch}
use Rattle.regress_search.specs.declared.exec.Match.{Match}
use Rattle.regress_search.specs.MatchesAsSpecAnswers.{answer_of}
use Rattle.regress_search.specs.RemainingAnswers.{remaining_answers_from}
use Rattle.regress_search.proofs.SearchCostLemmas.{counted, nothing-costs}
use Rattle.regress_search.proofs.RemainingAnswerLemmas.{call-some, call-none, call-refused, next-boundary, not-ended}
use Rattle.regress_search.proofs.exec.advance_matches.Goals as goal

pub returns-in-Ok-Some-clause-at : goal.returns-in-Ok-Some-clause-at
returns-in-Ok-Some-clause-at g c = λ x e.
    let offset = g.P.Position.PositionType.offset in
    let producer = c.args.producer.now in
    subst (λ t. IsBoundary t (offset x)) (sym c.in-Ok-Some.ensures.same.1)
    (next-boundary (g.P.SearchState.tree producer) (g.P.SearchState.text producer) (g.met.P.MatchProducer.is_text producer) (offset c.in_ok-pos.pos) (offset x)
    (ap (option_map offset) (sym e) ∙ (rw c.in-Ok-Some.field-0-is at c.in-Ok-Some.ensures.found).1))

pub returns-in-Ok-Some-clause-gives : goal.returns-in-Ok-Some-clause-gives
returns-in-Ok-Some-clause-gives g c =
    let offset = g.P.Position.PositionType.offset in
    let p = g.P.SearchState in
    let producer = c.args.producer.now in
    let new = c.next_match.new.self in
    let before = remaining_answers_from (p.tree producer) (p.text producer) (p.budget producer) (option_map offset c.args.position.now) (p.out_of_steps producer) in
    call-some (p.tree producer) (p.text producer) (g.met.P.MatchProducer.is_text producer) before
    (p.budget producer) (option_map offset c.args.position.now) (p.out_of_steps producer) (offset c.in_ok-pos.pos) refl (ap (option_map offset) c.in_ok-pos.was)
    (answer_of c.in-Ok-Some.found) (p.tree new) (p.text new) (p.budget new) (option_map offset c.next_match.new.next_start)
    (rw c.in-Ok-Some.field-0-is at c.in-Ok-Some.ensures.found).0 (rw c.in-Ok-Some.field-0-is at c.in-Ok-Some.ensures.found).1
    c.in-Ok-Some.ensures.same.0 c.in-Ok-Some.ensures.same.1 c.in-Ok-Some.ensures.steps.0 c.in-Ok-Some.ensures.steps.1

pub returns-in-Ok-None-clause-gives : goal.returns-in-Ok-None-clause-gives
returns-in-Ok-None-clause-gives g c =
    let offset = g.P.Position.PositionType.offset in
    let p = g.P.SearchState in
    let producer = c.args.producer.now in
    let before = remaining_answers_from (p.tree producer) (p.text producer) (p.budget producer) (option_map offset c.args.position.now) (p.out_of_steps producer) in
    let none = call-none (p.tree producer) (p.text producer) (g.met.P.MatchProducer.is_text producer) before (p.budget producer)
    (option_map offset c.args.position.now) (p.out_of_steps producer) (offset c.in_ok-pos.pos) refl (ap (option_map offset) c.in_ok-pos.was)
    (rw c.in-Ok-None.field-0-is at c.in-Ok-None.ensures.found).0 c.in-Ok-None.ensures.steps.0 in
    (none.0, none.1, (refl, refl, refl))

pub returns-in-Err-clause-gives : goal.returns-in-Err-clause-gives
returns-in-Err-clause-gives g c =
    let offset = g.P.Position.PositionType.offset in
    let p = g.P.SearchState in
    let producer = c.args.producer.now in
    let is = g.met.P.MatchProducer.is_text producer in
    let was = ap (option_map offset) c.in_ok-pos.was in
    let at = option_map offset c.args.position.now in
    let before = remaining_answers_from (p.tree producer) (p.text producer) (p.budget producer) at (p.out_of_steps producer) in (
      call-refused (p.tree producer) (p.text producer) is before (p.budget producer) at (p.out_of_steps producer) (offset c.in_ok-pos.pos) refl was
          (Option Match) c.in-Err.refused (p.budget c.next_match.new.self) c.in-Err.ensures.steps,
      not-ended (p.tree producer) (p.text producer) is before (p.budget producer) at (p.out_of_steps producer) (offset c.in_ok-pos.pos) refl was,
      (refl, refl, refl),
      c.in-Err.ensures.cause,
    )

-- ---- Costs

-- a call searches from where the list continues
costs-of : (b : Bool) {P : Type 0} (offset : P → ℕ) (costs : WorkCosts) (tree : Tree) (text : Text) (before : Failures)
    (position : Option P) (pos : P) → position ≡ Some pos → (Spends : ((cost : ℕ) → (after : Option Failures) → Type 0) → Type 0)
    → IfWorkIsCounted b (Spends (SearchCosts costs tree text before (Some (offset pos)))) → IfWorkIsCounted b (Spends (SearchCosts costs tree text before (option_map offset position)))
costs-of b offset costs tree text before position pos was Spends h =
    subst (λ p. IfWorkIsCounted b (Spends (SearchCosts costs tree text before p))) (sym (ap (option_map offset) was)) h

pub returns-in-Ok-Some-clause-cost : goal.returns-in-Ok-Some-clause-cost
returns-in-Ok-Some-clause-cost g c =
    let p = g.P.SearchState in
    let producer = c.args.producer.now in
    let new = c.next_match.new.self in
    costs-of p.counts_work g.P.Position.PositionType.offset p.costs (p.tree producer) (p.text producer) (p.failures producer) c.args.position.now c.in_ok-pos.pos c.in_ok-pos.was
    (λ costs. TakesExactCost costs (p.left producer) (p.left new) (p.failures new)) c.in-Ok-Some.ensures.cost

pub returns-in-Ok-None-clause-cost : goal.returns-in-Ok-None-clause-cost
returns-in-Ok-None-clause-cost g c =
    let p = g.P.SearchState in
    let producer = c.args.producer.now in
    let new = c.next_match.new.self in
    costs-of p.counts_work g.P.Position.PositionType.offset p.costs (p.tree producer) (p.text producer) (p.failures producer) c.args.position.now c.in_ok-pos.pos c.in_ok-pos.was
    (λ costs. TakesExactCost costs (p.left producer) (p.left new) (p.failures new)) c.in-Ok-None.ensures.cost

pub returns-in-Err-clause-cost : goal.returns-in-Err-clause-cost
returns-in-Err-clause-cost g c =
    let p = g.P.SearchState in
    let producer = c.args.producer.now in
    let new = c.next_match.new.self in
    costs-of p.counts_work g.P.Position.PositionType.offset p.costs (p.tree producer) (p.text producer) (p.failures producer) c.args.position.now c.in_ok-pos.pos c.in_ok-pos.was
    (λ costs. LeavesWorkWithoutResult costs (p.left producer) (p.out_of_work new) (p.left new)) c.in-Err.ensures.cost

pub returns-in-Ok-Some-clause-continues : goal.returns-in-Ok-Some-clause-continues
returns-in-Ok-Some-clause-continues g c =
    let p = g.P.SearchState in
    let producer = c.args.producer.now in
    let offset = option_map g.P.Position.PositionType.offset in
    subst (λ o. IfSome o (λ at. IsNextStartAfterFirstMatch (p.tree producer) (p.text producer) at (offset c.next_match.new.next_start))) (sym (ap offset c.in_ok-pos.was))
    (rw c.in-Ok-Some.field-0-is at c.in-Ok-Some.ensures.found).1

pub returns-in_err-pos-clause-cost : goal.returns-in_err-pos-clause-cost
returns-in_err-pos-clause-cost g c =
    let p = g.P.SearchState in
    let producer = c.args.producer.now in
    let offset = option_map g.P.Position.PositionType.offset in
    counted p.counts_work
    (nothing-costs p.costs (p.tree producer) (p.text producer) (p.failures producer) (offset c.args.position.now) (p.left producer) (p.out_of_work producer) c.from_residual.result c.from_residual.ensures
    (ap offset c.in_err-pos.was))
