use Rattle.std.proofs.Common.{◌+◌, ◌<◌, Option, Some, None, ap, ap₂, sym, refl, subst, ◌∙◌, arith, option_map}
use Rattle.regex_meaning.specs.CodeUnitOffsets.{IsBoundary}
use Rattle.regex_meaning.specs.Tree.{Tree}
use Rattle.regex_meaning.specs.MatchGroupsByNumberAndName.{group_names_by_id}
use Rattle.regex_meaning.specs.StepBudget.{need_from}
use Rattle.regress_search.specs.MatchesAsSpecAnswers.{answer_from_parts}
use Rattle.regress_search.specs.AttemptsAndStarts.{next_search_offset}
use Rattle.regress_search.specs.CostsOfSearches.{SearchCosts}
use Rattle.regress_search.specs.declared.exec.Match.{Match}
use Rattle.regress_search.specs.MatchesWithinWork.{is_work_enough}
use Rattle.regress_search.specs.declared.exec.SearchError.TheVariants.{Memory}
use Rattle.regress_search.proofs.StepBudgetLemmas.{IsSpent, handed, refused-last, spent-begins}
use Rattle.regress_search.proofs.SkippedStartLemmas.{untried, walk-begins}
use Rattle.regress_search.proofs.SearchCostLemmas.{Failing, counted₁, counted₂, counted₃, failing-begins, failing-ends}
use Rattle.regress_search.proofs.SearchCostLemmas.{failing-finds, failing-goes, failing-refuses, failing-skips, failing-stops, handed-cost, stops-out, stops-without}
use Rattle.regress_search.proofs.MatchesWithinWorkLemmas.{enough-behind, enough-next, turn-behind}
use Rattle.regress_search.proofs.SearchLoopLemmas.{Walk, walk-at, attempt-refused, found-there, goes-there}
use Rattle.regress_search.proofs.search_loop.AnyMatchProducer.next_match.Goals as goal

pub places-init : goal.places-init
places-init g c =
    let a = g.A.SearchState in
    let offset = g.A.Input.Position.PositionType.offset in
    let is = g.met.A.SingleAttemptExecutor.is_text c.args.self.now in
    let tree = a.tree c.args.self.now in
    let text = a.text c.args.self.now in
    let budget = a.budget c.args.self.now in
    let enough = a.enough c.args.self.now in
    let ahead = a.ahead c.args.self.now in
    let pos = offset c.args.pos in
    let first = c.first_start_to_try_from-first in
    let skip = c.in_ok-next in
    let next = option_map offset skip.next in
    let skips = skip.ensures.next pos first.ensures.next in
    record {
      walk = record {
        walks = walk-begins tree text is pos next c.requires skips;
        spent = subst (λ b. IsSpent tree text budget b (need_from tree text pos) next) (sym skip.ensures.effect.same.budget)
            (spent-begins tree text is budget pos next c.requires (λ some. skip.ensures.effect.counted some ∙ first.ensures.counted some));
      };
      same_tree = skip.ensures.effect.same.tree;
      same_text = skip.ensures.effect.same.text;
      turn = λ begins. ap₂ (λ e h. is_work_enough e h next) skip.ensures.effect.same.enough skip.ensures.effect.same.ahead ∙ enough-next enough ahead tree text pos next skips begins;
      next_start = refl;
      left = skip.ensures.effect.left;
      progress =
          let left = a.left c.args.self.now in
          let failures = a.failures c.args.self.now in
          let behind = a.left c.skip_from.new.executor in
          counted₂ a.counts_work
          (λ begins paid. subst (λ f. Failing a.costs tree text failures pos left f behind next) (sym skip.ensures.effect.same.failures)
          (failing-skips a.costs tree text refl refl failures left behind _ offset first.result skip.next (failing-begins a.costs tree text failures pos left (option_map offset first.result) begins) paid skip.ensures.candidate))
          first.ensures.next_if_work_counted skip.ensures.effect.paid;
    }

pub next_search_pos-requires : goal.next_search_pos-requires
next_search_pos-requires g c =
    let invariant = c.places.invariant in
    let found = found-there g.A.Input.Position.PositionType.offset (g.A.SingleAttemptExecutor.groups c.attempt.new.self) (g.met.A.SingleAttemptExecutor.is_text c.args.self.now)
    c.places.invariant.walk c.in-Some.is c.places.invariant.same_tree c.places.invariant.same_text c.in_ok-end.ensures.found c.in_ok-end.ensures.steps c.in-Some-2.is in
    subst (λ x. IsBoundary x (g.A.Input.Position.PositionType.offset c.in-Some-2.end)) (sym (c.input.ensures ∙ c.in_ok-end.ensures.same.1 ∙ invariant.same_text)) found.boundary

pub returns-in-Some-2-clause-found : goal.returns-in-Some-2-clause-found
returns-in-Some-2-clause-found g c =
    let invariant = c.places.invariant in
    let found = found-there g.A.Input.Position.PositionType.offset (g.A.SingleAttemptExecutor.groups c.attempt.new.self) (g.met.A.SingleAttemptExecutor.is_text c.args.self.now)
    c.places.invariant.walk c.in-Some.is c.places.invariant.same_tree c.places.invariant.same_text c.in_ok-end.ensures.found c.in_ok-end.ensures.steps c.in-Some-2.is in
    let offset = g.A.Input.Position.PositionType.offset in
    let tree = c.in_ok-end.ensures.same.0 ∙ invariant.same_tree in
    let text = c.input.ensures ∙ c.in_ok-end.ensures.same.1 ∙ invariant.same_text in
    let groups = g.A.SingleAttemptExecutor.groups c.attempt.new.self in (
      ap Some (c.in_ok-found.ensures ∙ ap (λ (t : Tree). answer_from_parts (offset c.in-Some.start) (offset c.in-Some-2.end) groups (group_names_by_id t.root)) tree) ∙ found.answer,
      c.next_search_pos.ensures ∙ ap (λ x. next_search_offset x (offset c.in-Some.start) (offset c.in-Some-2.end)) text ∙ found.behind,
    )

pub returns-in-Some-2-clause-steps : goal.returns-in-Some-2-clause-steps
returns-in-Some-2-clause-steps g c =
    let found = found-there g.A.Input.Position.PositionType.offset (g.A.SingleAttemptExecutor.groups c.attempt.new.self) (g.met.A.SingleAttemptExecutor.is_text c.args.self.now)
    c.places.invariant.walk c.in-Some.is c.places.invariant.same_tree c.places.invariant.same_text c.in_ok-end.ensures.found c.in_ok-end.ensures.steps c.in-Some-2.is in
    found.spends

pub returns-in-Some-2-clause-work : goal.returns-in-Some-2-clause-work
returns-in-Some-2-clause-work g c = λ begins.
    let a = g.A.SearchState in
    let offset = g.A.Input.Position.PositionType.offset in
    let invariant = c.places.invariant in
    let self = c.args.self.now in
    let old = c.places.self in
    let new = c.attempt.new.self in
    let is = g.met.A.SingleAttemptExecutor.is_text self in
    let found = found-there offset (g.A.SingleAttemptExecutor.groups new) is
    invariant.walk c.in-Some.is invariant.same_tree invariant.same_text c.in_ok-end.ensures.found c.in_ok-end.ensures.steps c.in-Some-2.is in
    let text = c.input.ensures ∙ c.in_ok-end.ensures.same.1 ∙ invariant.same_text in
    let turn = turn-behind (a.enough old) (a.ahead old) (a.enough new) (a.ahead new) (a.out_of_work new) offset c.places.next _ (Some c.in-Some-2.end) c.in-Some.start
    c.in-Some.is (invariant.turn begins) c.in_ok-end.ensures.work c.in-Some-2.is in
    ap (is_work_enough (a.enough new) (a.ahead new)) (c.next_search_pos.ensures ∙ ap (λ x. next_search_offset x (offset c.in-Some.start) (offset c.in-Some-2.end)) text)
    ∙ enough-behind (a.enough new) (a.ahead new) (a.tree self) (a.text self) is (offset c.in-Some.start) (offset c.in-Some-2.end) found.boundary turn

pub places-smaller : goal.places-smaller
places-smaller g c =
    let offset = g.A.Input.Position.PositionType.offset in
    let further = c.next_start_after_failure-further in
    let skip = c.in_ok-next-2 in
    let goes = goes-there offset (g.A.SingleAttemptExecutor.groups c.attempt.new.self) (g.met.A.SingleAttemptExecutor.is_text c.args.self.now)
    c.places.invariant.walk c.in-Some.is c.places.invariant.same_tree c.places.invariant.same_text c.in_ok-end.ensures.found c.in_ok-end.ensures.steps
    c.in_default-2.is c.in_ok-end.ensures.same.0 c.in_ok-end.ensures.same.1 skip.ensures.next
    (λ some. skip.ensures.effect.counted some ∙ further.ensures.counted some) in
    let text = g.A.SearchState.text c.args.self.now in
    subst (λ o. untried text (option_map offset skip.next) < untried text (option_map offset o)) (sym c.in-Some.is) goes.less

pub places-preserved : goal.places-preserved
places-preserved g c =
    let a = g.A.SearchState in
    let offset = g.A.Input.Position.PositionType.offset in
    let invariant = c.places.invariant in
    let self = c.args.self.now in
    let old = c.places.self in
    let new = c.attempt.new.self in
    let further = c.next_start_after_failure-further in
    let skip = c.in_ok-next-2 in
    let next = option_map offset skip.next in
    let start = offset c.in-Some.start in
    let skips = skip.ensures.next in
    let same_tree = c.in_ok-end.ensures.same.0 ∙ invariant.same_tree in
    let same_text = c.in_ok-end.ensures.same.1 ∙ invariant.same_text in
    let goes = goes-there offset (g.A.SingleAttemptExecutor.groups new) (g.met.A.SingleAttemptExecutor.is_text self)
    invariant.walk c.in-Some.is invariant.same_tree invariant.same_text c.in_ok-end.ensures.found c.in_ok-end.ensures.steps
    c.in_default-2.is c.in_ok-end.ensures.same.0 c.in_ok-end.ensures.same.1 skips (λ some. skip.ensures.effect.counted some ∙ further.ensures.counted some) in
    record {
      walk = subst (λ b. Walk (a.tree self) (a.text self) (offset c.args.pos) (a.budget self) b next) (sym skip.ensures.effect.same.budget) goes.walk;
      same_tree = skip.ensures.effect.same.tree ∙ same_tree;
      same_text = skip.ensures.effect.same.text ∙ same_text;
      turn = λ begins.
          ap₂ (λ e h. is_work_enough e h next) skip.ensures.effect.same.enough skip.ensures.effect.same.ahead
          ∙ enough-next (a.enough new) (a.ahead new) (a.tree new) (a.text new) (start + 1) next skips
          (turn-behind (a.enough old) (a.ahead old) (a.enough new) (a.ahead new) (a.out_of_work new) offset c.places.next _ None c.in-Some.start
          c.in-Some.is (invariant.turn begins) c.in_ok-end.ensures.work c.in_default-2.is);
      next_start = invariant.next_start;
      left = omega (arith, skip.ensures.effect.left, c.in_ok-end.ensures.left, invariant.left);
      progress =
          let behind = a.left c.skip_from_failed.new.executor in
          counted₂ a.counts_work
          (λ f paid. subst (λ x. Failing a.costs (a.tree self) (a.text self) (a.failures self) (offset c.args.pos) (a.left self) x behind next) (sym skip.ensures.effect.same.failures)
          (failing-skips a.costs (a.tree new) (a.text new) same_tree same_text (a.failures new) (a.left new) behind _ offset further.result skip.next f paid skip.ensures.candidate))
          (counted₃ a.counts_work
          (λ f takes on. failing-goes a.costs offset c.places.next c.in-Some.start c.in-Some.is (a.tree old) (a.text old) invariant.same_tree invariant.same_text (a.failures old) (a.left old) f
          (g.A.SingleAttemptExecutor.groups new) _ c.in_ok-end.ensures.found c.in_default-2.is (option_map offset further.result) (a.tree new) (a.text new)
          c.in_ok-end.ensures.same.0 c.in_ok-end.ensures.same.1 (a.failures new) (a.left new) takes on)
          invariant.progress c.in_ok-end.ensures.cost further.ensures.next_if_work_counted)
          skip.ensures.effect.paid;
    }

pub returns-in_err-end-clause-steps : goal.returns-in_err-end-clause-steps
returns-in_err-end-clause-steps g c =
    let invariant = c.places.invariant in
    let budget = g.A.SearchState.budget in
    let walk = walk-at g.A.Input.Position.PositionType.offset invariant.walk c.in-Some.is in
    handed (Option g.row.A-Input-Position.Denot) (Option Match) (need_from _ _ (g.A.Input.Position.PositionType.offset c.args.pos)) (budget c.args.self.now) (budget c.attempt.new.self) c.in_err-end.field-0.0 c.from_residual-in_err-end.result c.from_residual-in_err-end.ensures.1
    (attempt-refused (g.met.A.SingleAttemptExecutor.is_text c.args.self.now) (Option g.row.A-Input-Position.Denot) (budget c.attempt.new.self) c.in_err-end.field-0.0 walk invariant.same_tree invariant.same_text c.in_err-end.ensures.steps)

pub returns-in_err-found-clause-steps : goal.returns-in_err-found-clause-steps
returns-in_err-found-clause-steps g c =
    let budget = g.A.SearchState.budget in
    let found = found-there g.A.Input.Position.PositionType.offset (g.A.SingleAttemptExecutor.groups c.attempt.new.self) (g.met.A.SingleAttemptExecutor.is_text c.args.self.now)
    c.places.invariant.walk c.in-Some.is c.places.invariant.same_tree c.places.invariant.same_text c.in_ok-end.ensures.found c.in_ok-end.ensures.steps c.in-Some-2.is in
    let need = need_from _ _ (g.A.Input.Position.PositionType.offset c.args.pos) in
    handed (Option Match) (Option Match) need (budget c.args.self.now) (budget c.attempt.new.self) Memory c.from_residual-in_err-found.result c.from_residual-in_err-found.ensures.1
    (refused-last (Option Match) need (budget c.args.self.now) (budget c.attempt.new.self) found.spends.1)

-- ---- Costs

pub returns-in-Some-2-clause-cost : goal.returns-in-Some-2-clause-cost
returns-in-Some-2-clause-cost g c =
    let a = g.A.SearchState in
    let invariant = c.places.invariant in
    let old = c.places.self in
    let new = c.attempt.new.self in
    counted₂ a.counts_work
    (λ f takes. failing-finds a.costs g.A.Input.Position.PositionType.offset c.places.next c.in-Some.start c.in-Some.is (a.tree old) (a.text old) invariant.same_tree invariant.same_text
    (a.failures old) (a.left old) f (g.A.SingleAttemptExecutor.groups new) _ c.in_ok-end.ensures.found c.in-Some-2.end c.in-Some-2.is (a.failures new) (a.left new) takes)
    invariant.progress c.in_ok-end.ensures.cost

pub returns-in_err-end-clause-cost : goal.returns-in_err-end-clause-cost
returns-in_err-end-clause-cost g c =
    let a = g.A.SearchState in
    let offset = g.A.Input.Position.PositionType.offset in
    let invariant = c.places.invariant in
    let self = c.args.self.now in
    let old = c.places.self in
    let new = c.attempt.new.self in
    counted₂ a.counts_work
    (λ f stops. handed-cost (SearchCosts a.costs (a.tree self) (a.text self) (a.failures self) (Some (offset c.args.pos))) (a.left self) c.from_residual-in_err-end.result c.in_err-end.field-0.0
    (a.out_of_work new) (a.left new) (a.failures new) c.from_residual-in_err-end.ensures.1
    (failing-stops a.costs offset c.places.next c.in-Some.start c.in-Some.is (a.tree old) (a.text old) invariant.same_tree invariant.same_text (a.failures old) (a.left old) f
    (a.out_of_work new) (a.left new) stops))
    invariant.progress c.in_err-end.ensures.cost

pub returns-in_err-found-clause-cost : goal.returns-in_err-found-clause-cost
returns-in_err-found-clause-cost g c =
    let a = g.A.SearchState in
    let offset = g.A.Input.Position.PositionType.offset in
    let self = c.args.self.now in
    let new = c.attempt.new.self in
    let costs = SearchCosts a.costs (a.tree self) (a.text self) (a.failures self) (Some (offset c.args.pos)) in
    counted₁ a.counts_work
    (λ within. handed-cost costs (a.left self) c.from_residual-in_err-found.result Memory (a.out_of_work new) (a.left new) (a.failures new) c.from_residual-in_err-found.ensures.1
    (stops-without costs (a.left self) (a.out_of_work new) (a.left new) within (omega (arith, c.in_ok-end.ensures.left, c.places.invariant.left))))
    c.in_ok-end.ensures.within

pub returns-clause-cost : goal.returns-clause-cost
returns-clause-cost g c =
    let a = g.A.SearchState in
    let last = c.places in
    counted₁ a.counts_work
    (failing-ends a.costs (a.failures last.self) (a.left last.self) (option_map g.A.Input.Position.PositionType.offset last.next)
    (ap (option_map g.A.Input.Position.PositionType.offset) c.in_default.is))
    last.invariant.progress

pub returns-in_err-next-clause-cost : goal.returns-in_err-next-clause-cost
returns-in_err-next-clause-cost g c =
    let a = g.A.SearchState in
    let offset = g.A.Input.Position.PositionType.offset in
    let self = c.args.self.now in
    let new = c.skip_from.new.executor in
    let pos = offset c.args.pos in
    let costs = SearchCosts a.costs (a.tree self) (a.text self) (a.failures self) (Some pos) in
    let first = c.first_start_to_try_from-first in
    counted₂ a.counts_work
    (λ begins paid. handed-cost costs (a.left self) c.from_residual.result c.in_err-next.field-0.0 (a.out_of_work new) (a.left new) (a.failures new) c.from_residual.ensures.1
    (stops-out costs (a.left self) (a.out_of_work new) (a.left new) c.in_err-next.ensures.effect.refused.2
    (failing-refuses a.costs (a.tree self) (a.text self) refl refl (a.failures self) (a.left self) (a.left new) _ offset first.result c.in_err-next.field-0.0
    (failing-begins a.costs (a.tree self) (a.text self) (a.failures self) pos (a.left self) (option_map offset first.result) begins) paid)))
    first.ensures.next_if_work_counted c.in_err-next.ensures.effect.paid

pub returns-in_err-next-2-clause-cost : goal.returns-in_err-next-2-clause-cost
returns-in_err-next-2-clause-cost g c =
    let a = g.A.SearchState in
    let offset = g.A.Input.Position.PositionType.offset in
    let invariant = c.places.invariant in
    let self = c.args.self.now in
    let old = c.places.self in
    let tried = c.attempt.new.self in
    let new = c.skip_from_failed.new.executor in
    let further = c.next_start_after_failure-further in
    let costs = SearchCosts a.costs (a.tree self) (a.text self) (a.failures self) (Some (offset c.args.pos)) in
    let same_tree = c.in_ok-end.ensures.same.0 ∙ invariant.same_tree in
    let same_text = c.in_ok-end.ensures.same.1 ∙ invariant.same_text in
    counted₂ a.counts_work
    (λ f paid. handed-cost costs (a.left self) c.from_residual-in_err-next-2.result c.in_err-next-2.field-0.0 (a.out_of_work new) (a.left new) (a.failures new) c.from_residual-in_err-next-2.ensures.1
    (stops-out costs (a.left self) (a.out_of_work new) (a.left new) c.in_err-next-2.ensures.effect.refused.2
    (failing-refuses a.costs (a.tree tried) (a.text tried) same_tree same_text (a.failures tried) (a.left tried) (a.left new) _ offset further.result c.in_err-next-2.field-0.0 f paid)))
    (counted₃ a.counts_work
    (λ f takes on. failing-goes a.costs offset c.places.next c.in-Some.start c.in-Some.is (a.tree old) (a.text old) invariant.same_tree invariant.same_text (a.failures old) (a.left old) f
    (g.A.SingleAttemptExecutor.groups tried) _ c.in_ok-end.ensures.found c.in_default-2.is (option_map offset further.result) (a.tree tried) (a.text tried)
    c.in_ok-end.ensures.same.0 c.in_ok-end.ensures.same.1 (a.failures tried) (a.left tried) takes on)
    invariant.progress c.in_ok-end.ensures.cost further.ensures.next_if_work_counted)
    c.in_err-next-2.ensures.effect.paid
