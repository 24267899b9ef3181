use Rattle.std.proofs.Common.{◌≡◌, ◌<◌, ◌-◌, ◌^◌, Option, Some, None, Ok, subst, option_map}
use Rattle.regex_meaning.specs.CodeUnitOffsets.{offset_within, units}
use Rattle.regress_search.specs.MatchesAsSpecAnswers.{answer_of}
use Rattle.regress_search.specs.declared.exec.Match.{Match}
use Rattle.regress_match.specs.Resuming.{IsResultOfNextFrom, FindsNext}
use Rattle.regress_search.specs.CostsOfSearches.{LeavesWorkWithoutResult, SearchCosts, TakesExactCost}
use Rattle.regress_search.proofs.SearchCostLemmas.{counted₁, handed-cost}
use Rattle.regress_match.proofs.ResumingLemmas.{costs-from, next-is, none-over, past-costs, past-over, place-is, place-none, refused-from, steps-to}
use Rattle.regress_match.proofs.api.searches_resumed_at_offsets.next_from.Goals as goal

pub returns-in_default-clause-continues : goal.returns-in_default-clause-continues
returns-in_default-clause-continues g c =
    let search = c.args.search.now in
    let offset = g.E.Input.Position.PositionType.offset in
    past-over (g.E.SearchState.tree search) (g.E.SearchState.text search) (g.met.E.SingleAttemptExecutor.is_text search) (g.E.SearchState.budget search) c.args.start
    (place-none offset c.initial_position.result (units (g.E.SearchState.text search)) c.args.start c.in_default.is c.initial_position.ensures)

pub returns-in_err-found-clause-continues : goal.returns-in_err-found-clause-continues
returns-in_err-found-clause-continues g c =
    let search = c.args.search.now in
    let offset = g.E.Input.Position.PositionType.offset in
    let tree = g.E.SearchState.tree search in
    let text = g.E.SearchState.text search in
    let here = place-is offset c.initial_position.result c.in-Some.pos (units text) c.args.start c.in-Some.is c.initial_position.ensures in
    subst (λ s. IsResultOfNextFrom tree text (g.E.SearchState.budget search) s c.from_residual.result (g.E.SearchState.budget c.next_match.new.self)) here
    (refused-from tree text (g.met.E.SingleAttemptExecutor.is_text search) (Option Match) (g.E.SearchState.budget search) (offset c.in-Some.pos) c.in_err-found.field-0.0
    (g.E.SearchState.budget c.next_match.new.self) c.from_residual.result c.from_residual.ensures.1 c.in_err-found.ensures.steps)

pub returns-in_default-2-clause-continues : goal.returns-in_default-2-clause-continues
returns-in_default-2-clause-continues g c =
    let search = c.args.search.now in
    let offset = g.E.Input.Position.PositionType.offset in
    let tree = g.E.SearchState.tree search in
    let text = g.E.SearchState.text search in
    let here = place-is offset c.initial_position.result c.in-Some.pos (units text) c.args.start c.in-Some.is c.initial_position.ensures in
    subst (λ s. IsResultOfNextFrom tree text (g.E.SearchState.budget search) s (Ok None) (g.E.SearchState.budget c.next_match.new.self)) here
    (none-over tree text (g.met.E.SingleAttemptExecutor.is_text search) (g.E.SearchState.budget search) (offset c.in-Some.pos) c.in_ok-found.field-0
    (g.E.SearchState.budget c.next_match.new.self) (rw c.in_default-2.is at c.in_ok-found.ensures.found.0) c.in_ok-found.ensures.steps)

pub returns-clause-continues : goal.returns-clause-continues
returns-clause-continues g c =
    let search = c.args.search.now in
    let offset = g.E.Input.Position.PositionType.offset in
    let tree = g.E.SearchState.tree search in
    let text = g.E.SearchState.text search in
    let found = c.in-Some-2.found in
    let after = g.E.SearchState.budget c.next_match.new.self in
    let next = option_map offset c.next_match.new.next_start in
    let here = place-is offset c.initial_position.result c.in-Some.pos (units text) c.args.start c.in-Some.is c.initial_position.ensures in
    subst (λ s. FindsNext tree text (g.E.SearchState.budget search) s (answer_of found) c.offset_of_position-next.result after) here
    (steps-to tree text (g.met.E.SingleAttemptExecutor.is_text search)
    (subst (λ t. units t < 2 ^ 64 - 1) c.in_ok-found.ensures.same.1 c.offset_of_position-next.ensures.fits)
    (g.E.SearchState.budget search) (offset c.in-Some.pos) found c.in_ok-found.field-0 next after c.offset_of_position-next.result c.offset_of_position-next.ensures.offset
    (rw c.in-Some-2.is at c.in_ok-found.ensures.found.0) (rw c.in-Some-2.is at c.in_ok-found.ensures.found.1) c.in_ok-found.ensures.steps)

pub returns-clause-next : goal.returns-clause-next
returns-clause-next g c =
    let search = c.args.search.now in
    let offset = g.E.Input.Position.PositionType.offset in
    let tree = g.E.SearchState.tree search in
    let text = g.E.SearchState.text search in
    next-is tree text (offset c.in-Some.pos) c.args.start c.offset_of_position-next.result (option_map offset c.next_match.new.next_start)
    c.offset_of_position-next.ensures.offset (rw c.in-Some-2.is at c.in_ok-found.ensures.found.1)
    (place-is offset c.initial_position.result c.in-Some.pos (units text) c.args.start c.in-Some.is c.initial_position.ensures)

-- ---- Costs

pub returns-in_default-clause-cost : goal.returns-in_default-clause-cost
returns-in_default-clause-cost g c =
    let e = g.E.SearchState in
    let search = c.args.search.now in
    past-costs e.counts_work g.E.Input.Position.PositionType.offset e.costs (e.tree search) (e.text search) (e.failures search) c.initial_position.result
    (offset_within (e.text search) c.args.start)
    c.initial_position.ensures (e.left search) c.in_default.is

pub returns-in_err-found-clause-cost : goal.returns-in_err-found-clause-cost
returns-in_err-found-clause-cost g c =
    let e = g.E.SearchState in
    let search = c.args.search.now in
    let new = c.next_match.new.self in
    counted₁ e.counts_work
    (handed-cost (SearchCosts e.costs (e.tree search) (e.text search) (e.failures search) (offset_within (e.text search) c.args.start)) (e.left search)
    c.from_residual.result c.in_err-found.field-0.0 (e.out_of_work new) (e.left new) (e.failures new) c.from_residual.ensures.1)
    (costs-from e.counts_work g.E.Input.Position.PositionType.offset e.costs (e.tree search) (e.text search) (e.failures search) c.initial_position.result
    (offset_within (e.text search) c.args.start) c.initial_position.ensures c.in-Some.pos c.in-Some.is
    (λ costs. LeavesWorkWithoutResult costs (e.left search) (e.out_of_work new) (e.left new)) c.in_err-found.ensures.cost)

pub returns-in_default-2-clause-cost : goal.returns-in_default-2-clause-cost
returns-in_default-2-clause-cost g c =
    let e = g.E.SearchState in
    let search = c.args.search.now in
    let new = c.next_match.new.self in
    costs-from e.counts_work g.E.Input.Position.PositionType.offset e.costs (e.tree search) (e.text search) (e.failures search) c.initial_position.result
    (offset_within (e.text search) c.args.start)
    c.initial_position.ensures c.in-Some.pos c.in-Some.is (λ costs. TakesExactCost costs (e.left search) (e.left new) (e.failures new)) c.in_ok-found.ensures.cost

pub returns-clause-cost : goal.returns-clause-cost
returns-clause-cost g c =
    let e = g.E.SearchState in
    let search = c.args.search.now in
    let new = c.next_match.new.self in
    costs-from e.counts_work g.E.Input.Position.PositionType.offset e.costs (e.tree search) (e.text search) (e.failures search) c.initial_position.result
    (offset_within (e.text search) c.args.start)
    c.initial_position.ensures c.in-Some.pos c.in-Some.is (λ costs. TakesExactCost costs (e.left search) (e.left new) (e.failures new)) c.in_ok-found.ensures.cost
