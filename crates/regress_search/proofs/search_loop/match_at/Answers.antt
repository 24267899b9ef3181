use Rattle.std.proofs.Common.{◌∙◌, Some, ap}
use Rattle.regex_meaning.specs.MatchGroupsByNumberAndName.{group_names_by_id}
use Rattle.regex_meaning.specs.CodeUnitOffsets.{units}
use Rattle.regex_meaning.specs.Tree.{Tree}
use Rattle.regress_search.specs.MatchesAsSpecAnswers.{answer_from_parts}
use Rattle.regress_search.proofs.MatchAtOffsetLemmas.{answer_at-found, answer_at-past, answer_at-vain, no-step, position-at}
use Rattle.regress_search.proofs.search_loop.match_at.Goals as goal

pub returns-in_default-clause-found : goal.returns-in_default-clause-found
returns-in_default-clause-found g c =
    let a = g.A.SearchState in
    let executor = c.args.executor.now in
    answer_at-past (a.tree executor) (a.text executor) (g.met.A.SingleAttemptExecutor.is_text executor) g.A.Input.Position.PositionType.offset c.args.at _ c.initial_position.ensures c.in_default.is

pub returns-in_default-clause-steps : goal.returns-in_default-clause-steps
returns-in_default-clause-steps g c =
    let a = g.A.SearchState in
    let executor = c.args.executor.now in
    no-step (a.tree executor) (a.text executor) (g.met.A.SingleAttemptExecutor.is_text executor) g.A.Input.Position.PositionType.offset c.args.at _ (a.budget executor) c.initial_position.ensures c.in_default.is

pub returns-in_default-2-clause-found : goal.returns-in_default-2-clause-found
returns-in_default-2-clause-found g c =
    let a = g.A.SearchState in
    let offset = g.A.Input.Position.PositionType.offset in
    let executor = c.args.executor.now in
    answer_at-vain (a.tree executor) (a.text executor) (g.met.A.SingleAttemptExecutor.is_text executor) offset (g.A.SingleAttemptExecutor.groups c.attempt.new.self) c.args.at _ _
    (position-at offset (units (a.text executor)) c.args.at _ c.in-Some.start c.initial_position.ensures c.in-Some.is) c.in_ok-end.ensures.found c.in_default-2.is

pub returns-clause-found : goal.returns-clause-found
returns-clause-found g c =
    let a = g.A.SearchState in
    let offset = g.A.Input.Position.PositionType.offset in
    let executor = c.args.executor.now in
    let groups = g.A.SingleAttemptExecutor.groups c.attempt.new.self in
    ap Some (c.in_ok-found.ensures ∙ ap (λ (t : Tree). answer_from_parts (offset c.in-Some.start) (offset c.in-Some-2.end) groups (group_names_by_id t.root)) c.in_ok-end.ensures.same.0)
    ∙ answer_at-found (a.tree executor) (a.text executor) (g.met.A.SingleAttemptExecutor.is_text executor) offset groups c.args.at _ _ c.in-Some-2.end
    (position-at offset (units (a.text executor)) c.args.at _ c.in-Some.start c.initial_position.ensures c.in-Some.is) c.in_ok-end.ensures.found c.in-Some-2.is
