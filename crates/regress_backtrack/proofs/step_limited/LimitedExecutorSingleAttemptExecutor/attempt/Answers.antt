use Rattle.std.proofs.Common.{Some, ap, ◌∙◌, subst}
use Rattle.std.proofs.lemmas.Result.{IfOk-weaker}
use Rattle.regex_meaning.specs.Text.{utf8_text}
use Rattle.regex_pattern_front.specs.AstToSpecTree.{tree_of}
use Rattle.regress_search.specs.AttemptsAndStarts.{match_end_and_groups_at, ticks_of_attempt_at}
use Rattle.regress_search.specs.SearchEffects.{SpendsNeedOrReachesLimit}
use Rattle.regress_search.proofs.MatchesWithinWorkLemmas.{goes-on-free}
use Rattle.regress_backtrack.proofs.PlannedTreeLemmas.{can-be, can-context, context-single_unit}
use Rattle.regress_backtrack.proofs.step_limited.LimitedExecutorSingleAttemptExecutor.attempt.Goals as goal

pub attempt-end-requires-clause-executable : goal.attempt-end-requires-clause-executable
attempt-end-requires-clause-executable c =
    let s = c.args.self.now.executor.search in
    (can-context s.program.wide (tree_of s.program.regex) _ (can-be s.same s.searched.well_formed s.searched.unicode s.searched.bytes), c.requires)

pub returns-clause-found : goal.returns-clause-found
returns-clause-found c =
    let search = c.args.self.now.executor.search in
    let text = utf8_text search.searched.input.input.now search.searched.input.unicode in
    let is = context-single_unit search.program.wide (tree_of search.program.regex) search.wide in
    IfOk-weaker c.attempt-end.result _ _ (λ end found. found ∙ ap (λ t. match_end_and_groups_at t text c.args.pos.offset) is) c.attempt-end.ensures.found

pub returns-clause-steps : goal.returns-clause-steps
returns-clause-steps c =
    let search = c.args.self.now.executor.search in
    let text = utf8_text search.searched.input.input.now search.searched.input.unicode in
    let is = context-single_unit search.program.wide (tree_of search.program.regex) search.wide in
    subst (λ t. SpendsNeedOrReachesLimit (ticks_of_attempt_at t text c.args.pos.offset) (Some c.args.self.now.steps.left) c.attempt-end.result (Some c.attempt-end.new.progress.steps.left)) is c.attempt-end.ensures.steps

pub returns-clause-work : goal.returns-clause-work
returns-clause-work c = goes-on-free _ c.args.pos.offset c.attempt-end.result
