use Rattle.std.proofs.Common.{◌+◌, ap, sym, ◌∙◌, subst}
use Rattle.std.specs.Prelude.{option_map}
use Rattle.regex_pattern_front.specs.AstToSpecTree.{tree_of}
use Rattle.regress_search.specs.AttemptsAndStarts.{NextStartSkipsNoMatch}
use Rattle.regress_search.specs.CostsOfSearches.{next_attempt_offset}
use Rattle.regress_backtrack.proofs.work_limited.WorkPayingExecutorSingleAttemptExecutor.next_start_after_failure.Goals as goal

pub returns-clause-next : goal.returns-clause-next
returns-clause-next g c =
    let s = c.args.self.now.executor.search in
    let offset = g.Input.Position.PositionType.offset in
    let text = g.Input.InputIndexer.text s.searched.input in
    subst (λ re. NextStartSkipsNoMatch (tree_of re) text (offset c.args.tried + 1) (option_map offset c.position_after_failure.result)) (sym s.same) c.position_after_failure.ensures.next

pub returns-clause-next_if_work_counted : goal.returns-clause-next_if_work_counted
returns-clause-next_if_work_counted g c =
    let s = c.args.self.now.executor.search in
    let text = g.Input.InputIndexer.text s.searched.input in
    c.position_after_failure.ensures.each ∙ ap (λ re. next_attempt_offset (tree_of re) text (g.Input.Position.PositionType.offset c.args.tried)) (sym s.same)
