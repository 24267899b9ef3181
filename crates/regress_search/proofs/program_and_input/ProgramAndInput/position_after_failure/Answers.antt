use Rattle.std.proofs.Common.{◌+◌, ap, subst, sym, ◌∙◌}
use Rattle.regex_pattern_front.specs.AstToSpecTree.{tree_of}
use Rattle.regress_search.specs.AttemptsAndStarts.{NextStartSkipsNoMatch, offset_after_failed_attempt}
use Rattle.regress_search.proofs.StartPredicateLemmas.{anchored-behind, tried-behind}
use Rattle.regress_search.proofs.program_and_input.ProgramAndInput.position_after_failure.Goals as goal

pub returns-clause-next : goal.returns-clause-next
returns-clause-next g c =
    let searched = c.args.self.now in
    let tree = tree_of searched.program.now in
    let is = g.met.Input.InputIndexer.is_text searched.input in
    let text = g.Input.InputIndexer.text searched.input in
    let at = g.Input.Position.PositionType.offset c.args.tried in
    subst (NextStartSkipsNoMatch tree text (at + 1)) (sym c.position_after_failed.ensures)
    (tried-behind tree text is at c.is_anchored.result (λ e. anchored-behind tree text is (sym c.is_anchored.ensures ∙ e) at) c.requires)

pub returns-clause-each : goal.returns-clause-each
returns-clause-each g c =
    let text = g.Input.InputIndexer.text c.args.self.now.input in
    let at = g.Input.Position.PositionType.offset c.args.tried in
    c.position_after_failed.ensures ∙ ap (λ b. offset_after_failed_attempt b text at) c.is_anchored.ensures
