use Rattle.std.proofs.Common.{◌≡◌, ap, sym, subst, ◌∙◌, ◌≤◌}
use Rattle.std.specs.Prelude.{IsSome, option_map}
use Rattle.regex_meaning.specs.CodeUnitOffsets.{units}
use Rattle.regex_meaning.specs.Text.{rightwards}
use Rattle.regex_pattern_front.specs.AstToSpecTree.{tree_of}
use Rattle.regress_input.proofs.BoundaryPositions.{boundary_inside}
use Rattle.regress_machine.specs.Machine as machine
use Rattle.regress_machine.specs.SearchFindsFirstOutcomeAtPlace.{end_and_groups_of_state}
use Rattle.regress_search.specs.AttemptsAndStarts.{search_from}
use Rattle.regress_machine.specs.InsnEffects.{end_of_search}
use Rattle.regress_search.proofs.SearchableProgramLemmas.{can-search}
use Rattle.regress_search.proofs.AttemptSearchLemmas.{begins}
use Rattle.regress_pikevm.proofs.ExecutorTurnLemmas.{map-end}
use Rattle.regress_pikevm.proofs.pikevm.preferred_final_state.Goals as goal

pub run-requires-clause-inside : goal.run-requires-clause-inside
run-requires-clause-inside g c =
    let text = g.Input.InputIndexer.text c.args.searched.now.input in
    let is = g.met.Input.InputIndexer.is_text c.args.searched.now.input in
    let offset = g.Input.Position.PositionType.offset in
    let same : offset c.in_ok-start.start.pos ≡ offset c.args.pos = ap (λ (s : machine.State). s.pos) c.in_ok-start.ensures in
    subst (λ at. at ≤ units text) (sym same) (boundary_inside text is (offset c.args.pos) c.requires)

pub run-requires-clause-terminates : goal.run-requires-clause-terminates
run-requires-clause-terminates g c =
    let searched = c.args.searched.now in
    let tree = tree_of searched.program.now in
    let text = g.Input.InputIndexer.text searched.input in
    let is = g.met.Input.InputIndexer.is_text searched.input in
    let at = g.Input.Position.PositionType.offset c.args.pos in
    subst (λ s. IsSome (search_from tree text at rightwards s)) (sym c.in_ok-start.ensures)
    (begins tree text at (can-search tree text searched.well_formed is searched.unicode (λ reads. (searched.bytes reads).reads)) c.requires).answers

pub returns : goal.returns
returns g c =
    let searched = c.args.searched.now in
    let tree = tree_of searched.program.now in
    let text = g.Input.InputIndexer.text searched.input in
    let is = g.met.Input.InputIndexer.is_text searched.input in
    let offset = g.Input.Position.PositionType.offset in
    let at = offset c.args.pos in
    map-end offset c.in_ok-end.end
    ∙ ap (option_map end_and_groups_of_state) (c.in_ok-end.ensures ∙ ap (λ s. end_of_search (search_from tree text at rightwards s)) c.in_ok-start.ensures)
    ∙ (begins tree text at (can-search tree text searched.well_formed is searched.unicode (λ reads. (searched.bytes reads).reads)) c.requires).end
