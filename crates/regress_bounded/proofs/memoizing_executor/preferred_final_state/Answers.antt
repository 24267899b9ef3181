use Rattle.regex_pattern_front.specs.AstToSpecTree.{tree_of}
use Rattle.regress_search.proofs.SearchableProgramLemmas.{can-search}
use Rattle.regress_program.specs.CompilationOfTreesAsFunction.{compiled}
use Rattle.regress_bounded.proofs.AttemptResultLemmas.{begins-stands, attempt-stands, found-all}
use Rattle.regress_bounded.proofs.StepResultLemmas.{runs-handed}
use Rattle.regress_bounded.proofs.memoizing_executor.preferred_final_state.Goals as goal

pub run-requires : goal.run-requires
run-requires g c =
    let searched = c.args.searched.now in
    let is = g.met.Input.InputIndexer.is_text searched.input in
    let can = can-search (tree_of searched.program.now) (g.Input.InputIndexer.text searched.input) searched.well_formed is searched.unicode (λ reads. (searched.bytes reads).reads) in
    record { stands = attempt-stands g.Input.Position.PositionType.offset can (g.Input.Position.PositionType.offset c.args.pos) c.requires.at c.args.progress.now is c.requires.sound c.in_ok-start.start c.in_ok-start.ensures }

pub returns-in_err-end-clause-runs : goal.returns-in_err-end-clause-runs
returns-in_err-end-clause-runs g c = λ b h.
    let stands = begins-stands {offset = g.Input.Position.PositionType.offset} c.in_ok-start.start (g.met.Input.InputIndexer.is_text c.args.searched.now.input) c.requires.at c.in_ok-start.ensures h in
    runs-handed g.Input.Position.PositionType.offset (compiled (tree_of c.args.searched.now.program.now)) (g.Input.InputIndexer.text c.args.searched.now.input) b c.run.new.progress c.from_residual-in_err-end.result c.in_err-end.field-0.0 c.from_residual-in_err-end.ensures.1 (c.in_err-end.ensures.runs b stands)

pub returns-clause-runs : goal.returns-clause-runs
returns-clause-runs g c = λ b h.
    c.in_ok-end.ensures.runs b (begins-stands {offset = g.Input.Position.PositionType.offset} c.in_ok-start.start (g.met.Input.InputIndexer.is_text c.args.searched.now.input) c.requires.at c.in_ok-start.ensures h)

pub returns-clause-found : goal.returns-clause-found
returns-clause-found g c =
    let searched = c.args.searched.now in
    let is = g.met.Input.InputIndexer.is_text searched.input in
    let can = can-search (tree_of searched.program.now) (g.Input.InputIndexer.text searched.input) searched.well_formed is searched.unicode (λ reads. (searched.bytes reads).reads) in
    found-all g.Input.Position.PositionType.offset can (g.Input.Position.PositionType.offset c.args.pos) c.requires.at c.args.progress.now c.run.new.progress c.in_ok-end.end c.requires.sound
    (λ b h. c.in_ok-end.ensures.runs b (begins-stands c.in_ok-start.start is c.requires.at c.in_ok-start.ensures h))
