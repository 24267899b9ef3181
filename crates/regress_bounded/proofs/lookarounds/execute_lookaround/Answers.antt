use Rattle.regex_pattern_front.specs.AstToSpecTree.{tree_of}
use Rattle.regress_program.specs.CompilationOfTreesAsFunction.{compiled}
use Rattle.regress_bounded.proofs.LookaroundTurnLemmas.{look-can, look-err, look-inside, look-ok, look-other, look-result}
use Rattle.regress_bounded.proofs.lookarounds.execute_lookaround.Goals as goal

pub execute_insn-requires-clause-executable : goal.execute_insn-requires-clause-executable
execute_insn-requires-clause-executable g c = look-can g.Input.Position.PositionType.offset (compiled (tree_of c.args.searched.now.program.now)) (g.Input.InputIndexer.text c.args.searched.now.input) c.args.state c.requires.contents

pub unreachable-requires : goal.unreachable-requires
unreachable-requires g c = look-other g.Input.Position.PositionType.offset (compiled (tree_of c.args.searched.now.program.now)) (g.Input.InputIndexer.text c.args.searched.now.input) c.args.state c.in_ok-forward.field-0 c.in_ok-forward.ensures c.requires.contents c.in_default.not-Lookaround

-- ---- The search of the contents

pub search_contents-requires-clause-inside : goal.search_contents-requires-clause-inside
search_contents-requires-clause-inside g c =
    look-inside g.Input.Position.PositionType.offset (compiled (tree_of c.args.searched.now.program.now)) (g.Input.InputIndexer.text c.args.searched.now.input) c.args.state c.in_ok-forward.field-0 c.in_ok-forward.ensures
    c.in-Lookaround.forward c.in-Lookaround.negate c.in-Lookaround.inner c.in-Lookaround.after c.in-Lookaround.is c.requires.inside

pub search_contents-requires-clause-result : goal.search_contents-requires-clause-result
search_contents-requires-clause-result g c =
    look-result g.Input.Position.PositionType.offset (compiled (tree_of c.args.searched.now.program.now)) (g.Input.InputIndexer.text c.args.searched.now.input) c.args.state c.in_ok-forward.field-0 c.in_ok-forward.ensures
    c.in-Lookaround.forward c.in-Lookaround.negate c.in-Lookaround.inner c.in-Lookaround.after c.in-Lookaround.is c.requires.contents

pub returns-in_err-found-in-Lookaround-clause-continues : goal.returns-in_err-found-in-Lookaround-clause-continues
returns-in_err-found-in-Lookaround-clause-continues g c = λ x.
    look-err g.Input.Position.PositionType.offset (compiled (tree_of c.args.searched.now.program.now)) (g.Input.InputIndexer.text c.args.searched.now.input) c.args.state c.in_ok-forward.field-0 c.in_ok-forward.ensures
    c.in-Lookaround.forward c.in-Lookaround.negate c.in-Lookaround.inner c.in-Lookaround.after c.in-Lookaround.is c.args.progress.now.left c.spend.new.self.left c.search_contents.new.progress.left
    c.in_ok-spend.ensures.spent x
    c.from_residual-in_err-found-in-Lookaround.result c.in_err-found-in-Lookaround.field-0.0 c.from_residual-in_err-found-in-Lookaround.ensures.1 c.in_err-found-in-Lookaround.ensures.finds

pub returns-clause-continues : goal.returns-clause-continues
returns-clause-continues g c = λ x.
    look-ok g.Input.Position.PositionType.offset (compiled (tree_of c.args.searched.now.program.now)) (g.Input.InputIndexer.text c.args.searched.now.input) c.args.state c.in_ok-forward.field-0 c.in_ok-forward.ensures
    c.in-Lookaround.forward c.in-Lookaround.negate c.in-Lookaround.inner c.in-Lookaround.after c.in-Lookaround.is c.args.progress.now.left c.spend.new.self.left c.search_contents.new.progress.left
    c.in_ok-spend.ensures.spent x
    c.in_ok-found-in-Lookaround.found c.in_ok-found-in-Lookaround.ensures.finds c.resume_after_lookaround.result c.resume_after_lookaround.ensures
