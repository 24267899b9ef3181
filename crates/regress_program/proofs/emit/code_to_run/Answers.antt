use Rattle.std.proofs.Common.{subst}
use Rattle.std.specs.Prelude.{IfOk}
use Rattle.std.specs.Arc.{arc_value}
use Rattle.regex_pattern_front.specs.AstToSpecTree.{tree_of}
use Rattle.regress_program.specs.ProgramFieldsMatchTree.{IsCodeOfTree}
use Rattle.regress_program.proofs.TreeToRunLemmas.{tree_to_compile-shaped}
use Rattle.regress_program.proofs.emit.code_to_run.Goals as goal

pub returns : goal.returns
returns c =
    let optimized = c.is_tree_to_run_unchanged.ensures.optimized c.if-is_tree_to_run_unchanged.false in
    subst (λ t. IfOk c.emit_code.result (λ code. IsCodeOfTree t (arc_value code))) (tree_to_compile-shaped (tree_of c.args.re.now) optimized) c.emit_code.ensures
