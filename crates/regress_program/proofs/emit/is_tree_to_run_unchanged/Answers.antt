use Rattle.regex_pattern_front.specs.AstToSpecTree.{tree_of}
use Rattle.regress_program.proofs.TreeToRunLemmas.{tree_to_compile-plain, tree_to_compile-same}
use Rattle.regress_program.proofs.emit.is_tree_to_run_unchanged.Goals as goal

pub returns-then-re-clause-itself : goal.returns-then-re-clause-itself
returns-then-re-clause-itself c = λ h. tree_to_compile-plain (tree_of c.args.re.now) c.if-re.true

pub returns-clause-itself : goal.returns-clause-itself
returns-clause-itself c = λ h. tree_to_compile-same (tree_of c.args.re.now) (c.has_no_loop_left_to_optimize.ensures h)
