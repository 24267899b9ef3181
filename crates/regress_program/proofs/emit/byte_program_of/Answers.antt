use Rattle.regex_pattern_front.specs.AstToSpecTree.{tree_of}
use Rattle.regress_program.specs.CompilationOfTreesAsFunction.{compiled}
use Rattle.regress_program.proofs.emit.byte_program_of.Goals as goal

pub invariant_of-result : goal.invariant_of-result
unfolding compiled
invariant_of-result c = record {
  starts = record {
    predicate = rw c.requires.same c.in_ok-start_pred.ensures.predicate;
    short = c.in_ok-start_pred.ensures.over_three;
  };
  planned = c.in_ok-plan.ensures;
}

pub plan_of_own_code-requires : goal.plan_of_own_code-requires
plan_of_own_code-requires c = rw c.requires.same c.requires.fits
