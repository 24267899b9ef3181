use Rattle.std.proofs.Common.{false, subst, sym}
use Rattle.regex_pattern_front.specs.AstToSpecTree.{tree_of}
use Rattle.regress_program.specs.CompilationOfTreesAsFunction.{compiled}
use Rattle.regress_program.specs.ProgramFieldsMatchTree.{IsPlanForUnitWidth}
use Rattle.regress_program.proofs.StartPredicatesLemmas.{copy-start}
use Rattle.regress_program.proofs.insn.byte_and_unit_programs.CompiledRegex.clone.Goals as goal

pub invariant_of-result : goal.invariant_of-result
invariant_of-result c =
    let held = c.self.invariant in
    rw c.in_ok-clone.ensures (record {
      starts = copy-start c.self.inside.start_pred _ c.self.inside.program c.in_ok-clone-2.ensures held.starts;
      planned = c.in_ok-copy_plan.ensures false (compiled (tree_of c.self.inside.program)) (subst (IsPlanForUnitWidth false c.self.inside.program) (sym c.deref.ensures) held.planned);
    })
