use Rattle.std.proofs.Common.{◌∙◌, ap, sym, map, true}
use Rattle.regex_pattern_front.specs.AstToSpecTree.{tree_of, class_as_spec}
use Rattle.regress_program.specs.Plans.{ProgramHasParts}
use Rattle.regress_program.specs.InsnsAsSpec.{insn_as_spec_insn}
use Rattle.regress_program.specs.CompilationOfTreesAsFunction.{compiled}
use Rattle.regress_program.specs.OptimizedTreeUnlessNoOpt.{optimized_tree_unless_no_opt}
use Rattle.regress_program.proofs.TreeToRunLemmas.{groups-planned}
use Rattle.regress_program.proofs.emit.unit_plan_of.Goals as goal

pub returns : goal.returns
returns c = λ re is groups.
    let run = optimized_tree_unless_no_opt (tree_of re) in
    let has : ProgramHasParts (compiled run) (record { insns = c.deref-2.result; brackets = c.deref-4.result; groups = c.args.groups }) = record {
      insns = ap (map insn_as_spec_insn) (c.deref-2.ensures.value ∙ ap (λ e. e.insns.items) c.deref.ensures) ∙ is.insns;
      brackets = ap (map class_as_spec) (c.deref-4.ensures.value ∙ ap (λ e. e.brackets.items) c.deref-3.ensures) ∙ is.brackets;
      groups = groups ∙ sym (groups-planned true (tree_of re));
    } in
    record { planned = c.in_ok-plan.ensures (compiled run) has; code = is }
