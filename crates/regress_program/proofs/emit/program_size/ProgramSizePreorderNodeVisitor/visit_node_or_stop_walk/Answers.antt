use Rattle.std.proofs.Common.{refl, ap, ◌∙◌, Some}
use Rattle.regex_pattern_front.specs.AstToSpecTree.{spec_node_of}
use Rattle.regress_program.specs.GroupLoopInsnCountsPerNode.{count_node}
use Rattle.regress_program.proofs.NodeListLemmas.{spec_node_of-Cat}
use Rattle.regress_program.proofs.TreeWalkLemmas.{row-goes}
use Rattle.regress_program.proofs.emit.program_size.ProgramSizePreorderNodeVisitor.visit_node_or_stop_walk.Goals as goal

pub returns-in-Cat-clause-step : goal.returns-in-Cat-clause-step
returns-in-Cat-clause-step c went =
    row-goes (λ n it. Some (count_node n it)) (λ first rest it. refl) (λ it. refl) c.in-Cat.field-0.items _ c.args.self.now (ap spec_node_of c.in-Cat.is ∙ spec_node_of-Cat c.in-Cat.field-0)
