use Rattle.std.proofs.Common.{sym, ap, ◌∙◌}
use Rattle.regex_pattern_front.specs.AstToSpecTree.{spec_node_of}
use Rattle.regress_program.specs.LeafNodesAndOptimizableLoops.{is_leaf}
use Rattle.regress_program.proofs.NodeListLemmas.{spec_node_of-Cat, no_leaf}
use Rattle.regress_program.proofs.emit.emitter.Emitter.emit_leaf.Goals as goal

pub unreachable-requires : goal.unreachable-requires
unreachable-requires c =
    no_leaf c.in-Cat.field-0.items (sym (ap is_leaf (ap spec_node_of c.in-Cat.is ∙ spec_node_of-Cat c.in-Cat.field-0)) ∙ c.requires.leaf)
