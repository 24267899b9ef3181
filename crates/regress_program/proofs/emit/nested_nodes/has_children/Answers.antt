use Rattle.std.proofs.Common.{◌≡◌, List, [], ◌∷◌, true, refl}
use Rattle.std.specs.Prelude.{not}
use Rattle.regex_pattern_front.specs.declared.ir.Node.{Node}
use Rattle.regress_program.specs.LeafNodesAndOptimizableLoops.{spec_cat_of_children, is_leaf}
use Rattle.regress_program.proofs.NodeListLemmas.{spec_node_of-Cat}
use Rattle.regress_program.proofs.emit.nested_nodes.has_children.Goals as goal

row-holds : (nodes : List Node) → true ≡ not (is_leaf (spec_cat_of_children nodes))
row-holds [] = refl
row-holds (n ∷ nodes) = refl

pub returns-in-Cat : goal.returns-in-Cat
returns-in-Cat c = rw (c.in-Cat.is, spec_node_of-Cat c.in-Cat.field-0) (row-holds c.in-Cat.field-0.items)
