use Rattle.regex_pattern_front.specs.IterativeDropMeasure.{tree_size, node_size}
use Rattle.regex_pattern_front.specs.AstToSpecTree.{spec_node_of}
use Rattle.regex_pattern_front.proofs.IterativeDropLemmas.{next_node_and_linked_rest-less}
use Rattle.regex_pattern_front.proofs.ir.separate_alternatives.Goals as goal

pub returns-in-Some : goal.returns-in-Some
unfolding spec_node_of tree_size
returns-in-Some c =
    rw (c.in-Some.is, c.replace-node.ensures.value, c.replace-node.ensures.after, c.deref_mut.ensures.value)
    (next_node_and_linked_rest-less (node_size c.args.left.value) (node_size c.args.right.value) (node_size c.in-Some.link))
