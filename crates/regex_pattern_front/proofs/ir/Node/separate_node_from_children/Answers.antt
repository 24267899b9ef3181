use Rattle.std.proofs.Common.{◌≡◌, ◌∙◌, ap, arith}
use Rattle.regex_pattern_front.specs.IterativeDropMeasure.{tree_size, node_size}
use Rattle.regex_pattern_front.specs.AstToSpecTree.{spec_cat_of_children, spec_node_of}
use Rattle.regex_pattern_front.proofs.AstToSpecTreeLemmas.{spec_node_of-Cat}
use Rattle.regex_pattern_front.proofs.IterativeDropLemmas.{inside-less}
use Rattle.regex_pattern_front.proofs.ir.Node.separate_node_from_children.Goals as goal

pub returns-in-Cat : goal.returns-in-Cat
returns-in-Cat c =
    let same : node_size c.args.self ≡ tree_size (spec_cat_of_children c.in-Cat.children.items) = ap node_size c.in-Cat.is ∙ ap tree_size (spec_node_of-Cat c.in-Cat.children) in
    rw same c.separate_last_child.ensures

pub returns-in-Alt : goal.returns-in-Alt
unfolding spec_node_of tree_size
returns-in-Alt c = rw c.in-Alt.is c.separate_alternatives.ensures

pub returns-in-CaptureGroup : goal.returns-in-CaptureGroup
unfolding spec_node_of tree_size
returns-in-CaptureGroup c = inside-less _ _ c.args.rest (rw (c.in-CaptureGroup.is, c.into_inner.ensures) (omega arith))

pub returns-in-LookaroundAssertion : goal.returns-in-LookaroundAssertion
unfolding spec_node_of tree_size
returns-in-LookaroundAssertion c = inside-less _ _ c.args.rest (rw (c.in-LookaroundAssertion.is, c.into_inner-in-LookaroundAssertion.ensures) (omega arith))

pub returns-in-Loop : goal.returns-in-Loop
unfolding spec_node_of tree_size
returns-in-Loop c = inside-less _ _ c.args.rest (rw (c.in-Loop.is, c.into_inner-in-Loop.ensures) (omega arith))

pub returns-in-Loop1CharBody : goal.returns-in-Loop1CharBody
unfolding spec_node_of tree_size
returns-in-Loop1CharBody c = inside-less _ _ c.args.rest (rw (c.in-Loop1CharBody.is, c.into_inner-in-Loop1CharBody.ensures) (omega arith))
