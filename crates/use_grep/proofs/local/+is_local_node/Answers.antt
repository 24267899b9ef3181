use Rattle.std.proofs.Common.{◌≡◌, ◌<◌, ◌∙◌, ap, rules, sym}
use Rattle.regex_pattern_front.specs.AstToSpecTree.{spec_node_of}
use Rattle.regress_program.specs.LeafNodesAndOptimizableLoops.{spec_cat_of_children}
use Rattle.regress_program.proofs.NodeListLemmas.{spec_node_of-Cat}
use Rattle.regress_program.proofs.InnerNodeCountLemmas.{inner_node_count, weight-child}
use Rattle.use_grep.specs.Local.{is_local}
use Rattle.use_grep.proofs.local.+is_local_node.Goals as goal

pub are_local-is_local_node-requires : goal.are_local-is_local_node-requires
are_local-is_local_node-requires t c =
    let smaller : inner_node_count (spec_node_of c.node-item.result) < inner_node_count (spec_cat_of_children c.args.nodes.now) = weight-child _ _ _ c.loop-node-test.true c.node-item.is in search rules

pub is_local_node-are_local-requires : goal.is_local_node-are_local-requires
is_local_node-are_local-requires t c =
    let same : inner_node_count (spec_node_of c.loop-rest.rest.now) ≡ inner_node_count (spec_cat_of_children c.deref.result.now) =
    ap inner_node_count (ap spec_node_of c.in-Cat.is ∙ spec_node_of-Cat c.in-Cat.nodes ∙ ap spec_cat_of_children (sym c.deref.ensures.value)) in
    let within = c.loop-rest.invariant.within in
    search rules

pub is_local_node-returns-in-Cat : goal.is_local_node-returns-in-Cat
is_local_node-returns-in-Cat t c =
    let is : spec_node_of c.loop-rest.rest.now ≡ spec_cat_of_children c.deref.result.now = ap spec_node_of c.in-Cat.is ∙ spec_node_of-Cat c.in-Cat.nodes ∙ ap spec_cat_of_children (sym c.deref.ensures.value) in
    c.are_local.ensures ∙ sym (ap is_local is) ∙ c.loop-rest.invariant.same
