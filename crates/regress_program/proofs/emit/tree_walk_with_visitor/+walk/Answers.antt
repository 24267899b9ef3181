use Rattle.std.proofs.Common.{◌≡◌, ◌<◌, [], ◌∙◌, ap, sym, rules, drop}
use Rattle.std.specs.Prelude.{is_some}
use Rattle.std.proofs.lemmas.List.{drop_all}
use Rattle.regex_pattern_front.specs.AstToSpecTree.{spec_node_of}
use Rattle.regress_program.specs.LeafNodesAndOptimizableLoops.{spec_cat_of_children}
use Rattle.regress_program.specs.TryFoldOverTreeNodes.{try_fold_tree_nodes}
use Rattle.regress_program.proofs.NodeListLemmas.{spec_node_of-Cat}
use Rattle.regress_program.proofs.TreeWalkLemmas.{row-same, walk-stops}
use Rattle.regress_program.proofs.InnerNodeCountLemmas.{inner_node_count, weight-child}
use Rattle.regress_program.proofs.emit.tree_walk_with_visitor.+walk.Goals as goal

pub walk-walk_row-requires : goal.walk-walk_row-requires
walk-walk_row-requires g t c κs inside =
    let is : spec_node_of c.loop-rest.rest.now ≡ spec_cat_of_children c.deref.result.now = ap spec_node_of c.in-Cat.is ∙ spec_node_of-Cat c.in-Cat.nodes ∙ ap spec_cat_of_children (sym c.deref.ensures.value) in
    let same : inner_node_count (spec_node_of c.loop-rest.rest.now) ≡ inner_node_count (spec_cat_of_children c.deref.result.now) = ap inner_node_count is in
    let within = c.loop-rest.invariant.within in
    (search rules, inside)

pub walk-returns-in-Cat-clause-goes_on : goal.walk-returns-in-Cat-clause-goes_on
walk-returns-in-Cat-clause-goes_on g t c =
    let step = g.V.PreorderNodeVisitor.step in
    let laws = g.met.V.PreorderNodeVisitor in
    let is : spec_node_of c.loop-rest.rest.now ≡ spec_cat_of_children c.deref.result.now = ap spec_node_of c.in-Cat.is ∙ spec_node_of-Cat c.in-Cat.nodes ∙ ap spec_cat_of_children (sym c.deref.ensures.value) in
    let same = row-same step laws.passes_rows laws.passes_ends c.deref.result.now _ _ _ is (c.visit_node_or_stop_walk.ensures.step c.loop-rest-test.true) in
    c.walk_row.ensures.goes_on ∙ ap (λ v. is_some (try_fold_tree_nodes step (spec_cat_of_children c.deref.result.now) v)) same
    ∙ ap (λ n. is_some (try_fold_tree_nodes step n c.loop-rest.visitor)) (sym is) ∙ ap is_some c.loop-rest.invariant.walked

pub walk-returns-in-Cat-clause-walked : goal.walk-returns-in-Cat-clause-walked
walk-returns-in-Cat-clause-walked g t c went =
    let step = g.V.PreorderNodeVisitor.step in
    let laws = g.met.V.PreorderNodeVisitor in
    let is : spec_node_of c.loop-rest.rest.now ≡ spec_cat_of_children c.deref.result.now = ap spec_node_of c.in-Cat.is ∙ spec_node_of-Cat c.in-Cat.nodes ∙ ap spec_cat_of_children (sym c.deref.ensures.value) in
    let same = row-same step laws.passes_rows laws.passes_ends c.deref.result.now _ _ _ is (c.visit_node_or_stop_walk.ensures.step c.loop-rest-test.true) in
    sym c.loop-rest.invariant.walked ∙ ap (λ n. try_fold_tree_nodes step n c.loop-rest.visitor) is
    ∙ ap (try_fold_tree_nodes step (spec_cat_of_children c.deref.result.now)) (sym same) ∙ c.walk_row.ensures.walked went

pub walk-returns-clause-goes_on : goal.walk-returns-clause-goes_on
walk-returns-clause-goes_on g t c =
    let step = g.V.PreorderNodeVisitor.step in
    walk-stops step (spec_node_of c.loop-rest.rest.now) c.loop-rest.visitor (sym c.loop-rest-test.false ∙ c.visit_node_or_stop_walk.ensures.goes_on) ∙ ap is_some c.loop-rest.invariant.walked

pub walk_arm-walk_row-requires : goal.walk_arm-walk_row-requires
walk_arm-walk_row-requires g t c κs inside =
    let is : spec_node_of c.args.arm.now ≡ spec_cat_of_children c.deref.result.now = ap spec_node_of c.in-Cat.is ∙ spec_node_of-Cat c.in-Cat.nodes ∙ ap spec_cat_of_children (sym c.deref.ensures.value) in
    let same : inner_node_count (spec_node_of c.args.arm.now) ≡ inner_node_count (spec_cat_of_children c.deref.result.now) = ap inner_node_count is in
    (search rules, inside)

pub walk_arm-returns-in-Cat-clause-goes_on : goal.walk_arm-returns-in-Cat-clause-goes_on
walk_arm-returns-in-Cat-clause-goes_on g t c =
    let is : spec_node_of c.args.arm.now ≡ spec_cat_of_children c.deref.result.now = ap spec_node_of c.in-Cat.is ∙ spec_node_of-Cat c.in-Cat.nodes ∙ ap spec_cat_of_children (sym c.deref.ensures.value) in
    rw is c.walk_row.ensures.goes_on

pub walk_arm-returns-in-Cat-clause-walked : goal.walk_arm-returns-in-Cat-clause-walked
walk_arm-returns-in-Cat-clause-walked g t c went =
    let is : spec_node_of c.args.arm.now ≡ spec_cat_of_children c.deref.result.now = ap spec_node_of c.in-Cat.is ∙ spec_node_of-Cat c.in-Cat.nodes ∙ ap spec_cat_of_children (sym c.deref.ensures.value) in
    rw is (c.walk_row.ensures.walked went)

pub walk_row-walk-requires : goal.walk_row-walk-requires
walk_row-walk-requires g t c κs inside =
    let nodes = c.args.nodes.now in
    let n = c.node-item.result in
    let smaller : inner_node_count (spec_node_of n) < inner_node_count (spec_cat_of_children nodes) = weight-child nodes c.loop-node.node-index n c.loop-node-test.true c.node-item.is in
    (search rules, inside)

pub walk_row-returns-clause-walked : goal.walk_row-returns-clause-walked
walk_row-returns-clause-walked g t c went =
    let step = g.V.PreorderNodeVisitor.step in
    let none : drop c.loop-node.node-index c.args.nodes.now ≡ [] = drop_all c.loop-node.node-index c.args.nodes.now c.loop-node-test.false in
    sym c.loop-node.invariant ∙ ap (λ ns. try_fold_tree_nodes step (spec_cat_of_children ns) c.loop-node.visitor) none ∙ g.met.V.PreorderNodeVisitor.passes_ends c.loop-node.visitor

pub walk_row-returns-clause-goes_on : goal.walk_row-returns-clause-goes_on
walk_row-returns-clause-goes_on g t c =
    let step = g.V.PreorderNodeVisitor.step in
    let none : drop c.loop-node.node-index c.args.nodes.now ≡ [] = drop_all c.loop-node.node-index c.args.nodes.now c.loop-node-test.false in
    ap is_some (sym (ap (λ ns. try_fold_tree_nodes step (spec_cat_of_children ns) c.loop-node.visitor) none ∙ g.met.V.PreorderNodeVisitor.passes_ends c.loop-node.visitor)) ∙ ap is_some c.loop-node.invariant
