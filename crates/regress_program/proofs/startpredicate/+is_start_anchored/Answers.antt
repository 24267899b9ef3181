use Rattle.std.proofs.Common.{◌≡◌, ◌∙◌, ap, sym, arith}
use Rattle.regex_meaning.specs.StartPredicate.{is_anchored}
use Rattle.regex_pattern_front.specs.AstToSpecTree.{spec_node_of}
use Rattle.regress_program.specs.LeafNodesAndOptimizableLoops.{spec_cat_of_children}
use Rattle.regress_program.proofs.NodeListLemmas.{spec_node_of-Cat, is_anchored-first, is_anchored-none}
use Rattle.regress_program.proofs.InnerNodeCountLemmas.{inner_node_count, weight-member}
use Rattle.regress_program.proofs.startpredicate.+is_start_anchored.Goals as goal

pub returns-in-None : goal.returns-in-None
returns-in-None t c =
    let is : spec_node_of c.loop-rest.rest.now ≡ spec_cat_of_children c.deref.result.now = ap spec_node_of c.in-Cat.is ∙ spec_node_of-Cat c.in-Cat.nodes ∙ ap spec_cat_of_children (sym c.deref.ensures.value) in
    sym (is_anchored-none c.deref.result.now (sym c.in-None.ensures.value)) ∙ sym (ap is_anchored is) ∙ c.loop-rest.invariant.same

pub loop-rest-smaller-in-Cat-1 : goal.loop-rest-smaller-in-Cat-1
loop-rest-smaller-in-Cat-1 t c =
    let is : spec_node_of c.loop-rest.rest.now ≡ spec_cat_of_children c.deref.result.now = ap spec_node_of c.in-Cat.is ∙ spec_node_of-Cat c.in-Cat.nodes ∙ ap spec_cat_of_children (sym c.deref.ensures.value) in
    omega (arith, ap inner_node_count is, weight-member c.deref.result.now 0 c.in-Some.first.now (sym c.in-Some.ensures.value))

pub loop-rest-preserved-in-Cat-1 : goal.loop-rest-preserved-in-Cat-1
loop-rest-preserved-in-Cat-1 t c =
    let is : spec_node_of c.loop-rest.rest.now ≡ spec_cat_of_children c.deref.result.now = ap spec_node_of c.in-Cat.is ∙ spec_node_of-Cat c.in-Cat.nodes ∙ ap spec_cat_of_children (sym c.deref.ensures.value) in
    record {
      same = sym (is_anchored-first c.deref.result.now c.in-Some.first.now (sym c.in-Some.ensures.value)) ∙ sym (ap is_anchored is) ∙ c.loop-rest.invariant.same;
      within = omega (arith, ap inner_node_count is, weight-member c.deref.result.now 0 c.in-Some.first.now (sym c.in-Some.ensures.value), c.loop-rest.invariant.within);
    }
