use Rattle.std.proofs.Common.{◌≡◌, ◌∙◌, ap, sym, arith}
use Rattle.regex_meaning.specs.WellFormedTrees.{ends_in_goal}
use Rattle.regex_pattern_front.specs.AstToSpecTree.{spec_node_of}
use Rattle.regress_program.specs.LeafNodesAndOptimizableLoops.{spec_cat_of_children}
use Rattle.regress_program.proofs.NodeKindLemmas.{ends-other}
use Rattle.regress_program.proofs.NodeListLemmas.{spec_node_of-Cat, ends_in_goal-none, ends_in_goal-last}
use Rattle.regress_program.proofs.InnerNodeCountLemmas.{inner_node_count, weight-member}
use Rattle.regress_program.proofs.emit.well_formedness_check.is_goal_at_end.Goals as goal

pub returns-in-None : goal.returns-in-None
returns-in-None c =
    let is : spec_node_of c.loop-rest.rest.now ≡ spec_cat_of_children c.deref.result.now = ap spec_node_of c.in-Cat.is ∙ spec_node_of-Cat c.in-Cat.nodes ∙ ap spec_cat_of_children (sym c.deref.ensures.value) in
    sym (ends_in_goal-none c.deref.result.now (sym c.in-None.ensures.value)) ∙ sym (ap ends_in_goal is) ∙ c.loop-rest.invariant

pub loop-rest-smaller : goal.loop-rest-smaller
loop-rest-smaller c =
    let is : spec_node_of c.loop-rest.rest.now ≡ spec_cat_of_children c.deref.result.now = ap spec_node_of c.in-Cat.is ∙ spec_node_of-Cat c.in-Cat.nodes ∙ ap spec_cat_of_children (sym c.deref.ensures.value) in
    omega (arith, ap inner_node_count is, weight-member c.deref.result.now _ c.in-Some.last.now (sym c.in-Some.ensures.value))

pub loop-rest-preserved : goal.loop-rest-preserved
loop-rest-preserved c =
    let is : spec_node_of c.loop-rest.rest.now ≡ spec_cat_of_children c.deref.result.now = ap spec_node_of c.in-Cat.is ∙ spec_node_of-Cat c.in-Cat.nodes ∙ ap spec_cat_of_children (sym c.deref.ensures.value) in
    sym (ends_in_goal-last c.deref.result.now c.in-Some.last.now (sym c.in-Some.ensures.value)) ∙ sym (ap ends_in_goal is) ∙ c.loop-rest.invariant

pub returns-in_default : goal.returns-in_default
returns-in_default c = sym (ends-other c.loop-rest.rest.now c.in_default.not-Goal c.in_default.not-Cat) ∙ c.loop-rest.invariant
