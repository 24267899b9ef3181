use Rattle.std.proofs.Common.{◌≡◌, ◌<◌, ◌∙◌, true, false, refl, ap, arith, rules, Box, Vec, Global}
use Rattle.regex_meaning.specs.Tree.{alt}
use Rattle.regex_pattern_front.specs.AstToSpecTree.{spec_cat_of_children, spec_node_of}
use Rattle.regex_pattern_front.specs.declared.ir.Node.{Node, size-Node}
use Rattle.regex_pattern_front.specs.declared.ir.Node.TheViews.{out-Node}
use Rattle.regex_pattern_front.specs.declared.ir.Node.TheBlock.{hidden-the_row-Node-0, the_depth}
use denote.Hole.Carrier.{fold, out}
use denote.Hole.Rolled.{depth}
use Rattle.regex_pattern_front.specs.OptimizedTrees.{optimized, reads_one_character}
use Rattle.regex_pattern_front.proofs.AstToSpecTreeLemmas.{optimized-children, optimized-leaf, spec_node_of-Cat, turned-one}
use Rattle.regex_pattern_front.proofs.optimizer.+optimize.Goals as goal

pub optimize_all-returns : goal.optimize_all-returns
optimize_all-returns t c =
    let i = c.loop-i.invariant in
    optimized-children c.loop-i.nodes.items c.args.nodes.now.items i.0.0 (λ k d h. i.1 k d (omega (arith, c.len-i-end.ensures, c.args.nodes.now.ok.0, h)))

pub optimize_node-returns-in-Cat : goal.optimize_node-returns-in-Cat
unfolding spec_node_of optimized out-Node hidden-the_row-Node-0 out
optimize_node-returns-in-Cat t c =
    let nodes : spec_cat_of_children c.optimize_all.new.nodes.items ≡ optimized (spec_cat_of_children c.in-Cat.children.items) =
    c.optimize_all.ensures ∙ ap (λ (v : Vec Node Global). optimized (spec_cat_of_children v.items)) c.in-Cat.children-is in
    rw c.in-Cat.is (rw (spec_node_of-Cat c.optimize_all.new.nodes, spec_node_of-Cat c.in-Cat.children) nodes)

pub optimize_node-returns-in-Alt : goal.optimize_node-returns-in-Alt
unfolding spec_node_of optimized
optimize_node-returns-in-Alt t c =
    let left : c.deref_mut.result.now ≡ c.in-Alt.left.value = c.deref_mut.ensures.value ∙ ap (λ (b : Box Node Global). b.value) c.in-Alt.left-is in
    let right : c.deref_mut-in-Alt.result.now ≡ c.in-Alt.right.value = c.deref_mut-in-Alt.ensures.value ∙ ap (λ (b : Box Node Global). b.value) c.in-Alt.right-is in
    rw c.in-Alt.is (rw (left, right) at c.optimize_nested_alternatives.ensures)

pub optimize_node-returns-in-CaptureGroup : goal.optimize_node-returns-in-CaptureGroup
unfolding spec_node_of optimized out-Node out
optimize_node-returns-in-CaptureGroup t c =
    let inside : c.deref_mut-in-CaptureGroup.result.now ≡ c.in-CaptureGroup.contents.value = c.deref_mut-in-CaptureGroup.ensures.value ∙ ap (λ (b : Box Node Global). b.value) c.in-CaptureGroup.contents-is in
    rw (c.in-CaptureGroup.is, c.optimize_node.ensures, inside)

pub optimize_node-returns-in-LookaroundAssertion : goal.optimize_node-returns-in-LookaroundAssertion
unfolding spec_node_of optimized out-Node out
optimize_node-returns-in-LookaroundAssertion t c =
    let inside : c.deref_mut-in-LookaroundAssertion.result.now ≡ c.in-LookaroundAssertion.contents.value = c.deref_mut-in-LookaroundAssertion.ensures.value ∙ ap (λ (b : Box Node Global). b.value) c.in-LookaroundAssertion.contents-is in
    rw (c.in-LookaroundAssertion.is, c.optimize_node-in-LookaroundAssertion.ensures, inside)

pub optimize_node-returns-in-Loop1CharBody : goal.optimize_node-returns-in-Loop1CharBody
unfolding spec_node_of optimized out-Node out
optimize_node-returns-in-Loop1CharBody t c =
    let inside : c.deref_mut-in-Loop1CharBody.result.now ≡ c.in-Loop1CharBody.loopee.value = c.deref_mut-in-Loop1CharBody.ensures.value ∙ ap (λ (b : Box Node Global). b.value) c.in-Loop1CharBody.loopee-is in
    rw (c.in-Loop1CharBody.is, c.optimize_node-in-Loop1CharBody.ensures, inside)

pub optimize_node-returns-then-reads_one_character : goal.optimize_node-returns-then-reads_one_character
unfolding spec_node_of optimized out-Node out
optimize_node-returns-then-reads_one_character t c =
    let read : c.deref.result.now ≡ c.in-Loop.loopee.value = c.deref.ensures ∙ ap (λ (b : Box Node Global). b.value) c.in-Loop.loopee-is in
    let test : reads_one_character (spec_node_of c.in-Loop.loopee.value) ≡ true = rw (← read, ← c.reads_one_character.ensures) c.if-reads_one_character.true in
    rw (c.turn_into_char_loop.ensures, c.in-Loop.is, test)

pub optimize_node-returns-else-reads_one_character : goal.optimize_node-returns-else-reads_one_character
unfolding spec_node_of optimized out-Node out
optimize_node-returns-else-reads_one_character t c =
    let read : c.deref.result.now ≡ c.in-Loop.loopee.value = c.deref.ensures ∙ ap (λ (b : Box Node Global). b.value) c.in-Loop.loopee-is in
    let test : reads_one_character (spec_node_of c.in-Loop.loopee.value) ≡ false = rw (← read, ← c.reads_one_character.ensures) c.if-reads_one_character.false in
    let inside : c.deref_mut-else-reads_one_character.result.now ≡ c.in-Loop.loopee.value =
    c.deref_mut-else-reads_one_character.ensures.value ∙ ap (λ (b : Box Node Global). b.value) c.in-Loop.loopee-is in
    rw (c.in-Loop.is, test, c.optimize_node-else-reads_one_character.ensures, inside)

pub optimize_node-returns-in_default : goal.optimize_node-returns-in_default
optimize_node-returns-in_default t c =
    let d = c.in_default in
    optimized-leaf c.args.node.now (record {
      not_Cat = d.not-Cat;
      not_Alt = d.not-Alt;
      not_CaptureGroup = d.not-CaptureGroup;
      not_LookaroundAssertion = d.not-LookaroundAssertion;
      not_Loop = d.not-Loop;
      not_Loop1CharBody = d.not-Loop1CharBody;
    })

pub optimize_nested_alternatives-loop-rest-init : goal.optimize_nested_alternatives-loop-rest-init
unfolding optimized
optimize_nested_alternatives-loop-rest-init t c = record { deep = omega arith; turned = rw c.optimize_node.ensures refl }

-- The node behind the first alternative is next, whatever becomes of the first alternative.
next : (t : _) (c : goal.optimize_nested_alternatives-After-move_alternative t) → c.move_alternative.new.from ≡ c.in-Alt._right.value
unfolding out-Node out
next t c = c.move_alternative.ensures.part (record c.in-Alt.left { value = c.optimize_node-in-Alt.new.node }) c.in-Alt._right (rw c.in-Alt.is refl)

less : (t : _) (c : goal.optimize_nested_alternatives-After-move_alternative t) → size-Node c.move_alternative.new.from < size-Node c.loop-rest.rest
unfolding the_depth depth fold
less t c =
    let inside : size-Node c.in-Alt._right.value < size-Node c.loop-rest.rest = rw c.in-Alt.is (search rules) in
    rw (next t c) inside

pub optimize_nested_alternatives-loop-rest-smaller : goal.optimize_nested_alternatives-loop-rest-smaller
optimize_nested_alternatives-loop-rest-smaller t c = less t c

pub optimize_nested_alternatives-loop-rest-preserved : goal.optimize_nested_alternatives-loop-rest-preserved
unfolding spec_node_of optimized
optimize_nested_alternatives-loop-rest-preserved t c =
    let now = c.loop-rest in
    let left : c.deref_mut.result.now ≡ c.in-Alt.left.value = c.deref_mut.ensures.value ∙ ap (λ (b : Box Node Global). b.value) c.in-Alt.left-is in
    let to : spec_node_of c.move_alternative.new.to ≡ alt (optimized (spec_node_of c.in-Alt.left.value)) (spec_node_of now.first) =
    c.move_alternative.ensures.to ∙ ap (λ n. alt n (spec_node_of now.first)) (c.optimize_node-in-Alt.ensures ∙ ap (λ n. optimized (spec_node_of n)) left) in
    record {
      deep = omega (arith, less t c, now.invariant.deep);
      turned =
          rw (to, next t c, turned-one now.turned (optimized (spec_node_of c.in-Alt.left.value)) (spec_node_of now.first) (optimized (spec_node_of c.in-Alt._right.value)))
          (rw c.in-Alt.is at now.invariant.turned);
    }
