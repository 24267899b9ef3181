use Rattle.std.proofs.Common.{◌≡◌, ◌+◌, ◌<◌, ◌∙◌, ap, sym, arith, rules}
use Rattle.regex_meaning.specs.Tree.{alt}
use Rattle.regex_meaning.specs.StartPredicate.{abstract_start_predicate}
use Rattle.regex_pattern_front.specs.AstToSpecTree.{spec_node_of}
use Rattle.regress_program.specs.JoinedStarts.{abstract_start_as_spec, join_nonempty_starts, join_starts_of_alternatives}
use Rattle.regress_program.specs.LeafNodesAndOptimizableLoops.{spec_cat_of_children}
use Rattle.regress_program.specs.StartPredicates.{making_node_start_predicate_may_allocate}
use Rattle.regress_program.proofs.JoinedStartsLemmas.{arms-after, arms-next, quiet-arms}
use Rattle.regress_program.proofs.NodeListLemmas.{spec_node_of-Cat}
use Rattle.regress_program.proofs.InnerNodeCountLemmas.{inner_node_count, weight-child}
use Rattle.regress_program.proofs.startpredicate.abstract_start.+join_node.Goals as goal

pub join_node-join_node_list-requires : goal.join_node-join_node_list-requires
join_node-join_node_list-requires t c =
    let is : spec_node_of c.args.node.now ≡ spec_cat_of_children c.deref.result.now = ap spec_node_of c.in-Cat.is ∙ spec_node_of-Cat c.in-Cat.nodes ∙ ap spec_cat_of_children (sym c.deref.ensures.value) in
    let same : inner_node_count (spec_node_of c.args.node.now) ≡ inner_node_count (spec_cat_of_children c.deref.result.now) = ap inner_node_count is in
    search rules

pub join_node-returns-in-Cat : goal.join_node-returns-in-Cat
join_node-returns-in-Cat t c = rw (c.in-Cat.is, spec_node_of-Cat c.in-Cat.nodes, ← c.deref.ensures.value) c.join_node_list.ensures

pub join_node-returns-in_ok-join_arms-in-Alt-clause-shared : goal.join_node-returns-in_ok-join_arms-in-Alt-clause-shared
unfolding spec_node_of
join_node-returns-in_ok-join_arms-in-Alt-clause-shared t c =
    let l = spec_node_of c.in-Alt.left.value in
    let r = spec_node_of c.in-Alt.right.value in
    let shared = abstract_start_as_spec c.args.shared.now in
    let is : spec_node_of c.args.node.now ≡ alt l r = ap spec_node_of c.in-Alt.is in
    let arms : abstract_start_as_spec c.join_arms.new.shared ≡ join_starts_of_alternatives (join_starts_of_alternatives shared (abstract_start_predicate l)) (abstract_start_predicate r) =
    rw (c.deref-in-Alt.ensures, c.deref-in-Alt-2.ensures) at c.in_ok-join_arms-in-Alt.ensures.shared in
    arms ∙ arms-after shared l r ∙ sym (ap (λ n. join_nonempty_starts shared (abstract_start_predicate n)) is)

pub join_arms-loop-rest-preserved : goal.join_arms-loop-rest-preserved
unfolding spec_node_of inner_node_count
join_arms-loop-rest-preserved t c =
    let l = spec_node_of c.in-Alt.left.value in
    let r = spec_node_of c.in-Alt.right.value in
    let i = c.loop-rest.invariant in
    let is : spec_node_of c.loop-rest.rest.now ≡ alt l r = ap spec_node_of c.in-Alt.is in
    let next : spec_node_of c.deref-rest.result.now ≡ r = ap spec_node_of c.deref-rest.ensures in
    let one : abstract_start_as_spec c.join_one_arm-in-Alt.new.shared ≡ join_starts_of_alternatives (abstract_start_as_spec c.loop-rest.shared) (abstract_start_predicate l) = rw c.deref.ensures at c.in_ok-join_one_arm-2.ensures.shared in
    let smaller : inner_node_count (spec_node_of c.loop-rest.rest.now) ≡ inner_node_count l + inner_node_count r + 1 = ap inner_node_count is in
    record {
      within = omega (arith, ap inner_node_count next, smaller, i.within);
      shared = ap (λ n. join_starts_of_alternatives (abstract_start_as_spec c.join_one_arm-in-Alt.new.shared) (abstract_start_predicate n)) next
          ∙ arms-next _ _ _ l r one (ap (λ n. join_starts_of_alternatives (abstract_start_as_spec c.loop-rest.shared) (abstract_start_predicate n)) (sym is) ∙ i.shared);
      no_memory = λ quiet. ap making_node_start_predicate_may_allocate next ∙ quiet-arms l r (ap making_node_start_predicate_may_allocate (sym is) ∙ i.no_memory quiet);
    }

pub join_node_list-join_node-requires : goal.join_node_list-join_node-requires
join_node_list-join_node-requires t c =
    let smaller : inner_node_count (spec_node_of c.node-item.result) < inner_node_count (spec_cat_of_children c.args.nodes.now) = weight-child _ _ _ c.loop-node-test.true c.node-item.is in search rules
