use Rattle.std.proofs.Common.{◌≡◌, ℕ, ◌+◌, ◌<◌, rules, ◌||◌, true, false, [], ◌∷◌, ◌∙◌, ap, sym, arith, drop}
use Rattle.std.proofs.lemmas.List.{drop_all}
use Rattle.regex_meaning.specs.NumberListHelpers.{contains}
use Rattle.regex_meaning.specs.Tree.{alt, cat, end_of_cat, capture_group, group_ids, every_node_passes}
use Rattle.regex_meaning.specs.WellFormedTrees.{has_exact_group_range}
use Rattle.regex_pattern_front.specs.AstToSpecTree.{spec_node_of, group_name_bytes}
use Rattle.regress_program.specs.LeafNodesAndOptimizableLoops.{spec_cat_of_children}
use Rattle.regress_program.specs.GroupIdCheck.{is_group_id_seen, has_exact_group_ids, count_and_span_of_group_ids, joined}
use Rattle.regress_program.specs.GroupIdSpans.{group_id_span_as_numbers}
use Rattle.regress_program.proofs.NodeListLemmas.{spec_node_of-Cat, spec_cat_of_children-drop}
use Rattle.regress_program.proofs.NodeKindLemmas.{leaf-left}
use Rattle.regress_program.proofs.GroupIdCheckLemmas.{left-same, left-next, left-fails, left-leaf, left-found, left-span, left-seen, fills-range_is_ids_of_enclosed_groups, joined-none, one_is_fresh}
use Rattle.regress_program.proofs.GroupIdCheckLemmas.{one_contained}
use Rattle.regress_program.proofs.InnerNodeCountLemmas.{inner_node_count, weight-child}
use Rattle.regress_program.proofs.emit.group_id_and_range_check.GroupIdSpanDuringCheck.+check_ids.Goals as goal

pub check_ids_along-check_list_ids-requires : goal.check_ids_along-check_list_ids-requires
check_ids_along-check_list_ids-requires t c =
    let is : spec_node_of c.loop-rest.rest.now ≡ spec_cat_of_children c.deref.result.now = ap spec_node_of c.in-Cat.is ∙ spec_node_of-Cat c.in-Cat.nodes ∙ ap spec_cat_of_children (sym c.deref.ensures.value) in
    let same : inner_node_count (spec_node_of c.loop-rest.rest.now) ≡ inner_node_count (spec_cat_of_children c.deref.result.now) = ap inner_node_count is in
    let within = c.loop-rest.invariant.within in
    search rules

pub check_ids_along-returns-in-Cat-clause-found : goal.check_ids_along-returns-in-Cat-clause-found
check_ids_along-returns-in-Cat-clause-found t c =
    let is : spec_node_of c.loop-rest.rest.now ≡ spec_cat_of_children c.deref.result.now = ap spec_node_of c.in-Cat.is ∙ spec_node_of-Cat c.in-Cat.nodes ∙ ap spec_cat_of_children (sym c.deref.ensures.value) in
    let l = left-same _ _ _ _ _ _ (spec_node_of c.loop-rest.rest.now) (spec_cat_of_children c.deref.result.now) is c.loop-rest.invariant.left in
    c.check_list_ids.ensures.found ∙ l.found

pub check_ids_along-returns-in-Cat-clause-span : goal.check_ids_along-returns-in-Cat-clause-span
check_ids_along-returns-in-Cat-clause-span t c went =
    let is : spec_node_of c.loop-rest.rest.now ≡ spec_cat_of_children c.deref.result.now = ap spec_node_of c.in-Cat.is ∙ spec_node_of-Cat c.in-Cat.nodes ∙ ap spec_cat_of_children (sym c.deref.ensures.value) in
    let l = left-same _ _ _ _ _ _ (spec_node_of c.loop-rest.rest.now) (spec_cat_of_children c.deref.result.now) is c.loop-rest.invariant.left in
    c.check_list_ids.ensures.span went ∙ l.span

pub check_ids_along-returns-in-Cat-clause-seen : goal.check_ids_along-returns-in-Cat-clause-seen
check_ids_along-returns-in-Cat-clause-seen t c went k =
    let is : spec_node_of c.loop-rest.rest.now ≡ spec_cat_of_children c.deref.result.now = ap spec_node_of c.in-Cat.is ∙ spec_node_of-Cat c.in-Cat.nodes ∙ ap spec_cat_of_children (sym c.deref.ensures.value) in
    let l = left-same _ _ _ _ _ _ (spec_node_of c.loop-rest.rest.now) (spec_cat_of_children c.deref.result.now) is c.loop-rest.invariant.left in
    c.check_list_ids.ensures.seen went k ∙ l.seen k

pub check_ids_along-returns-then-not-check_arm_ids-clause-found : goal.check_ids_along-returns-then-not-check_arm_ids-clause-found
unfolding spec_node_of
check_ids_along-returns-then-not-check_arm_ids-clause-found t c =
    let a = spec_node_of c.in-Alt.left.value in
    let b = spec_node_of c.in-Alt.right.value in
    let f = is_group_id_seen c.loop-rest.bits in
    let is : spec_node_of c.loop-rest.rest.now ≡ alt a b = ap spec_node_of c.in-Alt.is in
    let l = left-same _ _ _ _ f (group_id_span_as_numbers c.loop-rest.self.inside) (spec_node_of c.loop-rest.rest.now) (alt a b) is c.loop-rest.invariant.left in
    let node : spec_node_of c.deref-in-Alt.result.now ≡ a = ap spec_node_of c.deref-in-Alt.ensures in
    let fails : false ≡ has_exact_group_ids f a = sym c.if-not-check_arm_ids.true ∙ c.check_arm_ids.ensures.found ∙ ap (has_exact_group_ids f) node in
    left-fails _ _ _ _ f (group_id_span_as_numbers c.loop-rest.self.inside) (group_ids a) (group_ids b) (every_node_passes has_exact_group_range a) (every_node_passes has_exact_group_range b) l fails

pub check_ids_along-loop-rest-preserved-in-Alt : goal.check_ids_along-loop-rest-preserved-in-Alt
unfolding spec_node_of inner_node_count
check_ids_along-loop-rest-preserved-in-Alt t c =
    let a = spec_node_of c.in-Alt.left.value in
    let b = spec_node_of c.in-Alt.right.value in
    let f = is_group_id_seen c.loop-rest.bits in
    let g = is_group_id_seen c.check_arm_ids.new.bits in
    let s = group_id_span_as_numbers c.loop-rest.self.inside in
    let t = group_id_span_as_numbers c.check_arm_ids.new.self.inside in
    let is : spec_node_of c.loop-rest.rest.now ≡ alt a b = ap spec_node_of c.in-Alt.is in
    let next : spec_node_of c.deref-rest.result.now ≡ b = ap spec_node_of c.deref-rest.ensures in
    let smaller : inner_node_count (spec_node_of c.loop-rest.rest.now) ≡ inner_node_count a + inner_node_count b + 1 = ap inner_node_count is in
    let l = left-same _ _ _ _ f s (spec_node_of c.loop-rest.rest.now) (alt a b) is c.loop-rest.invariant.left in
    let went = sym c.if-not-check_arm_ids.false in
    let node : spec_node_of c.deref-in-Alt.result.now ≡ a = ap spec_node_of c.deref-in-Alt.ensures in
    let found : true ≡ has_exact_group_ids f a = went ∙ c.check_arm_ids.ensures.found ∙ ap (has_exact_group_ids f) node in
    let span : t ≡ joined s (count_and_span_of_group_ids (group_ids a)) = c.check_arm_ids.ensures.span (sym went) ∙ ap (λ n. joined s (count_and_span_of_group_ids (group_ids n))) node in
    let seen : (k : ℕ) → g k ≡ (f k || contains (group_ids a) k) = λ k. c.check_arm_ids.ensures.seen (sym went) k ∙ ap (λ n. f k || contains (group_ids n) k) node in
    record {
      within = omega (arith, ap inner_node_count next, smaller, c.loop-rest.invariant.within);
      left = left-same _ _ _ _ g t b (spec_node_of c.deref-rest.result.now) (sym next)
          (left-next _ _ _ _ f g s t (group_ids a) (group_ids b) (every_node_passes has_exact_group_range a) (every_node_passes has_exact_group_range b) l found span seen);
    }

pub check_ids_along-loop-rest-preserved-in-CaptureGroup : goal.check_ids_along-loop-rest-preserved-in-CaptureGroup
unfolding spec_node_of inner_node_count
check_ids_along-loop-rest-preserved-in-CaptureGroup t c =
    let id = c.in-CaptureGroup.id in
    let n = spec_node_of c.in-CaptureGroup.contents.value in
    let f = is_group_id_seen c.loop-rest.bits in
    let g = is_group_id_seen c.mark_seen.new.bits in
    let s = group_id_span_as_numbers c.loop-rest.self.inside in
    let t = group_id_span_as_numbers c.mark_seen.new.self.inside in
    let is : spec_node_of c.loop-rest.rest.now ≡ capture_group id (group_name_bytes c.in-CaptureGroup.name) n = ap spec_node_of c.in-CaptureGroup.is in
    let next : spec_node_of c.deref-rest-in-CaptureGroup.result.now ≡ n = ap spec_node_of c.deref-rest-in-CaptureGroup.ensures in
    let smaller : inner_node_count (spec_node_of c.loop-rest.rest.now) ≡ inner_node_count n + 1 = ap inner_node_count is in
    let l = left-same _ _ _ _ f s (spec_node_of c.loop-rest.rest.now) (capture_group id (group_name_bytes c.in-CaptureGroup.name) n) is c.loop-rest.invariant.left in
    record {
      within = omega (arith, ap inner_node_count next, smaller, c.loop-rest.invariant.within);
      left = left-same _ _ _ _ g t n (spec_node_of c.deref-rest-in-CaptureGroup.result.now) (sym next)
          (left-next _ _ _ _ f g s t (id ∷ []) (group_ids n) true (every_node_passes has_exact_group_range n) l (one_is_fresh f id true (sym c.if-not-mark_seen.false ∙ c.mark_seen.ensures.fresh)) c.mark_seen.ensures.span
          (λ k. c.mark_seen.ensures.seen k ∙ one_contained f id k));
    }

pub check_ids_along-returns-in_default : goal.check_ids_along-returns-in_default
check_ids_along-returns-in_default t c =
    let d = c.in_default in
    let leaf = leaf-left c.loop-rest.rest.now d.not-Cat d.not-Alt d.not-CaptureGroup d.not-LookaroundAssertion d.not-Loop d.not-Loop1CharBody in
    let f = is_group_id_seen c.loop-rest.bits in
    let s = group_id_span_as_numbers c.loop-rest.self.inside in
    let l = left-leaf _ _ _ _ f s (spec_node_of c.loop-rest.rest.now) leaf c.loop-rest.invariant.left in
    record {
      found = left-found _ _ _ _ f s l;
      span = λ h. left-span _ _ _ _ f s c.loop-rest.self.counted c.loop-rest.self.low l;
      seen = λ h. left-seen _ _ _ _ f s l;
    }

pub check_arm_ids-check_list_ids-requires : goal.check_arm_ids-check_list_ids-requires
check_arm_ids-check_list_ids-requires t c =
    let is : spec_node_of c.args.arm.now ≡ spec_cat_of_children c.deref.result.now = ap spec_node_of c.in-Cat.is ∙ spec_node_of-Cat c.in-Cat.nodes ∙ ap spec_cat_of_children (sym c.deref.ensures.value) in
    let same : inner_node_count (spec_node_of c.args.arm.now) ≡ inner_node_count (spec_cat_of_children c.deref.result.now) = ap inner_node_count is in
    search rules

pub check_arm_ids-returns-in-Cat-clause-found : goal.check_arm_ids-returns-in-Cat-clause-found
check_arm_ids-returns-in-Cat-clause-found t c =
    let is : spec_node_of c.args.arm.now ≡ spec_cat_of_children c.deref.result.now = ap spec_node_of c.in-Cat.is ∙ spec_node_of-Cat c.in-Cat.nodes ∙ ap spec_cat_of_children (sym c.deref.ensures.value) in
    rw is c.check_list_ids.ensures.found

pub check_arm_ids-returns-in-Cat-clause-span : goal.check_arm_ids-returns-in-Cat-clause-span
check_arm_ids-returns-in-Cat-clause-span t c went =
    let is : spec_node_of c.args.arm.now ≡ spec_cat_of_children c.deref.result.now = ap spec_node_of c.in-Cat.is ∙ spec_node_of-Cat c.in-Cat.nodes ∙ ap spec_cat_of_children (sym c.deref.ensures.value) in
    rw is (c.check_list_ids.ensures.span went)

pub check_arm_ids-returns-in-Cat-clause-seen : goal.check_arm_ids-returns-in-Cat-clause-seen
check_arm_ids-returns-in-Cat-clause-seen t c went =
    let is : spec_node_of c.args.arm.now ≡ spec_cat_of_children c.deref.result.now = ap spec_node_of c.in-Cat.is ∙ spec_node_of-Cat c.in-Cat.nodes ∙ ap spec_cat_of_children (sym c.deref.ensures.value) in
    rw is (c.check_list_ids.ensures.seen went)

pub check_enclosed_ids-returns-clause-found : goal.check_enclosed_ids-returns-clause-found
check_enclosed_ids-returns-clause-found t c =
    let n = spec_node_of c.args.contents.now in
    let i = c.check_ids_along.new.self.inside in
    let went = sym c.if-not-check_ids_along.false in
    let span : group_id_span_as_numbers i ≡ count_and_span_of_group_ids (group_ids n) = c.check_ids_along.ensures.span (sym went) ∙ joined-none (group_ids n) in
    fills-range_is_ids_of_enclosed_groups n (is_group_id_seen c.args.bits.now) c.args.start c.args.end i.count i.low i.high c.covers_range.result (every_node_passes has_exact_group_range n) c.ranges.start.fits c.ranges.end.fits
    (went ∙ c.check_ids_along.ensures.found) (ap (λ s. s.count) span) (ap (λ s. s.low) span) (ap (λ s. s.high) span) c.covers_range.ensures

pub check_list_ids-check_part_ids-requires : goal.check_list_ids-check_part_ids-requires
check_list_ids-check_part_ids-requires t c =
    let smaller : inner_node_count (spec_node_of c.node-item.result) < inner_node_count (spec_cat_of_children c.args.nodes.now) = weight-child _ _ _ c.loop-node-test.true c.node-item.is in search rules

pub check_list_ids-returns-then-not-check_part_ids-clause-found : goal.check_list_ids-returns-then-not-check_part_ids-clause-found
check_list_ids-returns-then-not-check_part_ids-clause-found t c =
    let nodes = c.args.nodes.now in
    let n = spec_node_of c.node-item.result in
    let rest = spec_cat_of_children (drop (c.loop-node.node-index + 1) nodes) in
    let next = spec_cat_of_children-drop nodes c.loop-node.node-index c.node-item.result c.loop-node-test.true c.node-item.is in
    let f = is_group_id_seen c.loop-node.bits in
    let s = group_id_span_as_numbers c.loop-node.self.inside in
    let l = left-same _ _ _ _ f s (spec_cat_of_children (drop c.loop-node.node-index nodes)) (cat n rest) next c.loop-node.invariant in
    left-fails _ _ _ _ f s (group_ids n) (group_ids rest) (every_node_passes has_exact_group_range n) (every_node_passes has_exact_group_range rest) l (sym c.if-not-check_part_ids.true ∙ c.check_part_ids.ensures.found)

pub check_list_ids-loop-node-preserved : goal.check_list_ids-loop-node-preserved
check_list_ids-loop-node-preserved t c =
    let nodes = c.args.nodes.now in
    let n = spec_node_of c.node-item.result in
    let rest = spec_cat_of_children (drop (c.loop-node.node-index + 1) nodes) in
    let next = spec_cat_of_children-drop nodes c.loop-node.node-index c.node-item.result c.loop-node-test.true c.node-item.is in
    let f = is_group_id_seen c.loop-node.bits in
    let g = is_group_id_seen c.check_part_ids.new.bits in
    let s = group_id_span_as_numbers c.loop-node.self.inside in
    let t = group_id_span_as_numbers c.check_part_ids.new.self.inside in
    let l = left-same _ _ _ _ f s (spec_cat_of_children (drop c.loop-node.node-index nodes)) (cat n rest) next c.loop-node.invariant in
    let went = sym c.if-not-check_part_ids.false in
    left-next _ _ _ _ f g s t (group_ids n) (group_ids rest) (every_node_passes has_exact_group_range n) (every_node_passes has_exact_group_range rest) l (went ∙ c.check_part_ids.ensures.found)
    (c.check_part_ids.ensures.span (sym went)) (c.check_part_ids.ensures.seen (sym went))

pub check_list_ids-returns-clause-span : goal.check_list_ids-returns-clause-span
check_list_ids-returns-clause-span t c h =
    let nodes = c.args.nodes.now in
    let none : drop c.loop-node.node-index nodes ≡ [] = drop_all c.loop-node.node-index nodes c.loop-node-test.false in
    let f = is_group_id_seen c.loop-node.bits in
    let s = group_id_span_as_numbers c.loop-node.self.inside in
    let l = left-same _ _ _ _ f s (spec_cat_of_children (drop c.loop-node.node-index nodes)) end_of_cat (ap spec_cat_of_children none) c.loop-node.invariant in
    left-span _ _ _ _ f s c.loop-node.self.counted c.loop-node.self.low l
