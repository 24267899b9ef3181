use Rattle.std.proofs.Common.{◌≡◌, ◌∙◌, ◌∷◌, sym, true, arith}
use Rattle.regex_meaning.specs.MatchGroupsByNumberAndName.{capturing_group_ids_and_names}
use Rattle.regex_pattern_front.specs.AstToSpecTree.{spec_node_of}
use Rattle.regress_program.specs.LeafNodesAndOptimizableLoops.{spec_cat_of_children, is_leaf}
use Rattle.regress_program.specs.StoringGroupNamesById.{naming_measure_of_part, naming_measure_of_nodes, names_in_pending_part}
use Rattle.regress_program.proofs.StoringGroupNamesLemmas.{files-none, files-two, row-load, row-names, row-none, row-skips}
use Rattle.regress_program.proofs.emit.storing_group_names_by_id.defer_node_list.Goals as goal

pub loop-first-preserved : goal.loop-first-preserved
loop-first-preserved c =
    let first = c.in-Some.first.now in
    let others = c.in-Some.others.now in
    let nodes = c.loop-first.left.now in
    let i = c.loop-first.invariant in
    let is : nodes ≡ first ∷ others = c.in-Some.ensures.cases.0 in
    let leaf : is_leaf (spec_node_of first) ≡ true = grind (arith, c.has_children.ensures, c.if-has_children.false) in
    record {
      rest = i.rest;
      named = row-skips first others nodes is leaf ∙ i.named;
      light = omega (arith, row-load first others nodes is, i.light);
    }

pub returns : goal.returns
returns c names =
    let i = c.loop-first.invariant in
    let nodes = c.args.nodes.now in
    let none = files-none (capturing_group_ids_and_names (spec_cat_of_children nodes)) (naming_measure_of_nodes nodes) names c.args.rest.now.items
    (sym i.named ∙ row-none c.loop-first.left.now c.in_default.ensures.cases) (omega arith) in
    rw i.rest none

pub returns-then-has_children : goal.returns-then-has_children
unfolding names_in_pending_part naming_measure_of_part
returns-then-has_children c names =
    let whole = c.args.nodes.now in
    let nodes = c.loop-first.left.now in
    let first = c.in-Some.first.now in
    let others = c.in-Some.others.now in
    let i = c.loop-first.invariant in
    let is : nodes ≡ first ∷ others = c.in-Some.ensures.cases.0 in
    files-two (capturing_group_ids_and_names (spec_cat_of_children whole)) (naming_measure_of_nodes whole) names c.args.rest.now.items c.push_pending.new.rest.items c.push_pending-then-has_children.new.rest.items _ _
    (rw i.rest at c.in_ok-push_pending.ensures) c.in_ok-push_pending-2.ensures
    (sym i.named ∙ row-names first others nodes is)
    (omega (arith, row-load first others nodes is, i.light))
