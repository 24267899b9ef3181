use Rattle.std.proofs.Common.{◌≡◌, ◌+◌, ◌∷◌, ◌++◌, ◌∙◌, ap, sym, arith, map, string_bytes}
use Rattle.std.proofs.lemmas.Result.{IfOk-weaker}
use Rattle.regex_meaning.specs.MatchGroupsByNumberAndName.{capturing_group_ids_and_names}
use Rattle.regex_pattern_front.specs.AstToSpecTree.{spec_node_of, group_name_bytes}
use Rattle.regress_program.specs.LeafNodesAndOptimizableLoops.{spec_cat_of_children}
use Rattle.regress_program.specs.InnerNodeCountMeasure.{inner_node_count}
use Rattle.regress_program.specs.StoringGroupNamesById.{naming_measure_of_node, naming_measure_of_part, naming_measure_of_nodes, names_in_pending_part}
use Rattle.regress_program.proofs.StoringGroupNamesLemmas.{files-alternatives, files-cheap, files-group, files-inside, files-none}
use Rattle.regress_program.proofs.NodeKindLemmas.{leaf-bare, leaf-left}
use Rattle.regress_program.proofs.NodeListLemmas.{spec_node_of-Cat}
use Rattle.regress_program.proofs.emit.storing_group_names_by_id.store_node_names.Goals as goal

pub returns-in-Cat-clause-with_names_stored_by_id : goal.returns-in-Cat-clause-with_names_stored_by_id
returns-in-Cat-clause-with_names_stored_by_id c =
    let names = map string_bytes c.args.names.now in
    let same : spec_node_of c.args.node.now ≡ spec_cat_of_children c.deref.result.now = ap spec_node_of c.in-Cat.is ∙ spec_node_of-Cat c.in-Cat.nodes ∙ ap spec_cat_of_children (sym c.deref.ensures.value) in
    let row = c.deref.result.now in
    rw same
    (IfOk-weaker c.defer_node_list.result _ _
    (λ _ f. files-cheap (capturing_group_ids_and_names (spec_cat_of_children row)) (naming_measure_of_nodes row) (naming_measure_of_node (spec_cat_of_children row)) names names c.args.rest.now.items c.defer_node_list.new.rest.items (f names) (omega arith))
    c.defer_node_list.ensures)

pub returns-in-Alt-clause-with_names_stored_by_id : goal.returns-in-Alt-clause-with_names_stored_by_id
unfolding spec_node_of inner_node_count
returns-in-Alt-clause-with_names_stored_by_id c =
    let whole = spec_node_of c.args.node.now in
    let first = spec_node_of c.in-Alt.left.value in
    let others = spec_node_of c.in-Alt.right.value in
    let names = map string_bytes c.args.names.now in
    let both : capturing_group_ids_and_names whole ≡ capturing_group_ids_and_names first ++ capturing_group_ids_and_names others = ap (λ n. capturing_group_ids_and_names (spec_node_of n)) c.in-Alt.is in
    let more : inner_node_count whole ≡ inner_node_count first + inner_node_count others + 1 = ap (λ n. inner_node_count (spec_node_of n)) c.in-Alt.is in
    IfOk-weaker c.defer_both.result _ _
    (λ _ f. files-alternatives whole first others (spec_node_of c.deref-in-Alt.result.now) (spec_node_of c.deref-in-Alt-2.result.now) names
    c.args.rest.now.items c.defer_both.new.rest.items (ap spec_node_of c.deref-in-Alt.ensures) (ap spec_node_of c.deref-in-Alt-2.ensures) both more (f names))
    c.defer_both.ensures

pub returns-in-CaptureGroup-clause-with_names_stored_by_id : goal.returns-in-CaptureGroup-clause-with_names_stored_by_id
unfolding spec_node_of inner_node_count
returns-in-CaptureGroup-clause-with_names_stored_by_id c =
    let whole = spec_node_of c.args.node.now in
    let inner = spec_node_of c.in-CaptureGroup.contents.value in
    let id = c.in-CaptureGroup.id in
    let name = group_name_bytes c.in-CaptureGroup.name in
    let all : capturing_group_ids_and_names whole ≡ (id, name) ∷ capturing_group_ids_and_names inner = ap (λ n. capturing_group_ids_and_names (spec_node_of n)) c.in-CaptureGroup.is in
    let more : inner_node_count whole ≡ inner_node_count inner + 1 = ap (λ n. inner_node_count (spec_node_of n)) c.in-CaptureGroup.is in
    IfOk-weaker c.store_group_name.result _ _
    (λ _ f. files-group whole inner (spec_node_of c.deref-in-CaptureGroup.result.now) id name (map string_bytes c.args.names.now) (map string_bytes c.store_group_name.new.names)
    c.args.rest.now.items c.store_group_name.new.rest.items (ap spec_node_of c.deref-in-CaptureGroup.ensures) all more f)
    c.store_group_name.ensures.with_names_stored_by_id

pub returns-in-LookaroundAssertion-clause-with_names_stored_by_id : goal.returns-in-LookaroundAssertion-clause-with_names_stored_by_id
unfolding spec_node_of names_in_pending_part naming_measure_of_part inner_node_count
returns-in-LookaroundAssertion-clause-with_names_stored_by_id c =
    let names = map string_bytes c.args.names.now in
    let whole = spec_node_of c.args.node.now in
    let inner = spec_node_of c.in-LookaroundAssertion.contents.value in
    let same : capturing_group_ids_and_names whole ≡ capturing_group_ids_and_names inner = ap (λ n. capturing_group_ids_and_names (spec_node_of n)) c.in-LookaroundAssertion.is in
    let more : inner_node_count whole ≡ inner_node_count inner + 1 = ap (λ n. inner_node_count (spec_node_of n)) c.in-LookaroundAssertion.is in
    IfOk-weaker c.push_pending.result _ _
    (λ _ is. files-inside whole inner names c.args.rest.now.items c.push_pending.new.rest.items _ is
    (ap (λ n. capturing_group_ids_and_names (spec_node_of n)) c.deref-in-LookaroundAssertion.ensures) (ap (λ n. naming_measure_of_node (spec_node_of n)) c.deref-in-LookaroundAssertion.ensures) same more)
    c.push_pending.ensures

pub returns-in-Loop-clause-with_names_stored_by_id : goal.returns-in-Loop-clause-with_names_stored_by_id
unfolding spec_node_of names_in_pending_part naming_measure_of_part inner_node_count
returns-in-Loop-clause-with_names_stored_by_id c =
    let names = map string_bytes c.args.names.now in
    let whole = spec_node_of c.args.node.now in
    let inner = spec_node_of c.in-Loop.loopee.value in
    let same : capturing_group_ids_and_names whole ≡ capturing_group_ids_and_names inner = ap (λ n. capturing_group_ids_and_names (spec_node_of n)) c.in-Loop.is in
    let more : inner_node_count whole ≡ inner_node_count inner + 1 = ap (λ n. inner_node_count (spec_node_of n)) c.in-Loop.is in
    IfOk-weaker c.push_pending-in-Loop.result _ _
    (λ _ is. files-inside whole inner names c.args.rest.now.items c.push_pending-in-Loop.new.rest.items _ is
    (ap (λ n. capturing_group_ids_and_names (spec_node_of n)) c.deref-in-Loop.ensures) (ap (λ n. naming_measure_of_node (spec_node_of n)) c.deref-in-Loop.ensures) same more)
    c.push_pending-in-Loop.ensures

pub returns-in-Loop1CharBody-clause-with_names_stored_by_id : goal.returns-in-Loop1CharBody-clause-with_names_stored_by_id
unfolding spec_node_of names_in_pending_part naming_measure_of_part inner_node_count
returns-in-Loop1CharBody-clause-with_names_stored_by_id c =
    let names = map string_bytes c.args.names.now in
    let whole = spec_node_of c.args.node.now in
    let inner = spec_node_of c.in-Loop1CharBody.loopee.value in
    let same : capturing_group_ids_and_names whole ≡ capturing_group_ids_and_names inner = ap (λ n. capturing_group_ids_and_names (spec_node_of n)) c.in-Loop1CharBody.is in
    let more : inner_node_count whole ≡ inner_node_count inner + 1 = ap (λ n. inner_node_count (spec_node_of n)) c.in-Loop1CharBody.is in
    IfOk-weaker c.push_pending-in-Loop1CharBody.result _ _
    (λ _ is. files-inside whole inner names c.args.rest.now.items c.push_pending-in-Loop1CharBody.new.rest.items _ is
    (ap (λ n. capturing_group_ids_and_names (spec_node_of n)) c.deref-in-Loop1CharBody.ensures) (ap (λ n. naming_measure_of_node (spec_node_of n)) c.deref-in-Loop1CharBody.ensures) same more)
    c.push_pending-in-Loop1CharBody.ensures

pub returns-in_default-clause-with_names_stored_by_id : goal.returns-in_default-clause-with_names_stored_by_id
returns-in_default-clause-with_names_stored_by_id c =
    let d = c.in_default in
    let n = spec_node_of c.args.node.now in
    let leaf = leaf-left c.args.node.now d.not-Cat d.not-Alt d.not-CaptureGroup d.not-LookaroundAssertion d.not-Loop d.not-Loop1CharBody in
    files-none (capturing_group_ids_and_names n) (naming_measure_of_node n) (map string_bytes c.args.names.now) c.args.rest.now.items (leaf-bare n leaf).named (omega arith)
