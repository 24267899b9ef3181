use Rattle.std.proofs.Common.{◌≡◌, ◌∙◌, ap, sym, length, map, string_bytes}
use Rattle.regex_meaning.specs.MatchGroupsByNumberAndName.{capturing_group_ids_and_names}
use Rattle.regex_pattern_front.specs.AstToSpecTree.{spec_node_of}
use Rattle.regress_program.specs.StoringGroupNamesById.{with_names_stored_by_id}
use Rattle.regress_program.proofs.StoringGroupNamesLemmas.{written_over, names-filed}
use Rattle.regress_program.proofs.emit.storing_group_names_by_id.names_by_id.Goals as goal

pub returns : goal.returns
returns c =
    let root = spec_node_of c.args.root.now in
    let old = c.in_ok-names.names.items in
    let same : length c.store_names.new.names ≡ length old = c.store_names.ensures.long ∙ ap length c.deref_mut.ensures.value in
    let all : c.in_ok-names.names.len ≡ length c.store_names.new.names = c.in_ok-names.names.ok.0 ∙ sym same in
    let filed_names : map string_bytes c.store_names.new.names ≡ with_names_stored_by_id (capturing_group_ids_and_names root) (map string_bytes old) = rw c.deref_mut.ensures.value at c.in_ok-store_names.ensures.with_names_stored_by_id in
    ap (map string_bytes) (written_over c.store_names.new.names old c.in_ok-names.names.len all)
    ∙ filed_names ∙ ap (with_names_stored_by_id (capturing_group_ids_and_names root)) c.in_ok-names.ensures
    ∙ names-filed root c.args.groups c.requires.once c.requires.all (sym c.tree_has_no_named_groups.ensures ∙ c.if-tree_has_no_named_groups.false)
