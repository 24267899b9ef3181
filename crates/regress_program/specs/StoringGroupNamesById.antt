-- Storing group names by id.
use Rattle.std.specs.Prelude.{◌≡◌, ℕ, ◌+◌, ◌*◌, ◌<◌, Bool, List, [], ◌∷◌, ◌++◌, length, map, set, ◌==◌, String, string_bytes}
use Rattle.std.specs.List.{list_all}
use Rattle.regex_meaning.specs.Tree.{Node as TreeNode}
use Rattle.regex_meaning.specs.MatchGroupsByNumberAndName.{id_and_name_if_capture_group, capturing_group_ids_and_names}
use Rattle.regex_pattern_front.specs.AstToSpecTree.{spec_node_of}
use Rattle.regex_pattern_front.specs.declared.ir.Node as ir
use Rattle.regress_program.specs.LeafNodesAndOptimizableLoops.{spec_cat_of_children}
use Rattle.regress_program.specs.InnerNodeCountMeasure.{inner_node_count}
use Rattle.regress_program.specs.declared.emit.storing_group_names_by_id.NodeOrListWithUnstoredNames.{NodeOrListWithUnstoredNames}
use Rattle.regress_program.specs.declared.emit.storing_group_names_by_id.NodeOrListWithUnstoredNames.TheVariants.{Node, Row}

-- The node is not a group with a name.
abbrev pub is_nameless : TreeNode → Bool
is_nameless node = list_all (λ p. length p.1 == 0) (id_and_name_if_capture_group node)

-- No group of the tree has a name.
abbrev pub tree_has_no_named_groups : TreeNode → Bool
tree_has_no_named_groups root = list_all (λ p. length p.1 == 0) (capturing_group_ids_and_names root)

-- The names after each given name was stored at the index of its id, one after another.
abbrev pub with_names_stored_by_id : List (ℕ × List ℕ) → (names : List (List ℕ)) → List (List ℕ)
with_names_stored_by_id [] names = names
with_names_stored_by_id (named ∷ others) names = with_names_stored_by_id others (set names named.0 named.1)

-- Storing these names leads from the old strings to the new ones.
abbrev pub IsNameListAfterStoringNames : {R : Type 0} → List (ℕ × List ℕ) → (old new : List (String R)) → Type 0
IsNameListAfterStoringNames named old new = map string_bytes new ≡ with_names_stored_by_id named (map string_bytes old)

-- ---- Pending parts

-- The names in a pending part, with their ids.
unfoldable pub names_in_pending_part : NodeOrListWithUnstoredNames → List (ℕ × List ℕ)
names_in_pending_part (Node node) = capturing_group_ids_and_names (spec_node_of node.now)
names_in_pending_part (Row nodes) = capturing_group_ids_and_names (spec_cat_of_children nodes.now)

-- The names after all pending parts were stored, beginning with the last one.
abbrev pub pending_names_stored : List NodeOrListWithUnstoredNames → (names : List (List ℕ)) → List (List ℕ)
pending_names_stored [] names = names
pending_names_stored (next ∷ rest) names =
    with_names_stored_by_id (names_in_pending_part next) (pending_names_stored rest names)

-- The measure of a node, which decreases when the node is expanded.
abbrev pub naming_measure_of_node : TreeNode → ℕ
naming_measure_of_node node = 3 * inner_node_count node + 2

-- The measure of a list of nodes.
abbrev pub naming_measure_of_nodes : List ir.Node → ℕ
naming_measure_of_nodes nodes = 3 * inner_node_count (spec_cat_of_children nodes) + 1

-- The measure of a pending part.
unfoldable pub naming_measure_of_part : NodeOrListWithUnstoredNames → ℕ
naming_measure_of_part (Node node) = naming_measure_of_node (spec_node_of node.now)
naming_measure_of_part (Row nodes) = naming_measure_of_nodes nodes.now

-- The sum of the measures of the pending parts.
abbrev pub total_naming_measure : List NodeOrListWithUnstoredNames → ℕ
total_naming_measure [] = 0
total_naming_measure (next ∷ rest) = naming_measure_of_part next + total_naming_measure rest

-- Some of these names were stored, and the parts that contain the others were put before the rest.
-- The measure grew by less than `cost`.
pub record StoresNamesOrPushesNodes (named : List (ℕ × List ℕ)) (cost : ℕ) (old new : List (List ℕ))
    (before after : List NodeOrListWithUnstoredNames) : Type 0 where
  pub names : pending_names_stored after new ≡ pending_names_stored before (with_names_stored_by_id named old)
  pub less : total_naming_measure after < total_naming_measure before + cost

-- `StoresNamesOrPushesNodes` for strings.
abbrev pub StoresOrPushesNodes : {R : Type 0} → List (ℕ × List ℕ) → (cost : ℕ) → (old new : List (String R))
    → (before after : List NodeOrListWithUnstoredNames) → Type 0
StoresOrPushesNodes named cost old new before after =
    StoresNamesOrPushesNodes named cost (map string_bytes old) (map string_bytes new) before after

-- The nodes of a list were put before the rest, except for leading nodes that contain no names.
abbrev pub PushesNamedNodes : List ir.Node → (before after : List NodeOrListWithUnstoredNames) → Type 0
PushesNamedNodes nodes before after = (names : List (List ℕ))
    → StoresNamesOrPushesNodes (capturing_group_ids_and_names (spec_cat_of_children nodes))
    (naming_measure_of_nodes nodes) names names
    before after

-- Two nodes were put before the rest.
abbrev pub PushesTwoNodes : (first others : ir.Node) → (before after : List NodeOrListWithUnstoredNames) → Type 0
PushesTwoNodes first others before after =
    let cost = naming_measure_of_node (spec_node_of first) + naming_measure_of_node (spec_node_of others) + 1 in
    (names : List (List ℕ)) → StoresNamesOrPushesNodes
    (capturing_group_ids_and_names (spec_node_of first) ++ capturing_group_ids_and_names (spec_node_of others)) cost
    names
    names before after
