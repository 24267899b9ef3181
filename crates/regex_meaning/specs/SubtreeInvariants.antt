-- What holds for the tree of each part of a pattern. These definitions are not part of the grammar.
use Rattle.std.specs.Prelude.{◌≡◌, ℕ, ◌+◌, Bool, true, false, ◌&&◌, [], length, count_by, nat_eq, nat_le, nat_lt, if◌then◌else◌, IsTrue}
use Rattle.regex_meaning.specs.Tree.{Node, byte_set, byte_sequence, loop_1_char_body, group_ids, every_node_passes}
use Rattle.regex_meaning.specs.WellFormedTrees.{number_of_goal_nodes, has_exact_group_range, refers_to_a_group, has_order_in_quantifier, has_one_character_body}
use Rattle.regex_meaning.specs.WellFormedTrees.{set_sizes_and_characters_fit_instructions}

-- The node can occur in the tree of a pattern: it is not a byte set, a byte sequence or a loop over
-- one character.
abbrev pub can_stand_in_pattern : Node → Bool
can_stand_in_pattern (byte_set members) = false
can_stand_in_pattern (byte_sequence bytes) = false
can_stand_in_pattern (loop_1_char_body q loopee) = false
can_stand_in_pattern _ = true

-- The node satisfies the conditions of a well-formed tree, if the groups are numbered from 1 to
-- `greatest`.
abbrev pub is_well_formed_in_pattern : (greatest : ℕ) → Node → Bool
is_well_formed_in_pattern greatest n =
    has_exact_group_range n && refers_to_a_group greatest n && has_order_in_quantifier n && has_one_character_body n
    && can_stand_in_pattern n && set_sizes_and_characters_fit_instructions n

-- How often an id occurs in the tree.
abbrev pub occurrences_of_id : (id : ℕ) → Node → ℕ
occurrences_of_id id n = count_by (nat_eq id) (group_ids n)

-- 1 if the id is at least `first` and below `end`, and 0 otherwise.
abbrev pub one_if_id_within : (first end id : ℕ) → ℕ
one_if_id_within first end id = if nat_le first id && nat_lt id end then 1 else 0

-- The group ids of the tree are those from `first` up to `end`, exclusive, each once. Every node is
-- well formed, and there is no `Goal`.
pub record IsSoundSubtreeWithGroupIds (first end greatest : ℕ) (n : Node) : Type 0 where
  pub goals : number_of_goal_nodes n ≡ 0
  pub count : first + length (group_ids n) ≡ end
  pub ids : (id : ℕ) → occurrences_of_id id n ≡ one_if_id_within first end id
  pub sound : IsTrue (every_node_passes (is_well_formed_in_pattern greatest) n)

-- A tree without groups and without `Goal`, each node of which is well formed.
pub record IsWellFormedGrouplessSubtree (greatest : ℕ) (n : Node) : Type 0 where
  pub goals : number_of_goal_nodes n ≡ 0
  pub ids : group_ids n ≡ []
  pub sound : IsTrue (every_node_passes (is_well_formed_in_pattern greatest) n)
