-- What holds for several parts of a parsed pattern together.
use Rattle.std.specs.Prelude.{◌≡◌, ℕ, ◌+◌, List, length, sum_by, IsTrue}
use Rattle.std.specs.List.{All}
use Rattle.regex_meaning.specs.Tree as tree
use Rattle.regex_meaning.specs.Tree.{group_ids, every_node_passes}
use Rattle.regex_meaning.specs.WellFormedTrees.{number_of_goal_nodes}
pub use Rattle.regex_meaning.specs.SubtreeInvariants.{is_well_formed_in_pattern, occurrences_of_id, one_if_id_within, IsSoundSubtreeWithGroupIds, IsWellFormedGrouplessSubtree}
use Rattle.regex_pattern_front.specs.declared.ir.Node.{Node}
use Rattle.regex_pattern_front.specs.AstToSpecTree.{spec_node_of}

-- The group ids of all these nodes together are those from `first` up to `end`, exclusive, each
-- once and in any order. Every node is well formed, and there is no `Goal`.
pub record AreSoundSubtrees (first end greatest : ℕ) (nodes : List Node) : Type 0 where
  pub goals : sum_by (λ n. number_of_goal_nodes (spec_node_of n)) nodes ≡ 0
  pub count : first + sum_by (λ n. length (group_ids (spec_node_of n))) nodes ≡ end
  pub ids : (id : ℕ) → sum_by (λ n. occurrences_of_id id (spec_node_of n)) nodes ≡ one_if_id_within first end id
  pub sound : All (λ n. IsTrue (every_node_passes (is_well_formed_in_pattern greatest) (spec_node_of n))) nodes

-- If the old nodes together are sound subtrees, so are the new ones.
abbrev pub KeepsSubtreeInvariant : List Node → List Node → Type 0
KeepsSubtreeInvariant old new = (first end greatest : ℕ) → AreSoundSubtrees first end greatest old
    → AreSoundSubtrees first end greatest new

-- If the nodes together are sound subtrees, the single node is a sound subtree.
abbrev pub SoundSubtreesMakeSoundNode : List Node → tree.Node → Type 0
SoundSubtreesMakeSoundNode nodes n = (first end greatest : ℕ) → AreSoundSubtrees first end greatest nodes
    → IsSoundSubtreeWithGroupIds first end greatest n

-- The single node has the groups and the `Goal`s of all these nodes together.
pub record CombinesGroupsAndGoalsOfNodes (nodes : List Node) (n : tree.Node) : Type 0 where
  pub goals : number_of_goal_nodes n ≡ sum_by (λ m. number_of_goal_nodes (spec_node_of m)) nodes
  pub count : length (group_ids n) ≡ sum_by (λ m. length (group_ids (spec_node_of m))) nodes
  pub ids : (id : ℕ) → occurrences_of_id id n ≡ sum_by (λ m. occurrences_of_id id (spec_node_of m)) nodes
  pub sound : (greatest : ℕ) → All (λ m. IsTrue (every_node_passes (is_well_formed_in_pattern greatest)
      (spec_node_of m)))
      nodes
      → IsTrue (every_node_passes (is_well_formed_in_pattern greatest) n)
