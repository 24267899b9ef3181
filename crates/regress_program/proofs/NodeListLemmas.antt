-- The tree of a list of nodes has the properties of its first and last node.
pub use Rattle.regex_pattern_front.proofs.AstToSpecTreeLemmas.{spec_node_of-Cat}
use Rattle.std.proofs.Common.{◌≡◌, ℕ, ◌+◌, ◌<◌, ◌-◌, suc, true, false, List, [], ◌∷◌, length, slice_get, Some, None, get_or, drop, drop-cons, add-one, sym, ap, ◌∙◌, refl, arith}
use Rattle.regex_meaning.specs.Tree as tree
use Rattle.regex_pattern_front.specs.AstToSpecTree.{spec_node_of}
use Rattle.regex_pattern_front.specs.declared.ir.Node.{Node}
use Rattle.regex_meaning.specs.WellFormedTrees.{ends_in_goal, is_one_character}
use Rattle.regex_meaning.specs.StartPredicate.{is_anchored}
use Rattle.regress_program.specs.LeafNodesAndOptimizableLoops.{spec_cat_of_children, is_leaf}
use Rattle.regress_program.specs.CompilationOfTreesAsFunction.{insn_count_without_children}

-- The rest of a node list from a node on is that node and the rest behind it.
pub spec_cat_of_children-drop : (nodes : List Node) (i : ℕ) (n : Node) → i < length nodes → n ≡ get_or nodes i n
    → spec_cat_of_children (drop i nodes) ≡ tree.cat (spec_node_of n) (spec_cat_of_children (drop (i + 1) nodes))
spec_cat_of_children-drop nodes i n h e =
    let next : drop i nodes ≡ n ∷ drop (i + 1) nodes = rw add-one (drop-cons nodes i n h ∙ ap (λ x. x ∷ drop (suc i) nodes) (sym e)) in
    ap spec_cat_of_children next

-- ---- The last node of a list

pub ends_in_goal-none : (nodes : List Node) → slice_get nodes (length nodes - 1) ≡ None → ends_in_goal (spec_cat_of_children nodes) ≡ false
ends_in_goal-none [] h = refl
ends_in_goal-none (n ∷ []) h = cc
ends_in_goal-none (n ∷ m ∷ rest) h =
    let e : length (n ∷ m ∷ rest) - 1 ≡ suc (length (m ∷ rest) - 1) = omega arith in
    ends_in_goal-none (m ∷ rest) (rw e at h)

pub ends_in_goal-last : (nodes : List Node) (last : Node) → slice_get nodes (length nodes - 1) ≡ Some last → ends_in_goal (spec_cat_of_children nodes) ≡ ends_in_goal (spec_node_of last)
ends_in_goal-last [] last h = cc
ends_in_goal-last (n ∷ []) last h = cc
ends_in_goal-last (n ∷ m ∷ rest) last h =
    let e : length (n ∷ m ∷ rest) - 1 ≡ suc (length (m ∷ rest) - 1) = omega arith in
    ends_in_goal-last (m ∷ rest) last (rw e at h)

-- ---- Tests of all nodes of a list

-- A node list is not a leaf.
pub no_leaf : (nodes : List Node) → is_leaf (spec_cat_of_children nodes) ≡ true → ⊥
no_leaf [] h = cc
no_leaf (n ∷ nodes) h = cc

pub insn_count_without_children-spec_cat_of_children : (nodes : List Node) → insn_count_without_children (spec_cat_of_children nodes) ≡ 0
insn_count_without_children-spec_cat_of_children [] = refl
insn_count_without_children-spec_cat_of_children (n ∷ nodes) = refl

-- A node list is not a node of one character.
pub is_one_character-spec_cat_of_children : (nodes : List Node) → is_one_character (spec_cat_of_children nodes) ≡ false
is_one_character-spec_cat_of_children [] = refl
is_one_character-spec_cat_of_children (n ∷ nodes) = refl

-- ---- The first node of a list

pub is_anchored-none : (nodes : List Node) → slice_get nodes 0 ≡ None → is_anchored (spec_cat_of_children nodes) ≡ false
is_anchored-none [] h = refl
is_anchored-none (n ∷ nodes) h = cc

pub is_anchored-first : (nodes : List Node) (first : Node) → slice_get nodes 0 ≡ Some first → is_anchored (spec_cat_of_children nodes) ≡ is_anchored (spec_node_of first)
is_anchored-first [] first h = cc
is_anchored-first (n ∷ nodes) first h = cc
