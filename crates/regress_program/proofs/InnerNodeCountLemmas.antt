-- The measure of a child is less than the measure of the list of nodes that contains it.
unfoldable pub use Rattle.regress_program.specs.InnerNodeCountMeasure.{inner_node_count}
use Rattle.std.proofs.Common.{◌≡◌, ℕ, zero, suc, ◌<◌, List, [], ◌∷◌, length, get_or, slice_get, Some, ap, arith}
use Rattle.regex_pattern_front.specs.AstToSpecTree.{spec_node_of}
use Rattle.regex_pattern_front.specs.declared.ir.Node as declared
use Rattle.regress_program.specs.LeafNodesAndOptimizableLoops.{spec_cat_of_children}

pub weight-child : (nodes : List declared.Node) (i : ℕ) (n : declared.Node) → i < length nodes → n ≡ get_or nodes i n → inner_node_count (spec_node_of n) < inner_node_count (spec_cat_of_children nodes)
unfolding inner_node_count
weight-child [] i n h e = absurd (omega arith)
weight-child (x ∷ xs) zero n h e = omega (arith, ap (λ m. inner_node_count (spec_node_of m)) e)
weight-child (x ∷ xs) (suc i) n h e = omega (arith, weight-child xs i n (omega arith) e)

pub weight-member : (nodes : List declared.Node) (i : ℕ) (n : declared.Node) → slice_get nodes i ≡ Some n → inner_node_count (spec_node_of n) < inner_node_count (spec_cat_of_children nodes)
unfolding inner_node_count
weight-member [] i n e = cc
weight-member (x ∷ xs) zero n e =
    let same : x ≡ n = cc in
    omega (arith, ap (λ m. inner_node_count (spec_node_of m)) same)
weight-member (x ∷ xs) (suc i) n e = omega (arith, weight-member xs i n e)
