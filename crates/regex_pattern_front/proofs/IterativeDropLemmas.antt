-- Each node that the iterative drop separates decreases the measure of what is left to drop.
use Rattle.std.proofs.Common.{◌≡◌, ℕ, suc, ◌+◌, ◌*◌, ◌<◌, ◌≤◌, Option, List, [], ◌∷◌, ◌++◌, length, get_or, slice_set, Some, None, ap, arith, refl}
use Rattle.std.proofs.Math.Nat.{mul-le-mul_left, mul-suc, mul_comm}
use Rattle.regex_meaning.specs.Tree as tree
use Rattle.regex_meaning.specs.Tree.{cat, alt, capture_group, lookaround, loop, loop_1_char_body}
use Rattle.regex_pattern_front.specs.IterativeDropMeasure.{rest_size, tree_size, node_size, drop_measure, drop_measure_of_size_and_rest, drop_measure_of_node_and_rest}
use Rattle.regex_pattern_front.specs.AstToSpecTree.{spec_cat_of_children, spec_node_of}
use Rattle.regex_pattern_front.specs.declared.ir.Node.{Node}

-- If less is left in all, the measure decreases.
pub fewer : (all at before from : ℕ) → all < before → at ≤ all → drop_measure all at < drop_measure before from
fewer all at before from less within =
    let wide : before * suc all ≤ before * before = mul-le-mul_left before (omega (arith, less)) in
    let more : all * suc all ≤ all * before = mul-le-mul_left all (omega (arith, less)) in
    omega (arith, wide, more, mul_comm all before, mul-suc before all, mul-suc all all, within, less)

-- If as much is left in all and the current node is smaller, the measure decreases.
pub nearer : (all at from : ℕ) → at < from → drop_measure all at < drop_measure all from
nearer all at from less = omega (arith, less)

pub some-weight : (n : tree.Node) → 0 < tree_size n
unfolding tree_size
some-weight (cat first rest) = omega arith
some-weight (alt left right) = omega arith
some-weight (capture_group id name contents) = omega arith
some-weight (lookaround l contents) = omega arith
some-weight (loop q start_group end_group loopee) = omega arith
some-weight (loop_1_char_body q loopee) = omega arith
some-weight _ = omega arith

-- If the rest becomes current in place of a node, the measure decreases.
pub begun-less : (n node : Node) → drop_measure_of_node_and_rest n None < drop_measure_of_node_and_rest node (Some n)
begun-less n node =
    fewer (node_size n + 0) (node_size n) (node_size node + node_size n) (node_size node)
    (omega (arith, some-weight (spec_node_of node))) (omega arith)

-- If a smaller node becomes current and the rest stays, the measure decreases.
pub inside-less : (m n : ℕ) (rest : Option Node) → m < n → drop_measure_of_size_and_rest m rest < drop_measure_of_size_and_rest n rest
inside-less m n rest less = fewer (m + rest_size rest) m (n + rest_size rest) n (omega (arith, less)) (omega arith)

weight-more : (xs : List Node) (x : Node) → tree_size (spec_cat_of_children (xs ++ x ∷ [])) ≡ tree_size (spec_cat_of_children xs) + node_size x + 1
unfolding tree_size
weight-more [] x = omega arith
weight-more (y ∷ ys) x = omega (arith, weight-more ys x)

-- If the last node of a row becomes current and the others become the rest, the measure decreases.
pub pop_last_child-less : (xs ys : List Node) (x : Node) → xs ≡ ys ++ x ∷ []
    → drop_measure (node_size x + tree_size (spec_cat_of_children ys)) (node_size x) < drop_measure_of_size_and_rest (tree_size (spec_cat_of_children xs)) None
pop_last_child-less xs ys x e =
    fewer (node_size x + tree_size (spec_cat_of_children ys)) (node_size x) (tree_size (spec_cat_of_children xs) + 0) (tree_size (spec_cat_of_children xs))
    (omega (arith, weight-more ys x, ap (λ zs. tree_size (spec_cat_of_children zs)) e)) (omega arith)

-- If the left alternative becomes current and the rest takes its place, the measure decreases.
pub next_node_and_linked_rest-less : (a b link : ℕ) → drop_measure (a + (link + b + 1)) a < drop_measure (a + b + 1 + link) (a + b + 1)
next_node_and_linked_rest-less a b link =
    let same : a + (link + b + 1) ≡ a + b + 1 + link = omega arith in
    rw same (nearer (a + b + 1 + link) a (a + b + 1) (omega arith))

-- If the last node of a row becomes current without a rest, the measure decreases.
pub only-less : (xs ys : List Node) (x : Node) → xs ≡ ys ++ x ∷ [] → drop_measure_of_node_and_rest x None < drop_measure_of_size_and_rest (tree_size (spec_cat_of_children xs)) None
only-less xs ys x e =
    fewer (node_size x + 0) (node_size x) (tree_size (spec_cat_of_children xs) + 0) (tree_size (spec_cat_of_children xs))
    (omega (arith, weight-more ys x, ap (λ zs. tree_size (spec_cat_of_children zs)) e)) (omega arith)

-- If the rest becomes current in place of a row, the measure decreases.
pub emptied-less : (row : List Node) (node : Node) → drop_measure_of_node_and_rest node None < drop_measure_of_size_and_rest (tree_size (spec_cat_of_children row)) (Some node)
emptied-less row node =
    fewer (node_size node + 0) (node_size node) (tree_size (spec_cat_of_children row) + node_size node) (tree_size (spec_cat_of_children row))
    (omega (arith, some-weight (spec_cat_of_children row))) (omega arith)

-- If the first node of a row becomes current and the rest takes its place, the measure decreases.
pub next_node_and_linked_rest-row-less : (first : Node) (xs : List Node) (link : Node)
    → drop_measure (node_size first + tree_size (spec_cat_of_children (link ∷ xs))) (node_size first) < drop_measure_of_size_and_rest (tree_size (spec_cat_of_children (first ∷ xs))) (Some link)
unfolding tree_size
next_node_and_linked_rest-row-less first xs link =
    let a = node_size first in
    let b = tree_size (spec_cat_of_children xs) in
    let k = node_size link in
    next_node_and_linked_rest-less a b k

pub next_node_and_linked_rest-first-less : (row : List Node) (first link : Node) → 0 < length row → first ≡ get_or row 0 first
    → drop_measure (node_size first + tree_size (spec_cat_of_children (slice_set row 0 link))) (node_size first) < drop_measure_of_size_and_rest (tree_size (spec_cat_of_children row)) (Some link)
next_node_and_linked_rest-first-less [] first link some is = absurd (omega (arith, some))
next_node_and_linked_rest-first-less (x ∷ xs) first link some is = rw is (next_node_and_linked_rest-row-less x xs link)

pub no-nodes : (row : List Node) → length row ≡ 0 → row ≡ []
no-nodes [] none = refl
no-nodes (x ∷ xs) none = absurd (omega (arith, none))
