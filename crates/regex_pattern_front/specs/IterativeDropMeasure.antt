-- The measure of what is left to drop of a tree. It decreases with each node that is separated.
use Rattle.std.specs.Prelude.{ℕ, ◌≡◌, ◌<◌, ◌+◌, ◌*◌, ⊤, Option, Some, None, IfSome, []}
use Rattle.regex_meaning.specs.Tree as tree
use Rattle.regex_meaning.specs.Tree.{cat, alt, capture_group, lookaround, loop, loop_1_char_body}
use Rattle.regex_pattern_front.specs.AstToSpecTree.{spec_node_of}
use Rattle.regex_pattern_front.specs.declared.ir.Node.{Node}
use Rattle.regex_pattern_front.specs.declared.ir.NextNodeAndRestToDrop.{NextNodeAndRestToDrop}
use Rattle.regex_pattern_front.specs.declared.ir.NextNodeAndRestToDrop.TheVariants.{Inside, Row, Nothing}

-- The number of nodes and of list entries.
unfoldable pub tree_size : tree.Node → ℕ
tree_size (cat first rest) = tree_size first + tree_size rest + 1
tree_size (alt left right) = tree_size left + tree_size right + 1
tree_size (capture_group id name contents) = tree_size contents + 1
tree_size (lookaround l contents) = tree_size contents + 1
tree_size (loop q start_group end_group loopee) = tree_size loopee + 1
tree_size (loop_1_char_body q loopee) = tree_size loopee + 1
tree_size _ = 1

-- The size of a node.
abbrev pub node_size : Node → ℕ
node_size n = tree_size (spec_node_of n)

-- The size of the rest, if there is one.
abbrev pub rest_size : (rest : Option Node) → ℕ
rest_size None = 0
rest_size (Some n) = node_size n

-- The measure. It compares the size of all that is left first, and then the size of the current
-- node.
abbrev pub drop_measure : (all at : ℕ) → ℕ
drop_measure all at = all * all + at

-- The measure, given the size of the current node and the rest.
abbrev pub drop_measure_of_size_and_rest : (at : ℕ) (rest : Option Node) → ℕ
drop_measure_of_size_and_rest at rest = drop_measure (at + rest_size rest) at

-- The measure, given the current node and the rest.
abbrev pub drop_measure_of_node_and_rest : Node → (rest : Option Node) → ℕ
drop_measure_of_node_and_rest n rest = drop_measure_of_size_and_rest (node_size n) rest

-- The measure of what is left is less than `before`, and a list that is dropped contains no nodes.
abbrev pub DecreasesDropMeasure : NextNodeAndRestToDrop → (before : ℕ) → Type 0
DecreasesDropMeasure (Inside node rest) before = drop_measure_of_node_and_rest node rest < before
DecreasesDropMeasure (Row row rest) before = (row.items ≡ [])
    × IfSome rest (λ node. drop_measure_of_node_and_rest node None < before)
DecreasesDropMeasure Nothing before = ⊤
