-- The number of inner nodes of a tree, which decreases from a node to its children.
use Rattle.std.specs.Prelude.{ℕ, ◌+◌}
use Rattle.regex_meaning.specs.Tree.{Node, cat, alt, capture_group, lookaround, loop, loop_1_char_body}

-- The number of nodes with children in a node, the node itself included.
unfoldable pub inner_node_count : Node → ℕ
inner_node_count (cat first rest) = inner_node_count first + inner_node_count rest + 1
inner_node_count (alt left right) = inner_node_count left + inner_node_count right + 1
inner_node_count (capture_group id name contents) = inner_node_count contents + 1
inner_node_count (lookaround l contents) = inner_node_count contents + 1
inner_node_count (loop q start_group end_group loopee) = inner_node_count loopee + 1
inner_node_count (loop_1_char_body q loopee) = inner_node_count loopee + 1
inner_node_count _ = 0
