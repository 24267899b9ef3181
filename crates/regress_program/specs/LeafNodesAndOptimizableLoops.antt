-- Lists of nodes, leaves, and loops that become char loops.
pub use Rattle.regex_pattern_front.specs.AstToSpecTree.{spec_cat_of_children}
use Rattle.std.specs.Prelude.{Bool, true, false}
use Rattle.regex_meaning.specs.Tree as tree
use Rattle.regex_pattern_front.specs.OptimizedTrees.{reads_one_character}

-- The node has no children.
abbrev pub is_leaf : tree.Node → Bool
is_leaf (tree.cat first rest) = false
is_leaf tree.end_of_cat = false
is_leaf (tree.alt left right) = false
is_leaf (tree.capture_group id name contents) = false
is_leaf (tree.lookaround l contents) = false
is_leaf (tree.loop q start_group end_group loopee) = false
is_leaf (tree.loop_1_char_body q loopee) = false
is_leaf _ = true

-- The node is a loop that the optimizer turns into a char loop.
abbrev pub becomes_char_loop : tree.Node → Bool
becomes_char_loop (tree.loop q start_group end_group loopee) = reads_one_character loopee
becomes_char_loop _ = false
