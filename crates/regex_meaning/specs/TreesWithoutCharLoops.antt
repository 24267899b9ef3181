-- Trees without a loop over one character, such as the trees of patterns. These definitions are not
-- part of the grammar.
use Rattle.std.specs.Prelude.{Bool, true, false}
use Rattle.regex_meaning.specs.Tree.{Node, loop_1_char_body, every_node_passes}

-- The node is not a loop over one character.
abbrev pub is_not_char_loop : Node → Bool
is_not_char_loop (loop_1_char_body q loopee) = false
is_not_char_loop _ = true

-- The tree has no loop over one character. Only optimization makes such loops.
abbrev pub has_no_char_loops : Node → Bool
has_no_char_loops root = every_node_passes is_not_char_loop root
