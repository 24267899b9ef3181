-- Local trees: if such a tree has a match in a line of a text, it has one in the text.
use Rattle.std.specs.Prelude.{Bool, true, false, not}
use Rattle.regex_meaning.specs.Tree.{Node, byte_sequence, string_set, anchor, word_boundary, back_ref, lookaround, every_node_passes}

-- The node is local: whether it matches does not depend on groups, nor on characters that it does
-- not read, except for `\b`. `\b` is allowed because the line break next to a line is not a word
-- character, and neither is the end of a text. Nodes that only the optimizer makes are excluded.
abbrev pub is_local_node : Node → Bool
is_local_node (byte_sequence bytes) = false
is_local_node (string_set strings icase) = false
is_local_node (anchor type multiline) = false
is_local_node (word_boundary invert unicode_icase) = not invert
is_local_node (back_ref group same) = false
is_local_node (lookaround l contents) = false
is_local_node _ = true

-- The node and all nodes inside it are local.
abbrev pub is_local : Node → Bool
is_local root = every_node_passes is_local_node root
