-- The pattern tree in memory, converted to a tree of the definitions, which has no pointers.
use Rattle.std.specs.Prelude.{◌∷◌, ℕ, List, [], map, string_bytes, Option, Some, None, String}
use Rattle.regex_meaning.specs.Tree as tree
use Rattle.regex_pattern_front.specs.declared.ir.AnchorType.{AnchorType}
use Rattle.regex_pattern_front.specs.declared.ir.AnchorType.TheVariants.{StartOfLine, EndOfLine}
use Rattle.regex_pattern_front.specs.declared.ir.Quantifier.{Quantifier}
use Rattle.regex_pattern_front.specs.declared.ir.Regex.{Regex}
use Rattle.regex_pattern_front.specs.declared.flags.Flags.{Flags}
use Rattle.regex_pattern_front.specs.declared.types.BracketContents.{BracketContents}
use Rattle.regex_pattern_front.specs.declared.ir.Node.{Node, Row_of-Node, end_of-Node, more_of-Node, Cat', Alt', CaptureGroup', LookaroundAssertion', Loop', Loop1CharBody'}
use Rattle.regex_pattern_front.specs.declared.ir.Node.TheVariants.{Empty, Goal, Char, CharSet, ByteSet, ByteSequence, Bracket, StringSet, MatchAny, MatchAnyExceptLineTerminator, Anchor, WordBoundary}
use Rattle.regex_pattern_front.specs.declared.ir.Node.TheVariants.{BackRef, CanonicalBackRef}
use Rattle.regex_pattern_front.specs.declared.canonical.Sameness.{Sameness}
use Rattle.regex_pattern_front.specs.declared.canonical.Sameness.TheVariants.{Exact, Folded, Alike}

-- The anchor type, as the definitions have it.
abbrev pub spec_anchor_of : AnchorType → tree.AnchorType
spec_anchor_of StartOfLine = tree.start_of_line
spec_anchor_of EndOfLine = tree.end_of_line

-- The quantifier, as the definitions have it.
abbrev pub spec_quantifier_of : Quantifier → tree.Quantifier
spec_quantifier_of q = record { min = q.min; max = q.max; greedy = q.greedy }

-- The class, as the definitions have it.
abbrev pub class_as_spec : BracketContents → tree.BracketContents
class_as_spec b = record { invert = b.invert; intervals = b.cps }

-- The bytes of a group name. Empty if the group has no name.
abbrev pub group_name_bytes : {R : Type 0} → Option (String R) → List ℕ
group_name_bytes None = []
group_name_bytes (Some s) = string_bytes s

-- The sameness, as the definitions have it.
abbrev pub spec_sameness_of : Sameness → tree.Sameness
spec_sameness_of Exact = tree.exact
spec_sameness_of Folded = tree.folded
spec_sameness_of (Alike unicode) = tree.alike unicode

-- A node, and a list of child nodes, as trees of the definitions.
unfoldable mutual
  pub spec_node_of : Node → tree.Node
  spec_node_of Empty = tree.empty
  spec_node_of Goal = tree.goal
  spec_node_of (Char c) = tree.char c
  spec_node_of (CharSet members) = tree.char_set members.items
  spec_node_of (ByteSet members) = tree.byte_set members.items
  spec_node_of (ByteSequence bytes) = tree.byte_sequence bytes.items
  spec_node_of (Cat' shape children) = nodes_of children
  spec_node_of (Alt' p left q right) = tree.alt (spec_node_of left) (spec_node_of right)
  spec_node_of (Bracket contents) = tree.bracket (class_as_spec contents)
  spec_node_of (StringSet alternatives icase) = tree.string_set (map (λ s. s.items) alternatives.items) icase
  spec_node_of MatchAny = tree.match_any
  spec_node_of MatchAnyExceptLineTerminator = tree.match_any_except_line_terminator
  spec_node_of (Anchor type multiline) = tree.anchor (spec_anchor_of type) multiline
  spec_node_of (WordBoundary invert unicode_icase) = tree.word_boundary invert unicode_icase
  spec_node_of (CaptureGroup' id p contents name) =
      tree.capture_group id (group_name_bytes name) (spec_node_of contents)
  spec_node_of (BackRef group icase) = tree.back_ref group (tree.by_case icase)
  spec_node_of (CanonicalBackRef group unicode) = tree.back_ref group (tree.alike unicode)
  spec_node_of (LookaroundAssertion' negate backwards start_group end_group p contents) =
      tree.lookaround (record {
        negate =
            negate;
        backwards = backwards;
        start_group = start_group;
        end_group = end_group;
      })
      (spec_node_of contents)
  spec_node_of (Loop' p loopee quant enclosed) =
      tree.loop (spec_quantifier_of quant) enclosed.start enclosed.end (spec_node_of loopee)
  spec_node_of (Loop1CharBody' p loopee quant) = tree.loop_1_char_body (spec_quantifier_of quant) (spec_node_of loopee)

  pub nodes_of : {m : _} → Row_of-Node m → tree.Node
  nodes_of end_of-Node = tree.end_of_cat
  nodes_of (more_of-Node child rest) = tree.cat (spec_node_of child) (nodes_of rest)

-- A sequence of nodes.
abbrev pub spec_cat_of_children : List Node → tree.Node
spec_cat_of_children [] = tree.end_of_cat
spec_cat_of_children (node ∷ nodes) = tree.cat (spec_node_of node) (spec_cat_of_children nodes)

-- The flags, as the definitions have them.
abbrev pub spec_flags_of : Flags → tree.Flags
spec_flags_of f = record {
  icase = f.icase;
  multiline = f.multiline;
  dot_all = f.dot_all;
  no_opt = f.no_opt;
  unicode = f.unicode;
  unicode_sets = f.unicode_sets;
}

-- The tree of a pattern.
abbrev pub tree_of : Regex → tree.Tree
tree_of re = record { root = spec_node_of re.node; flags = spec_flags_of re.flags }
