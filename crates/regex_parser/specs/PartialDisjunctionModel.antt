-- The parser's partial disjunction, converted to that of the definitions.
use Rattle.std.specs.Prelude.{List, [], ◌∷◌, map}
use Rattle.regex_meaning.specs.Tree as tree
use Rattle.regex_parser.specs.ParseStack as grammar
use Rattle.regex_parser.specs.declared.open_groups.PartialDisjunction.{PartialDisjunction}
use Rattle.regex_pattern_front.specs.AstToSpecTree.{spec_node_of}

-- The partial disjunction, as the definitions have it.
abbrev pub disjunction_of : PartialDisjunction → grammar.PartialDisjunction
disjunction_of l =
    record {
      arms =
          map spec_node_of l.arms.items;
      terms = map spec_node_of l.terms.items;
      in_lookbehind = l.in_lookbehind;
    }

-- Alternatives nested to the right. An empty list is the empty pattern.
abbrev pub nest_all_alternatives : List tree.Node → tree.Node
nest_all_alternatives [] = tree.empty
nest_all_alternatives (n ∷ []) = n
nest_all_alternatives (n ∷ m ∷ ns) = tree.alt n (nest_all_alternatives (m ∷ ns))
