use Rattle.std.proofs.Common.{◌∙◌, ap, refl}
use Rattle.regex_meaning.proofs.ListLemmas.{map-reverse}
use Rattle.regex_meaning.specs.ReadingStatesAndDigits.{sequence_node}
use Rattle.regex_pattern_front.specs.AstToSpecTree.{spec_node_of}
use Rattle.regex_parser.proofs.PartialDisjunctionLemmas.{cat_is}
use Rattle.regex_pattern_front.proofs.AstToSpecTreeLemmas.{spec_node_of-Cat}
use Rattle.regex_pattern_front.proofs.SubtreeListLemmas.{made-cat, made-permuted}
use Rattle.regex_parser.proofs.open_groups.cat.Goals.{then-in_lookbehind, else-in_lookbehind}
use Rattle.regex_parser.proofs.open_groups.cat.Goals as goal

pub returns-clause-parts : goal.returns-clause-parts
returns-clause-parts c =
    rw (spec_node_of-Cat c.if-in_lookbehind.terms)
    (elim c.if-in_lookbehind.branch [
      | then-in_lookbehind w ↦ rw w.terms-is (made-permuted c.args.terms.items _ _ w.reverse.ensures.permutation (made-cat _))
      | else-in_lookbehind w ↦ rw w.terms-is (made-cat c.args.terms.items)
    ])

pub returns-clause-arm : goal.returns-clause-arm
returns-clause-arm c =
    spec_node_of-Cat c.if-in_lookbehind.terms ∙ cat_is c.if-in_lookbehind.terms.items
    ∙ (elim c.if-in_lookbehind.branch [
      | then-in_lookbehind w ↦ rw (w.terms-is, w.if-in_lookbehind.true, w.reverse.ensures.items) (ap sequence_node (map-reverse spec_node_of c.args.terms.items))
      | else-in_lookbehind w ↦ rw (w.terms-is, w.if-in_lookbehind.false) refl
    ])
