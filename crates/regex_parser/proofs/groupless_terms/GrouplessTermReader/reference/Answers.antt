use Rattle.std.proofs.Common.{arith}
use Rattle.regex_pattern_front.proofs.GrouplessNodeLemmas.{leaf-BackRef}
use Rattle.regex_parser.proofs.GrouplessTermLemmas.{node-BackRef}
use Rattle.regex_parser.proofs.groupless_terms.GrouplessTermReader.reference.Goals as goal

pub returns-clause-leaf : goal.returns-clause-leaf
returns-clause-leaf c =
    rw c.atom.ensures.node (leaf-BackRef c.max-self.result c.args.group _ c.requires (omega (arith, c.max-self.ensures)))

pub returns-clause-node : goal.returns-clause-node
returns-clause-node c = rw c.atom.ensures.node (node-BackRef _ _)
