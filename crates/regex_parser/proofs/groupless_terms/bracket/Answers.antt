use Rattle.regex_pattern_front.proofs.GrouplessNodeLemmas.{leaf-Bracket}
use Rattle.regex_parser.proofs.GrouplessTermLemmas.{node-Bracket}
use Rattle.regex_parser.proofs.groupless_terms.bracket.Goals as goal

pub returns-clause-leaf : goal.returns-clause-leaf
returns-clause-leaf c = λ greatest. rw c.atom.ensures.node (leaf-Bracket greatest c.args.contents)

pub returns-clause-node : goal.returns-clause-node
returns-clause-node c = rw c.atom.ensures.node (node-Bracket c.args.contents)
