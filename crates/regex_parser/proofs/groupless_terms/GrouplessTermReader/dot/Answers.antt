use Rattle.regex_pattern_front.proofs.GrouplessNodeLemmas.{leaf-MatchAny, leaf-MatchAnyExceptLineTerminator}
use Rattle.regex_parser.proofs.GrouplessTermLemmas.{dot-all, dot-other}
use Rattle.regex_parser.proofs.EcmaTermLemmas.{dot-all-ecma, dot-other-ecma}
use Rattle.regex_parser.proofs.groupless_terms.GrouplessTermReader.dot.Goals as goal

pub returns-then-self-clause-leaf : goal.returns-then-self-clause-leaf
returns-then-self-clause-leaf c = λ greatest. rw c.atom.ensures.node (leaf-MatchAny greatest)

pub returns-then-self-clause-text : goal.returns-then-self-clause-text
returns-then-self-clause-text c = λ groups there. dot-all c.args.self.now.flags groups there c.atom.result c.if-self.true c.atom.ensures.atom c.atom.ensures.node

pub returns-else-self-clause-leaf : goal.returns-else-self-clause-leaf
returns-else-self-clause-leaf c = λ greatest. rw c.atom-else-self.ensures.node (leaf-MatchAnyExceptLineTerminator greatest)

pub returns-else-self-clause-text : goal.returns-else-self-clause-text
returns-else-self-clause-text c =
    λ groups there. dot-other c.args.self.now.flags groups there c.atom-else-self.result c.if-self.false c.atom-else-self.ensures.atom c.atom-else-self.ensures.node

pub returns-then-self-clause-ecma : goal.returns-then-self-clause-ecma
returns-then-self-clause-ecma c = λ groups there. dot-all-ecma c.args.self.now.flags groups there c.atom.result c.if-self.true c.atom.ensures.atom c.atom.ensures.node

pub returns-else-self-clause-ecma : goal.returns-else-self-clause-ecma
returns-else-self-clause-ecma c =
    λ groups there. dot-other-ecma c.args.self.now.flags groups there c.atom-else-self.result c.if-self.false c.atom-else-self.ensures.atom c.atom-else-self.ensures.node
