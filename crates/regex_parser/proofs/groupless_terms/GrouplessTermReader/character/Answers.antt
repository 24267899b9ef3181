use Rattle.std.proofs.Common.{arith}
use Rattle.regex_pattern_front.proofs.GrouplessNodeLemmas.{leaf-Char, leaf-CharSet, few_members}
use Rattle.regex_parser.proofs.GrouplessTermLemmas.{node-plain, node-set, node-one}
use Rattle.regex_parser.proofs.groupless_terms.GrouplessTermReader.character.Goals as goal

pub returns-then-not-self-clause-leaf : goal.returns-then-not-self-clause-leaf
returns-then-not-self-clause-leaf c = λ greatest. rw c.atom.ensures.node (leaf-Char greatest c.args.c)

pub returns-then-not-self-clause-node : goal.returns-then-not-self-clause-node
returns-then-not-self-clause-node c = node-plain c.args.self.now.flags c.args.c c.atom.result.node c.if-not-self.true c.atom.ensures.node

pub returns-then-len-gt1-clause-leaf : goal.returns-then-len-gt1-clause-leaf
returns-then-len-gt1-clause-leaf c =
    λ greatest. rw c.atom-then-len-gt1.ensures.node
    (leaf-CharSet greatest c.in_ok-members.members (rw c.in_ok-members.ensures (few_members c.args.c c.args.self.now.flags.icase c.args.self.now.flags.unicode)))

pub returns-then-len-gt1-clause-node : goal.returns-then-len-gt1-clause-node
returns-then-len-gt1-clause-node c =
    node-set c.args.self.now.flags c.args.c c.in_ok-members.members c.atom-then-len-gt1.result.node c.in_ok-members.ensures (omega (arith, c.len.ensures, c.if-len-gt1.true)) c.atom-then-len-gt1.ensures.node

pub returns-else-len-gt1-clause-leaf : goal.returns-else-len-gt1-clause-leaf
returns-else-len-gt1-clause-leaf c = λ greatest. rw c.atom-else-len-gt1.ensures.node (leaf-Char greatest c.args.c)

pub returns-else-len-gt1-clause-node : goal.returns-else-len-gt1-clause-node
returns-else-len-gt1-clause-node c =
    node-one c.args.self.now.flags c.args.c c.in_ok-members.members c.atom-else-len-gt1.result.node c.in_ok-members.ensures (omega (arith, c.len.ensures, c.if-len-gt1.false)) c.atom-else-len-gt1.ensures.node
