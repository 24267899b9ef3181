use Rattle.std.proofs.Common.{arith}
use Rattle.regex_pattern_front.specs.AstToSpecTree.{spec_flags_of}
use Rattle.regex_pattern_front.proofs.GrouplessNodeLemmas.{leaf-Char, leaf-CharSet}
use Rattle.regex_parser.proofs.EcmaTermLemmas.{several-variants, node-variants, node-alone}
use Rattle.regex_parser.proofs.ecmascript_terms.ecmascript_character.Goals as goal

pub returns-then-len-gt1-clause-leaf : goal.returns-then-len-gt1-clause-leaf
returns-then-len-gt1-clause-leaf c =
    λ greatest. rw c.atom.ensures.node
    (leaf-CharSet greatest c.in_ok-members.members (several-variants c.in_ok-members.members.items (spec_flags_of c.args.flags) c.args.c c.in_ok-members.ensures))

pub returns-then-len-gt1-clause-node : goal.returns-then-len-gt1-clause-node
returns-then-len-gt1-clause-node c =
    node-variants c.args.flags c.args.c c.in_ok-members.members c.atom.result.node c.in_ok-members.ensures (omega (arith, c.len.ensures, c.if-len-gt1.true)) c.atom.ensures.node

pub returns-else-len-gt1-clause-leaf : goal.returns-else-len-gt1-clause-leaf
returns-else-len-gt1-clause-leaf c = λ greatest. rw c.atom-else-len-gt1.ensures.node (leaf-Char greatest c.args.c)

pub returns-else-len-gt1-clause-node : goal.returns-else-len-gt1-clause-node
returns-else-len-gt1-clause-node c =
    node-alone c.args.flags c.args.c c.in_ok-members.members.items c.atom-else-len-gt1.result.node c.in_ok-members.ensures (omega (arith, c.len.ensures, c.if-len-gt1.false)) c.atom-else-len-gt1.ensures.node
