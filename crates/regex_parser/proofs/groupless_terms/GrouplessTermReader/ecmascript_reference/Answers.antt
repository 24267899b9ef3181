use Rattle.std.proofs.Common.{arith}
use Rattle.regex_parser.proofs.EcmaTermLemmas.{canonical-leaf, canonical-node}
use Rattle.regex_parser.proofs.groupless_terms.GrouplessTermReader.ecmascript_reference.Goals as goal

pub returns-clause-leaf : goal.returns-clause-leaf
returns-clause-leaf c = rw c.atom.ensures.node (canonical-leaf _ c.args.group _ c.requires (omega (arith, c.reference-in_profile.ensures.references)))

pub returns-clause-node : goal.returns-clause-node
returns-clause-node c =
    canonical-node c.reference-in_profile.new.self.flags c.args.self.now.flags c.args.group c.atom.result.node c.reference-in_profile.ensures.same.0 c.if-not-self.false c.atom.ensures.node
