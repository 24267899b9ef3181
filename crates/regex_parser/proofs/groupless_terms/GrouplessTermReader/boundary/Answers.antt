use Rattle.std.proofs.Common.{arith}
use Rattle.regex_pattern_front.proofs.GrouplessNodeLemmas.{leaf-WordBoundary}
use Rattle.regex_parser.proofs.GrouplessTermLemmas.{bounded}
use Rattle.regex_parser.proofs.EcmaTermLemmas.{bounded-ecma}
use Rattle.regex_parser.proofs.groupless_terms.GrouplessTermReader.boundary.Goals.{then-self, else-self}
use Rattle.regex_parser.proofs.groupless_terms.GrouplessTermReader.boundary.Goals as goal

pub returns-clause-leaf : goal.returns-clause-leaf
returns-clause-leaf c = λ greatest. leaf-WordBoundary greatest _ _

pub returns-clause-text : goal.returns-clause-text
returns-clause-text c = λ groups there. bounded c.args.self.now.flags groups there c.args.invert c.if-self.result
    (elim c.if-self.branch [
      | then-self w ↦ grind arith
      | else-self w ↦ grind arith
    ])

pub returns-clause-ecma : goal.returns-clause-ecma
returns-clause-ecma c = λ groups there. bounded-ecma c.args.self.now.flags groups there c.args.invert c.if-self.result
    (elim c.if-self.branch [
      | then-self w ↦ grind arith
      | else-self w ↦ grind arith
    ])
