use Rattle.regex_pattern_front.proofs.GrouplessNodeLemmas.{leaf-Anchor}
use Rattle.regex_parser.proofs.GrouplessTermLemmas.{anchored}
use Rattle.regex_parser.proofs.EcmaTermLemmas.{anchored-ecma}
use Rattle.regex_parser.proofs.groupless_terms.GrouplessTermReader.anchor.Goals as goal

pub returns-clause-leaf : goal.returns-clause-leaf
returns-clause-leaf c = λ greatest. leaf-Anchor greatest _ _

pub returns-clause-text : goal.returns-clause-text
returns-clause-text c = λ groups there. anchored c.args.self.now.flags groups there c.args.anchor_type

pub returns-clause-ecma : goal.returns-clause-ecma
returns-clause-ecma c = λ groups there. anchored-ecma c.args.self.now.flags groups there c.args.anchor_type
