use Rattle.std.proofs.Common.{◌∙◌, sym}
use Rattle.regex_parser.specs.GrouplessTermContracts.{pattern_context}
use Rattle.regex_parser.proofs.GrouplessTermLemmas.{escape-read, escape-passed}
use Rattle.regex_parser.proofs.groupless_terms.GrouplessTermReader.escape.Goals as goal

pub returns-then-eat-clause-leaf : goal.returns-then-eat-clause-leaf
returns-then-eat-clause-leaf c = c.boundary.ensures.leaf c.args.self.now.references

pub returns-then-eat-clause-passed : goal.returns-then-eat-clause-passed
returns-then-eat-clause-passed c = escape-passed 98 _ _ c.if-eat.ensures.text

pub returns-then-eat-2-clause-leaf : goal.returns-then-eat-2-clause-leaf
returns-then-eat-2-clause-leaf c = c.boundary-then-eat-2.ensures.leaf c.args.self.now.references

pub returns-then-eat-2-clause-passed : goal.returns-then-eat-2-clause-passed
returns-then-eat-2-clause-passed c = escape-passed 66 _ _ (sym c.if-eat.ensures.text.0 ∙ c.if-eat-2.ensures.text)

pub returns-clause-text : goal.returns-clause-text
returns-clause-text c = λ groups known.
    escape-read (pattern_context c.args.self.now.flags groups) c.args.self.now.reader.rest.now c.eat.new.self.rest.now c.eat-2.new.self.rest.now _ c.atom_escape.result _ _
    c.if-eat.ensures.text c.if-eat-2.ensures.text (c.atom_escape.ensures.text groups known)
