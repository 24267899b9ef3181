use Rattle.regex_meaning.specs.EscapesNamesQuantifiers.{star, plus, question}
use Rattle.regex_parser.proofs.code_point_reader.PatternReader.quantifier_prefix.Goals as goal

pub returns-then-eat-clause-text : goal.returns-then-eat-clause-text
returns-then-eat-clause-text c = star c.if-eat.ensures.text

pub returns-then-eat-2-clause-text : goal.returns-then-eat-2-clause-text
returns-then-eat-2-clause-text c = rw (c.if-eat.ensures.text.0) at (plus c.if-eat-2.ensures.text)

pub returns-then-eat-3-clause-text : goal.returns-then-eat-3-clause-text
returns-then-eat-3-clause-text c = rw (c.if-eat.ensures.text.0) at (rw (c.if-eat-2.ensures.text.0) at (question c.if-eat-3.ensures.text))
