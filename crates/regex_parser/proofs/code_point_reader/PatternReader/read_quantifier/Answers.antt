use Rattle.std.proofs.Common.{◌∙◌, sym}
use Rattle.regex_parser.proofs.QuantifierLemmas.{no_order, make_quantified}
use Rattle.regex_parser.proofs.code_point_reader.PatternReader.read_quantifier.Goals as goal

pub returns-then-not-are_in_order-clause-text : goal.returns-then-not-are_in_order-clause-text
returns-then-not-are_in_order-clause-text c = (
  (_, _, _, c.in-Some.ensures.text),
  λ end q. no_order c.in-Some.ensures.text (sym c.are_in_order.ensures ∙ c.if-not-are_in_order.true),
)

pub returns-clause-text : goal.returns-clause-text
returns-clause-text c =
    make_quantified c.eat-greedy.result c.in-Some.ensures.text (sym c.are_in_order.ensures ∙ c.if-not-are_in_order.false) c.eat-greedy.ensures.text
