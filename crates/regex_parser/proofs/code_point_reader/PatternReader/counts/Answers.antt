use Rattle.regex_parser.proofs.QuantifierLemmas.{counts-all, counts-none}
use Rattle.regex_parser.proofs.code_point_reader.PatternReader.counts.Goals as goal

pub returns-then-eat-clause-text : goal.returns-then-eat-clause-text
returns-then-eat-clause-text c = counts-all c.in_ok-min.ensures.text c.most-max.ensures.text c.if-eat.ensures.text

pub returns-else-eat-clause-text : goal.returns-else-eat-clause-text
returns-else-eat-clause-text c = counts-none c.in_ok-min.ensures.text c.most-max.ensures.text c.if-eat.ensures.text.1
