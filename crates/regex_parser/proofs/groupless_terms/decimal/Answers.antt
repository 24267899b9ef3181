use Rattle.std.proofs.Common.{arith}
use Rattle.regex_parser.proofs.BackreferenceLemmas.{decimal-big, decimal-fits}
use Rattle.regex_parser.proofs.groupless_terms.decimal.Goals as goal

pub returns-then-n-clause-text : goal.returns-then-n-clause-text
returns-then-n-clause-text c = decimal-fits _ _ c.in_ok-n.n c.in_ok-n.ensures.text (omega arith)

pub returns-else-n-clause-text : goal.returns-else-n-clause-text
returns-else-n-clause-text c = decimal-big _ _ c.in_ok-n.n c.in_ok-n.ensures.text (omega arith)
