use Rattle.std.proofs.Common.{◌∙◌, sym, arith}
use Rattle.regex_parser.proofs.EscapeLemmas.{no_trail}
use Rattle.regex_parser.proofs.escapes_and_group_names.read_low_surrogate_escape.Goals as goal

pub returns-else-is_low_surrogate-clause-text : goal.returns-else-is_low_surrogate-clause-text
returns-else-is_low_surrogate-clause-text c =
    no_trail c.if-not-eat.ensures.text c.if-not-eat-2.ensures.text (c.in_ok-c.ensures.text (omega arith)) (sym c.is_low_surrogate.ensures ∙ c.if-is_low_surrogate.false)
