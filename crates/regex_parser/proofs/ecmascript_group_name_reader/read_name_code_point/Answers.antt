use Rattle.std.proofs.Common.{sym, ◌∙◌}
use Rattle.regex_parser.proofs.EcmaNameLemmas.{itself-read}
use Rattle.regex_parser.proofs.ecmascript_group_name_reader.read_name_code_point.Goals as goal

pub returns-clause-text : goal.returns-clause-text
returns-clause-text c = λ is_first. itself-read is_first c.in_ok-c.ensures.text c.if-c.false (sym c.is_high_surrogate.ensures ∙ c.if-is_high_surrogate.false)
