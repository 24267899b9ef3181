use Rattle.regex_parser.proofs.EcmaNameLemmas.{backslash-none, escape-read, escape-none}
use Rattle.regex_parser.proofs.ecmascript_group_name_reader.read_escaped_code_point.Goals as goal

pub returns-then-not-eat-clause-text : goal.returns-then-not-eat-clause-text
returns-then-not-eat-clause-text c = λ is_first. backslash-none is_first c.if-not-eat.ensures.text.1

pub returns-in-Ok-clause-text : goal.returns-in-Ok-clause-text
returns-in-Ok-clause-text c = λ is_first. escape-read is_first _ c.if-not-eat.ensures.text c.in-Ok.ensures.text

pub returns-in-Err-clause-text : goal.returns-in-Err-clause-text
returns-in-Err-clause-text c = λ is_first. escape-none is_first c.if-not-eat.ensures.text c.in-Err.ensures.text
