use Rattle.regex_parser.proofs.GroupScanLemmas.{look-is}
use Rattle.regex_parser.proofs.group_openings_and_names.read_group_kind.Goals as goal

pub returns-in-Some-clause-text : goal.returns-in-Some-clause-text
returns-in-Some-clause-text c = look-is _ _ c.in-Some.negate c.eat-backwards.result c.if-not-eat.ensures.text c.if-eat.ensures.text.0 c.eat-backwards.ensures.text c.in-Some.ensures.text
