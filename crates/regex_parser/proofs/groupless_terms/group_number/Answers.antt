use Rattle.std.specs.BTreeMap.{get_by_text}
use Rattle.regex_parser.proofs.BackreferenceLemmas.{by-decimal, by-name}
use Rattle.regex_parser.proofs.groupless_terms.group_number.Goals as goal

pub returns-then-eat-clause-text : goal.returns-then-eat-clause-text
returns-then-eat-clause-text c = by-name (λ x. get_by_text c.args.numbers.now x) _ _ _ c.read_name_reference.result c.if-eat.ensures.text c.read_name_reference.ensures.text

pub returns-else-eat-clause-text : goal.returns-else-eat-clause-text
returns-else-eat-clause-text c = by-decimal (λ x. get_by_text c.args.numbers.now x) _ _ _ c.decimal.result c.nonzero_group_number.result c.if-eat.ensures.text c.decimal.ensures.text c.nonzero_group_number.ensures.counts
