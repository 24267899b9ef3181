use Rattle.std.proofs.Common.{◌∙◌, ap, sym}
use Rattle.std.specs.BTreeMap.{get_by_text}
use Rattle.regex_parser.proofs.DialectRequirementLemmas.{readable}
use Rattle.regex_parser.proofs.ParserContractsLemmas.{name-found, name-other}
use Rattle.regex_parser.proofs.parse.read_unused_group_name.Goals as goal

pub returns-then-eq-clause-text : goal.returns-then-eq-clause-text
returns-then-eq-clause-text c =
    name-found (readable c.args.leaves.now.syntax) (λ x. get_by_text c.args.leaves.now.numbers x) c.args.groups c.from.result c.args.opening _ _ c.in_ok-name.name c.copied.result c.in-Named.is c.in_ok-name.ensures.text
    (c.copied.ensures ∙ c.get.ensures.value ∙ ap (λ x. get_by_text c.args.leaves.now.numbers x) c.as_str.ensures.value) c.from.ensures (sym c.eq.ensures ∙ c.if-eq.true)

pub returns-else-eq-clause-text : goal.returns-else-eq-clause-text
returns-else-eq-clause-text c =
    name-other (readable c.args.leaves.now.syntax) (λ x. get_by_text c.args.leaves.now.numbers x) c.args.groups c.from.result c.args.opening _ c.read_name.new.reader.rest.now c.in_ok-name.name c.copied.result c.error_here.result c.in-Named.is c.in_ok-name.ensures.text
    (c.copied.ensures ∙ c.get.ensures.value ∙ ap (λ x. get_by_text c.args.leaves.now.numbers x) c.as_str.ensures.value) c.from.ensures (sym c.eq.ensures ∙ c.if-eq.false)
