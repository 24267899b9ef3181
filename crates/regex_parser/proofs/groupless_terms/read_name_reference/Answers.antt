use Rattle.std.proofs.Common.{◌∙◌, ap}
use Rattle.std.specs.Prelude.{string_bytes}
use Rattle.std.specs.BTreeMap.{get_by_text}
use Rattle.regex_parser.proofs.BackreferenceLemmas.{named-read}
use Rattle.regex_parser.proofs.groupless_terms.read_name_reference.Goals as goal

pub returns-clause-text : goal.returns-clause-text
returns-clause-text c =
    named-read (λ x. get_by_text c.args.numbers.now x) _ c.eat.new.self.rest.now c.name.new.reader.rest.now (string_bytes c.in_ok-name.name) c.copied-number.result c.nonzero_group_number.result
    c.if-not-eat.ensures.text c.in_ok-name.ensures.text
    (c.copied-number.ensures ∙ c.get.ensures.value ∙ ap (λ x. get_by_text c.args.numbers.now x) c.as_str.ensures.value) c.nonzero_group_number.ensures.counts
