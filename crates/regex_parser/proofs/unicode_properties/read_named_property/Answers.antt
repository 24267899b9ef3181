use Rattle.regex_parser.proofs.ClassReaderLemmas.{ok-map}
use Rattle.regex_parser.proofs.PropertyReaderLemmas.{named-with_value, named-alone}
use Rattle.regex_parser.proofs.unicode_properties.read_named_property.Goals as goal

pub returns-then-eat-clause-text : goal.returns-then-eat-clause-text
returns-then-eat-clause-text c =
    ok-map c.property_with_value.result c.property_with_value.ensures
    (λ p h. named-with_value _ c.read_name_characters-name.ensures.text c.if-eat.ensures.text c.read_name_characters-value.ensures.text h)

pub returns-clause-text : goal.returns-clause-text
returns-clause-text c =
    ok-map c.property_named.result c.property_named.ensures
    (λ p h. rw c.if-eat.ensures.text.0 (named-alone _ c.read_name_characters-name.ensures.text c.if-eat.ensures.text.1 h))
