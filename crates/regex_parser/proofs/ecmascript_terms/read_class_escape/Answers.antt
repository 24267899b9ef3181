use Rattle.std.proofs.Common.{sym}
use Rattle.regex_parser.proofs.EcmaClassLemmas.{no-class_escape}
use Rattle.regex_parser.proofs.EcmaTermLemmas.{letter-atom, property-atom, no-property-read, err-class}
use Rattle.regex_parser.proofs.ecmascript_terms.read_class_escape.Goals as goal

pub returns-in-Some-clause-text : goal.returns-in-Some-clause-text
returns-in-Some-clause-text c = λ groups.
    letter-atom c.args.flags groups _ _ c.peek.result c.next.result c.in-Some.escape.base c.in-Some.escape.invert c.in_ok-class_of_letter_escape.field-0 c.peek.ensures.text (sym c.in-Some.ensures) c.next.ensures.text
    c.in_ok-class_of_letter_escape.ensures.invert c.in_ok-class_of_letter_escape.ensures.set

pub returns-in_default-read_property_letter-clause-text : goal.returns-in_default-read_property_letter-clause-text
returns-in_default-read_property_letter-clause-text c = (
  c.in_default-read_property_letter.ensures.text.0,
  λ groups. no-class_escape c.peek.result c.peek.ensures.text (sym c.in_default.ensures) c.in_default-read_property_letter.ensures.text.1,
)

pub returns-in_err-property-clause-text : goal.returns-in_err-property-clause-text
returns-in_err-property-clause-text c =
    err-class c.args.flags _ _ c.from_residual-in_err-property.result _ c.from_residual-in_err-property.ensures.1 (λ x h. h)
    (λ r. no-property-read c.args.flags _ c.in-Some-read_property_letter.invert c.in-Some-read_property_letter.ensures.text (c.in_err-property.ensures.text r))

pub returns-clause-text : goal.returns-clause-text
returns-clause-text c = λ groups.
    property-atom c.args.flags groups c.in-Some-read_property_letter.invert c.in_ok-property_contents.field-0 c.in-Some-read_property_letter.ensures.text c.in_ok-property.ensures.text
    c.in_ok-property_contents.ensures.invert c.in_ok-property_contents.ensures.set
