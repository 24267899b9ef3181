use Rattle.std.proofs.Common.{sym, ◌∙◌}
use Rattle.regex_meaning.specs.EcmaClasses.{simple_escape, character_escape}
use Rattle.regex_parser.proofs.EcmaNameLemmas.{err-read}
use Rattle.regex_parser.proofs.EcmaClassLemmas.{letter-read, property-escape, no-property_escape, no-escape, no-class_escape, err-or}
use Rattle.regex_parser.proofs.ecmascript_classes.ClassReader.read_escape.Goals as goal

pub returns-in-Some-clause-text : goal.returns-in-Some-clause-text
returns-in-Some-clause-text c = simple_escape c.in-Some.ensures.text

pub returns-in-Some-of-clause-text : goal.returns-in-Some-of-clause-text
returns-in-Some-of-clause-text c =
    letter-read _ _ c.peek.result c.next.result c.in-Some-of.escape.base c.in-Some-of.escape.invert (rw c.in_default.ensures.text.0 at c.peek.ensures.text)
    (sym c.in-Some-of.ensures) (rw c.in_default.ensures.text.0 at c.next.ensures.text)

pub returns-in_err-property-clause-text : goal.returns-in_err-property-clause-text
returns-in_err-property-clause-text c =
    err-or _ _ _ c.from_residual.result _ c.from_residual.ensures.1 (λ x h. h)
    (λ r. no-property_escape c.in-Some-read_property_letter.invert (rw c.in_default.ensures.text.0 at c.in-Some-read_property_letter.ensures.text) c.in_default.ensures.text.1 (c.in_err-property.ensures.text r))

pub returns-in-Some-read_property_letter-clause-text : goal.returns-in-Some-read_property_letter-clause-text
returns-in-Some-read_property_letter-clause-text c =
    property-escape c.in-Some-read_property_letter.invert (rw c.in_default.ensures.text.0 at c.in-Some-read_property_letter.ensures.text) c.in_ok-property.ensures.text

pub returns-in_err-read_character_escape-clause-text : goal.returns-in_err-read_character_escape-clause-text
returns-in_err-read_character_escape-clause-text c =
    let none = rw c.in_default.ensures.text.0 at c.in_default-read_property_letter.ensures.text.1 in
    err-read _ _ _ c.from_residual-in_err-read_character_escape.result c.from_residual-in_err-read_character_escape.ensures.0
    (no-escape c.in_default.ensures.text.1
    (no-class_escape c.peek.result (rw c.in_default.ensures.text.0 at c.peek.ensures.text) (sym c.in_default-of.ensures) none)
    (rw (c.in_default-read_property_letter.ensures.text.0 ∙ c.in_default.ensures.text.0) at c.in_err-read_character_escape.ensures.text))

pub returns-clause-text : goal.returns-clause-text
returns-clause-text c =
    let none = rw c.in_default.ensures.text.0 at c.in_default-read_property_letter.ensures.text.1 in
    character_escape (rw (c.in_default-read_property_letter.ensures.text.0 ∙ c.in_default.ensures.text.0) at c.in_ok-read_character_escape.ensures.text)
    (λ k. c.in_default.ensures.text.1 k.0 k.1 k.2)
    (λ k. no-class_escape c.peek.result (rw c.in_default.ensures.text.0 at c.peek.ensures.text) (sym c.in_default-of.ensures) none k.0 k.1 k.2)
