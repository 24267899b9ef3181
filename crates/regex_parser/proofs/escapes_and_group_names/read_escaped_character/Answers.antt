use Rattle.std.proofs.Common.{◌≡◌, ◌∙◌, sym, refl, false}
use Rattle.std.specs.Char.{is_ascii_alphanumeric}
use Rattle.regex_meaning.specs.EscapesNamesQuantifiers.{hex_escape, unicode_escape, identity_escape}
use Rattle.regex_parser.proofs.EscapeLemmas.{scalar-same, scalar-is, no_letter, control-read, as-read, hex_none, unicode_none}
use Rattle.regex_parser.proofs.escapes_and_group_names.read_escaped_character.Goals as goal

pub returns-in-Some-eq0-clause-text : goal.returns-in-Some-eq0-clause-text
returns-in-Some-eq0-clause-text c =
    rw (scalar-is c.from_u32.result c.args.c c.in-Some-eq0.field-0 48 c.from_u32.ensures.value c.in-Some-eq0.is c.in-Some-eq0.field-0-test) (c.null.ensures c.args.unicode)

pub returns-in-Some-x-clause-text : goal.returns-in-Some-x-clause-text
returns-in-Some-x-clause-text c =
    rw (scalar-is c.from_u32.result c.args.c c.in-Some-x.field-0 120 c.from_u32.ensures.value c.in-Some-x.is c.in-Some-x.field-0-test)
    (as-read _ c.read_two_hex_digits.result c.read_two_hex_digits.ensures.text (λ end a h. hex_escape refl h) hex_none)

pub returns-in-Some-u-clause-text : goal.returns-in-Some-u-clause-text
returns-in-Some-u-clause-text c =
    rw (scalar-is c.from_u32.result c.args.c c.in-Some-u.field-0 117 c.from_u32.ensures.value c.in-Some-u.is c.in-Some-u.field-0-test)
    (as-read _ c.unicode_escape.result c.unicode_escape.ensures.text (λ end a h. unicode_escape refl h) unicode_none)

pub returns-in-Some-clause-text : goal.returns-in-Some-clause-text
returns-in-Some-clause-text c =
    let same : c.in-Some.letter ≡ c.args.c = scalar-same {o = c.from_u32.result} {c = c.args.c} {x = c.in-Some.letter} c.from_u32.ensures.value c.in-Some.is in
    let other = c.in-Some.letter-test in
    rw (sym same, c.ok_or.ensures.value)
    (control-read c.args.unicode c.in-Some.letter c.args.reader.now.rest.now c.control_escape_code_point.result c.invalid_escape_cause.result c.control_escape_code_point.ensures
    (sym c.is_ascii_alphanumeric.ensures.value ∙ c.if-is_ascii_alphanumeric.true) other.0.0.1 other.0.1 other.1)

pub returns-in_default-clause-text : goal.returns-in_default-clause-text
returns-in_default-clause-text c =
    let none : is_ascii_alphanumeric c.in-Some.letter ≡ false = sym c.is_ascii_alphanumeric.ensures.value ∙ c.if-is_ascii_alphanumeric.false in
    let same : c.in-Some.letter ≡ c.args.c = scalar-same {o = c.from_u32.result} {c = c.args.c} {x = c.in-Some.letter} c.from_u32.ensures.value c.in-Some.is in
    identity_escape refl (rw same at none)

pub returns-in_default-2-clause-text : goal.returns-in_default-2-clause-text
returns-in_default-2-clause-text c = identity_escape refl (no_letter c.args.c (rw c.in_default.is at c.from_u32.ensures.cases))
