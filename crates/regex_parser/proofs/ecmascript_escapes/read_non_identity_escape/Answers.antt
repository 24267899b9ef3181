use Rattle.std.proofs.Common.{◌≡◌, ◌+◌, ◌-◌, ◌≤◌, false, refl, sym, arith, inl, inr}
use Rattle.regex_meaning.specs.EcmaEscapesAndNames.{hex_escape, unicode_escape, is_octal_digit}
use Rattle.regex_parser.proofs.EscapeLemmas.{scalar-same, scalar-is, as-read}
use Rattle.regex_parser.proofs.EcmaEscapeLemmas.{at-letter, letter-read, control-read, hex-none, unicode-none, other-kind, not-octal}
use Rattle.regex_parser.proofs.ecmascript_escapes.read_non_identity_escape.Goals.{then-digit-ge48+else-digit-le55, else-digit-ge48}
use Rattle.regex_parser.proofs.ecmascript_escapes.read_non_identity_escape.Goals as goal

pub returns-in-Some-c-clause-text : goal.returns-in-Some-c-clause-text
returns-in-Some-c-clause-text c =
    λ named.
    let same = scalar-is c.from_u32.result c.in-Some.c c.in-Some-c.field-0 99 c.from_u32.ensures.value c.in-Some-c.is c.in-Some-c.field-0-test in
    at-letter _ _ c.in-Some.c 99 _ c.in-Some.ensures.text same (rw c.ok_or.ensures.value (letter-read _ _ _ c.read_control_letter.result _ c.read_control_letter.ensures.text))

pub returns-in-Some-x-clause-text : goal.returns-in-Some-x-clause-text
returns-in-Some-x-clause-text c =
    λ named.
    let same = scalar-is c.from_u32.result c.in-Some.c c.in-Some-x.field-0 120 c.from_u32.ensures.value c.in-Some-x.is c.in-Some-x.field-0-test in
    at-letter _ _ c.in-Some.c 120 _ c.in-Some.ensures.text same
    (as-read _ c.read_two_hex_digits.result c.read_two_hex_digits.ensures.text (λ end a h. hex_escape refl h) hex-none)

pub returns-in-Some-u-clause-text : goal.returns-in-Some-u-clause-text
returns-in-Some-u-clause-text c =
    λ named.
    let same = scalar-is c.from_u32.result c.in-Some.c c.in-Some-u.field-0 117 c.from_u32.ensures.value c.in-Some-u.is c.in-Some-u.field-0-test in
    at-letter _ _ c.in-Some.c 117 _ c.in-Some.ensures.text same
    (as-read _ c.unicode_escape.result c.unicode_escape.ensures.text (λ end a h. unicode_escape refl h) unicode-none)

pub returns-in-Some-from_u32-clause-text : goal.returns-in-Some-from_u32-clause-text
returns-in-Some-from_u32-clause-text c =
    λ named.
    let same : c.in-Some-from_u32.digit ≡ c.in-Some.c = scalar-same c.from_u32.ensures.value c.in-Some-from_u32.is in
    let least : 48 ≤ c.in-Some-from_u32.digit = c.if-digit-ge48.true in
    at-letter _ _ c.in-Some.c (48 + (c.in-Some.c - 48)) _ c.in-Some.ensures.text (omega (arith, same, least)) (c.read_octal_escape.ensures.text named)

pub returns-in-Some-2-clause-text : goal.returns-in-Some-2-clause-text
returns-in-Some-2-clause-text c =
    λ named.
    let same : c.in-Some-from_u32.digit ≡ c.in-Some.c = scalar-same c.from_u32.ensures.value c.in-Some-from_u32.is in
    let test = c.in-Some-from_u32.digit-test in
    let out : is_octal_digit c.in-Some-from_u32.digit ≡ false = elim c.if-digit-ge48.branch [
      | then-digit-ge48+else-digit-le55 w ↦ not-octal _ (inr w.if-digit-le55.false)
      | else-digit-ge48 w ↦ not-octal _ (inl w.if-digit-ge48.false)
    ] in
    at-letter _ _ c.in-Some.c c.in-Some-from_u32.digit _ c.in-Some.ensures.text (sym same)
    (rw c.ok_or-in-Some-2.ensures.value (control-read _ c.in-Some-from_u32.digit _ c.control_escape_code_point.result _ c.control_escape_code_point.ensures
    (other-kind c.in-Some-from_u32.digit out test.0.0.1 test.0.1 test.1)))
