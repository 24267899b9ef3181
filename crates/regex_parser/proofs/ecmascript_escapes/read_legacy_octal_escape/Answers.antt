use Rattle.std.proofs.Common.{arith}
use Rattle.regex_parser.proofs.EcmaEscapeLemmas.{octal-one, octal-two-high, octal-two, octal-three}
use Rattle.regex_parser.proofs.ecmascript_escapes.read_legacy_octal_escape.Goals as goal

pub returns-in_default-clause-text : goal.returns-in_default-clause-text
returns-in_default-clause-text c = octal-one c.requires c.in_default.ensures.text

pub returns-then-first-gt3-clause-text : goal.returns-then-first-gt3-clause-text
returns-then-first-gt3-clause-text c = octal-two-high c.requires c.if-first-gt3.true c.in-Some.ensures.text

pub returns-in-None-clause-text : goal.returns-in-None-clause-text
returns-in-None-clause-text c = octal-two (omega (arith, c.if-first-gt3.false)) c.in-Some.ensures.text c.in-None.ensures.text

pub returns-in-Some-read_digit_in_base-clause-text :
    goal.returns-in-Some-read_digit_in_base-clause-text
returns-in-Some-read_digit_in_base-clause-text c = octal-three (omega (arith, c.if-first-gt3.false)) c.in-Some.ensures.text c.in-Some-read_digit_in_base.ensures.text
