use Rattle.std.proofs.Common.{sym}
use Rattle.regex_parser.proofs.EscapeLemmas.{as-read, unicode-plain, unicode-plain_none, unicode-brace, unicode-brace_none, unicode-read_trail_surrogate_if_any}
use Rattle.regex_parser.proofs.escapes_and_group_names.unicode_escape.Goals as goal

pub returns-then-not-unicode-clause-text : goal.returns-then-not-unicode-clause-text
returns-then-not-unicode-clause-text c =
    rw c.if-not-unicode.true (as-read _ c.read_four_hex_digits.result c.read_four_hex_digits.ensures.text (λ end a. unicode-plain) unicode-plain_none)

pub returns-then-eat-clause-text : goal.returns-then-eat-clause-text
returns-then-eat-clause-text c =
    rw c.if-not-unicode.false
    (as-read _ c.code_point.result c.code_point.ensures.text (λ end a. unicode-brace c.if-eat.ensures.text) (unicode-brace_none c.if-eat.ensures.text))

pub returns-clause-text : goal.returns-clause-text
returns-clause-text c =
    rw (c.if-not-unicode.false, sym c.if-eat.ensures.text.0) (unicode-read_trail_surrogate_if_any c.in_ok-c.ensures.text c.read_trail_surrogate_if_any.ensures.text)
