use Rattle.std.proofs.Common.{sym, ◌∙◌, true≢false}
use Rattle.std.proofs.lemmas.Bool.{lt-ltb}
use Rattle.regex_meaning.specs.EcmaEscapesAndNames.{legacy_octal_escape}
use Rattle.regex_parser.proofs.EcmaEscapeLemmas.{zero-read}
use Rattle.regex_parser.proofs.ecmascript_escapes.read_octal_escape.Goals.{then-first-gt0, else-first-gt0}
use Rattle.regex_parser.proofs.ecmascript_escapes.read_octal_escape.Goals as goal

pub returns-then-not-unicode-clause-text : goal.returns-then-not-unicode-clause-text
returns-then-not-unicode-clause-text c = λ named. legacy_octal_escape c.if-not-unicode.true c.read_legacy_octal_escape.ensures.text

pub returns-else-next_is_digit-clause-text : goal.returns-else-next_is_digit-clause-text
returns-else-next_is_digit-clause-text c =
    λ named. elim c.if-first-gt0.branch [
      | then-first-gt0 w ↦ absurd (true≢false (sym (lt-ltb 0 c.args.first w.if-first-gt0.true) ∙ sym w.value-is ∙ c.if-next_is_digit.false))
      | else-first-gt0 w ↦ zero-read c.args.first w.if-first-gt0.false (sym w.next_is_digit.ensures ∙ sym w.value-is ∙ c.if-next_is_digit.false)
    ]
