use Rattle.std.proofs.Common.{sym, ◌∙◌, ap, refl}
use Rattle.regex_meaning.specs.EcmaClasses.{escaped}
use Rattle.regex_parser.specs.CodePointReaderContracts.{is_syntax_error}
use Rattle.regex_parser.proofs.EcmaClassLemmas.{atom-verbatim, atom-escaped, atom-backslash}
use Rattle.regex_parser.proofs.ecmascript_classes.ClassReader.read_atom.Goals as goal

pub returns-then-c-clause-text : goal.returns-then-c-clause-text
returns-then-c-clause-text c = atom-verbatim c.args.c c.if-c.true c.requires

pub returns-then-not-is_control_without_unicode-clause-text : goal.returns-then-not-is_control_without_unicode-clause-text
returns-then-not-is_control_without_unicode-clause-text c =
    rw c.if-c.false (atom-escaped _ _ _ _ c.read_escape.result _ (sym c.is_control_without_unicode.ensures ∙ c.if-not-is_control_without_unicode.true) c.read_escape.ensures.text)

pub returns-in-Ok-clause-text : goal.returns-in-Ok-clause-text
returns-in-Ok-clause-text c = rw c.if-c.false (escaped refl c.in-Ok.ensures.text)

pub returns-in-Err-Refused-clause-text : goal.returns-in-Err-Refused-clause-text
returns-in-Err-Refused-clause-text c =
    rw c.if-c.false (atom-backslash (sym c.is_control_without_unicode.ensures ∙ c.if-not-is_control_without_unicode.false) (c.in-Err-Refused.ensures.text (ap is_syntax_error c.in-Err-Refused.field-0-is)))
