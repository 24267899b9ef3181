use Rattle.std.proofs.Common.{sym, ◌∙◌}
use Rattle.regex_meaning.specs.EcmaEscapesAndNames.{non_identity_escape}
use Rattle.regex_parser.proofs.EcmaEscapeLemmas.{identity-read}
use Rattle.regex_parser.proofs.ecmascript_escapes.read_character_escape.Goals as goal

pub returns-in-Ok-clause-text : goal.returns-in-Ok-clause-text
returns-in-Ok-clause-text c = non_identity_escape (c.in-Ok.ensures.text c.args.parameters.named_groups)

pub returns-in-Some-clause-text : goal.returns-in-Some-clause-text
returns-in-Some-clause-text c =
    identity-read c.in-Some.ensures.text (sym c.is_identity_escape.ensures ∙ c.if-is_identity_escape.true) (c.in-Err.ensures.text c.args.parameters.named_groups)
