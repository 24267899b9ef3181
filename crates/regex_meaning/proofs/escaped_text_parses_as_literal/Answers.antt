use Rattle.regex_meaning.proofs.EscapedTextReading.{escaped_text_parses_as_literal}
use Rattle.regex_meaning.proofs.escaped_text_parses_as_literal.Goals as goal

pub returns : goal.returns
returns c = escaped_text_parses_as_literal
