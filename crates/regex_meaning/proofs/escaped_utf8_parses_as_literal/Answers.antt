use Rattle.regex_meaning.proofs.EscapedUtf8Reading.{escaped_utf8_parses_as_literal}
use Rattle.regex_meaning.proofs.escaped_utf8_parses_as_literal.Goals as goal

pub returns : goal.returns
returns c = escaped_utf8_parses_as_literal
