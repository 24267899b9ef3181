use Rattle.regex_meaning.proofs.ReplaceAndEscapeLemmas.{escape-injective}
use Rattle.regex_meaning.proofs.escape_is_injective.Goals as goal

pub returns : goal.returns
returns c = escape-injective
