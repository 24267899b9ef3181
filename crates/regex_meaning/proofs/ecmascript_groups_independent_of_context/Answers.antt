use Rattle.regex_meaning.proofs.EcmaGrammarLemmas.{groups-are-decided}
use Rattle.regex_meaning.proofs.ecmascript_groups_independent_of_context.Goals as goal

pub returns : goal.returns
returns c = groups-are-decided
