use Rattle.regex_meaning.proofs.EcmaGrammarLemmas.{groups-are-found}
use Rattle.regex_meaning.proofs.ecmascript_groups_are_found.Goals as goal

pub returns : goal.returns
returns c = groups-are-found
