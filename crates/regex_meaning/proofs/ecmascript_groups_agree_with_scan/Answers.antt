use Rattle.regex_meaning.proofs.EcmaGrammarLemmas.{groups-are-named}
use Rattle.regex_meaning.proofs.ecmascript_groups_agree_with_scan.Goals as goal

pub returns : goal.returns
returns c = groups-are-named
