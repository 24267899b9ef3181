use Rattle.regex_meaning.specs.EcmaGrammarWithAnnexB.{ecmascript}
use Rattle.regex_meaning.proofs.EcmaClassAndAtomLemmas.{ecmascript-reads}
use Rattle.regex_meaning.proofs.EcmaGrammarLemmas.{groups-are-found}
use Rattle.regex_parser.proofs.ScannedGroupsLemmas.{scanned-opened}
use Rattle.regex_parser.proofs.scan_law.ecmascript_scan_finds_groups.Goals as goal

pub returns : goal.returns
returns c = λ w pattern groups names n d h. scanned-opened ecmascript ecmascript-reads (groups-are-found w pattern groups n d) h
