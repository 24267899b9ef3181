use Rattle.regex_meaning.proofs.GroupNameScanLemmas.{scan_finds_opened_group_names}
use Rattle.regex_meaning.proofs.scan_finds_opened_group_names.Goals as goal

pub returns : goal.returns
returns c = scan_finds_opened_group_names
