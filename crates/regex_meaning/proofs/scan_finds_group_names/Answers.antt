use Rattle.regex_meaning.proofs.GroupNamesOfTreeLemmas.{scan_finds_group_names}
use Rattle.regex_meaning.proofs.scan_finds_group_names.Goals as goal

pub returns : goal.returns
returns c = scan_finds_group_names
