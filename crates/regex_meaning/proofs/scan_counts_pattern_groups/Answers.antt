use Rattle.regex_meaning.proofs.PatternTreeLemmas.{scan_counts_pattern_groups}
use Rattle.regex_meaning.proofs.scan_counts_pattern_groups.Goals as goal

pub returns : goal.returns
returns c = scan_counts_pattern_groups
