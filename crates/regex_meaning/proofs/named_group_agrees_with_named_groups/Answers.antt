use Rattle.regex_meaning.proofs.NamedGroupLemmas.{named_groups-named_group}
use Rattle.regex_meaning.proofs.named_group_agrees_with_named_groups.Goals as goal

pub returns : goal.returns
returns c = named_groups-named_group
