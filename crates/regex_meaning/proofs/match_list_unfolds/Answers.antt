use Rattle.regex_meaning.proofs.FirstAndAllMatchesLemmas.{match_list-unfolds}
use Rattle.regex_meaning.proofs.match_list_unfolds.Goals as goal

pub returns : goal.returns
returns c = match_list-unfolds
