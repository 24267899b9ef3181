use Rattle.regex_meaning.proofs.FirstAndAllMatchesLemmas.{first-unfolds, first-past}
use Rattle.regex_meaning.proofs.first_match_unfolds.Goals as goal

pub returns : goal.returns
returns c root text place = (first-unfolds root text place, first-past root text place)
