use Rattle.regex_meaning.proofs.ReplaceAndEscapeLemmas.{replaced-whole}
use Rattle.regex_meaning.proofs.replacing_matches_by_themselves_changes_nothing.Goals as goal

pub returns : goal.returns
returns c = λ text ms. replaced-whole text 0 ms
