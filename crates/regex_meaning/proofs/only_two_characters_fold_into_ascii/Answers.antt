use Rattle.regex_meaning.proofs.CaseLawLemmas.{into-ascii}
use Rattle.regex_meaning.proofs.only_two_characters_fold_into_ascii.Goals as goal

pub returns : goal.returns
returns c = into-ascii
