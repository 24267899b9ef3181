use Rattle.regex_meaning.proofs.CaseLawLemmas.{profile-folds}
use Rattle.regex_meaning.proofs.profile_folds_table_as_unicode_does.Goals as goal

pub returns : goal.returns
returns c = profile-folds
