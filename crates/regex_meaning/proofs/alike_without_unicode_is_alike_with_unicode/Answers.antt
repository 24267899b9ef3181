use Rattle.regex_meaning.proofs.CaseLawLemmas.{alike-folds}
use Rattle.regex_meaning.proofs.alike_without_unicode_is_alike_with_unicode.Goals as goal

pub returns : goal.returns
returns c = alike-folds
