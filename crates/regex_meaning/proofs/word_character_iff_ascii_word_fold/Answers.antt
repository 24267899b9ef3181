use Rattle.regex_meaning.proofs.CaseLawLemmas.{word-folds}
use Rattle.regex_meaning.proofs.word_character_iff_ascii_word_fold.Goals as goal

pub returns : goal.returns
returns c = word-folds
