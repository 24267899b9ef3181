use Rattle.regex_meaning.proofs.UniqueTreeLemmas.{pattern_has_at_most_one_tree}
use Rattle.regex_meaning.proofs.pattern_has_at_most_one_tree.Goals as goal

pub returns : goal.returns
returns c = pattern_has_at_most_one_tree
