use Rattle.regex_meaning.proofs.EcmaGrammarLemmas.{one-tree}
use Rattle.regex_meaning.proofs.ecmascript_pattern_has_at_most_one_tree.Goals as goal

pub returns : goal.returns
returns c = one-tree
