use Rattle.regex_meaning.proofs.EcmaGrammarLemmas.{trees-are-well-formed}
use Rattle.regex_meaning.proofs.ecmascript_trees_are_well_formed.Goals as goal

pub returns : goal.returns
returns c = trees-are-well-formed
