use Rattle.regex_meaning.proofs.PatternTreeLemmas.{trees_are_well_formed}
use Rattle.regex_meaning.proofs.trees_are_well_formed.Goals as goal

pub returns : goal.returns
returns c = trees_are_well_formed
