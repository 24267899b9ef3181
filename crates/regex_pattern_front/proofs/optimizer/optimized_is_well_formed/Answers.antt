use Rattle.regex_pattern_front.proofs.OptimizedTreesLemmas.{well_formed-optimized}
use Rattle.regex_pattern_front.proofs.optimizer.optimized_is_well_formed.Goals as goal

pub returns : goal.returns
returns c = well_formed-optimized
