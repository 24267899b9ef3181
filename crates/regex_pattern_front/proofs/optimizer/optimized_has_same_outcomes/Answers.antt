use Rattle.regex_pattern_front.proofs.OptimizedTreesLemmas.{outcomes-optimized}
use Rattle.regex_pattern_front.proofs.optimizer.optimized_has_same_outcomes.Goals as goal

pub returns : goal.returns
returns c = outcomes-optimized
