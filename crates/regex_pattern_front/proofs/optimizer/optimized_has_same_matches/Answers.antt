use Rattle.regex_pattern_front.proofs.OptimizedTreesLemmas.{answers-optimized, group_ids-optimized, named_ids-optimized}
use Rattle.regex_pattern_front.proofs.optimizer.optimized_has_same_matches.Goals as goal

pub returns : goal.returns
returns c = record { answers = answers-optimized; groups = group_ids-optimized; names = named_ids-optimized }
