use Rattle.std.proofs.Common.{◌-◌, length, map}
use Rattle.std.specs.Prelude.{option_map}
use Rattle.regress_search.specs.MatchesAsSpecAnswers.{range_as_pair}
use Rattle.use_regexp.proofs.SplitLemmas.{IsCutTo}
use Rattle.use_regexp.proofs.pattern.Pattern.pieces.Given as goal

abbrev pub invariant-cuts : goal.invariant-cuts
invariant-cuts l = IsCutTo l.self l.text l.limit l.from (map (option_map range_as_pair) l.pieces.items)

abbrev pub decreases-cuts : goal.decreases-cuts
decreases-cuts l = length l.text - l.from
