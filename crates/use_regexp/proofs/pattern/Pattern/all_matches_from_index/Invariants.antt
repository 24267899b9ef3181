use Rattle.std.proofs.Common.{◌+◌, ◌-◌, length, map}
use Rattle.regress_search.specs.MatchesAsSpecAnswers.{answer_of}
use Rattle.use_regexp.proofs.TurnLemmas.{GoesOn}
use Rattle.use_regexp.proofs.pattern.Pattern.all_matches_from_index.Given as goal

abbrev pub invariant-turns : goal.invariant-turns
invariant-turns l = GoesOn l.self l.text l.first l.last (map answer_of l.matches.items)

abbrev pub decreases-turns : goal.decreases-turns
decreases-turns l = length l.text + 3 - l.last
