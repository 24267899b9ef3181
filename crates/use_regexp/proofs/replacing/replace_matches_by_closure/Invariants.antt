use Rattle.std.proofs.Common.{length, map}
use Rattle.regress_search.specs.MatchesAsSpecAnswers.{answer_of}
use Rattle.regress_match.specs.StringClosures.{ClosureCanBeCalled}
use Rattle.regress_match.proofs.ClosureReplacementLemmas.{IsBegun}
use Rattle.use_regexp.specs.Replace.{AreRangesInOrderFrom, units_of}
use Rattle.use_regexp.proofs.replacing.replace_matches_by_closure.Given as goal

abbrev pub invariant-loop-found : goal.invariant-loop-found
invariant-loop-found g l = record {
  stand : AreRangesInOrderFrom l.text l.from (map answer_of l.rest);
  callable : ClosureCanBeCalled (goal.F-pre g l.with) (map answer_of l.rest);
  begun : IsBegun (goal.F-post g l.with) units_of l.text (map answer_of l.matches) (map answer_of l.rest) l.from l.made.items;
}

abbrev pub decreases-loop-found : goal.decreases-loop-found
decreases-loop-found g l = length l.rest
