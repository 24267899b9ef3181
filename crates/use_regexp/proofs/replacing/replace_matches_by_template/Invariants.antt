use Rattle.std.proofs.Common.{◌≡◌, ◌++◌, length, map}
use Rattle.regex_meaning.specs.Replace.{replaced}
use Rattle.regress_search.specs.MatchesAsSpecAnswers.{answer_of}
use Rattle.use_regexp.specs.Replace.{AreRangesInOrderFrom, substituted}
use Rattle.use_regexp.proofs.replacing.replace_matches_by_template.Given as goal

abbrev pub invariant-loop-found : goal.invariant-loop-found
invariant-loop-found l = record {
  stand : AreRangesInOrderFrom l.text l.from (map answer_of l.rest);
  whole :
      l.made.items ++ replaced l.text l.from (substituted l.text l.template (map answer_of l.rest))
      ≡ replaced l.text 0 (substituted l.text l.template (map answer_of l.matches));
}

abbrev pub decreases-loop-found : goal.decreases-loop-found
decreases-loop-found l = length l.rest
