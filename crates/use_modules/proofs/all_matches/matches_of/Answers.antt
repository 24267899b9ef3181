use Rattle.std.proofs.Common.{◌∙◌, ◌++◌, List, map, ap}
use Rattle.regress_search.specs.MatchesAsSpecAnswers.{answer_of}
use Rattle.regress_search.specs.RemainingAnswers.{RemainingView}
use Rattle.use_modules.proofs.all_matches.matches_of.Goals as goal

pub loop-item-init : goal.loop-item-init
loop-item-init c = record {
  can = tt;
  finite = tt;
  found =
      ap (λ (xs : List _). map answer_of xs ++ c.into_iter-item-iterator.result.answers) c.new-all.ensures.items
      ∙ (ap (λ (it : RemainingView). it.answers) c.into_iter-item-iterator.ensures.into_iter_gives ∙ c.in_ok-item-items.ensures.answers.answers);
}
