use Rattle.std.proofs.Common.{◌∙◌, ◌++◌, List, map, ap}
use Rattle.regress_search.specs.RemainingAnswers.{RemainingView}
use Rattle.regress_match.proofs.MatchRangeLemmas.{reached-unlimited}
use Rattle.use_grep.specs.Selecting.{matched_parts, start_and_text_of_part}
use Rattle.use_grep.proofs.select.matched_parts.Goals as goal

pub loop-item-init : goal.loop-item-init
loop-item-init c = record {
  can = tt;
  finite = tt;
  reached = (
    0,
    reached-unlimited c.args.line.now _ _ c.utf8.line c.in_ok-item-items.ensures.answers.unlimited c.in_ok-item-items.ensures.in_text
        c.into_iter-item-iterator.ensures.into_iter_gives,
  );
  parts =
      ap (λ (xs : List _). map start_and_text_of_part xs ++ matched_parts c.args.line.now c.into_iter-item-iterator.result.answers) c.new-parts.ensures.items
      ∙ ap (matched_parts c.args.line.now) (ap (λ (it : RemainingView). it.answers) c.into_iter-item-iterator.ensures.into_iter_gives ∙ c.in_ok-item-items.ensures.answers.answers);
}
