use Rattle.std.proofs.Common.{◌∙◌, ◌++◌, ap, flat_map, subst, sym, ℕ, List}
use Rattle.std.specs.Prelude.{IfSome, Option}
use Rattle.regex_meaning.specs.Laws.{Each}
use Rattle.regress_search.specs.MatchesAsSpecAnswers.{answer_of}
use Rattle.regress_match.specs.ExpansionsAndMatchRanges.{IsCharBoundaryRange}
use Rattle.regress_match.proofs.MatchRangeLemmas.{named-fit}
use Rattle.use_renamer.specs.Names.{group_name_and_text}
use Rattle.use_renamer.proofs.groups.show.Goals as goal

pub loop-name-init : goal.loop-name-init
loop-name-init c =
    let text = c.args.text.now in
    let all = c.into_iter-name-iterator.ensures.into_iter_gives ∙ c.named_groups-name-items.ensures in
    record {
      can = tt;
      finite = tt;
      fit = subst (Each (λ (named : List ℕ × Option (ℕ × ℕ)). IfSome named.1 (IsCharBoundaryRange text))) (sym all) (named-fit text (answer_of c.args.found.now) c.requires);
      written = ap (λ bs. bs ++ flat_map (group_name_and_text text) c.into_iter-name-iterator.result) c.new-line.ensures.bytes ∙ ap (flat_map (group_name_and_text text)) all;
    }
