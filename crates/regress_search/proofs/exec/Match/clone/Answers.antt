use Rattle.std.proofs.Common.{ap, map, option_map, rules}
use Rattle.std.proofs.lemmas.List.Elements.{same_from_all_zip}
use Rattle.regress_search.specs.MatchesAsSpecAnswers.{range_as_pair}
use Rattle.regress_search.proofs.FirstMatchLemmas.{same-answer}
use Rattle.regress_search.proofs.exec.Match.clone.Goals as goal

pub returns : goal.returns
returns c =
    let captures = same_from_all_zip _ _ _ c.in_ok-clone.ensures.cases.0 (λ x y h. search rules) in
    same-answer _ _ _ _ _ _ _ _ (ap (λ r. r.start) c.range.ensures) (ap (λ r. r.end) c.range.ensures)
    (ap (map (option_map range_as_pair)) captures) c.in_ok-clone-2.ensures
