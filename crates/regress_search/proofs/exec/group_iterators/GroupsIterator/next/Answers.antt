use Rattle.std.proofs.Common.{◌+◌, ◌≤◌, ◌∷◌, drop, length, option_map, arith, ap, sym, ◌∙◌}
use Rattle.std.proofs.lemmas.List.{length-map}
use Rattle.regress_search.specs.MatchesAsSpecAnswers.{answer_of, range_as_pair}
use Rattle.regress_search.specs.GroupIterators.{all_groups}
use Rattle.regress_search.proofs.GroupIteratorLemmas.{groups-here}
use Rattle.regress_search.proofs.exec.group_iterators.GroupsIterator.next.Goals as goal

pub returns-clause-steps : goal.returns-clause-steps
returns-clause-steps c =
    let m = answer_of c.self.inside.matched.now in
    let captures = c.self.inside.matched.now.captures in
    let inside : c.self.inside.number ≤ length m.captures = omega (arith, length-map captures.items (option_map range_as_pair), captures.ok, c.len.ensures) in
    sym c.self.view_is ∙ groups-here m c.self.inside.number inside ∙ ap (λ g. g ∷ drop (c.self.inside.number + 1) (all_groups m)) (sym c.group-group.ensures)
