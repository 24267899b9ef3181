use Rattle.std.proofs.Common.{Some, ap, subst, ◌∙◌}
use Rattle.regress_search.specs.CostsOfCalls.{NextYieldsAtCost}
use Rattle.regress_search.proofs.CallCostLemmas.{CalledBy, gives-Err, gives-Ok, view-of}
use Rattle.regress_search.proofs.SearchCostLemmas.{of-counted}
use Rattle.regress_search.proofs.exec.work_matches.WorkMatchesIterator.next.Goals.{in-Ok, in-Err}
use Rattle.regress_search.proofs.exec.work_matches.WorkMatchesIterator.next.Goals as goal

pub returns-clause-steps : goal.returns-clause-steps
returns-clause-steps g c =
    let p = g.P.SearchState in
    let offset = g.P.Position.PositionType.offset in
    let counts = g.met.P.WorkLimitedProducer.is_counted in
    let found = c.advance_matches in
    let result = c.match-branch-2.result in
    let called : CalledBy p offset c.self.inside.producer c.self.inside.position found.new.producer found.new.position found.result = record {
      yields = found.ensures.gives;
      enough = found.ensures.work;
      less = found.ensures.left;
      spends = of-counted p.counts_work counts found.ensures.cost;
      continues = found.ensures.continues;
      same_tree = found.ensures.same.0;
      same_text = found.ensures.same.1;
    } in
    subst (λ s. NextYieldsAtCost p.costs p.tree p.text p.failures s result (view-of p offset found.new.producer found.new.position)) c.self.view_is
    (elim c.match-branch-2.branch [
      | in-Ok w ↦
          gives-Ok p offset c.self.inside.producer c.self.inside.position found.new.producer found.new.position found.result called result w.in-Ok.found
          (c.in_ok-found.was ∙ ap Some w.in-Ok.is) w.result-is
      | in-Err w ↦
          gives-Err p offset c.self.inside.producer c.self.inside.position found.new.producer found.new.position found.result called result w.in-Err.field-0
          w.cause_of_work_error.result (c.in_ok-found.was ∙ ap Some w.in-Err.is) w.result-is w.cause_of_work_error.ensures
    ])
