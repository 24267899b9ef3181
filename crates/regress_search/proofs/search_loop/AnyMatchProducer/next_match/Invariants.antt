use Rattle.std.proofs.Common.{◌≡◌, ◌≤◌, option_map, true}
use Rattle.regress_search.specs.MatchesWithinWork.{IsOrderedAttempt, is_work_enough}
use Rattle.regress_search.specs.CostsOfSearches.{IfWorkIsCounted}
use Rattle.regress_search.proofs.SearchCostLemmas.{Failing}
use Rattle.regress_search.proofs.SkippedStartLemmas.{untried}
use Rattle.regress_search.proofs.SearchLoopLemmas.{Walk}
use Rattle.regress_search.proofs.search_loop.AnyMatchProducer.next_match.Given as goal

abbrev pub invariant-places : goal.invariant-places
invariant-places g l =
    let a = g.A.SearchState in
    let offset = g.A.Input.Position.PositionType.offset in
    record {
      walk : Walk (a.tree l.fn.self) (a.text l.fn.self) (offset l.fn.pos) (a.budget l.fn.self) (a.budget l.self) (option_map offset l.next);
      same_tree : a.tree l.self ≡ a.tree l.fn.self;
      same_text : a.text l.self ≡ a.text l.fn.self;
      turn : IsOrderedAttempt (a.enough l.fn.self) (a.ahead l.fn.self) (offset l.fn.pos) → is_work_enough (a.enough l.self) (a.ahead l.self) (option_map offset l.next) ≡ true;
      next_start : l.next_start ≡ l.initial.next_start;
      left : a.left l.self ≤ a.left l.fn.self;
      progress :
          IfWorkIsCounted a.counts_work (Failing a.costs (a.tree l.fn.self) (a.text l.fn.self) (a.failures l.fn.self) (offset l.fn.pos) (a.left l.fn.self)
          (a.failures l.self) (a.left l.self) (option_map offset l.next));
    }

abbrev pub decreases-places : goal.decreases-places
decreases-places g l = untried (g.A.SearchState.text l.fn.self) (option_map g.A.Input.Position.PositionType.offset l.next)
