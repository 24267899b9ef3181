use Rattle.std.proofs.Common.{◌<◌, ◌∙◌, Ok, Err, Some, None, ap₂, refl, subst, arith}
use Rattle.regex_meaning.specs.CodeUnitOffsets.{units}
use Rattle.regress_c.proofs.BufferFillingLemmas.{begun, fills-full, fills-over, fills-refused, goes-same, one_more}
use Rattle.regress_search.specs.CostsOfSearches.{LeavesWorkWithoutResult, TakesExactCost}
use Rattle.regress_search.proofs.SearchCostLemmas.{counted, counted₁, counted₂}
use Rattle.regress_match.specs.Resuming.{offset_after_first_match}
use Rattle.regress_c.proofs.NextInWorkLemmas.{costs-same, spends-full, spends-more, spends-nothing, spends-over, spends-refused}
use Rattle.regress_c.proofs.next_matches.fill.Goals as goal

pub matches-init : goal.matches-init
matches-init g c =
    let e = g.E.SearchState in
    let search = c.args.search.now in (
      begun {tree = e.tree search} {text = e.text search} {steps = e.budget search} {start = c.args.start} {before = c.args.spans.now} c.requires.starts,
      omega arith,
      refl,
      refl,
      refl,
      refl,
      counted e.counts_work (spends-nothing e.costs (e.tree search) (e.text search) (e.failures search) c.args.start (e.left search)),
    )

pub matches-preserved : goal.matches-preserved
matches-preserved g c =
    let e = g.E.SearchState in
    let was = c.matches.invariant in
    let step = goes-same (e.tree c.args.search.now) (e.tree c.matches.search) (e.text c.args.search.now) (e.text c.matches.search)
    (e.budget c.matches.search) c.matches.filled.next (Ok (Some c.in-Ok-Some.step)) (e.budget c.next_from.new.search) was.2 was.3
    (rw c.in-Ok-Some.field-0-is at c.in-Ok-Some.ensures.continues) in (
      one_more c.matches.spans c.write_step.new.spans c.matches.filled.matches c.matches.filled.next c.matches.at c.args.ranges c.write_step.result
          (e.budget c.matches.search) (e.budget c.next_from.new.search) c.in-Ok-Some.step was.0 step c.requires.ranges c.write_step.ensures.next
          c.write_step.ensures.written,
      omega arith,
      c.in-Ok-Some.ensures.same_tree ∙ was.2,
      c.in-Ok-Some.ensures.same_text ∙ was.3,
      was.4,
      was.5,
      counted₂ e.counts_work
          (spends-more e.costs c.matches.filled.matches c.matches.filled.next (e.failures c.matches.search) (e.left c.matches.search)
          (e.failures c.next_from.new.search) (e.left c.next_from.new.search) c.write_step.result
          (c.write_step.ensures.next ∙ (rw c.in-Ok-Some.field-0-is at c.in-Ok-Some.ensures.next) ∙ ap₂ (λ tree text. offset_after_first_match tree text c.matches.filled.next) was.2 was.3))
          was.6
          (costs-same e.costs e.counts_work (e.tree c.args.search.now) (e.tree c.matches.search) (e.text c.args.search.now) (e.text c.matches.search)
          (e.failures c.matches.search) c.matches.filled.next (λ costs. TakesExactCost costs (e.left c.matches.search) (e.left c.next_from.new.search) (e.failures c.next_from.new.search))
          was.2 was.3 c.in-Ok-Some.ensures.cost),
    )

pub returns-in-Ok-None-clause-fills : goal.returns-in-Ok-None-clause-fills
returns-in-Ok-None-clause-fills g c =
    let e = g.E.SearchState in
    let was = c.matches.invariant in
    let over = goes-same (e.tree c.args.search.now) (e.tree c.matches.search) (e.text c.args.search.now) (e.text c.matches.search)
    (e.budget c.matches.search) c.matches.filled.next (Ok None) (e.budget c.next_from.new.search) was.2 was.3
    (rw c.in-Ok-None.field-0-is at c.in-Ok-None.ensures.continues) in
    let past : units (e.text c.args.search.now) < c.offset_past_every_text.result =
    subst (λ t. units t < c.offset_past_every_text.result) (c.in-Ok-None.ensures.same_text ∙ was.3) c.offset_past_every_text.ensures.past in
    fills-over c.matches.spans _ c.matches.filled.next c.matches.at (e.budget c.matches.search) (e.budget c.next_from.new.search)
    (g.met.E.SingleAttemptExecutor.is_text c.args.search.now) past was.0 refl over

pub returns-in-Err-clause-fills : goal.returns-in-Err-clause-fills
returns-in-Err-clause-fills g c =
    let e = g.E.SearchState in
    let was = c.matches.invariant in
    let refused = goes-same (e.tree c.args.search.now) (e.tree c.matches.search) (e.text c.args.search.now) (e.text c.matches.search)
    (e.budget c.matches.search) c.matches.filled.next (Err c.in-Err.error) (e.budget c.next_from.new.search) was.2 was.3 c.in-Err.ensures.continues in
    fills-refused c.matches.spans _ c.matches.at (e.budget c.matches.search) (e.budget c.next_from.new.search) c.in-Err.error was.0 refl refused

pub returns-clause-fills : goal.returns-clause-fills
returns-clause-fills g c =
    let was = c.matches.invariant in
    let same = c.matches.auto.spans in
    let room = c.matches-test.false in
    fills-full c.matches.spans c.matches.filled c.matches.at c.args.ranges (g.E.SearchState.budget c.matches.search) was.0 was.4 (omega arith) c.requires.ranges

-- ---- Work

pub returns-in-Ok-None-clause-cost : goal.returns-in-Ok-None-clause-cost
returns-in-Ok-None-clause-cost g c =
    let e = g.E.SearchState in
    let was = c.matches.invariant in
    let new = c.next_from.new.search in
    counted₂ e.counts_work
    (spends-over e.costs c.matches.filled.matches c.matches.filled.next (e.failures c.matches.search) (e.left c.matches.search) (e.failures new) (e.out_of_work new) (e.left new))
    was.6
    (costs-same e.costs e.counts_work (e.tree c.args.search.now) (e.tree c.matches.search) (e.text c.args.search.now) (e.text c.matches.search)
    (e.failures c.matches.search) c.matches.filled.next (λ costs. TakesExactCost costs (e.left c.matches.search) (e.left new) (e.failures new)) was.2 was.3 c.in-Ok-None.ensures.cost)

pub returns-in-Err-clause-cost : goal.returns-in-Err-clause-cost
returns-in-Err-clause-cost g c =
    let e = g.E.SearchState in
    let was = c.matches.invariant in
    let new = c.next_from.new.search in
    counted₂ e.counts_work
    (spends-refused e.costs c.matches.filled.matches c.matches.filled.next (e.failures c.matches.search) (e.left c.matches.search) c.in-Err.error (e.out_of_work new) (e.left new))
    was.6
    (costs-same e.costs e.counts_work (e.tree c.args.search.now) (e.tree c.matches.search) (e.text c.args.search.now) (e.text c.matches.search)
    (e.failures c.matches.search) c.matches.filled.next (λ costs. LeavesWorkWithoutResult costs (e.left c.matches.search) (e.out_of_work new) (e.left new)) was.2 was.3 c.in-Err.ensures.cost)

pub returns-clause-cost : goal.returns-clause-cost
returns-clause-cost g c =
    let e = g.E.SearchState in
    let was = c.matches.invariant in
    counted₁ e.counts_work
    (spends-full e.costs c.matches.filled.matches c.matches.filled.next (e.failures c.matches.search) (e.left c.matches.search) c.matches.filled.stop (e.out_of_work c.matches.search) was.4)
    was.6
