use Rattle.std.proofs.Common.{◌≡◌, ◌≤◌, ◌+◌, true, false, Some, None, ap, ap₂, refl, sym, subst, ◌∙◌, arith}
use Rattle.std.specs.Option.{option_map_or}
use Rattle.regex_pattern_front.specs.AstToSpecTree.{tree_of}
use Rattle.regress_search.specs.AttemptsAndStarts.{match_end_and_groups_at, ticks_of_attempt_at}
use Rattle.regress_search.specs.CostsOfSearches.{SpendsExactCost}
use Rattle.regress_search.specs.MatchesWithinWork.{IsOrderedAttempt}
use Rattle.regress_backtrack.specs.WorkOfAttempts.{no_failures}
use Rattle.regress_bounded.specs.CostsOfAttempts.{AttemptCosts, failures_of}
use Rattle.regress_bounded.specs.CostsOfStages.{FirstStageCosts, StagesCost}
use Rattle.regress_bounded.proofs.StagesLemmas.{costs-same, held, made-in-first, made-in-second, made-in-both, more-than-first-left, ok-map, unlimited-cause, unlimited-steps}
use Rattle.regress_bounded.proofs.executor.BoundedExecutorSingleAttemptExecutor.attempt.Goals as goal

-- ---- The second stage has begun

pub invariant_of-self : goal.invariant_of-self
invariant_of-self g c =
    let self = c.args.self.now in
    record {
      bounded = self.bounded;
      program = λ x some. held (λ m. m.searched.program.now ≡ self.first.executor.search.program.regex) c.attempt.new.self x some
          (ap (λ s. s.program.now) c.attempt.ensures.searched ∙ self.program c.in-Some.second c.in-Some.is);
      text = λ x some. held (λ m. g.Input.InputIndexer.text m.searched.input ≡ g.Input.InputIndexer.text self.first.executor.search.searched.input) c.attempt.new.self x some
          (ap (λ s. g.Input.InputIndexer.text s.input) c.attempt.ensures.searched ∙ self.text c.in-Some.second c.in-Some.is);
      sum = self.sum;
      suffices = self.suffices;
      all_given = self.all_given;
      spent = self.spent;
    }

pub returns-in-Some-clause-found : goal.returns-in-Some-clause-found
returns-in-Some-clause-found g c =
    let self = c.args.self.now in
    ok-map c.attempt.result (λ end found. found
    ∙ ap₂ (λ regex text. match_end_and_groups_at (tree_of regex) text (g.Input.Position.PositionType.offset c.args.pos)) (self.program c.in-Some.second c.in-Some.is) (self.text c.in-Some.second c.in-Some.is)) c.attempt.ensures.found

pub returns-in-Some-clause-cost : goal.returns-in-Some-clause-cost
returns-in-Some-clause-cost g c =
    let self = c.args.self.now in
    let at = g.Input.Position.PositionType.offset c.args.pos in
    let tree = tree_of self.first.executor.search.program.regex in
    let text = g.Input.InputIndexer.text self.first.executor.search.searched.input in
    let old = c.in-Some.second in
    let new = c.attempt.new.self in
    let cost = subst (λ x. SpendsExactCost (AttemptCosts tree x (failures_of old.progress.memo) at) old.progress.left c.attempt.result new.out new.progress.left (failures_of new.progress.memo)) (self.text old c.in-Some.is)
    (subst (λ regex. SpendsExactCost (AttemptCosts (tree_of regex) (g.Input.InputIndexer.text old.searched.input) (failures_of old.progress.memo) at) old.progress.left c.attempt.result new.out new.progress.left (failures_of new.progress.memo))
    (self.program old c.in-Some.is) c.attempt.ensures.cost) in
    subst (λ o. SpendsExactCost (StagesCost g.Input.Units.CodeUnitEncoding.encoding tree text (option_map_or (λ m. failures_of m.progress.memo) o no_failures) at)
    (option_map_or (λ m. m.progress.left) o (self.first.progress.steps.left + self.reserve)) c.attempt.result new.out new.progress.left (failures_of new.progress.memo)) (sym c.in-Some.is)
    (made-in-second g.Input.Units.CodeUnitEncoding.encoding tree text (failures_of old.progress.memo) at old.progress.left new.progress.left c.attempt.result new.out (failures_of new.progress.memo) cost)

-- ---- The first stage makes the attempt

pub returns-then-not-is_work_exhausted-clause-cost : goal.returns-then-not-is_work_exhausted-clause-cost
returns-then-not-is_work_exhausted-clause-cost g c =
    let self = c.args.self.now in
    let first = c.attempt-result.new.self in
    let at = g.Input.Position.PositionType.offset c.args.pos in
    let e = g.Input.Units.CodeUnitEncoding.encoding in
    let tree = tree_of self.first.executor.search.program.regex in
    let text = g.Input.InputIndexer.text self.first.executor.search.searched.input in
    let r = c.attempt-result.result in
    let is : first.progress.steps.out ≡ false = sym c.is_work_exhausted.ensures.limit ∙ c.if-not-is_work_exhausted.true in
    let cost = subst (λ o. SpendsExactCost (FirstStageCosts e tree text no_failures at) self.first.progress.steps.left r o first.progress.steps.left no_failures) is c.attempt-result.ensures.cost in
    subst (λ o. SpendsExactCost (StagesCost e tree text (option_map_or (λ m. failures_of m.progress.memo) o no_failures) at)
    (option_map_or (λ m. m.progress.left) o (self.first.progress.steps.left + self.reserve)) r (option_map_or (λ m. m.out) o false)
    (option_map_or (λ m. m.progress.left) o (first.progress.steps.left + self.reserve)) (option_map_or (λ m. failures_of m.progress.memo) o no_failures)) (sym c.in-None.is)
    (made-in-first e tree text no_failures at self.first.progress.steps.left self.reserve first.progress.steps.left r false no_failures (λ never. absurd (let no : ⊥ = cc never in no)) cost)

pub returns-then-self-eq0-clause-cost : goal.returns-then-self-eq0-clause-cost
returns-then-self-eq0-clause-cost g c =
    let self = c.args.self.now in
    let first = c.attempt-result.new.self in
    let at = g.Input.Position.PositionType.offset c.args.pos in
    let e = g.Input.Units.CodeUnitEncoding.encoding in
    let tree = tree_of self.first.executor.search.program.regex in
    let text = g.Input.InputIndexer.text self.first.executor.search.searched.input in
    let r = c.attempt-result.result in
    let is : first.progress.steps.out ≡ true = sym c.is_work_exhausted.ensures.limit ∙ c.if-not-is_work_exhausted.false in
    let cost = subst (λ o. SpendsExactCost (FirstStageCosts e tree text no_failures at) self.first.progress.steps.left r o first.progress.steps.left no_failures) is c.attempt-result.ensures.cost in
    subst (λ o. SpendsExactCost (StagesCost e tree text (option_map_or (λ m. failures_of m.progress.memo) o no_failures) at)
    (option_map_or (λ m. m.progress.left) o (self.first.progress.steps.left + self.reserve)) r (option_map_or (λ m. m.out) o true)
    (option_map_or (λ m. m.progress.left) o (first.progress.steps.left + self.reserve)) (option_map_or (λ m. failures_of m.progress.memo) o no_failures)) (sym c.in-None.is)
    (made-in-first e tree text no_failures at self.first.progress.steps.left self.reserve first.progress.steps.left r true no_failures (λ _. let none = c.if-self-eq0.true in omega (arith, none)) cost)

-- ---- It begins

pub returns-clause-found : goal.returns-clause-found
returns-clause-found g c =
    let same = c.attempt-result.ensures.same in
    ok-map c.repeat_in_second_stage.result (λ end found. found
    ∙ ap₂ (λ tree text. match_end_and_groups_at tree text (g.Input.Position.PositionType.offset c.args.pos)) same.0 same.1) c.repeat_in_second_stage.ensures.found

pub returns-clause-work : goal.returns-clause-work
returns-clause-work g c = λ ordered.
    let self = c.args.self.now in
    let at = g.Input.Position.PositionType.offset c.args.pos in
    c.repeat_in_second_stage.ensures.work (subst (λ o. IsOrderedAttempt (option_map_or (λ m. m.enough) o self.enough) (option_map_or (λ m. m.ahead) o 0) at) c.in-None.is ordered)

pub returns-clause-left : goal.returns-clause-left
returns-clause-left g c =
    let self = c.args.self.now in
    let new = c.repeat_in_second_stage.new.self in
    let left = option_map_or (λ m. m.progress.left) new.second (new.first.progress.steps.left + new.reserve) in
    subst (λ o. left ≤ option_map_or (λ m. m.progress.left) o (self.first.progress.steps.left + self.reserve)) (sym c.in-None.is)
    (let less = c.repeat_in_second_stage.ensures.left in omega (arith, less))

pub returns-clause-cost : goal.returns-clause-cost
returns-clause-cost g c =
    let self = c.args.self.now in
    let at = g.Input.Position.PositionType.offset c.args.pos in
    let e = g.Input.Units.CodeUnitEncoding.encoding in
    let tree = tree_of self.first.executor.search.program.regex in
    let text = g.Input.InputIndexer.text self.first.executor.search.searched.input in
    let same = c.attempt-result.ensures.same in
    let new = c.repeat_in_second_stage.new.self in
    let r = c.repeat_in_second_stage.result in
    let out = option_map_or (λ m. m.out) new.second new.out in
    let left = option_map_or (λ m. m.progress.left) new.second (new.first.progress.steps.left + new.reserve) in
    let after = option_map_or (λ m. failures_of m.progress.memo) new.second no_failures in
    let exhausted = sym c.is_work_exhausted.ensures.limit ∙ c.if-not-is_work_exhausted.false in
    let more = more-than-first-left (FirstStageCosts e tree text no_failures at) self.first.progress.steps.left c.attempt-result.new.self.progress.steps.left c.attempt-result.result c.attempt-result.new.self.progress.steps.out
    no_failures c.attempt-result.ensures.within exhausted c.attempt-result.ensures.cost in
    let second = costs-same same.0 same.1 refl refl at r out left after c.repeat_in_second_stage.ensures.cost in
    subst (λ o. SpendsExactCost (StagesCost e tree text (option_map_or (λ m. failures_of m.progress.memo) o no_failures) at)
    (option_map_or (λ m. m.progress.left) o (self.first.progress.steps.left + self.reserve)) r out left after) (sym c.in-None.is)
    (made-in-both e tree text no_failures at self.first.progress.steps.left self.reserve left r out after more second)

pub returns-clause-steps : goal.returns-clause-steps
returns-clause-steps g c =
    let first = c.args.self.now.first.executor.search in
    unlimited-steps (ticks_of_attempt_at (tree_of first.program.regex) (g.Input.InputIndexer.text first.searched.input) (g.Input.Position.PositionType.offset c.args.pos)) c.repeat_in_second_stage.result c.repeat_in_second_stage.ensures.cause

pub returns-clause-cause : goal.returns-clause-cause
returns-clause-cause g c = unlimited-cause c.repeat_in_second_stage.result c.repeat_in_second_stage.ensures.cause
