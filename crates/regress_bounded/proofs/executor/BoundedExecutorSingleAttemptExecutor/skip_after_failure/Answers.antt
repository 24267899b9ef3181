use Rattle.std.proofs.Common.{◌≡◌, ◌≤◌, ◌<◌, ◌+◌, ◌*◌, ℕ, true, Some, None, ap, refl, sym, subst, ◌∙◌, arith}
use Rattle.std.proofs.lemmas.Grind.{common_steps}
use Rattle.std.specs.Arc.{arc_value}
use Rattle.std.specs.Option.{option_map_or}
use Rattle.std.specs.Result.{is_err}
use Rattle.regex_meaning.specs.CodeUnitOffsets.{units}
use Rattle.regex_pattern_front.specs.AstToSpecTree.{tree_of}
use Rattle.regress_search.specs.CostsOfSearches.{SkipSpendsExactCost}
use Rattle.regress_bounded.specs.WorkBoundForAllMatches.{TreeHasWorkBound, second_stage_work_per_position}
use Rattle.regress_bounded.proofs.StagesLemmas.{paid-of-all, refused-lacks, refused-out}
use Rattle.regress_bounded.proofs.executor.BoundedExecutorSingleAttemptExecutor.skip_after_failure.Goals as goal

pub invariant_of-self : goal.invariant_of-self
invariant_of-self g c =
    let self = c.args.self.now in
    let first = c.skip_after_failure-start.new.self in
    let same = c.skip_after_failure-start.ensures.effect.same in
    let text = g.Input.InputIndexer.text self.first.executor.search.searched.input in
    let offset = g.Input.Position.PositionType.offset in
    let tree = tree_of self.first.executor.search.program.regex in
    let at = offset c.args.next in
    let lacks : is_err c.skip_after_failure-start.result ≡ true → 0 < self.lacking = λ refused'. refused-lacks offset tree text at self.first.progress.steps.left first.progress.steps.left self.reserve c.skip_after_failure-start.result (g.met.Input.InputIndexer.is_text self.first.executor.search.searched.input) self.lacking
    (let end = c.unit_count-end.ensures ∙ ap units c.input.ensures in let from = c.to_offset.ensures in let left = c.work_left-left.ensures in
    let pays = c.pays_for_rest_of_text.ensures c.if-not-pays_for_rest_of_text.false in omega (arith, end, from, left, pays)) c.skip_after_failure-start.ensures.effect.paid refused' in
    let none : (x : _) → self.second ≡ Some x → ⊥ = λ x some. let no : ⊥ = cc (c.in-None.is, some) in no in
    record {
      bounded = subst (λ t. TreeHasWorkBound t self.bound) (sym same.tree) self.bounded;
      program = λ x some. absurd (none x some);
      text = λ x some. absurd (none x some);
      sum = let less = c.skip_after_failure-start.ensures.effect.left in let sum = self.sum in omega (arith, less, sum);
      suffices = λ e. subst (λ t. second_stage_work_per_position (arc_value self.bound.memo_analysis) * (units t + 1) ≤ self.reserve) (sym same.text) (self.suffices e);
      all_given = self.all_given;
      spent = λ refused.
          let is = sym c.is_err-self.ensures.value ∙ refused in
          (first.spent (refused-out c.skip_after_failure-start.result _ first.progress.steps.out _ c.skip_after_failure-start.ensures.effect.refused is), self.all_given (lacks is));
    }

pub returns-clause-effect : goal.returns-clause-effect
returns-clause-effect g c =
    let self = c.args.self.now in
    let first = c.skip_after_failure-start.new.self in
    let text = g.Input.InputIndexer.text self.first.executor.search.searched.input in
    let offset = g.Input.Position.PositionType.offset in
    let tree = tree_of self.first.executor.search.program.regex in
    let at = offset c.args.next in
    let lacks : is_err c.skip_after_failure-start.result ≡ true → 0 < self.lacking = λ refused'. refused-lacks offset tree text at self.first.progress.steps.left first.progress.steps.left self.reserve c.skip_after_failure-start.result (g.met.Input.InputIndexer.is_text self.first.executor.search.searched.input) self.lacking
    (let end = c.unit_count-end.ensures ∙ ap units c.input.ensures in let from = c.to_offset.ensures in let left = c.work_left-left.ensures in
    let pays = c.pays_for_rest_of_text.ensures c.if-not-pays_for_rest_of_text.false in omega (arith, end, from, left, pays)) c.skip_after_failure-start.ensures.effect.paid refused' in
    let same = c.skip_after_failure-start.ensures.effect.same in
    record {
      counted = λ some. absurd (let no : ⊥ = cc some in no);
      refused = grind (arith, common_steps);
      paid =
          subst (λ o. SkipSpendsExactCost offset true tree text at (option_map_or (λ m. m.progress.left) o (self.first.progress.steps.left + self.reserve)) c.skip_after_failure-start.result
          (option_map_or (λ m. m.progress.left) o (first.progress.steps.left + self.reserve))) (sym c.in-None.is)
          (paid-of-all offset tree text at self.first.progress.steps.left first.progress.steps.left self.reserve c.skip_after_failure-start.result (λ e. self.all_given (lacks e)) c.skip_after_failure-start.ensures.effect.paid);
      left = grind (arith, common_steps);
      same = record { tree = same.tree; text = same.text; budget = refl; enough = refl; ahead = refl; failures = refl };
    }
