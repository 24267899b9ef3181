use Rattle.std.proofs.Common.{◌≡◌, ap, ap₂, ◌∙◌}
use Rattle.regex_pattern_front.specs.AstToSpecTree.{tree_of}
use Rattle.regress_search.specs.AttemptsAndStarts.{match_end_and_groups_at}
use Rattle.regress_bounded.specs.CostsOfAttempts.{failures_of}
use Rattle.regress_bounded.proofs.StagesLemmas.{costs-same, held, no-failures-known, ok-map}
use Rattle.regress_bounded.proofs.executor.BoundedExecutor.repeat_in_second_stage.Goals as goal

pub invariant_of-self : goal.invariant_of-self
invariant_of-self g c =
    let self = c.args.self.now in
    record {
      bounded = self.bounded;
      program = λ x some. held (λ m. m.searched.program.now ≡ self.first.executor.search.program.regex) c.attempt-result.new.self x some
          (ap (λ s. s.program.now) c.attempt-result.ensures.searched ∙ c.in_ok-second.ensures.program);
      text = λ x some. held (λ m. g.Input.InputIndexer.text m.searched.input ≡ g.Input.InputIndexer.text self.first.executor.search.searched.input) c.attempt-result.new.self x some
          (ap (λ s. g.Input.InputIndexer.text s.input) c.attempt-result.ensures.searched ∙ c.in_ok-second.ensures.text);
      sum = self.sum;
      suffices = self.suffices;
      all_given = self.all_given;
      spent = self.spent;
    }

pub returns-clause-found : goal.returns-clause-found
returns-clause-found g c =
    ok-map c.attempt-result.result (λ end found. found
    ∙ ap₂ (λ tree text. match_end_and_groups_at tree text (g.Input.Position.PositionType.offset c.args.pos)) (ap tree_of c.in_ok-second.ensures.program) c.in_ok-second.ensures.text) c.attempt-result.ensures.found

pub returns-clause-cost : goal.returns-clause-cost
returns-clause-cost g c =
    let begun = c.in_ok-second.second in
    let new = c.attempt-result.new.self in
    costs-same (ap tree_of c.in_ok-second.ensures.program) c.in_ok-second.ensures.text (no-failures-known (failures_of begun.progress.memo) c.in_ok-second.ensures.fresh) c.in_ok-second.ensures.left
    (g.Input.Position.PositionType.offset c.args.pos) c.attempt-result.result new.out new.progress.left (failures_of new.progress.memo) c.attempt-result.ensures.cost
