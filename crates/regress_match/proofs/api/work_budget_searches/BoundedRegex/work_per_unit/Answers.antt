use Rattle.std.proofs.Common.{◌∙◌, ap₂, subst}
use Rattle.regress_match.specs.WorkBounds.{BoundedView, IsHigherOfProgramWorkBounds, max_of_two}
use Rattle.regress_match.proofs.api.work_budget_searches.BoundedRegex.work_per_unit.Goals as goal

pub returns-clause-enough : goal.returns-clause-enough
returns-clause-enough c =
    subst (λ (b : BoundedView). IsHigherOfProgramWorkBounds b.re c.max_of_two.result) c.self.view_is
    (c.self.inside.bytes, c.self.inside.units, c.self.invariant, c.max_of_two.ensures ∙ ap₂ max_of_two c.per_unit.ensures c.per_unit-2.ensures)
