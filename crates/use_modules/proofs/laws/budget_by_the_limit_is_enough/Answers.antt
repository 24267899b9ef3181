use Rattle.std.proofs.Common.{◌≤◌, arith}
use Rattle.regress_match.specs.WorkBounds.{enough_work_for_text, work_per_unit_limit}
use Rattle.use_modules.proofs.laws.budget_by_the_limit_is_enough.Goals as goal

pub returns : goal.returns
returns c = λ re text start per_unit work it bound yields budget.
    let least : enough_work_for_text per_unit text ≤ enough_work_for_text (work_per_unit_limit re) text = (c.work_per_unit_limit_suffices.ensures re per_unit bound).1 text in
    yields.enough (omega (arith, least, budget))
