use Rattle.std.proofs.Common.{◌≡◌, ◌+◌, ◌≤◌, arith}
use Rattle.regress_match.specs.WorkBounds.{enough_work_for_text}
use Rattle.use_modules.proofs.laws.calls_cost_at_most_the_bound.Goals as goal

pub returns : goal.returns
returns g c = λ tree text start per_unit it behind rs yields calls none.
    let bound = enough_work_for_text per_unit text in
    let same : bound ≤ bound = omega arith in
    let all = c.call_costs_are_work_spent.ensures tree text start per_unit bound it behind rs yields same calls none in
    let falls : bound ≡ all.0 + behind.left = all.2 in
    (all.0, all.1, omega (arith, falls))
