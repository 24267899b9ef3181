use Rattle.std.proofs.Common.{◌∷◌}
use Rattle.std.specs.Prelude.{Some, Err}
use Rattle.regress_search.specs.declared.exec.work_matches.WorkError.TheVariants.{WorkLimit}
use Rattle.use_modules.proofs.laws.work_limit_means_too_small_a_budget.Goals as goal

pub returns : goal.returns
returns c = λ tree text start per_unit work it behind rs yields calls.
    (c.searches_return_matches_within_work.ensures tree text start per_unit work it behind (Some (Err WorkLimit) ∷ rs) yields calls).0.0
