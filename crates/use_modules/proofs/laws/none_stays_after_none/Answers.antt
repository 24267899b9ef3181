use Rattle.std.proofs.Common.{◌∷◌}
use Rattle.std.specs.Prelude.{None}
use Rattle.use_modules.proofs.laws.none_stays_after_none.Goals as goal

pub returns : goal.returns
returns c = λ tree text start it behind rs yields calls.
    (c.searches_return_matches_in_order.ensures tree text start it behind (None ∷ rs) yields calls).1
