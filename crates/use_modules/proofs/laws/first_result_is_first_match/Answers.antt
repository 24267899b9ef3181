use Rattle.std.proofs.Common.{◌≡◌, [], ◌∷◌, Some, refl, ap}
use Rattle.std.specs.Prelude.{Ok, slice_get}
use Rattle.use_modules.proofs.laws.first_result_is_first_match.Goals as goal

pub returns : goal.returns
returns c = λ flags pattern re tree is parsed text it behind m yields called.
    let returned = (c.searches_return_matches_of_pattern.ensures.ecmascript flags pattern re tree is parsed text 0).0 it behind (Some (Ok m) ∷ []) yields (behind, called, refl) in
    ap (λ matches. slice_get matches 0) returned.1
