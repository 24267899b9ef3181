use Rattle.std.proofs.Common.{◌≡◌, ◌∷◌, Ok, Some, List, ap}
use Rattle.std.specs.Prelude.{slice_get}
use Rattle.regex_meaning.specs.MatchGroupsByNumberAndName.{Answer}
use Rattle.use_modules.proofs.laws.first_item_within_work_is_the_first_match.Goals as goal

pub returns : goal.returns
returns g c = λ it behind m rs calls.
    let all = c.calls_within_work_return_matches.ensures it behind (Some (Ok m) ∷ rs) calls in
    ap (λ (answers : List Answer). slice_get answers 0) all.0.1
