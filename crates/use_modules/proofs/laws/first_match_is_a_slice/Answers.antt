use Rattle.std.proofs.Common.{ℕ, List, [], ◌∷◌}
use Rattle.std.specs.Prelude.{IfSome, slice_get}
use Rattle.regex_meaning.specs.MatchGroupsByNumberAndName.{Answer}
use Rattle.regress_match.specs.ProgramTreesAndAnswers.{utf8_answers}
use Rattle.regress_match.specs.ExpansionsAndMatchRanges.{MatchFitsText, MatchesFitTextInOrderFrom}
use Rattle.use_modules.proofs.laws.first_match_is_a_slice.Goals as goal

first : (text : List ℕ) (ms : List Answer) → MatchesFitTextInOrderFrom text 0 ms → IfSome (slice_get ms 0) (MatchFitsText text)
first text [] stand = tt
first text (m ∷ ms) stand = stand.1

pub returns : goal.returns
returns c =
    let re = c.args.re.now in
    let text = c.args.text.now in
    first text (utf8_answers re text 0) (c.matches_lie_in_text_in_order.ensures re text 0 c.utf8.text)
