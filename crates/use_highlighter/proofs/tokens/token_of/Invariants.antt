use Rattle.std.proofs.Common.{◌≡◌, ◌+◌, length}
use Rattle.regress_search.specs.MatchesAsSpecAnswers.{answer_of}
use Rattle.use_highlighter.specs.Tokens.{names_of, token_of}
use Rattle.use_highlighter.proofs.tokens.token_of.Given as goal

abbrev pub invariant-loop-left : goal.invariant-loop-left
invariant-loop-left l =
    (l.place + length l.left ≡ length l.fn.tokens)
    × (l.place + token_of (names_of l.left) (answer_of l.found) ≡ token_of (names_of l.fn.tokens) (answer_of l.found))

abbrev pub decreases-loop-left : goal.decreases-loop-left
decreases-loop-left l = length l.left
