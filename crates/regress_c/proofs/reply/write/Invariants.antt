use Rattle.std.proofs.Common.{◌≡◌, ◌++◌, length, take, drop}
use Rattle.regress_search.specs.MatchesAsSpecAnswers.{answer_of}
use Rattle.regress_c.specs.Replies.{spans_of}
use Rattle.regress_c.proofs.reply.write.Given as goal

-- so many ranges stand in place of the first
abbrev pub invariant-loop-number : goal.invariant-loop-number
invariant-loop-number l =
    (l.spans ≡ take l.number (spans_of (answer_of l.found)) ++ drop l.number l.initial.spans) × (length l.spans ≡ length l.initial.spans)
