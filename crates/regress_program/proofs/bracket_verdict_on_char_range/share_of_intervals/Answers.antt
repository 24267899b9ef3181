use Rattle.std.proofs.Common.{arith}
use Rattle.regress_program.proofs.RangeAcceptanceLemmas.{intervals-whole, intervals-nothing}
use Rattle.regress_program.proofs.bracket_verdict_on_char_range.share_of_intervals.Goals as goal

pub returns-then-range-interval : goal.returns-then-range-interval
returns-then-range-interval c =
    intervals-whole c.args.intervals.now c.args.range c.loop-interval.interval-index (omega arith) c.if-interval-range.true c.if-range-interval.true

pub returns : goal.returns
returns c = intervals-nothing c.args.intervals.now c.args.range (λ k below a b. c.loop-interval.invariant k (omega arith) a b)
