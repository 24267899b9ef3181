use Rattle.std.proofs.lemmas.List.{drop_all}
use Rattle.regex_pattern_front.proofs.IntervalLemmas.{apart-from_Apart}
use Rattle.regex_pattern_front.proofs.codepointset.are_canonical.Goals as goal

pub returns : goal.returns
returns c = λ _.
    apart-from_Apart 0 c.args.intervals.now (c.loop-interval.invariant (rw (drop_all c.loop-interval.interval-index c.args.intervals.now c.loop-interval-test.false) tt))
