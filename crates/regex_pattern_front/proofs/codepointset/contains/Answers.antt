use Rattle.std.proofs.Common.{arith, sym}
use Rattle.regex_pattern_front.proofs.IntervalLemmas.{end_before, begin_after, member-found, member-none}
use Rattle.regex_pattern_front.proofs.codepointset.contains.Goals as goal

pub loop-low-preserved-then-interval-c : goal.loop-low-preserved-then-interval-c
loop-low-preserved-then-interval-c c =
    let i = c.loop-low.invariant in
    (i.0, end_before c.args.intervals.now c.args.c _ _ c.requires (omega (arith, i.0)) c.if-interval-c.true, i.2)

pub loop-low-preserved : goal.loop-low-preserved
loop-low-preserved c =
    let i = c.loop-low.invariant in
    (omega (arith, i.0), i.1, begin_after c.args.intervals.now c.args.c _ _ c.requires (omega (arith, i.0)) c.if-c-interval.true)

pub returns-else-c-interval : goal.returns-else-c-interval
returns-else-c-interval c =
    sym (member-found c.args.intervals.now c.args.c _ _ (omega (arith, c.loop-low.invariant.0)) c.if-c-interval.false c.if-interval-c.false)

pub returns : goal.returns
returns c =
    let i = c.loop-low.invariant in
    sym (member-none c.args.intervals.now c.args.c c.loop-low.low c.loop-low.high (record { first = 0; last = 0 }) c.loop-low-test.false i.1 i.2)
