use Rattle.std.proofs.Common.{◌+◌, map, take, refl}
use Rattle.regex_meaning.specs.Outcomes.{in_intervals}
use Rattle.regex_pattern_front.specs.Intervals.{interval_of}
use Rattle.regex_parser.proofs.CaseVariantsOfIntervals.{in-next}
use Rattle.regex_parser.proofs.CaseVariantsInGaps.{within-none, within-more, within-all}
use Rattle.regex_parser.proofs.case_variants.add_nonmembers_that_match.Goals as goal

pub loop-gap-init : goal.loop-gap-init
loop-gap-init c =
    within-none c.args.unicode (in_intervals c.args.set.now) (in_intervals (take 0 (map interval_of c.intervals-gap-items.result.now))) c.args.intervals.now.items (λ x. refl)

pub loop-gap-preserved : goal.loop-gap-preserved
loop-gap-preserved c =
    let n = c.loop-gap.gap-index in
    let gaps = map interval_of c.intervals-gap-items.result.now in
    within-more c.args.unicode (in_intervals c.args.set.now) (in_intervals (take n gaps)) _ (in_intervals (take (n + 1) gaps)) _ _ _
    (λ x. in-next c.intervals-gap-items.result.now n _ c.loop-gap-test.true x)
    c.loop-gap.invariant c.in_ok-add_matching_of_gap.ensures

pub returns : goal.returns
returns c =
    within-all c.args.unicode c.args.set.now c.in_ok-outside.outside c.intervals-gap-items.result.now c.loop-gap.gap-index _ _
    c.intervals-gap-items.ensures c.loop-gap-test.false c.in_ok-outside.ensures.members c.loop-gap.invariant
