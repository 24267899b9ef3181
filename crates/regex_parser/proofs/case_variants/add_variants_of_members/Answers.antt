use Rattle.std.proofs.Common.{◌+◌, take}
use Rattle.regex_meaning.specs.Outcomes.{in_intervals}
use Rattle.regex_parser.proofs.CaseVariantsOfIntervals.{adds-more, in-next-of}
use Rattle.regex_parser.proofs.case_variants.add_variants_of_members.Goals as goal

pub loop-interval-preserved : goal.loop-interval-preserved
loop-interval-preserved c =
    let n = c.loop-interval.interval-index in
    adds-more c.args.unicode (in_intervals (take n c.args.set.now)) _ (in_intervals (take (n + 1) c.args.set.now)) _ _ _
    (λ x. in-next-of c.intervals-interval-items.result.now c.args.set.now n _ c.intervals-interval-items.ensures c.loop-interval-test.true x)
    c.loop-interval.invariant c.in_ok-add_variants_of_interval.ensures
