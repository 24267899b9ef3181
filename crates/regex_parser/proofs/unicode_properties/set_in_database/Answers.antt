use Rattle.std.proofs.Common.{◌∙◌, ap, map}
use Rattle.regex_meaning.specs.Outcomes.{in_intervals}
use Rattle.regex_pattern_front.specs.Intervals.{interval_of}
use Rattle.regex_parser.proofs.ClassReaderLemmas.{ok-map}
use Rattle.regex_parser.proofs.PropertySetLemmas.{database-all}
use Rattle.regex_parser.proofs.unicode_properties.set_in_database.Goals as goal

pub returns : goal.returns
returns c =
    ok-map c.from_intervals.result c.from_intervals.ensures.members
    (λ s h d. h d ∙ ap (λ x. in_intervals (map interval_of x) d) (c.deref.ensures.value ∙ c.loop-range.invariant)
    ∙ database-all c.deref-range-items.result.now c.in_ok-ranges.ranges.items c.loop-range.range-index c.args.set c.loop-range-test.false c.deref-range-items.ensures.value
    c.in_ok-ranges.ensures.members d)
