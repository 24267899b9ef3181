use Rattle.std.proofs.Common.{◌≡◌, map, take, take_all, ◌∙◌, ap, arith}
use Rattle.std.specs.Prelude.{nat_lt, ◌&&◌}
use Rattle.regex_meaning.specs.Outcomes.{in_intervals}
use Rattle.regex_meaning.specs.StartPredicate.{bytes_that_pass}
use Rattle.regex_pattern_front.specs.ByteSetMembers.{member_bytes_of_ascii_bitmap}
use Rattle.regex_pattern_front.specs.Intervals.{interval_of}
use Rattle.regress_program.proofs.AsciiIntervalMembers.{ascii_none, ascii_more}
use Rattle.std.proofs.lemmas.List.{length-map}
use Rattle.regress_program.proofs.emit.brackets.ascii_members.Goals as goal

pub loop-interval-init : goal.loop-interval-init
loop-interval-init c = c.default-bitmap.ensures ∙ ascii_none

pub loop-interval-preserved : goal.loop-interval-preserved
loop-interval-preserved c =
    ascii_more interval_of c.args.intervals.now c.loop-interval.interval-index _ (member_bytes_of_ascii_bitmap c.loop-interval.bitmap) _ (omega arith)
    c.loop-interval.invariant c.add_ascii_members.ensures

pub returns : goal.returns
returns c =
    let all : take c.loop-interval.interval-index (map interval_of c.args.intervals.now) ≡ map interval_of c.args.intervals.now =
    take_all _ _ (omega (arith, length-map c.args.intervals.now interval_of)) in
    c.loop-interval.invariant ∙ ap (λ xs. bytes_that_pass (λ b. nat_lt b 128 && in_intervals xs b)) all
