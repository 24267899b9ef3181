use Rattle.std.proofs.Common.{◌≡◌, ◌++◌, ◌<◌, ◌≤◌, take, drop, length, length-set, slice_set, ap, ◌∙◌, arith}
use Rattle.regress_search.specs.MatchesAsSpecAnswers.{answer_of}
use Rattle.regress_c.specs.Replies.{span_of, spans_of}
use Rattle.regress_c.proofs.ReplyLemmas.{written_all, written_more}
use Rattle.regress_c.proofs.reply.write.Goals as goal

pub loop-number-preserved : goal.loop-number-preserved
loop-number-preserved c =
    let m = answer_of c.args.found.now in
    let before = c.args.spans.now in
    let id = c.loop-number.number in
    let inside : id < length (spans_of m) = omega (arith, c.loop-number-test.true, c.requires.all) in
    let room : length (spans_of m) ≤ length before = omega (arith, c.requires.all, c.requires.room) in (
      ap (λ s. slice_set s id c.to_span.result) c.loop-number.invariant.0
          ∙ (ap (λ s. slice_set (take id (spans_of m) ++ drop id before) id s) (c.to_span.ensures ∙ ap span_of c.group.ensures)
          ∙ written_more m before id inside room),
      length-set c.loop-number.spans id c.to_span.result ∙ c.loop-number.invariant.1,
    )

pub returns : goal.returns
returns c =
    let m = answer_of c.args.found.now in
    let all : c.loop-number.number ≡ length (spans_of m) = omega (arith, c.loop-number-test.false, c.loop-number.auto.number-end, c.requires.all) in
    c.loop-number.invariant.0 ∙ written_all m c.args.spans.now c.loop-number.number all
