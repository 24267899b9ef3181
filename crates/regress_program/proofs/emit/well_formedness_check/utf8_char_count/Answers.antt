use Rattle.std.proofs.Common.{◌≡◌, ◌+◌, ◌∙◌, ◌∷◌, ap, sym, [], arith, length, drop, get_or}
use Rattle.std.proofs.lemmas.List.{drop_all, drop_more, nil_from_length}
use Rattle.std.specs.Str.{chars}
use Rattle.regress_program.proofs.Utf8CharCountLemmas.{left_count, length-chars-nil, length-chars-cons, left_count-ready, left_count-more, left_count-done, left_count-cut}
use Rattle.regress_program.proofs.emit.well_formedness_check.utf8_char_count.Goals as goal
use Rattle.regress_program.proofs.emit.well_formedness_check.utf8_char_count.Goals.{then-left-eq0, else-left-eq0}

pub returns-in_default : goal.returns-in_default
returns-in_default c =
    let none : c.args.bytes.now ≡ [] = nil_from_length c.args.bytes.now c.in_default.ensures.cases in
    rw none (sym length-chars-nil)

pub loop-byte-preserved : goal.loop-byte-preserved
loop-byte-preserved c =
    let rest = c.in-Some.rest.now in
    let i = c.loop-byte.byte-index in
    let next = drop_more rest i 0 c.loop-byte-test.true in
    let all = c.loop-byte.invariant.all in
    let here : c.loop-byte.count + left_count c.loop-byte.left (get_or rest i 0 ∷ drop (i + 1) rest) ≡ left_count c.continuation_count-left.result rest =
    sym (ap (λ bs. c.loop-byte.count + left_count c.loop-byte.left bs) next) ∙ all in
    elim c.if-left-eq0.branch [
      | then-left-eq0 w ↦
          let ready = ap (λ n. left_count n (get_or rest i 0 ∷ drop (i + 1) rest)) w.if-left-eq0.true ∙ left_count-ready (get_or rest i 0) (drop (i + 1) rest) in
          let new = ap (λ n. left_count n (drop (i + 1) rest)) (w.left-is ∙ w.continuation_count-left-then-left-eq0.ensures) in
          record {
            counted = omega (arith, w.count-is, c.loop-byte.invariant.counted);
            all = omega (arith, w.count-is, here, ready, new);
          }
      | else-left-eq0 w ↦
          let more = left_count-more c.loop-byte.left (get_or rest i 0) (drop (i + 1) rest) (omega (arith, w.if-left-eq0.false)) in
          let new = ap (λ n. left_count n (drop (i + 1) rest)) w.left-is in
          record {
            counted = omega (arith, w.count-is, c.loop-byte.invariant.counted);
            all = omega (arith, w.count-is, here, more, new);
          }
    ]

pub returns-then-left-eq0-2 : goal.returns-then-left-eq0-2
returns-then-left-eq0-2 c =
    let rest = c.in-Some.rest.now in
    let none : drop c.loop-byte.byte-index rest ≡ [] = drop_all c.loop-byte.byte-index rest c.loop-byte-test.false in
    let done = ap (λ bs. left_count c.loop-byte.left bs) none ∙ ap (λ n. left_count n []) c.if-left-eq0-2.true ∙ left_count-done in
    let whole = ap (λ bs. length (chars bs)) c.in-Some.ensures.cases.0 ∙ length-chars-cons c.in-Some.first.now rest in
    let start = ap (λ n. left_count n rest) c.continuation_count-left.ensures in
    omega (arith, done, whole, start, c.loop-byte.invariant.all)

pub returns-else-left-eq0-2 : goal.returns-else-left-eq0-2
returns-else-left-eq0-2 c =
    let rest = c.in-Some.rest.now in
    let none : drop c.loop-byte.byte-index rest ≡ [] = drop_all c.loop-byte.byte-index rest c.loop-byte-test.false in
    let done = ap (λ bs. left_count c.loop-byte.left bs) none ∙ left_count-cut c.loop-byte.left (omega (arith, c.if-left-eq0-2.false)) in
    let whole = ap (λ bs. length (chars bs)) c.in-Some.ensures.cases.0 ∙ length-chars-cons c.in-Some.first.now rest in
    let start = ap (λ n. left_count n rest) c.continuation_count-left.ensures in
    omega (arith, done, whole, start, c.loop-byte.invariant.all)
