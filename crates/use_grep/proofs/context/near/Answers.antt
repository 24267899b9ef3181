use Rattle.std.proofs.Common.{◌≡◌, ◌∙◌, ◌-◌, ◌≤◌, ap, arith}
use Rattle.use_grep.specs.Nearby.{near}
use Rattle.use_grep.proofs.Near.{line-taken, line-left}
use Rattle.use_grep.proofs.context.near.Goals as goal
use Rattle.use_grep.proofs.context.near.Goals.{then-is_near_first+in_ok-push, else-is_near_first}

pub loop-number-preserved : goal.loop-number-preserved
loop-number-preserved c =
    let so_far = c.loop-number.invariant in
    let passed = c.lines_not_yet_passed-left.ensures in
    let number = c.loop-number.number in
    let from : c.args.first ≤ number = so_far.from in
    record {
      from = omega arith;
      within = omega (arith, c.loop-number-test.true, from);
      done = λ is.
          let same = so_far.same c.args.before number (omega arith) ∙ passed.same c.args.before number (omega arith) in
          let near_first = c.is_near_first.ensures c.args.after passed.starts (passed.in_order (so_far.in_order is)) in
          elim c.if-is_near_first.branch [
            | then-is_near_first+in_ok-push w ↦
                line-taken c.args.before c.args.after c.args.selected.now c.lines_not_yet_passed-left.result.now c.args.first number c.is_near_first.result from same near_first
                c.loop-number.numbers.items _ w.if-is_near_first.true (so_far.done is)
                (ap (λ (v : _). v.items) w.numbers-is ∙ w.in_ok-push.ensures.items)
            | else-is_near_first w ↦
                line-left c.args.before c.args.after c.args.selected.now c.lines_not_yet_passed-left.result.now c.args.first number c.is_near_first.result from same near_first
                c.loop-number.numbers.items _ w.if-is_near_first.false (so_far.done is) (ap (λ (v : _). v.items) w.numbers-is)
          ];
      same = λ before n behind. so_far.same before n (omega arith) ∙ passed.same before n (omega arith);
      in_order = λ is. passed.in_order (so_far.in_order is);
    }

pub returns : goal.returns
returns c is =
    let from : c.args.first ≤ c.loop-number.number = c.loop-number.invariant.from in
    let within : c.loop-number.number - c.args.first ≤ c.args.end - c.args.first = c.loop-number.invariant.within in
    let same : c.loop-number.number - c.args.first ≡ c.args.end - c.args.first = omega (arith, c.loop-number-test.false, from, within) in
    c.loop-number.invariant.done is ∙ ap (near c.args.before c.args.after c.args.selected.now c.args.first) same
