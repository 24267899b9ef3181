use Rattle.std.proofs.Common.{◌<◌, ◌∙◌, ap, arith, length, map, sym}
use Rattle.use_grep.specs.Selecting.{is_selected, shown}
use Rattle.use_grep.proofs.Lines.{one-kept, one-left}
use Rattle.use_grep.proofs.select.selected.Goals as goal
use Rattle.use_grep.proofs.select.selected.Goals.{then-branch+in_ok-push, else-branch}

pub loop-line-preserved : goal.loop-line-preserved
loop-line-preserved c =
    let inside : c.loop-line.line-index < length c.args.lines.now = omega arith in
    let so_far = c.loop-line.invariant in
    let test = is_selected c.args.re.now c.args.invert in (
      omega arith,
      elim c.if-branch.branch [
        | then-branch+in_ok-push w ↦
            one-kept (λ l. l.now) test _ c.args.lines.now c.loop-line.line-index _ inside _ _ _ (omega arith) (sym c.in_ok-is_selected.ensures.selected ∙ w.if-branch.true) so_far.1
            (ap (λ (v : _). map shown v.items) w.found-is ∙ w.in_ok-push.ensures)
        | else-branch w ↦
            one-left (λ l. l.now) test _ c.args.lines.now c.loop-line.line-index _ inside _ _ (sym c.in_ok-is_selected.ensures.selected ∙ w.if-branch.false) so_far.1
            (ap (λ (v : _). map shown v.items) w.found-is)
      ],
    )
