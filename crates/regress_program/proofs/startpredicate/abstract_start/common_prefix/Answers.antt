use Rattle.regress_program.proofs.JoinedStartsLemmas.{ends_left, ends_right, differ_here, front_ends}
use Rattle.regress_program.proofs.startpredicate.abstract_start.common_prefix.Goals as goal
use Rattle.regress_program.proofs.startpredicate.abstract_start.common_prefix.Goals.{then-loop-shared-test+then-shared-ys+else-xs-shared, then-loop-shared-test+else-shared-ys, else-loop-shared-test}

pub returns : goal.returns
returns c =
    let xs = c.args.xs.now in
    let ys = c.args.ys.now in
    let i = c.loop-shared.shared in
    front_ends xs _ i _
    (elim c.loop-shared-test.branch [
      | then-loop-shared-test+then-shared-ys+else-xs-shared w ↦ differ_here xs ys i w.loop-shared-test.true w.if-shared-ys.true w.if-xs-shared.false
      | then-loop-shared-test+else-shared-ys w ↦ ends_right xs ys i w.if-shared-ys.false
      | else-loop-shared-test w ↦ ends_left xs ys i w.loop-shared-test.false
    ])
    c.loop-shared.invariant.front
