use Rattle.std.proofs.Common.{true, false}
use Rattle.regress_search.proofs.nonreading_bodies.loop_body_reads_nothing.Goals as goal

pub returns-then-are_nonreading_forward_ops-clause-body : goal.returns-then-are_nonreading_forward_ops-clause-body
returns-then-are_nonreading_forward_ops-clause-body g c = λ yes. (false, c.are_nonreading_forward_ops.ensures c.if-are_nonreading_forward_ops.true)
