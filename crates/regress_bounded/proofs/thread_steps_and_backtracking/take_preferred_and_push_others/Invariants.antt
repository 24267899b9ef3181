use Rattle.std.proofs.Common.{◌++◌, length, map}
use Rattle.regress_bounded.specs.declared.pending_stack.StackEntry.TheVariants.{Thread}
use Rattle.regress_bounded.proofs.StatesPushedOneByOne.{IsTaken}
use Rattle.regress_bounded.proofs.thread_steps_and_backtracking.take_preferred_and_push_others.Given as goal

abbrev pub invariant-others : goal.invariant-others
invariant-others g l = IsTaken (λ o. Thread o) l.first l.stack.items l.states.items (l.fn.stack.items ++ map (λ o. Thread o) l.fn.states.items)

abbrev pub decreases-others : goal.decreases-others
decreases-others g l = length l.states.items
