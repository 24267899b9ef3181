use Rattle.std.proofs.Common.{ap, sym, ◌∙◌}
use Rattle.regress_bounded.specs.BoundedState.{stack_with_record_if_any}
use Rattle.regress_bounded.proofs.thread_steps_and_backtracking.spend_and_push_record.Goals as goal

pub returns-in_ok-push_entry-clause-pushed : goal.returns-in_ok-push_entry-clause-pushed
returns-in_ok-push_entry-clause-pushed g c = c.in_ok-push_entry.ensures ∙ ap (λ k. stack_with_record_if_any k c.args.stack.now.items) (sym c.in-Some.is)

pub returns-in_default-clause-pushed : goal.returns-in_default-clause-pushed
returns-in_default-clause-pushed g c = ap (λ k. stack_with_record_if_any k c.args.stack.now.items) (sym c.in_default.is)

pub returns-in_ok-push_entry-clause-spent : goal.returns-in_ok-push_entry-clause-spent
returns-in_ok-push_entry-clause-spent g c = c.in_ok-spend.ensures.spent

pub returns-in_default-clause-spent : goal.returns-in_default-clause-spent
returns-in_default-clause-spent g c = c.in_ok-spend.ensures.spent
