use Rattle.std.proofs.Common.{sym, subst, ◌++◌, map}
use Rattle.regress_pikevm.proofs.ExecutorTurnLemmas.{popped-none}
use Rattle.regress_bounded.specs.declared.pending_stack.StackEntry.TheVariants.{Thread}
use Rattle.regress_bounded.proofs.StatesPushedOneByOne.{IsTaken, taken-first, taken-more, taken-all}
use Rattle.regress_bounded.proofs.thread_steps_and_backtracking.take_preferred_and_push_others.Goals as goal

pub others-init : goal.others-init
others-init g c =
    subst (λ l. IsTaken (λ o. Thread o) c.in-Some.first c.args.stack.now.items c.reverse.new.self.items (c.args.stack.now.items ++ map (λ o. Thread o) l)) (sym c.in-Some.ensures.items)
    (taken-first (λ o. Thread o) c.in-Some.first c.args.stack.now.items c.pop.new.self.items c.reverse.new.self.items c.reverse.ensures.items)

pub others-preserved : goal.others-preserved
others-preserved g c =
    let all = c.args.stack.now.items ++ map (λ o. Thread o) c.args.states.items in
    subst (λ xs. IsTaken (λ o. Thread o) c.in-Some.first xs c.pop-in-others.new.self.items all) (sym c.in_ok-push_entry.ensures)
    (taken-more (λ o. Thread o) c.in-Some.first c.others.stack.items all c.others.states.items c.pop-in-others.new.self.items c.in-Some-pop.state c.others.invariant c.in-Some-pop.ensures.items)

pub returns : goal.returns
returns g c =
    let none = popped-none c.others.states.items c.pop-in-others.new.self.items _ c.in_default-pop.ensures.items c.in_default-pop.ensures.cases.0 c.in_default-pop.ensures.rest in
    record {
      others = c.pop.new.self.items;
      is = c.in-Some.ensures.items;
      wait = taken-all (λ o. Thread o) c.in-Some.first c.others.stack.items c.args.stack.now.items c.others.states.items c.args.states.items c.pop.new.self.items c.others.invariant none c.in-Some.ensures.items;
    }
