use Rattle.std.proofs.Common.{◌≡◌, ◌≤◌, length, take, drop}
use Rattle.regress_backtrack.specs.State.{undone}
use Rattle.regress_backtrack.proofs.state.BacktrackState.undo_to.Given as goal

abbrev pub invariant-changes : goal.invariant-changes
invariant-changes l = record {
  groups : l.self.groups ≡ l.initial.self.groups;
  choice_points : l.self.choice_points ≡ l.initial.self.choice_points;
  inside : l.len ≤ length l.self.log;
  log : take l.len l.self.log ≡ take l.len l.initial.self.log;
  slots : undone l.self.slots (drop l.len l.self.log) ≡ undone l.initial.self.slots (drop l.len l.initial.self.log);
}

abbrev pub decreases-changes : goal.decreases-changes
decreases-changes l = length l.self.log
