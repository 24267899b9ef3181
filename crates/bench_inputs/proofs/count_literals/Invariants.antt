use Rattle.std.proofs.Common.{◌-◌, ◌≤◌}
use Rattle.bench_inputs.proofs.count_literals.Given as goal

abbrev pub invariant-loop-offset : goal.invariant-loop-offset
invariant-loop-offset g l = l.offset ≤ l.end

abbrev pub decreases-loop-offset : goal.decreases-loop-offset
decreases-loop-offset g l = l.end - l.offset
