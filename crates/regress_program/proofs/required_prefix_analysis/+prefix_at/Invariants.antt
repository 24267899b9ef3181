use Rattle.std.proofs.Common.{◌≤◌, Bool}
use Rattle.regex_meaning.specs.CompilationRelation.{Program}
use Rattle.regress_program.specs.RequiredPrefixAnalysis.{AreOpsOfProgram, IsPrefixSoFar}
use Rattle.regress_program.proofs.required_prefix_analysis.+prefix_at.Given as goal

abbrev pub decreases-prefix_at : goal.decreases-prefix_at
decreases-prefix_at l = l.steps

abbrev pub invariant-path : goal.invariant-path
invariant-path l = (l.left ≤ l.fn.steps) × ((wide : Bool) (program : Program) → AreOpsOfProgram wide program l.plan → IsPrefixSoFar wide program l.fn.from l.prefix l.ip)

abbrev pub decreases-path : goal.decreases-path
decreases-path l = l.left
