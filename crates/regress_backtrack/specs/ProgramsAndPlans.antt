-- A program and its plan.
use Rattle.std.specs.Prelude.{◌≡◌, ℕ, Bool, List, map}
use Rattle.regex_meaning.specs.Tree.{Tree}
use Rattle.regex_pattern_front.specs.AstToSpecTree.{tree_of}
use Rattle.regex_pattern_front.specs.declared.ir.Regex.{Regex}
use Rattle.regress_program.specs.CompilationOfTreesAsFunction.{compiled}
use Rattle.regress_program.specs.OptimizedTreeUnlessNoOpt.{planned_tree}
use Rattle.regress_program.specs.InsnsAsSpec.{insn_as_spec_insn}
use Rattle.regress_program.specs.declared.instructions.Insn.{Insn}
use Rattle.regress_program.specs.declared.plan.Plan.{Plan}
use Rattle.regress_program.specs.Plans.{IsPlanOf}

-- A regex, the plan of the program that is executed for it, and whether this is for 16-bit units.
pub record PlannedView : Type 0 where
  pub regex : Regex
  pub plan : Plan
  pub wide : Bool

-- The tree whose code is executed.
abbrev pub executed_tree_of : PlannedView → Tree
executed_tree_of p = planned_tree p.wide (tree_of p.regex)

-- The plan is a plan of the program that is executed.
abbrev pub IsPlanOfExecutedProgram : PlannedView → Type 0
IsPlanOfExecutedProgram p = IsPlanOf p.wide (compiled (executed_tree_of p)) p.plan

-- `p` has a plan of the program that is executed. `loops` and `code` are the number of loops and
-- the instructions of this program.
pub record IsPlannedProgram (loops : ℕ) (code : List Insn) (p : PlannedView) : Type 0 where
  pub context : IsPlanOfExecutedProgram p
  pub counted : loops ≡ (compiled (executed_tree_of p)).loops
  pub insns : map insn_as_spec_insn code ≡ (compiled (executed_tree_of p)).insns
