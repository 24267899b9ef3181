use Rattle.std.proofs.Common.{ap, sym}
use Rattle.std.specs.Prelude.{is_some}
use Rattle.regress_program.proofs.NodeKindLemmas.{goals-other}
use Rattle.regress_program.proofs.emit.well_formedness_check.SecondGoalNodeDetectorPreorderNodeVisitor.visit_node_or_stop_walk.Goals as goal

pub returns-in_default-clause-goes_on : goal.returns-in_default-clause-goes_on
returns-in_default-clause-goes_on c = ap is_some (sym (goals-other c.args.node.now c.args.self.now c.in_default.not-Goal))

pub returns-in_default-clause-step : goal.returns-in_default-clause-step
returns-in_default-clause-step c went = goals-other c.args.node.now c.args.self.now c.in_default.not-Goal
