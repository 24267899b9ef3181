use Rattle.std.proofs.Common.{sym, ◌∙◌}
use Rattle.regex_pattern_front.specs.AstToSpecTree.{spec_node_of}
use Rattle.regress_program.proofs.GoalNodeCheckLemmas.{one_goal-went, one_goal-stopped}
use Rattle.regress_program.proofs.emit.well_formedness_check.has_one_goal.Goals as goal

pub returns-then-walk : goal.returns-then-walk
returns-then-walk c = one_goal-went (spec_node_of c.args.root.now) c.walk.new.visitor (c.walk.ensures.walked c.if-walk.true)

pub returns-else-walk : goal.returns-else-walk
returns-else-walk c = c.if-walk.false ∙ one_goal-stopped (spec_node_of c.args.root.now) (sym c.if-walk.false ∙ c.walk.ensures.goes_on)
