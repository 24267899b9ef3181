use Rattle.std.proofs.Common.{◌+◌, sym, ◌∙◌}
use Rattle.regress_program.specs.declared.required_prefix_analysis.OpPrefixContribution.TheVariants as ahead
use Rattle.regress_program.proofs.RequiredPrefixLemmas.{said-as, said-of-run, said-on, said-go, said-look, said-either}
use Rattle.regress_program.proofs.required_prefix_analysis.prefix_step_of_op.Goals as goal

pub returns-then-falls_through_silently : goal.returns-then-falls_through_silently
returns-then-falls_through_silently c = said-on c.args.plan.now c.args.ip c.args.op (sym c.falls_through_silently.ensures ∙ c.if-falls_through_silently.true)

pub returns-in-UnitChar : goal.returns-in-UnitChar
returns-in-UnitChar c = said-as c.args.plan.now c.args.ip c.prefix_contribution_of_unit.result _ _ c.in-UnitChar.is (c.prefix_contribution_of_unit.ensures c.args.plan.now)

pub returns-in-One : goal.returns-in-One
returns-in-One c = said-as c.args.plan.now c.args.ip c.prefix_contribution_of_class.result _ _ c.in-One.is c.prefix_contribution_of_class.ensures

pub returns-in-Goto : goal.returns-in-Goto
returns-in-Goto c = said-as c.args.plan.now c.args.ip (ahead.SameAs c.in-Goto.to) _ _ c.in-Goto.is (said-go c.args.plan.now c.args.ip c.in-Goto.to)

pub returns-in-Look : goal.returns-in-Look
returns-in-Look c = said-as c.args.plan.now c.args.ip (ahead.SameAs c.in-Look.look.past) _ _ c.in-Look.is (said-look c.args.plan.now c.args.ip c.in-Look.look)

pub returns-in-Either : goal.returns-in-Either
returns-in-Either c =
    said-as c.args.plan.now c.args.ip (ahead.UnionOf (c.args.ip + 1) c.in-Either.other) _ _ c.in-Either.is (said-either c.args.plan.now c.args.ip c.in-Either.other)

pub returns-in-Enter : goal.returns-in-Enter
returns-in-Enter c = said-as c.args.plan.now c.args.ip c.prefix_step_of_entry.result _ _ c.in-Enter.is c.prefix_step_of_entry.ensures

pub returns-in-Some : goal.returns-in-Some
returns-in-Some c = said-of-run c.args.plan.now c.args.ip c.prefix_step_of_run.result c.args.op c.in-Some.run' (sym c.in-Some.ensures) c.prefix_step_of_run.ensures
