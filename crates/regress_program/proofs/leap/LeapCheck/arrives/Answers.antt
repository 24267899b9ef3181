use Rattle.std.proofs.Common.{◌≡◌, ℕ, true, sym, ◌∙◌, subst, arith}
use Rattle.regress_program.specs.Leaps.{is_goal_key}
use Rattle.regress_program.proofs.LeapOpsLemmas.{arrives-by-unit, arrives-by-units}
use Rattle.regress_program.proofs.leap.LeapCheck.arrives.Goals as goal

pub returns-in-OneUnit : goal.returns-in-OneUnit
returns-in-OneUnit c = λ yes.
    let leap = c.args.self.leap.now in
    let P : ℕ → Type 0 = λ k. is_goal_key leap k ≡ true in
    arrives-by-unit c.args.self.plan.now leap c.args.ip c.in-OneUnit.key c.in-OneUnit.to c.in-OneUnit.ensures (subst P c.from.ensures (sym c.has.ensures ∙ yes))

pub returns-then-count-gt0 : goal.returns-then-count-gt0
returns-then-count-gt0 c = λ yes.
    arrives-by-units c.args.self.plan.now c.args.self.leap.now c.args.ip c.in-Units.set c.in-Units.count c.in-Units.to c.in-Units.ensures (omega (arith, c.if-count-gt0.true))
    (c.has_as_goals.ensures yes)
