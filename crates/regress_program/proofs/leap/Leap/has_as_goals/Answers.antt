use Rattle.std.proofs.Common.{◌≡◌, ℕ, true, arith}
use Rattle.regress_program.specs.Leaps.{is_goal_key}
use Rattle.regress_program.specs.TableKeysOfUnits.{unit_table_of_set}
use Rattle.regress_program.proofs.AlternationDispatchLemmas.{below-more}
use Rattle.regress_program.proofs.leap.Leap.has_as_goals.Goals as goal

pub loop-key-preserved : goal.loop-key-preserved
loop-key-preserved c =
    let P : ℕ → Type 0 = λ k. (unit_table_of_set c.args.set.now).keys k ≡ true → is_goal_key c.args.self.now k ≡ true in
    below-more P c.loop-key.key c.loop-key.invariant (c.is_goal_if_in.ensures c.if-not-is_goal_if_in.false)

pub returns : goal.returns
returns c = λ yes k below. c.loop-key.invariant k (omega (arith, below, c.loop-key-test.false))
