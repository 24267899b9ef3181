use Rattle.std.proofs.Common.{ℕ, Some, sym, subst, arith}
use Rattle.regress_search.specs.AttemptsAndStarts.{NextStartSkipsNoMatch}
use Rattle.regress_backtrack.proofs.LeapMemoryLemmas.{past-to, past-none, at-once}
use Rattle.regress_backtrack.proofs.leap_memory.LeapMemory.past.Goals as goal

pub returns-then-at-self : goal.returns-then-at-self
returns-then-at-self c = λ tree text on right. at-once tree text c.args.at on

pub returns-in-Some : goal.returns-in-Some
returns-in-Some c = λ tree text on right.
    let P : ℕ → Type 0 = λ n. NextStartSkipsNoMatch tree text c.args.at (Some n) in
    subst P (sym c.max.ensures)
    (past-to tree text c.args.self.now.from c.args.at c.in-Some.to c.args.self.now.to on right c.in-Some.is (omega (arith, c.if-at-self.false)))

pub returns-in-None : goal.returns-in-None
returns-in-None c = λ tree text on right.
    past-none tree text c.args.self.now.from c.args.at c.args.self.now.to right c.in-None.is (omega (arith, c.if-at-self.false))
