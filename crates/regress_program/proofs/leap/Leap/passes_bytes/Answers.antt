use Rattle.std.proofs.Common.{◌≡◌, ℕ, true, get_or, sym, ◌∙◌, subst, arith}
use Rattle.regress_program.specs.Leaps.{is_passed_key}
use Rattle.regress_program.proofs.AlternationDispatchLemmas.{below-more}
use Rattle.regress_program.proofs.LeapOpsLemmas.{all-of-each, get-default}
use Rattle.regress_program.proofs.leap.Leap.passes_bytes.Goals as goal

pub loop-i-preserved : goal.loop-i-preserved
loop-i-preserved c =
    let P : ℕ → Type 0 = λ k. is_passed_key c.args.self.now (get_or c.args.bytes.now k 0) ≡ true in
    let Q : ℕ → Type 0 = λ b. is_passed_key c.args.self.now b ≡ true in
    below-more P c.loop-i.i c.loop-i.invariant
    (subst Q (c.from.ensures ∙ get-default c.args.bytes.now c.loop-i.i _ 0 (omega (arith, c.loop-i-test.true))) (sym c.passes_key.ensures ∙ c.if-not-passes_key.false))

pub returns : goal.returns
returns c = λ yes. all-of-each (is_passed_key c.args.self.now) c.args.bytes.now (λ k below. c.loop-i.invariant k (omega (arith, below, c.loop-i-test.false)))
