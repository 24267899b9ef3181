use Rattle.std.proofs.Common.{◌≡◌, ◌≤◌, ℕ, arith}
use Rattle.regex_meaning.proofs.BoolLemmas.{and-left, and-right}
use Rattle.regress_program.specs.Leaps.{is_passed_key}
use Rattle.regress_program.proofs.AlternationDispatchLemmas.{below-more}
use Rattle.regress_program.proofs.leap.Leap.treats_high_keys_alike.Goals as goal

pub loop-key-init : goal.loop-key-init
loop-key-init c = λ yes k below from. absurd (omega (arith, below, from))

pub loop-key-preserved : goal.loop-key-preserved
loop-key-preserved c = λ both.
    let P : ℕ → Type 0 = λ k. 128 ≤ k → is_passed_key c.args.self.now k ≡ is_passed_key c.args.self.now 128 in
    below-more P c.loop-key.key (c.loop-key.invariant (and-left _ _ both)) (λ from. c.is_like_first_high_key-alike.ensures (and-right _ _ both))

pub returns : goal.returns
returns c = λ yes k from below. c.loop-key.invariant yes k (omega (arith, below, c.loop-key-test.false)) from
