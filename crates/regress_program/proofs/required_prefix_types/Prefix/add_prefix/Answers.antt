use Rattle.std.proofs.Common.{rules, arith}
use Rattle.regress_program.proofs.RequiredPrefixLemmas.{change-none, change-next, then-of}
use Rattle.regress_program.proofs.required_prefix_types.Prefix.add_prefix.Goals as goal

pub loop-key-init : goal.loop-key-init
loop-key-init c = change-none c.args.self.now.masks _ (search rules)

pub loop-key-preserved : goal.loop-key-preserved
loop-key-preserved c =
    change-next c.args.self.now.masks c.loop-key.self.masks _ c.loop-key.key c.join_masks.result c.loop-key.invariant c.loop-key-test.true c.join_masks.ensures

pub returns : goal.returns
returns c =
    then-of c.args.self.now c.args.behind.now _ c.loop-key.invariant.sized (omega (arith, c.min-self.ensures))
    (λ k below. c.loop-key.invariant.changed k (omega (arith, below, c.loop-key-test.false)))
