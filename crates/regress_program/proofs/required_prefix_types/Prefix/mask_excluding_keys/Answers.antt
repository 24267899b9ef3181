use Rattle.regress_program.proofs.RequiredPrefixLemmas.{barred-next}
use Rattle.regress_program.proofs.required_prefix_types.Prefix.mask_excluding_keys.Goals as goal

pub loop-key-preserved : goal.loop-key-preserved
loop-key-preserved c = λ ahead set.
    barred-next c.args.self.now c.args.from c.loop-key.key c.loop-key.mask ahead c.loop-key.invariant set
