use Rattle.std.proofs.Common.{◌≡◌, ℕ, false}
use Rattle.std.specs.Prelude.{◌==◌}
use Rattle.std.specs.Int.{bit_at}
use Rattle.regress_program.specs.PrefixesAndPrefilters.{ExcludesKeys}
use Rattle.regress_program.proofs.required_prefix_types.Prefix.mask_excluding_keys.Given as goal

abbrev pub invariant-loop-key : goal.invariant-loop-key
invariant-loop-key l = (ahead : ℕ) → (bit_at l.mask ahead == 0) ≡ false → ExcludesKeys l.self l.from l.key ahead
