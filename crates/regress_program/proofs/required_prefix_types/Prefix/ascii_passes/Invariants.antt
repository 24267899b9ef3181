use Rattle.std.proofs.Common.{◌≡◌, ◌<◌, ◌*◌, ℕ, true}
use Rattle.regress_program.specs.PrefixesAndPrefilters.{units_allowed_by_prefix, unit_passes_probe}
use Rattle.regress_program.proofs.required_prefix_types.Prefix.ascii_passes.Given as goal

abbrev pub invariant-loop-block : goal.invariant-loop-block
invariant-loop-block l = (k : ℕ) → k < l.block * 16 → units_allowed_by_prefix l.self l.probe.ahead k ≡ true → unit_passes_probe l.probe k ≡ true
