use Rattle.std.proofs.Common.{◌≡◌, ◌≤◌, ◌<◌, ℕ, true, false}
use Rattle.regress_program.specs.PrefixesAndPrefilters.{units_allowed_by_prefix, unit_passes_probe}
use Rattle.regress_program.proofs.required_prefix_types.Prefix.block_passes.Given as goal

abbrev pub invariant-loop-key : goal.invariant-loop-key
invariant-loop-key l =
    l.others ≡ false → (k : ℕ) → l.from ≤ k → k < l.key → units_allowed_by_prefix l.self l.probe.ahead k ≡ true → unit_passes_probe l.probe k ≡ true
