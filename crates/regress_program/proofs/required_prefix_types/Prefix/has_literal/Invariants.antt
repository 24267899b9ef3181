use Rattle.std.proofs.Common.{◌<◌, ◌+◌, ℕ, slice_index}
use Rattle.regress_program.specs.PrefixesAndPrefilters.{IsOnlyUnitAllowedAtPosition}
use Rattle.regress_program.proofs.required_prefix_types.Prefix.has_literal.Given as goal

abbrev pub invariant-loop-i : goal.invariant-loop-i
invariant-loop-i l = (i : ℕ) → i < l.i → IsOnlyUnitAllowedAtPosition l.self (record { unit = slice_index l.literal.units i; ahead = l.literal.ahead + i })
