use Rattle.std.proofs.Common.{◌≡◌}
use Rattle.regex_meaning.specs.FlagLettersAndEscaping.{flags_from_letters}
use Rattle.regress_match.specs.PublicFlagsAsSpecFlags.{spec_flags_of}
use Rattle.regress_match.proofs.api.flags.Flags.new.Given as goal

abbrev pub invariant-loop-letter : goal.invariant-loop-letter
invariant-loop-letter g l = spec_flags_of l.flags ≡ flags_from_letters l.yielded
