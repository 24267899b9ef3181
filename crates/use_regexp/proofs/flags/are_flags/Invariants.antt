use Rattle.std.proofs.Common.{◌≡◌, length}
use Rattle.use_regexp.specs.Letters.{are_flags}
use Rattle.use_regexp.proofs.flags.are_flags.Given as goal

abbrev pub invariant-loop-letter : goal.invariant-loop-letter
invariant-loop-letter l = are_flags l.letters ≡ are_flags l.rest

abbrev pub decreases-loop-letter : goal.decreases-loop-letter
decreases-loop-letter l = length l.rest
