use Rattle.std.proofs.Common.{◌≡◌, ◌++◌, length}
use Rattle.regex_meaning.specs.Text.{utf16_characters}
use Rattle.use_regexp.proofs.units.decoded.Given as goal

abbrev pub invariant-loop-unit : goal.invariant-loop-unit
invariant-loop-unit l = l.characters.items ++ utf16_characters l.rest ≡ utf16_characters l.units

abbrev pub decreases-loop-unit : goal.decreases-loop-unit
decreases-loop-unit l = length l.rest
