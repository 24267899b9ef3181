use Rattle.std.proofs.Common.{◌≡◌, ◌++◌, length}
use Rattle.regex_meaning.specs.Text.{utf16_characters}
use Rattle.regress_c.proofs.source.characters_of.Given as goal

abbrev pub invariant-characters : goal.invariant-characters
invariant-characters l = l.characters.items ++ utf16_characters l.rest ≡ utf16_characters l.units

abbrev pub decreases-characters : goal.decreases-characters
decreases-characters l = length l.rest
