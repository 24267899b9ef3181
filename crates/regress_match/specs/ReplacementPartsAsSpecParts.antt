-- The parts of a replacement that the code reads, as parts of the specification.
use Rattle.std.specs.Prelude.{ℕ, List, [], ◌∷◌, map}
use Rattle.regex_meaning.specs.Replace as replace
use Rattle.regex_meaning.specs.Replace.{ParsedPart, literal, group_part, named_part}
use Rattle.regress_match.specs.declared.api.replace.expansion.DollarSubstitution.{DollarSubstitution}
use Rattle.regress_match.specs.declared.api.replace.expansion.DollarSubstitution.TheVariants.{Dollar, Group, Named}

-- The parts of the specification that one part of the code represents.
abbrev pub spec_parts_of_substitution : DollarSubstitution → List replace.ReplacementPart
spec_parts_of_substitution (Dollar behind) = literal 36 ∷ map literal behind.now
spec_parts_of_substitution (Group number) = group_part number ∷ []
spec_parts_of_substitution (Named name) = named_part name.now ∷ []

-- A part, and the rest of the replacement.
abbrev pub parsed_part_and_rest : DollarSubstitution → (rest : List ℕ) → ParsedPart
parsed_part_and_rest part rest = record { parts = spec_parts_of_substitution part; rest = rest }
