use Rattle.std.proofs.Common.{◌≡◌, true, take}
use Rattle.std.specs.List.{list_all}
use Rattle.regex_meaning.specs.Text.{is_scalar}
use Rattle.regex_parser.proofs.unicode_properties.normalized.Given as goal

abbrev pub invariant-loop-c : goal.invariant-loop-c
invariant-loop-c l = list_all is_scalar l.name ≡ true → l.characters.items ≡ take l.c-index l.name
