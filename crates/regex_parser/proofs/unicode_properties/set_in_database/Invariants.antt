use Rattle.std.proofs.Common.{◌≡◌, map, take}
use Rattle.regex_parser.proofs.PropertySetLemmas.{clamped}
use Rattle.regex_parser.proofs.unicode_properties.set_in_database.Given as goal

abbrev pub invariant-loop-range : goal.invariant-loop-range
invariant-loop-range l = l.intervals.items ≡ map clamped (take l.range-index l.range-items)
