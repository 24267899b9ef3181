use Rattle.std.proofs.Common.{◌≡◌, length}
use Rattle.regex_meaning.specs.CharacterClasses.{has_set_operation}
use Rattle.regex_parser.proofs.character_class_parser.no_set_operation.Given as goal

abbrev pub invariant-loop-c : goal.invariant-loop-c
invariant-loop-c l = has_set_operation l.reader.rest.now ≡ has_set_operation l.ahead.rest.now

abbrev pub decreases-loop-c : goal.decreases-loop-c
decreases-loop-c l = length l.ahead.rest.now
