use Rattle.std.proofs.Common.{◌≡◌, ◌++◌, map, take}
use Rattle.regex_meaning.specs.CharacterClasses.{single_code_point_interval}
use Rattle.regex_pattern_front.specs.Intervals.{interval_of}
use Rattle.regex_parser.proofs.character_class_parser.add_each.Given as goal

abbrev pub invariant-loop-c : goal.invariant-loop-c
invariant-loop-c l =
    map interval_of l.intervals.items ≡ map interval_of l.fn.intervals.items ++ map single_code_point_interval (take l.c-index l.members)
