use Rattle.std.proofs.Common.{◌≤◌, List, [], length}
use Rattle.regex_meaning.specs.CharacterClasses.{ClassMember}
use Rattle.regex_parser.specs.ClassReaderContracts.{AddsMembers}
use Rattle.regex_pattern_front.specs.AstToSpecTree.{spec_flags_of}
use Rattle.regex_parser.proofs.ClassReaderLemmas.{RangesSoFar}
use Rattle.regex_parser.proofs.character_class_parser.ranges.Given as goal

abbrev pub invariant-loop-c : goal.invariant-loop-c
invariant-loop-c l =
    (length l.reader.rest.now ≤ length l.fn.reader.rest.now)
    × ((ms : List ClassMember) × RangesSoFar (spec_flags_of l.flags) l.fn.reader.rest.now l.reader.rest.now ms × AddsMembers (spec_flags_of l.flags) [] l.intervals.items ms)

abbrev pub decreases-loop-c : goal.decreases-loop-c
decreases-loop-c l = length l.reader.rest.now
