use Rattle.std.proofs.Common.{◌≤◌, List, [], length}
use Rattle.regex_meaning.specs.EcmaClasses.{ClassMember}
use Rattle.regex_parser.specs.EcmaClassContracts.{AddsEcmaMembers}
use Rattle.regex_pattern_front.specs.AstToSpecTree.{spec_flags_of}
use Rattle.regex_parser.proofs.EcmaClassLemmas.{RangesSoFar}
use Rattle.regex_parser.proofs.ecmascript_classes.ClassReader.read_ranges.Given as goal

abbrev pub invariant-loop-c : goal.invariant-loop-c
invariant-loop-c l =
    (length l.reader.rest.now ≤ length l.fn.reader.rest.now)
    × ((ms : List ClassMember) × RangesSoFar (spec_flags_of l.self.flags) l.self.named_groups l.fn.reader.rest.now l.reader.rest.now ms × AddsEcmaMembers [] l.intervals.items ms)

abbrev pub decreases-loop-c : goal.decreases-loop-c
decreases-loop-c l = length l.reader.rest.now
