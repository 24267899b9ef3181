use Rattle.std.proofs.Common.{length}
use Rattle.regex_parser.proofs.GroupScanLemmas.{ScanSoFar}
use Rattle.regex_parser.proofs.group_openings_and_names.scan_groups.Given as goal

abbrev pub invariant-loop-c : goal.invariant-loop-c
invariant-loop-c l = ScanSoFar l.fn.syntax l.pattern l.scan l.reader.rest.now

abbrev pub decreases-loop-c : goal.decreases-loop-c
decreases-loop-c l = length l.reader.rest.now
