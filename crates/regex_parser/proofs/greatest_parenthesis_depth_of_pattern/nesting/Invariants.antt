use Rattle.std.proofs.Common.{◌≡◌, ◌≤◌, take}
use Rattle.std.specs.List.{fold}
use Rattle.regex_parser.specs.ParenthesisDepth.{depth_scan_after_code_point, scan_start}
use Rattle.regex_parser.proofs.greatest_parenthesis_depth_of_pattern.nesting.Given as goal

abbrev pub invariant-loop-c : goal.invariant-loop-c
invariant-loop-c l = (l.reading ≡ fold depth_scan_after_code_point scan_start (take l.c-index l.pattern)) × (l.reading.depth ≤ l.c-index)
