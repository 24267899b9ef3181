use Rattle.std.proofs.Common.{refl}
use Rattle.regex_parser.proofs.GroupScanLemmas.{scan-start, scan-next, scan-end}
use Rattle.regex_parser.proofs.ScannedGroupsLemmas.{pattern-counted, pattern-in-profile}
use Rattle.regex_parser.proofs.group_openings_and_names.scan_groups.Goals as goal

pub loop-c-init : goal.loop-c-init
loop-c-init c = scan-start c.args.syntax c.args.pattern.now _ refl refl refl c.new.ensures.empty

pub loop-c-preserved : goal.loop-c-preserved
loop-c-preserved c =
    scan-next c.args.syntax c.args.pattern.now c.loop-c.reader.rest.now c.read_next_and_skip_escaped.new.self.rest.now c.loop-c.scan c.scan_code_point.new.self c.in-Some.c
    c.loop-c.invariant c.in-Some.ensures.text c.in_ok-scan_code_point.ensures

pub returns-clause-count : goal.returns-clause-count
returns-clause-count c =
    pattern-counted c.args.syntax c.args.pattern.now c.loop-c.scan.groups c.loop-c.scan.numbers (scan-end c.args.syntax c.args.pattern.now c.loop-c.reader.rest.now c.loop-c.scan c.loop-c.invariant c.in_default.ensures.text)

pub returns-clause-scanned : goal.returns-clause-scanned
returns-clause-scanned c = scan-end c.args.syntax c.args.pattern.now c.loop-c.reader.rest.now c.loop-c.scan c.loop-c.invariant c.in_default.ensures.text

pub returns-clause-profile : goal.returns-clause-profile
returns-clause-profile c = λ e.
    pattern-in-profile c.args.syntax c.args.pattern.now c.loop-c.scan.groups c.loop-c.scan.numbers e
    (scan-end c.args.syntax c.args.pattern.now c.loop-c.reader.rest.now c.loop-c.scan c.loop-c.invariant c.in_default.ensures.text)
