use Rattle.std.proofs.Common.{◌≤◌, length}
use Rattle.std.specs.Prelude.{string_bytes}
use Rattle.regex_parser.proofs.EcmaNameLemmas.{NameSoFar}
use Rattle.regex_parser.proofs.ecmascript_group_name_reader.read_group_name.Given as goal

abbrev pub invariant-loop-start : goal.invariant-loop-start
invariant-loop-start l = record {
  moves : length l.reader.rest.now ≤ length l.fn.reader.rest.now;
  so_far : NameSoFar l.fn.reader.rest.now (string_bytes l.name) l.reader.rest.now;
}

abbrev pub decreases-loop-start : goal.decreases-loop-start
decreases-loop-start l = length l.reader.rest.now
