use Rattle.std.proofs.Common.{◌≡◌, ◌≤◌, length}
use Rattle.std.specs.Prelude.{string_bytes}
use Rattle.regex_parser.proofs.GroupNameLemmas.{NameSoFar, is_none}
use Rattle.regex_parser.proofs.escapes_and_group_names.name.Given as goal

abbrev pub invariant-loop-c : goal.invariant-loop-c
invariant-loop-c l = record {
  moves : length l.reader.rest.now ≤ length l.fn.reader.rest.now;
  so_far : NameSoFar l.fn.reader.rest.now (string_bytes l.name) l.reader.rest.now;
  first : l.is_first ≡ is_none (string_bytes l.name);
}

abbrev pub decreases-loop-c : goal.decreases-loop-c
decreases-loop-c l = length l.reader.rest.now
