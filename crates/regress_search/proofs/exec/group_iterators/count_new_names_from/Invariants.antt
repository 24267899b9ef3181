use Rattle.std.proofs.Common.{◌≡◌, ◌+◌, ◌≤◌, length, map, string_bytes}
use Rattle.regress_search.specs.GroupIterators.{distinct_names_from}
use Rattle.regress_search.proofs.exec.group_iterators.count_new_names_from.Given as goal

abbrev pub invariant-loop-id : goal.invariant-loop-id
invariant-loop-id l = record {
  fits : l.left ≤ l.id;
  counted : l.left + length (distinct_names_from (map string_bytes l.names) l.id) ≡ length (distinct_names_from (map string_bytes l.names) l.from);
}
