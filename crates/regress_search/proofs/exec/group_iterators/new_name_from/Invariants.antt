use Rattle.std.proofs.Common.{◌≡◌, map, string_bytes}
use Rattle.regress_search.specs.GroupIterators.{distinct_names_from}
use Rattle.regress_search.proofs.exec.group_iterators.new_name_from.Given as goal

-- no name between was new
abbrev pub invariant-loop-id : goal.invariant-loop-id
invariant-loop-id l = distinct_names_from (map string_bytes l.names) l.from ≡ distinct_names_from (map string_bytes l.names) l.id
