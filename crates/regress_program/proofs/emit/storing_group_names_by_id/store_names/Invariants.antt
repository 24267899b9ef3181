use Rattle.std.proofs.Common.{◌≡◌, length, map, string_bytes}
use Rattle.regex_meaning.specs.MatchGroupsByNumberAndName.{capturing_group_ids_and_names}
use Rattle.regex_pattern_front.specs.AstToSpecTree.{spec_node_of}
use Rattle.regress_program.specs.StoringGroupNamesById.{with_names_stored_by_id, pending_names_stored, total_naming_measure}
use Rattle.regress_program.proofs.emit.storing_group_names_by_id.store_names.Given as goal

abbrev pub invariant-loop-next : goal.invariant-loop-next
invariant-loop-next l = record {
  long : length l.names ≡ length l.fn.names;
  with_names_stored_by_id : pending_names_stored l.rest.items (map string_bytes l.names) ≡ with_names_stored_by_id (capturing_group_ids_and_names (spec_node_of l.fn.root)) (map string_bytes l.fn.names);
}

abbrev pub decreases-loop-next : goal.decreases-loop-next
decreases-loop-next l = total_naming_measure l.rest.items
