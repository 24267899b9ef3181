use Rattle.std.proofs.Common.{map, string_bytes}
use Rattle.std.proofs.lemmas.Result.{IfOk-weaker}
use Rattle.regress_program.specs.StoringGroupNamesById.{naming_measure_of_part, names_in_pending_part}
use Rattle.regress_program.proofs.emit.storing_group_names_by_id.store_pending.Goals as goal

pub returns-in-Node-clause-with_names_stored_by_id : goal.returns-in-Node-clause-with_names_stored_by_id
unfolding names_in_pending_part naming_measure_of_part
returns-in-Node-clause-with_names_stored_by_id c = rw c.in-Node.is c.store_node_names.ensures.with_names_stored_by_id

pub returns-in-Row-clause-with_names_stored_by_id : goal.returns-in-Row-clause-with_names_stored_by_id
unfolding names_in_pending_part naming_measure_of_part
returns-in-Row-clause-with_names_stored_by_id c =
    rw c.in-Row.is (IfOk-weaker c.defer_node_list.result _ _ (λ _ d. d (map string_bytes c.args.names.now)) c.defer_node_list.ensures)
