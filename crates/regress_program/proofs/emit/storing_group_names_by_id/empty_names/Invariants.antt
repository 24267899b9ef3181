use Rattle.std.proofs.Common.{◌≡◌, map, replicate, [], string_bytes}
use Rattle.regress_program.proofs.emit.storing_group_names_by_id.empty_names.Given as goal

abbrev pub invariant-loop : goal.invariant-loop
invariant-loop l = map string_bytes l.names.items ≡ replicate l.counter []
