use Rattle.std.proofs.Common.{◌≡◌, length, take}
use Rattle.regress_backtrack.proofs.LogCompactionLemmas.{Compacts}
use Rattle.regress_backtrack.proofs.state.compact_changes.Given as goal

-- The changes before `l.index` are compacted, and the log's vector is as long as before.
abbrev pub invariant-loop-index : goal.invariant-loop-index
invariant-loop-index l =
    Compacts l.from l.initial.slots.items (take l.log_len l.initial.log.items) l.slots.items l.kept l.index l.log.items × (length l.log.items ≡ length l.initial.log.items)
