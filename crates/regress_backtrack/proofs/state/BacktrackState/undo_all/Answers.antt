use Rattle.std.proofs.Common.{ap, ◌∙◌, length, drop}
use Rattle.regress_backtrack.proofs.LogicalSlotLemmas.{length-undone}
use Rattle.regress_backtrack.proofs.state.BacktrackState.undo_all.Goals as goal

pub returns-else-self-len-clause-slots : goal.returns-else-self-len-clause-slots
returns-else-self-len-clause-slots c =
    let h = c.args.self.now in
    ap length c.undo_to.ensures.slots ∙ length-undone h.slots (drop 0 h.log)
