use Rattle.std.specs.Prelude.{false, true}
use Rattle.regress_backtrack.specs.State.{with_group_open}
use Rattle.regress_backtrack.specs.declared.state.GroupOrLoopState.{GroupOrLoopState}
use Rattle.regress_backtrack.proofs.SlotChangeLemmas.{ok-more, becomes, opens}
use Rattle.regress_backtrack.proofs.state.BacktrackState.open_group.Goals as goal

pub returns-clause-opened : goal.returns-clause-opened
returns-clause-opened c =
    let h = c.args.self.now in
    let opened : GroupOrLoopState = record { at = c.args.at; from = 0; to = 0; noted = 0; has_range = false; is_set = true } in
    ok-more c.set.result (becomes (with_group_open c.args.id c.args.at) c.args.id opened h c.set.new.self (λ ip pos. opens h.groups h.slots ip pos c.args.id c.requires opened)) c.set.ensures.set
