use Rattle.std.proofs.Common.{refl, sym}
use Rattle.regress_pikevm.specs.States.{machine_state_of}
use Rattle.regress_bounded.proofs.memo_and_work_budget.MemoAndWorkBudget.key_at.Goals as goal

pub returns-clause-key : goal.returns-clause-key
returns-clause-key g c =
    let offset = g.P.PositionType.offset in
    c.key_at.ensures.key (record (machine_state_of offset c.args.state.now) { ip = c.args.ip; pos = offset c.args.at }) refl (sym c.to_offset.ensures) refl
