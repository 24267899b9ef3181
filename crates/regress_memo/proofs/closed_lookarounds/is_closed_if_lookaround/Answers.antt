use Rattle.std.proofs.Common.{ap, sym, subst, ◌∙◌, slice_get}
use Rattle.regress_memo.specs.ClosedLookarounds.{HasClosedContentsIfLookaround}
use Rattle.regress_memo.specs.Successors.{successors_of_insn_if_any}
use Rattle.regress_memo.proofs.closed_lookarounds.is_closed_if_lookaround.Goals as goal

pub returns-in-LookaroundSuccessor : goal.returns-in-LookaroundSuccessor
returns-in-LookaroundSuccessor c = λ yes program has.
    subst (λ s. HasClosedContentsIfLookaround program s c.args.ip) (c.in-LookaroundSuccessor.ensures ∙ sym (ap (λ xs. successors_of_insn_if_any c.args.ip (slice_get xs c.args.ip)) has))
    (c.are_contents_closed.ensures yes program has)
