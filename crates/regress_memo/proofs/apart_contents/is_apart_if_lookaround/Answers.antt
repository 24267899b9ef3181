use Rattle.std.proofs.Common.{ap, sym, subst, ◌∙◌, slice_get}
use Rattle.regress_memo.specs.ContentsApart.{IsApartIfLookaround}
use Rattle.regress_memo.specs.Successors.{successors_of_insn_if_any}
use Rattle.regress_memo.proofs.apart_contents.is_apart_if_lookaround.Goals as goal

pub returns-in-LookaroundSuccessor : goal.returns-in-LookaroundSuccessor
returns-in-LookaroundSuccessor c = λ yes program has.
    subst (λ s. IsApartIfLookaround program s c.args.ip) (c.in-LookaroundSuccessor.ensures ∙ sym (ap (λ xs. successors_of_insn_if_any c.args.ip (slice_get xs c.args.ip)) has))
    (c.is_apart.ensures yes program has)
