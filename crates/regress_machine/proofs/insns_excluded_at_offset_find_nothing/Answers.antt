use Rattle.regress_machine.proofs.FailingInsnLemmas.{closed-nothing}
use Rattle.regress_machine.proofs.insns_excluded_at_offset_find_nothing.Goals as goal

pub returns : goal.returns
returns c = closed-nothing
