use Rattle.regress_memo.proofs.GroupPreservingInsnLemmas.{groups-stay}
use Rattle.regress_memo.proofs.insns_keep_groups_to_end.Goals as goal

pub returns : goal.returns
returns c = groups-stay
