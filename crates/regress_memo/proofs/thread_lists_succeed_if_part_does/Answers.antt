use Rattle.regress_memo.proofs.ThreadListSuccessLemmas.{ends-reached}
use Rattle.regress_memo.proofs.thread_lists_succeed_if_part_does.Goals as goal

pub returns : goal.returns
returns c = ends-reached
