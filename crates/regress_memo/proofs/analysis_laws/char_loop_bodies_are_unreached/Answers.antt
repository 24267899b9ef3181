use Rattle.regress_memo.proofs.UnreachedLoopBodyLemmas.{bodies-apart}
use Rattle.regress_memo.proofs.analysis_laws.char_loop_bodies_are_unreached.Goals as goal

pub returns : goal.returns
returns c = bodies-apart
