use Rattle.regress_memo.proofs.SearchDirectionLemmas.{ways-stay}
use Rattle.regress_memo.proofs.analysis_laws.directions_are_kept.Goals as goal

pub returns : goal.returns
returns c = ways-stay
