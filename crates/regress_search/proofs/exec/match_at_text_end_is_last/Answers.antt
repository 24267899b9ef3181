use Rattle.regress_search.proofs.RemainingAnswerLemmas.{last-ends}
use Rattle.regress_search.proofs.exec.match_at_text_end_is_last.Goals as goal

pub returns : goal.returns
returns c = last-ends
