use Rattle.regress_memo.proofs.ContentsWithMemoLemmas.{contents-come-on}
use Rattle.regress_memo.proofs.contents_laws.searches_of_contents_come_on.Goals as goal

pub returns : goal.returns
returns c = contents-come-on
