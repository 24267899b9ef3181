use Rattle.regress_memo.proofs.ContentsWithMemoLemmas.{looks-covered}
use Rattle.regress_memo.proofs.contents_laws.lookarounds_that_record_are_covered.Goals as goal

pub returns : goal.returns
returns c = looks-covered
