use Rattle.regress_memo.proofs.ContentsWithMemoLemmas.{parts-covered}
use Rattle.regress_memo.proofs.contents_laws.parts_of_searches_are_covered.Goals as goal

pub returns : goal.returns
returns c = parts-covered
