use Rattle.regress_memo.proofs.ContentsWithMemoLemmas.{silent-covered}
use Rattle.regress_memo.proofs.contents_laws.silent_lookarounds_are_covered.Goals as goal

pub returns : goal.returns
returns c = silent-covered
