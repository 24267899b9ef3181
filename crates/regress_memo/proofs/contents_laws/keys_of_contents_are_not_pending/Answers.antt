use Rattle.regress_memo.proofs.ContentsApartLemmas.{keys-apart}
use Rattle.regress_memo.proofs.contents_laws.keys_of_contents_are_not_pending.Goals as goal

pub returns : goal.returns
returns c = keys-apart
