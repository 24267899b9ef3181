use Rattle.regress_memo.proofs.ContentsApartLemmas.{steps-stay}
use Rattle.regress_memo.proofs.contents_laws.steps_stay_on_side.Goals as goal

pub returns : goal.returns
returns c = steps-stay
