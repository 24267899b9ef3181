use Rattle.regress_memo.proofs.MemoSearchSoundnessLemmas.{rows-rest}
use Rattle.regress_memo.proofs.searches_stay_sound.Goals as goal

pub returns : goal.returns
returns c = rows-rest
