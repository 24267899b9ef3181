use Rattle.regex_meaning.proofs.NeededStepsLemmas.{needs-unfold}
use Rattle.regex_meaning.proofs.needed_steps_unfold_match_by_match.Goals as goal

pub returns : goal.returns
returns c = needs-unfold
