use Rattle.regex_meaning.proofs.OutcomeTicksLemmas.{pairs-ticked}
use Rattle.regex_meaning.proofs.counting_ticks_keeps_outcomes.Goals as goal

pub returns : goal.returns
returns c = pairs-ticked
