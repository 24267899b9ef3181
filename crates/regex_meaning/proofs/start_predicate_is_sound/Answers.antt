use Rattle.regex_meaning.proofs.StartPredicateSoundness.{predicate-sound}
use Rattle.regex_meaning.proofs.start_predicate_is_sound.Goals as goal

pub returns : goal.returns
returns c tree w = predicate-sound tree w
