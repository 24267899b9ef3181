use Rattle.regex_meaning.proofs.EcmaClassEscapeSets.{classes-are-closed}
use Rattle.regex_meaning.proofs.ecmascript_classes_are_closed.Goals as goal

pub returns : goal.returns
returns c = classes-are-closed
