use Rattle.regress_c.proofs.FlagLetters.{AreFlags-IsUtf8}
use Rattle.regress_c.proofs.flags.flags_from.Goals as goal

pub returns-in-Err : goal.returns-in-Err
returns-in-Err c = λ all. c.in-Err.ensures.cases.0 (AreFlags-IsUtf8 c.args.letters.now all)
