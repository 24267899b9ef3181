use Rattle.regex_pattern_front.proofs.IterativeDropLemmas.{begun-less}
use Rattle.regex_pattern_front.proofs.ir.continue_drop_with_rest.Goals as goal

pub returns-in-Some : goal.returns-in-Some
returns-in-Some c node = rw c.in-Some.is (begun-less c.in-Some.node node)
