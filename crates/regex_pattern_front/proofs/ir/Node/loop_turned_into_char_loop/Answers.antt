use Rattle.regex_pattern_front.specs.AstToSpecTree.{spec_node_of}
use Rattle.regex_pattern_front.proofs.AstToSpecTreeLemmas.{narrowed-other}
use Rattle.regex_pattern_front.proofs.ir.Node.loop_turned_into_char_loop.Goals as goal

pub returns-in-Loop : goal.returns-in-Loop
unfolding spec_node_of
returns-in-Loop c = rw c.in-Loop.is

pub returns-in_default : goal.returns-in_default
returns-in_default c = narrowed-other c.args.self c.in_default.not-Loop
