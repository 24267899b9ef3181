use Rattle.regex_pattern_front.specs.AstToSpecTree.{spec_node_of}
use Rattle.regress_program.specs.GroupIdCheck.{is_well_formed_node}
use Rattle.regress_program.proofs.TreeWalkLemmas.{every-passes}
use Rattle.regress_program.proofs.emit.well_formedness_check.has_well_formed_nodes.Goals as goal

pub returns : goal.returns
returns c = every-passes (λ it n. is_well_formed_node it.groups n) (spec_node_of c.args.node.now) _ c.walk.result c.walk.ensures.goes_on
