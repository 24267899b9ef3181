use Rattle.std.specs.Prelude.{not}
use Rattle.regex_meaning.specs.CompilationRelation.{is_byte_node}
use Rattle.regex_pattern_front.specs.AstToSpecTree.{spec_node_of}
use Rattle.regress_program.proofs.TreeWalkLemmas.{every-passes, none-passes}
use Rattle.regress_program.proofs.emit.node_detectors.tree_contains_byte_nodes.Goals as goal

pub returns : goal.returns
returns c =
    let root = spec_node_of c.args.node.now in
    none-passes is_byte_node root c.walk.result (every-passes (λ it n. not (is_byte_node n)) root _ c.walk.result c.walk.ensures.goes_on)
