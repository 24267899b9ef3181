use Rattle.std.proofs.Common.{◌≡◌, ◌∙◌, sym, true}
use Rattle.std.specs.Prelude.{not}
use Rattle.regex_pattern_front.specs.AstToSpecTree.{spec_node_of}
use Rattle.regress_program.specs.LeafNodesAndOptimizableLoops.{becomes_char_loop}
use Rattle.regress_program.proofs.CharLoopNodeLemmas.{optimized-same}
use Rattle.regress_program.proofs.TreeWalkLemmas.{every-passes}
use Rattle.regress_program.proofs.emit.node_detectors.has_no_loop_left_to_optimize.Goals as goal

pub returns : goal.returns
returns c = λ went.
    let root = spec_node_of c.args.node.now in
    optimized-same root (sym (every-passes (λ it n. not (becomes_char_loop n)) root _ c.walk.result c.walk.ensures.goes_on) ∙ went)
