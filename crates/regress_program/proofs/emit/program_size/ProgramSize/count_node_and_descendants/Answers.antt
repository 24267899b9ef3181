use Rattle.std.proofs.Common.{sym, subst}
use Rattle.regex_pattern_front.specs.AstToSpecTree.{spec_node_of}
use Rattle.regress_program.specs.GroupLoopInsnCountsPerNode.{count_node}
use Rattle.regress_program.proofs.NodeInsnCountLemmas.{IsTallied, tallied}
use Rattle.regress_program.proofs.TreeWalkLemmas.{always-went}
use Rattle.regress_program.proofs.emit.program_size.ProgramSize.count_node_and_descendants.Goals as goal

pub returns : goal.returns
returns c =
    let root = spec_node_of c.args.node.now in
    let is = always-went count_node root c.args.self.now c.walk.new.visitor c.walk.result c.walk.ensures.goes_on c.walk.ensures.walked in
    let all = subst (IsTallied root c.args.self.now) (sym is) (tallied root c.args.self.now) in
    record { groups = all.groups; loops = all.loops; insns = all.insns }
