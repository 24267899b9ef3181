use Rattle.std.proofs.Common.{refl}
use Rattle.regex_pattern_front.specs.AstToSpecTree.{tree_of}
use Rattle.regress_program.specs.CompilationOfTreesAsFunction.{compiled}
use Rattle.regress_pikevm.proofs.ExecutorTurnLemmas.{initial-is}
use Rattle.regress_pikevm.proofs.pikevm.states.initial_state.Goals as goal

pub returns : goal.returns
returns g c =
    initial-is _ g.P.PositionType.offset (compiled (tree_of c.args.program.now))
    (record { ip = 0; pos = c.args.pos; groups = c.in_ok-copies.field-0; starts = c.in_ok-copies-2.field-0; loops = c.in_ok-copies-3.field-0 })
    c.groups-groups.result c.loops-loops.result refl c.in_ok-copies.ensures c.in_ok-copies-2.ensures c.in_ok-copies-3.ensures c.groups-groups.ensures c.loops-loops.ensures
