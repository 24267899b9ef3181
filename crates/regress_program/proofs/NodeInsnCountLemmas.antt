-- The walk over a tree counts its groups, loops and instructions, saturating at 2^64 - 1.
use Rattle.std.proofs.Common.{◌≡◌, ◌+◌, ◌-◌, ◌^◌, min, length, arith, length-append}
use Rattle.regex_meaning.specs.Tree.{Node, cat, alt, capture_group, lookaround, loop, loop_1_char_body, group_ids}
use Rattle.regress_program.specs.CompilationOfTreesAsFunction.{node_insn_count, loop_count}
use Rattle.regress_program.specs.GroupLoopInsnCountsPerNode.{count_node}
use Rattle.regress_program.specs.declared.emit.program_size.ProgramSize.{ProgramSize}
use Rattle.regress_program.proofs.TreeWalkLemmas.{all_along}

-- The groups, loops and instructions of the node and its descendants are added to the counts.
pub record IsTallied (root : Node) (before after : ProgramSize) : Type 0 where
  pub groups : min after.groups (2 ^ 64 - 1) ≡ min (before.groups + length (group_ids root)) (2 ^ 64 - 1)
  pub loops : min after.loops (2 ^ 64 - 1) ≡ min (before.loops + loop_count root) (2 ^ 64 - 1)
  pub insns : min after.insns (2 ^ 64 - 1) ≡ min (before.insns + node_insn_count root) (2 ^ 64 - 1)

pub tallied : (root : Node) (it : ProgramSize) → IsTallied root it (all_along count_node root it)
unfolding node_insn_count loop_count
tallied (cat first rest) it =
    let a = tallied first it in
    let b = tallied rest (all_along count_node first it) in
    record {
      groups = omega (arith, a.groups, b.groups, length-append (group_ids first) (group_ids rest));
      loops = omega (arith, a.loops, b.loops);
      insns = omega (arith, a.insns, b.insns);
    }
tallied (alt left right) it =
    let a = tallied left (count_node (alt left right) it) in
    let b = tallied right (all_along count_node left (count_node (alt left right) it)) in
    record {
      groups = omega (arith, a.groups, b.groups, length-append (group_ids left) (group_ids right));
      loops = omega (arith, a.loops, b.loops);
      insns = omega (arith, a.insns, b.insns);
    }
tallied (capture_group id name contents) it =
    let a = tallied contents (count_node (capture_group id name contents) it) in
    record { groups = omega (arith, a.groups); loops = omega (arith, a.loops); insns = omega (arith, a.insns) }
tallied (lookaround l contents) it =
    let a = tallied contents (count_node (lookaround l contents) it) in
    record { groups = omega (arith, a.groups); loops = omega (arith, a.loops); insns = omega (arith, a.insns) }
tallied (loop q start_group end_group loopee) it =
    let a = tallied loopee (count_node (loop q start_group end_group loopee) it) in
    record { groups = omega (arith, a.groups); loops = omega (arith, a.loops); insns = omega (arith, a.insns) }
tallied (loop_1_char_body q loopee) it =
    let a = tallied loopee (count_node (loop_1_char_body q loopee) it) in
    record { groups = omega (arith, a.groups); loops = omega (arith, a.loops); insns = omega (arith, a.insns) }
tallied _ it = record { groups = omega arith; loops = omega arith; insns = omega arith }
