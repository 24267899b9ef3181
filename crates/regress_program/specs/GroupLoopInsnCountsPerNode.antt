-- What a node adds to the size of a program: groups, loops and instructions.
use Rattle.std.specs.Prelude.{ℕ, ◌+◌, ◌-◌, ◌^◌, min}
use Rattle.regex_meaning.specs.Tree.{Node, cat, end_of_cat, capture_group, loop}
use Rattle.regress_program.specs.CompilationOfTreesAsFunction.{insn_count_without_children}
use Rattle.regress_program.specs.declared.emit.program_size.ProgramSize.{ProgramSize}

-- A sum that saturates at 2^64 - 1.
abbrev pub saturating_sum : (count more : ℕ) → ℕ
saturating_sum count more = min (count + more) (2 ^ 64 - 1)

-- The counts after the node itself, without its children, was added.
abbrev pub count_node : Node → ProgramSize → ProgramSize
count_node (cat first rest) it = it
count_node end_of_cat it = it
count_node (capture_group id name contents) it =
    record {
      groups = saturating_sum it.groups 1;
      loops = it.loops;
      insns = saturating_sum it.insns
          (insn_count_without_children (capture_group id name contents));
    }
count_node (loop q start_group end_group loopee) it =
    record {
      groups = it.groups;
      loops = saturating_sum it.loops 1;
      insns = saturating_sum it.insns
          (insn_count_without_children (loop q start_group end_group loopee));
    }
count_node n it =
    record { groups = it.groups; loops = it.loops; insns = saturating_sum it.insns (insn_count_without_children n) }
