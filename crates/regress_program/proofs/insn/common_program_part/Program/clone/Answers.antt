use Rattle.std.proofs.Common.{◌∙◌, sym, subst}
use Rattle.regex_pattern_front.specs.AstToSpecTree.{tree_of}
use Rattle.regress_program.specs.ProgramFieldsMatchTree.{IsCodeOfTree}
use Rattle.regress_program.proofs.insn.common_program_part.Program.clone.Goals as goal

pub invariant_of-result : goal.invariant_of-result
invariant_of-result c =
    let held = c.self.invariant in
    let tree = c.of.ensures in
    record {
      code = rw tree (subst (IsCodeOfTree _) (sym c.in_ok-clone.ensures.cases) held.code);
      groups = rw tree held.groups;
      flags = rw tree held.flags;
      group_names = rw tree (c.in_ok-clone-2.ensures ∙ held.group_names);
      well_formed = rw tree held.well_formed;
    }
