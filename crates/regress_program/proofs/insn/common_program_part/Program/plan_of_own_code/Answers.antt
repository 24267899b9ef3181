use Rattle.std.proofs.Common.{List, length, ap, arith}
use Rattle.std.proofs.lemmas.List.{length-map}
use Rattle.regex_meaning.specs.CompilationRelation.{Insn}
use Rattle.regex_pattern_front.specs.AstToSpecTree.{tree_of}
use Rattle.regress_program.specs.InsnsAsSpec.{insn_as_spec_insn}
use Rattle.regress_program.proofs.CompiledTreeLemmas.{compiled-length}
use Rattle.regress_program.proofs.insn.common_program_part.Program.plan_of_own_code.Goals as goal

pub new-requires : goal.new-requires
new-requires c =
    let long = ap (λ (l : List Insn). length l) c.insns.ensures.code in
    omega (arith, c.requires, long, length-map c.insns.result.now insn_as_spec_insn, compiled-length (tree_of c.args.self.now))
