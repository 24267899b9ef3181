use Rattle.std.proofs.Common.{◌≡◌, sym, ap, ◌∙◌, ◌<◌, ◌≤◌, ◌^◌, subst, true, arith, length}
use Rattle.std.specs.Arc.{arc_value}
use Rattle.regex_pattern_front.specs.AstToSpecTree.{tree_of}
use Rattle.regress_program.specs.CompilationOfTreesAsFunction.{node_insn_count}
use Rattle.regress_program.proofs.CompiledTreeLemmas.{compiled-is_code}
use Rattle.regress_program.proofs.TreeToRunLemmas.{run-fits, size-tree_to_compile, well_formed-planned}
use Rattle.regress_program.proofs.emit.emit_both.Goals as goal

pub unit_plan_of-requires : goal.unit_plan_of-requires
unit_plan_of-requires c =
    subst (λ code. length code.insns.items < 2 ^ 32) (sym c.in_ok-clone.ensures.cases)
    (run-fits (tree_of c.args.re) (arc_value c.in_ok-code.code) c.in_ok-code.ensures c.in_ok-program.ensures.fits.insns)

pub byte_program_of-requires-clause-fits : goal.byte_program_of-requires-clause-fits
byte_program_of-requires-clause-fits c =
    omega (arith, size-tree_to_compile (tree_of c.args.re), c.in_ok-program.ensures.fits.insns, ap (λ t. node_insn_count t.root) c.tree_to_compile-tree.ensures)

pub returns-clause-unit_code : goal.returns-clause-unit_code
returns-clause-unit_code c = record {
  code = (compiled-is_code (tree_of c.args.re) c.in_ok-program.ensures.fits.well_formed).code;
  no_bytes = sym c.tree_contains_byte_nodes.ensures ∙ c.in_ok-program.ensures.no_bytes;
}

pub returns-clause-byte_code : goal.returns-clause-byte_code
returns-clause-byte_code c = compiled-is_code _ (well_formed-planned true (tree_of c.args.re) c.in_ok-program.ensures.fits.well_formed)
