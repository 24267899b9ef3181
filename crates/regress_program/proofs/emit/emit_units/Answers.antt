use Rattle.std.proofs.Common.{sym, ◌∙◌}
use Rattle.std.specs.Arc.{arc_value}
use Rattle.regex_pattern_front.specs.AstToSpecTree.{tree_of}
use Rattle.regress_program.proofs.CompiledTreeLemmas.{compiled-is_code}
use Rattle.regress_program.proofs.TreeToRunLemmas.{run-fits}
use Rattle.regress_program.proofs.emit.emit_units.Goals as goal

pub unit_plan_of-requires : goal.unit_plan_of-requires
unit_plan_of-requires c = run-fits (tree_of c.args.re.now) (arc_value c.in_ok-code.code) c.in_ok-code.ensures c.in_ok-program.ensures.fits.insns

pub returns-clause-code : goal.returns-clause-code
returns-clause-code c = record {
  code = (compiled-is_code (tree_of c.args.re.now) c.in_ok-program.ensures.fits.well_formed).code;
  no_bytes = sym c.tree_contains_byte_nodes.ensures ∙ c.in_ok-program.ensures.no_bytes;
}
