use Rattle.std.proofs.Common.{ap, refl}
use Rattle.regex_pattern_front.specs.AstToSpecTree.{tree_of}
use Rattle.regress_match.proofs.WorkBoundLemmas.{bound-came, bytes-unbounded, plain-came, units-unbounded}
use Rattle.regress_match.proofs.api.regex.Regex.bounded.Goals as goal

pub returns-clause-enough : goal.returns-clause-enough
returns-clause-enough c = (
  c.in_ok-bytes.bytes,
  c.in_ok-units.units,
  record {
    bound_for_bytes = bound-came tree_of _ _ c.in_ok-bytes.bytes c.in_ok-bytes.ensures.bound c.byte_program.ensures;
    bound_for_units = bound-came tree_of _ _ c.in_ok-units.units c.in_ok-units.ensures.bound c.unit_program.ensures;
  },
  refl,
)

pub returns-clause-plain : goal.returns-clause-plain
returns-clause-plain c = record {
  units = plain-came tree_of _ _ c.in_ok-units.ensures.plain c.unit_program.ensures;
  bytes = plain-came tree_of _ _ c.in_ok-bytes.ensures.plain c.byte_program.ensures;
}

pub returns-in_err-units-clause-refused : goal.returns-in_err-units-clause-refused
returns-in_err-units-clause-refused c =
    units-unbounded c.args.self.now c.from_residual.result _ c.from_residual.ensures.1 _ (ap tree_of c.unit_program.ensures) c.in_err-units.ensures.refused

pub returns-in_err-bytes-clause-refused : goal.returns-in_err-bytes-clause-refused
returns-in_err-bytes-clause-refused c =
    bytes-unbounded c.args.self.now c.from_residual-in_err-bytes.result _ c.from_residual-in_err-bytes.ensures.1 _ (ap tree_of c.byte_program.ensures)
    (plain-came tree_of _ _ c.in_ok-units.ensures.plain c.unit_program.ensures) c.in_err-bytes.ensures.refused
