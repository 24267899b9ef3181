use Rattle.std.proofs.Common.{[], ◌∷◌}
use Rattle.regex_meaning.specs.EcmaClasses.{character, alone}
use Rattle.regex_parser.specs.EcmaClassContracts.{member_of_atom}
use Rattle.regex_pattern_front.specs.AstToSpecTree.{spec_flags_of}
use Rattle.regex_parser.proofs.EcmaClassLemmas.{member-no_end, member-range, member-apart, member-wrong, err-member}
use Rattle.regex_parser.proofs.ecmascript_classes.ClassReader.read_member.Goals as goal

pub returns-in_err-second-clause-text : goal.returns-in_err-second-clause-text
returns-in_err-second-clause-text c =
    err-member _ _ _ c.from_residual-in_err-second.result _ c.from_residual-in_err-second.ensures.1 (λ x h. h)
    (λ r. let t = c.in_err-second.ensures.text r in member-no_end c.in_ok-first.ensures.text t.1 t.2 t.3)

pub returns-in_default-clause-text : goal.returns-in_default-clause-text
returns-in_default-clause-text c = (
  member_of_atom (spec_flags_of c.args.self.flags) c.in_ok-first.first ∷ [],
  alone c.in_ok-first.ensures.text (rw c.in_default.is at c.in_ok-second.ensures.text),
  c.in_ok-add_atom.ensures,
)

pub returns-in_ok-push-in-Ok-Some-clause-text : goal.returns-in_ok-push-in-Ok-Some-clause-text
returns-in_ok-push-in-Ok-Some-clause-text c =
    let t = rw c.in-Some.is at c.in_ok-second.ensures.text in
    rw (c.in_ok-push-in-Ok-Some.ensures.items, c.in-Ok-Some.range-is)
    (member-range c.in_ok-first.first c.in-Some.second c.in-Ok-Some.range c.args.intervals.now.items c.in_ok-first.ensures.text t.1 t.2 (rw c.in-Ok-Some.field-0-is at c.in-Ok-Some.ensures))

pub returns-in_ok-add_atoms_and_dash-in-Ok-None-clause-text : goal.returns-in_ok-add_atoms_and_dash-in-Ok-None-clause-text
returns-in_ok-add_atoms_and_dash-in-Ok-None-clause-text c =
    let t = rw c.in-Some.is at c.in_ok-second.ensures.text in
    let f = spec_flags_of c.args.self.flags in (
      member_of_atom f c.in_ok-first.first ∷ character 45 ∷ member_of_atom f c.in-Some.second ∷ [],
      member-apart c.in_ok-first.first c.in-Some.second c.in_ok-first.ensures.text t.1 t.2 (rw c.in-Ok-None.field-0-is at c.in-Ok-None.ensures),
      c.in_ok-add_atoms_and_dash-in-Ok-None.ensures,
    )

pub returns-in-Err-clause-text : goal.returns-in-Err-clause-text
returns-in-Err-clause-text c =
    let t = rw c.in-Some.is at c.in_ok-second.ensures.text in
    λ r. member-wrong c.in_ok-first.first c.in-Some.second c.in-Err.cause c.in_ok-first.ensures.text t.1 t.2 c.in-Err.ensures
