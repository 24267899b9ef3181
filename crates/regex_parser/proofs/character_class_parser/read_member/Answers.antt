use Rattle.std.proofs.Common.{[], ◌∷◌, ◌≤◌, arith}
use Rattle.regex_meaning.specs.CharacterClasses.{character, range, alone, from_to, no_range}
use Rattle.regex_parser.specs.ClassReaderContracts.{class_member_of_atom}
use Rattle.regex_pattern_front.specs.AstToSpecTree.{spec_flags_of}
use Rattle.regex_parser.proofs.ClassReaderLemmas.{member-no_end, member-not_in_order, adds-range, adds-more, err-member}
use Rattle.regex_parser.proofs.character_class_parser.read_member.Goals as goal

pub returns-in_err-second-clause-text : goal.returns-in_err-second-clause-text
returns-in_err-second-clause-text c =
    let t = c.in_err-second.ensures.text in
    err-member _ _ _ c.from_residual-in_err-second.result c.from_residual-in_err-second.ensures.0 (member-no_end c.in_ok-first.ensures.text t.1 t.2 t.3)

pub returns-in_default-clause-text : goal.returns-in_default-clause-text
returns-in_default-clause-text c = (
  class_member_of_atom c.in_ok-first.first ∷ [],
  alone c.in_ok-first.ensures.text (rw c.in_default.is at c.in_ok-second.ensures.text),
  c.in_ok-add_class_atom.ensures,
)

pub returns-then-last-first-clause-text : goal.returns-then-last-first-clause-text
returns-then-last-first-clause-text c =
    let t = rw c.in-Some.is at c.in_ok-second.ensures.text in
    λ r. member-not_in_order (rw c.in-Some-range_ends_of_atoms.ensures.0 at c.in_ok-first.ensures.text) t.1 (rw c.in-Some-range_ends_of_atoms.ensures.1 at t.2) c.if-last-first.true

pub returns-in-Some-range_ends_of_atoms-clause-text : goal.returns-in-Some-range_ends_of_atoms-clause-text
returns-in-Some-range_ends_of_atoms-clause-text c =
    let t = rw c.in-Some.is at c.in_ok-second.ensures.text in
    let in_order : c.in-Some-range_ends_of_atoms.first ≤ c.in-Some-range_ends_of_atoms.last = omega arith in (
      range c.in-Some-range_ends_of_atoms.first c.in-Some-range_ends_of_atoms.last ∷ [],
      from_to (rw c.in-Some-range_ends_of_atoms.ensures.0 at c.in_ok-first.ensures.text) t.1 (rw c.in-Some-range_ends_of_atoms.ensures.1 at t.2) in_order,
      rw c.in_ok-push.ensures.items (adds-range (spec_flags_of c.args.flags) c.args.intervals.now.items _ _),
    )

pub returns-clause-text : goal.returns-clause-text
returns-clause-text c =
    let t = rw c.in-Some.is at c.in_ok-second.ensures.text in (
      class_member_of_atom c.in_ok-first.first ∷ character 45 ∷ class_member_of_atom c.in-Some.second ∷ [],
      no_range c.in_ok-first.ensures.text t.1 t.2 c.in_default-range_ends_of_atoms.ensures,
      adds-more (spec_flags_of c.args.flags) _ _ _ (class_member_of_atom c.in_ok-first.first ∷ []) (character 45 ∷ class_member_of_atom c.in-Some.second ∷ []) c.in_ok-add_class_atom-2.ensures
          (adds-more (spec_flags_of c.args.flags) _ _ _ (character 45 ∷ []) (class_member_of_atom c.in-Some.second ∷ []) c.in_ok-add_class_atom-3.ensures c.in_ok-add_class_atom-4.ensures),
    )
