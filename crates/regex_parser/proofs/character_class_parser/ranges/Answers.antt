use Rattle.std.proofs.Common.{◌++◌, ◌∷◌, [], ◌∙◌, ap, refl, arith, ℕ}
use Rattle.std.proofs.lemmas.Bool.{ne_eqb}
use Rattle.regex_pattern_front.specs.AstToSpecTree.{spec_flags_of}
use Rattle.regex_parser.proofs.ClassReaderLemmas.{ranges-begin, ranges-next, ranges-end, ranges-none, adds-none, adds-more, set-of_members, member-nothing, err-ranges}
use Rattle.regex_parser.proofs.character_class_parser.ranges.Goals as goal

pub loop-c-init : goal.loop-c-init
loop-c-init c = (omega arith, ([], ranges-begin _, rw c.new-intervals.ensures.items (adds-none (spec_flags_of c.args.flags) [])))

pub returns-then-c-clause-text : goal.returns-then-c-clause-text
returns-then-c-clause-text c =
    let i = c.loop-c.invariant.1 in
    (i.0, ranges-end i.1 (c.in-Some.ensures.text ∙ ap (λ (x : ℕ). x ∷ c.next.new.self.rest.now) c.if-c.true), set-of_members (spec_flags_of c.args.flags) _ i.0 _ i.2 c.in_ok-into_case_closed_set.ensures)

pub loop-c-preserved : goal.loop-c-preserved
loop-c-preserved c =
    let i = c.loop-c.invariant.1 in
    let m = c.in_ok-read_member.ensures.text in (
      omega arith,
      (i.0 ++ m.0, ranges-next (rw c.in-Some.ensures.text at i.1) m.1, adds-more (spec_flags_of c.args.flags) [] c.loop-c.intervals.items c.read_member.new.intervals.items i.0 m.0 i.2 m.2),
    )

pub returns-in_err-read_member-clause-text : goal.returns-in_err-read_member-clause-text
returns-in_err-read_member-clause-text c =
    let i = c.loop-c.invariant.1 in
    err-ranges _ c.from_residual-in_err-read_member.result _ c.from_residual-in_err-read_member.ensures.1 (λ x h. h)
    (λ r. ranges-none (rw c.in-Some.ensures.text at i.1) (ne_eqb c.in-Some.c 93 c.if-c.false) (c.in_err-read_member.ensures.text r))

pub returns-clause-text : goal.returns-clause-text
returns-clause-text c =
    let i = c.loop-c.invariant.1 in
    λ r. ranges-none (rw c.in_default.ensures.text.0 at i.1) refl (member-nothing refl)
