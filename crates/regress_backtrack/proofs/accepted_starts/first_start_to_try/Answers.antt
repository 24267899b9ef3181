use Rattle.std.proofs.Common.{◌<◌, Some, None, ap, sym, refl, subst, ◌∙◌}
use Rattle.std.specs.Prelude.{IfSome, option_map, option_and_then}
use Rattle.regex_meaning.specs.Text.{rightwards}
use Rattle.regex_meaning.specs.CodeUnitOffsets.{IsBoundary, read}
use Rattle.regress_search.proofs.SkippedStartLemmas.{untried}
use Rattle.regress_search.specs.AttemptsAndStarts.{first_filtered_start}
use Rattle.regress_input.proofs.BoundaryPositions.{boundary_inside}
use Rattle.regress_program.specs.InsnsAsSpec.{start_predicate_as_spec}
use Rattle.regress_backtrack.proofs.LimitedStartLemmas.{and-then-mapped, fewer, is-first, reads-bytes, tried-here, tried-on}
use Rattle.regress_backtrack.proofs.accepted_starts.first_start_to_try.Goals as goal

pub places-init : goal.places-init
places-init g c = record {
  boundary = c.requires.at;
  same = λ tree e. refl;
}

pub admits_start-requires-clause-at : goal.admits_start-requires-clause-at
admits_start-requires-clause-at g c =
    let text = g.Input.InputIndexer.text c.args.input.now in
    subst (λ o. IfSome o (λ p. IsBoundary text (g.Input.Position.PositionType.offset p))) c.in-Some.is c.places.invariant.boundary

pub next_right_pos-next-requires : goal.next_right_pos-next-requires
next_right_pos-next-requires g c =
    let text = g.Input.InputIndexer.text c.args.input.now in
    subst (λ o. IfSome o (λ p. IsBoundary text (g.Input.Position.PositionType.offset p))) c.in-Some.is c.places.invariant.boundary

pub returns-then-admits_start : goal.returns-then-admits_start
returns-then-admits_start g c =
    let input = c.args.input.now in
    let text = g.Input.InputIndexer.text input in
    let is = g.met.Input.InputIndexer.is_text input in
    let reads = reads-bytes g.Input.Units.CodeUnitEncoding.encoding g.Input.Units.CodeUnitEncoding.ARE_BYTES text g.Input.Units.CodeUnitEncoding.by_encoding c.requires.bytes (g.met.Input.InputIndexer.characters input) (g.met.Input.InputIndexer.in_utf8 input) in
    let offset = g.Input.Position.PositionType.offset in
    let here = subst (λ o. IfSome o (λ p. IsBoundary text (offset p))) c.in-Some.is c.places.invariant.boundary in
    let s = start_predicate_as_spec c.args.start.now in
    is-first s text is reads.scalars (offset c.args.from) (Some (offset c.in-Some.at)) c.requires.at (λ tree e.
    sym (c.places.invariant.same tree e ∙ ap (option_and_then (λ p. first_filtered_start tree text (offset p))) c.in-Some.is
    ∙ tried-here tree text is s e (offset c.in-Some.at) here (sym c.admits_start.ensures ∙ c.if-admits_start.true)))

pub places-preserved : goal.places-preserved
places-preserved g c =
    let input = c.args.input.now in
    let text = g.Input.InputIndexer.text input in
    let is = g.met.Input.InputIndexer.is_text input in
    let offset = g.Input.Position.PositionType.offset in
    let here = subst (λ o. IfSome o (λ p. IsBoundary text (offset p))) c.in-Some.is c.places.invariant.boundary in
    let s = start_predicate_as_spec c.args.start.now in
    record {
      boundary = c.next_right_pos-next.ensures.boundary;
      same = λ tree e.
          c.places.invariant.same tree e ∙ ap (option_and_then (λ p. first_filtered_start tree text (offset p))) c.in-Some.is
          ∙ tried-on tree text is s e (offset c.in-Some.at) here (sym c.admits_start.ensures ∙ c.if-admits_start.false)
          ∙ sym (and-then-mapped (λ p. offset p) (λ r. r.1) (first_filtered_start tree text) c.next_right_pos-next.result (read text rightwards (offset c.in-Some.at)) c.next_right_pos-next.ensures.read);
    }

pub places-smaller : goal.places-smaller
places-smaller g c =
    let input = c.args.input.now in
    let text = g.Input.InputIndexer.text input in
    let offset = g.Input.Position.PositionType.offset in
    let here = subst (λ o. IfSome o (λ p. IsBoundary text (offset p))) c.in-Some.is c.places.invariant.boundary in
    let inside = boundary_inside text (g.met.Input.InputIndexer.is_text input) (offset c.in-Some.at) here in
    subst (λ o. untried text (option_map offset c.next_right_pos-next.result) < untried text (option_map offset o)) (sym c.in-Some.is)
    (fewer offset text (offset c.in-Some.at) c.next_right_pos-next.result inside c.next_right_pos-next.ensures.ahead c.next_right_pos-next.ensures.inside)

pub returns : goal.returns
returns g c =
    let input = c.args.input.now in
    let text = g.Input.InputIndexer.text input in
    let is = g.met.Input.InputIndexer.is_text input in
    let reads = reads-bytes g.Input.Units.CodeUnitEncoding.encoding g.Input.Units.CodeUnitEncoding.ARE_BYTES text g.Input.Units.CodeUnitEncoding.by_encoding c.requires.bytes (g.met.Input.InputIndexer.characters input) (g.met.Input.InputIndexer.in_utf8 input) in
    let offset = g.Input.Position.PositionType.offset in
    is-first (start_predicate_as_spec c.args.start.now) text is reads.scalars (offset c.args.from) None c.requires.at (λ tree e.
    sym (c.places.invariant.same tree e ∙ ap (option_and_then (λ p. first_filtered_start tree text (offset p))) c.in_default.is))
