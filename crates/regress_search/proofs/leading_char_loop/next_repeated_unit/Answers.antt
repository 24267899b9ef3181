use Rattle.std.proofs.Common.{◌≡◌, sym, subst, arith, le_refl}
use Rattle.std.proofs.lemmas.Bool.{cases_lt}
use mathlib.Core.Logic.{inl, inr}
use Rattle.regex_meaning.specs.CodeUnitOffsets.{IsBoundary}
use Rattle.regex_meaning.specs.Text.{last_place}
use Rattle.regex_meaning.proofs.CodeUnitOffsetsLemmas.{offset-IsBoundary}
use Rattle.regress_input.proofs.BoundaryPositions.{boundary_inside}
use Rattle.regress_search.specs.DeadThreads.{NextUnitDoesNotRepeatCharUnit}
use Rattle.regress_search.proofs.RepeatedChars.{unrepeated-last}
use Rattle.regress_search.proofs.leading_char_loop.next_repeated_unit.Goals as goal

pub units-init : goal.units-init
units-init g c =
    let text = (g.W.SearchContext.searching c.args.context.now).text in
    (omega arith, boundary_inside text (g.met.W.SearchContext.is_text c.args.context.now) c.args.from c.requires, λ x le less. absurd (omega (arith, le, less)))

pub units-preserved : goal.units-preserved
units-preserved g c =
    let w = g.W.SearchContext.searching c.args.context.now in
    let at = c.units.at in (
      omega (arith, c.units.invariant.0),
      omega (arith, c.units-test.true, c.text_end-end.ensures),
      λ x le less. elim (cases_lt x at) [
        | inl before ↦ c.units.invariant.2 x le before
        | inr here ↦ subst (NextUnitDoesNotRepeatCharUnit w) (let z : at ≡ x = omega (arith, here, less) in z) (c.is_char_unit_repeated_next.ensures.alone c.if-is_char_unit_repeated_next.false)
      ],
    )

pub returns-clause-at : goal.returns-clause-at
returns-clause-at g c =
    let w = g.W.SearchContext.searching c.args.context.now in
    subst (IsBoundary w.text) (sym c.text_end-end.ensures) (offset-IsBoundary w.text (last_place w.text) (g.met.W.SearchContext.is_text c.args.context.now) (le_refl (last_place w.text)))

pub returns-clause-alone : goal.returns-clause-alone
returns-clause-alone g c = λ x le less.
    let w = g.W.SearchContext.searching c.args.context.now in
    elim (cases_lt x c.units.at) [
      | inl before ↦ c.units.invariant.2 x le before
      | inr here ↦ unrepeated-last w (g.met.W.SearchContext.has_units c.args.context.now) x (omega (arith, here, less, c.units-test.false, c.text_end-end.ensures))
    ]
