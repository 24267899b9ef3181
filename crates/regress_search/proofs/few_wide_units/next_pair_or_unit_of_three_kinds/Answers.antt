use Rattle.std.proofs.Common.{ℕ, ◌||◌, sym, subst, ◌∙◌}
use Rattle.std.proofs.lemmas.Bool.{eqb-true}
use Rattle.regex_meaning.specs.CodeUnitOffsets.{units}
use Rattle.regex_meaning.specs.Outcomes.{is_some_and}
use Rattle.regress_input.specs.TextCodeUnits.{has_bits}
use Rattle.regress_search.specs.MarkedOffsets.{IsFirstPassingOffset}
use Rattle.regress_search.specs.ReadsAtOffset.{input_unit_at}
use Rattle.regress_search.proofs.few_wide_units.next_pair_or_unit_of_three_kinds.Goals as goal

pub returns-then-is_one_unit-2 : goal.returns-then-is_one_unit-2
returns-then-is_one_unit-2 g c =
    let w = g.W.SearchContext.searching c.args.context.now in
    let P : (first second end : ℕ) → Type 0 = λ first second end. IsFirstPassingOffset (λ at. ((is_some_and (input_unit_at w at) (has_bits 0xFC00 0xD800) || is_some_and (input_unit_at w at) (has_bits first c.args.a.bits))
    || is_some_and (input_unit_at w at) (has_bits second c.args.b.bits)) || is_some_and (input_unit_at w at) (has_bits c.args.c.mask c.args.c.bits)) c.args.from end c.first_by_marks.result in
    subst (λ first. P first c.args.b.mask (units w.text)) (sym (eqb-true c.args.a.mask 0xFFFF (sym c.is_one_unit.ensures ∙ c.if-is_one_unit.true)))
    (subst (λ second. P 0xFFFF second (units w.text)) (sym (eqb-true c.args.b.mask 0xFFFF (sym c.is_one_unit-then-is_one_unit.ensures ∙ c.if-is_one_unit-2.true))) (subst (P 0xFFFF 0xFFFF) c.text_end-end.ensures c.first_by_marks.ensures))
