use Rattle.std.proofs.Common.{ℕ, ◌||◌, sym, subst, ◌∙◌}
use Rattle.std.proofs.lemmas.Bool.{eqb-true}
use Rattle.regex_meaning.specs.CodeUnitOffsets.{units}
use Rattle.regex_meaning.specs.Outcomes.{is_some_and}
use Rattle.regress_input.specs.TextCodeUnits.{has_bits}
use Rattle.regress_search.specs.MarkedOffsets.{IsFirstPassingOffset}
use Rattle.regress_search.specs.ReadsAtOffset.{input_unit_at}
use Rattle.regress_search.proofs.few_wide_units.next_pair_or_unit_of_kind.Goals as goal

pub returns-then-is_one_unit : goal.returns-then-is_one_unit
returns-then-is_one_unit g c =
    let w = g.W.SearchContext.searching c.args.context.now in
    let P : ℕ → Type 0 = λ mask. IsFirstPassingOffset (λ at. is_some_and (input_unit_at w at) (has_bits 0xFC00 0xD800)
    || is_some_and (input_unit_at w at) (has_bits mask c.args.a.bits)) c.args.from (units w.text) c.first_by_marks.result in
    subst P (sym (eqb-true c.args.a.mask 0xFFFF (sym c.is_one_unit.ensures ∙ c.if-is_one_unit.true))) (subst (λ end. IsFirstPassingOffset (λ at. is_some_and (input_unit_at w at) (has_bits 0xFC00 0xD800)
    || is_some_and (input_unit_at w at) (has_bits 0xFFFF c.args.a.bits)) c.args.from end c.first_by_marks.result) c.text_end-end.ensures c.first_by_marks.ensures)
