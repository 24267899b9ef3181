use Rattle.std.proofs.Common.{ℕ, sym, subst}
use Rattle.regex_meaning.specs.Outcomes.{is_some_and}
use Rattle.regress_input.specs.TextCodeUnits.{has_bits}
use Rattle.regress_search.specs.MarkedOffsets.{IsFirstPassingOffset}
use Rattle.regress_search.specs.ReadsAtOffset.{input_unit_at}
use Rattle.regress_search.proofs.few_wide_units.first_unit_with_bits.Goals as goal

pub returns-then-kind : goal.returns-then-kind
returns-then-kind g c =
    let w = g.W.SearchContext.searching c.args.context.now in
    let P : ℕ → Type 0 = λ mask. IsFirstPassingOffset (λ at. is_some_and (input_unit_at w at) (has_bits mask c.args.kind.bits)) c.args.from c.args.to c.first_by_marks.result in
    subst P (sym c.if-kind.true) c.first_by_marks.ensures
