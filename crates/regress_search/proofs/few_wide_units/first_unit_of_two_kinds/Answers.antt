use Rattle.std.proofs.Common.{ℕ, ◌||◌, sym, subst}
use Rattle.regex_meaning.specs.Outcomes.{is_some_and}
use Rattle.regress_input.specs.TextCodeUnits.{has_bits}
use Rattle.regress_search.specs.MarkedOffsets.{IsFirstPassingOffset}
use Rattle.regress_search.specs.ReadsAtOffset.{input_unit_at}
use Rattle.regress_search.proofs.few_wide_units.first_unit_of_two_kinds.Goals as goal

pub returns-then-a-eq65535 : goal.returns-then-a-eq65535
returns-then-a-eq65535 g c =
    let w = g.W.SearchContext.searching c.args.context.now in
    let P : ℕ → ℕ → Type 0 = λ first second. IsFirstPassingOffset (λ at. is_some_and (input_unit_at w at) (has_bits first c.args.a.bits)
    || is_some_and (input_unit_at w at) (has_bits second c.args.b.bits)) c.args.from c.args.to c.first_by_marks.result in
    subst (λ first. P first c.args.b.mask) (sym c.if-a-eq65535.true) (subst (P 0xFFFF) (sym c.if-b-eq65535.true) c.first_by_marks.ensures)
