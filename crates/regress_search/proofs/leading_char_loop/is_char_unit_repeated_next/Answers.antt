use Rattle.std.proofs.Common.{◌≡◌, true, false, Some, ap, sym, ◌∙◌}
use Rattle.std.proofs.lemmas.Bool.{eq-eqb}
use Rattle.regress_program.specs.TableKeysOfUnits.{is_16_bit_encoding}
use Rattle.regress_search.specs.DeadThreads.{may_be_char_unit}
use Rattle.regress_search.proofs.RepeatedChars.{char-boundary}
use Rattle.regress_search.proofs.leading_char_loop.is_char_unit_repeated_next.Goals as goal

pub returns-then-not-may_be_char-clause-alone : goal.returns-then-not-may_be_char-clause-alone
returns-then-not-may_be_char-clause-alone g c = λ no u may here next.
    let wide = ap is_16_bit_encoding (g.met.W.SearchContext.encoding c.args.context.now) in
    let e : Some u ≡ Some c.unit_at_offset-unit.result = sym here ∙ c.unit_at_offset-unit.ensures in
    let same : u ≡ c.unit_at_offset-unit.result = cc in
    let never : true ≡ false = sym may ∙ ap (λ b. may_be_char_unit b u) wide ∙ ap (may_be_char_unit (is_16_bit_encoding g.W.Input.Units.CodeUnitEncoding.encoding)) same
    ∙ sym c.may_be_char.ensures ∙ c.if-not-may_be_char.true in
    cc

pub returns-clause-boundary : goal.returns-clause-boundary
returns-clause-boundary g c = λ yes.
    let w = g.W.SearchContext.searching c.args.context.now in
    let wide = ap is_16_bit_encoding (g.met.W.SearchContext.encoding c.args.context.now) in
    char-boundary w.encoding w.text (g.met.W.SearchContext.has_units c.args.context.now) c.args.at c.unit_at_offset-unit.result c.unit_at_offset-unit.ensures
    (ap (λ b. may_be_char_unit b c.unit_at_offset-unit.result) wide ∙ sym c.may_be_char.ensures ∙ c.if-not-may_be_char.false)

pub returns-clause-alone : goal.returns-clause-alone
returns-clause-alone g c = λ no u may here next.
    let e : Some u ≡ Some c.unit_at_offset-unit.result = sym here ∙ c.unit_at_offset-unit.ensures in
    let f : Some u ≡ Some c.unit_at_offset.result = sym next ∙ c.unit_at_offset.ensures in
    let same : c.unit_at_offset-unit.result ≡ c.unit_at_offset.result = cc in
    let both = eq-eqb c.unit_at_offset-unit.result c.unit_at_offset.result same in
    cc
