use Rattle.std.proofs.Common.{◌||◌, sym, ap, ◌∙◌, arith}
use Rattle.std.specs.Prelude.{nat_le}
use Rattle.std.proofs.lemmas.Bool.{lt-ltb, le-ltb}
use Rattle.regress_search.specs.DeadThreads.{may_be_char_unit}
use Rattle.regress_search.proofs.WideUnitLemmas.{byte-narrow, unit-wide}
use Rattle.regress_search.proofs.leading_char_loop.may_be_char.Goals as goal

pub returns-then-ARE_BYTES : goal.returns-then-ARE_BYTES
returns-then-ARE_BYTES g c =
    let bytes = byte-narrow g.W.Input.Units.CodeUnitEncoding.encoding (sym g.W.Input.Units.CodeUnitEncoding.by_encoding ∙ sym c.ARE_BYTES.ensures ∙ c.if-ARE_BYTES.true) in
    sym (ap (λ b. may_be_char_unit b c.args.unit) bytes)

pub returns-then-unit-lt56320 : goal.returns-then-unit-lt56320
returns-then-unit-lt56320 g c =
    let wide = unit-wide g.W.Input.Units.CodeUnitEncoding.encoding (sym g.W.Input.Units.CodeUnitEncoding.by_encoding ∙ sym c.ARE_BYTES.ensures ∙ c.if-ARE_BYTES.false) in
    let less = lt-ltb c.args.unit 0xDC00 (omega (arith, c.if-unit-lt56320.true)) in
    less ∙ sym (ap (λ b. may_be_char_unit b c.args.unit) wide ∙ ap (λ b. b || nat_le 0xE000 c.args.unit) less)

pub returns-else-unit-lt56320 : goal.returns-else-unit-lt56320
returns-else-unit-lt56320 g c =
    let wide = unit-wide g.W.Input.Units.CodeUnitEncoding.encoding (sym g.W.Input.Units.CodeUnitEncoding.by_encoding ∙ sym c.ARE_BYTES.ensures ∙ c.if-ARE_BYTES.false) in
    sym (ap (λ b. may_be_char_unit b c.args.unit) wide ∙ ap (λ b. b || nat_le 0xE000 c.args.unit) (le-ltb c.args.unit 0xDC00 (omega (arith, c.if-unit-lt56320.false))))
