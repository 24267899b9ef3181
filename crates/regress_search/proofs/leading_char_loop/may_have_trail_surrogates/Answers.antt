use Rattle.std.proofs.Common.{◌≡◌, true, false, sym, ◌∙◌}
use Rattle.regress_search.proofs.WideUnitLemmas.{byte-narrow}
use Rattle.regress_search.proofs.leading_char_loop.may_have_trail_surrogates.Goals as goal

pub returns-then-ARE_BYTES : goal.returns-then-ARE_BYTES
returns-then-ARE_BYTES g c = λ no wide.
    let bytes = byte-narrow g.W.Input.Units.CodeUnitEncoding.encoding (sym g.W.Input.Units.CodeUnitEncoding.by_encoding ∙ sym c.ARE_BYTES.ensures ∙ c.if-ARE_BYTES.true) in
    let never : false ≡ true = sym bytes ∙ wide in cc
