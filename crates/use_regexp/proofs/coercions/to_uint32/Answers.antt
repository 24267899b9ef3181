use Rattle.use_regexp.proofs.CoercionLemmas.{negative-uint32, other-uint32}
use Rattle.use_regexp.proofs.coercions.to_uint32.Goals as goal

pub returns-then-number : goal.returns-then-number
returns-then-number c =
    negative-uint32 c.args.number c.wrapping_neg.result c.size_modulo_2_32-size.result c.if-number.true
    c.wrapping_neg.type_inv c.size_modulo_2_32-size.type_inv c.size_modulo_2_32-size.ensures c.wrapping_neg.ensures

pub returns-else-number : goal.returns-else-number
returns-else-number c = other-uint32 c.args.number c.size_modulo_2_32-size.result c.if-number.false c.size_modulo_2_32-size.ensures
