use Rattle.use_regexp.proofs.CoercionLemmas.{size-none, size-some}
use Rattle.use_regexp.proofs.coercions.size_modulo_2_32.Goals as goal

pub returns-in-Some : goal.returns-in-Some
returns-in-Some c = size-some c.args.number c.abs.result c.in-Some.whole c.abs.ensures.value (c.in-Some.ensures.some, c.in-Some.ensures.none)

pub returns-in-None : goal.returns-in-None
returns-in-None c = size-none c.args.number c.abs.result c.abs.ensures.value c.abs.type_inv (c.in-None.ensures.some, c.in-None.ensures.none)
