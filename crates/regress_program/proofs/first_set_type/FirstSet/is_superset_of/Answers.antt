use Rattle.std.proofs.Common.{◌≡◌, true, false, length, rules, arith}
use Rattle.regress_program.proofs.FirstSetLemmas.{within-end, compared-next}
use Rattle.regress_program.proofs.first_set_type.FirstSet.is_superset_of.Goals as goal

pub loop-key-preserved : goal.loop-key-preserved
loop-key-preserved c =
    let a : length c.args.other.now.keys ≡ 256 = search rules in
    let b : length c.args.self.now.keys ≡ 256 = search rules in
    compared-next c.args.other.now c.args.self.now c.loop-key.key c.loop-key.lacks (omega (arith, a, c.loop-key-test.true)) (omega (arith, b, c.loop-key-test.true)) c.loop-key.invariant

pub returns-then-lacks : goal.returns-then-lacks
returns-then-lacks c = (λ h. let no : false ≡ true = h in cc, c.loop-key.invariant.lacking c.if-lacks.true)

pub returns-else-self : goal.returns-else-self
returns-else-self c =
    let e : length c.args.self.now.keys ≡ 256 = search rules in
    within-end c.args.other.now c.args.self.now (omega (arith, e)) (λ k below. c.loop-key.invariant.within c.if-lacks.false k (omega (arith, below))) c.if-self.false
