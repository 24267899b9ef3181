use Rattle.std.proofs.Common.{◌≡◌, ◌+◌, slice_index, subst, arith, inl, inr}
use Rattle.std.proofs.lemmas.Bool.{cases_lt}
use Rattle.regress_program.specs.PrefixesAndPrefilters.{IsOnlyUnitAllowedAtPosition}
use Rattle.regress_program.proofs.required_prefix_types.Prefix.has_literal.Goals as goal

pub loop-i-preserved : goal.loop-i-preserved
loop-i-preserved c = λ i less. elim (cases_lt i c.loop-i.i) [
  | inl before ↦ c.loop-i.invariant i before
  | inr last ↦
      let same : c.loop-i.i ≡ i = omega (arith, less, last) in
      subst (λ i. IsOnlyUnitAllowedAtPosition c.args.self.now (record { unit = slice_index c.args.literal.now.units i; ahead = c.args.literal.now.ahead + i })) same
      (c.has_alone.ensures c.if-not-has_alone.false)
]

pub returns : goal.returns
returns c = λ _. record {
  some = omega (arith, c.if-len-eq0.false);
  inside = omega (arith, c.if-len-self.false, c.if-ahead-self.false);
  alone = λ i less. c.loop-i.invariant i (omega (arith, less, c.loop-i-test.false));
}
