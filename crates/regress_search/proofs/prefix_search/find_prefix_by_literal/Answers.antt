use Rattle.std.proofs.Common.{◌+◌, ◌∙◌, refl, sym, arith}
use Rattle.std.proofs.lemmas.List.{take_rest}
use Rattle.regress_search.proofs.PrefixUnitLemmas.{needle-short, literal-past, literal-none, literal-inside, literal-before, literal-within, literal-behind}
use Rattle.regress_search.proofs.prefix_search.find_prefix_by_literal.Goals as goal

pub returns-in_default : goal.returns-in_default
returns-in_default c = λ k less.
    literal-none c.args.prefix.now c.args.literal.now c.requires.literal c.requires.some c.args.bytes.now (λ i. (c.type_inv.bytes i).fits) c.places.at _ _
    (take_rest c.args.bytes.now (c.places.at + c.args.literal.now.ahead)) refl (needle-short c.args.literal.now) c.places.invariant.1
    c.in_default.ensures k

pub returns-then-prefix_fits_around_literal : goal.returns-then-prefix_fits_around_literal
returns-then-prefix_fits_around_literal c = record {
  within =
      literal-within c.args.prefix.now c.args.literal.now c.requires.literal c.requires.some c.args.bytes.now (λ i. (c.type_inv.bytes i).fits) c.places.at _ _
      (take_rest c.args.bytes.now (c.places.at + c.args.literal.now.ahead)) refl (needle-short c.args.literal.now) c.places.invariant.1
      c.in-Some.more c.in-Some.ensures (sym c.prefix_fits_around_literal.ensures ∙ c.if-prefix_fits_around_literal.true);
  passes = sym c.prefix_fits_around_literal.ensures ∙ c.if-prefix_fits_around_literal.true;
  none_before =
      literal-before c.args.prefix.now c.args.literal.now c.requires.literal c.requires.some c.args.bytes.now (λ i. (c.type_inv.bytes i).fits) c.places.at _ _
      (take_rest c.args.bytes.now (c.places.at + c.args.literal.now.ahead)) refl (needle-short c.args.literal.now) c.places.invariant.1
      c.in-Some.more c.in-Some.ensures;
}

pub places-preserved : goal.places-preserved
places-preserved c =
    let inside = literal-inside c.args.prefix.now c.args.literal.now c.requires.literal c.requires.some c.args.bytes.now (λ i. (c.type_inv.bytes i).fits) c.places.at _ _
    (take_rest c.args.bytes.now (c.places.at + c.args.literal.now.ahead)) refl (needle-short c.args.literal.now) c.places.invariant.1
    c.in-Some.more c.in-Some.ensures c.places-test.true in (
      omega (arith, inside),
      literal-behind c.args.prefix.now c.args.literal.now c.requires.literal c.requires.some c.args.bytes.now (λ i. (c.type_inv.bytes i).fits) c.places.at _ _
          (take_rest c.args.bytes.now (c.places.at + c.args.literal.now.ahead)) refl (needle-short c.args.literal.now) c.places.invariant.1
          c.in-Some.more c.in-Some.ensures (sym c.prefix_fits_around_literal.ensures ∙ c.if-prefix_fits_around_literal.false),
    )

pub returns : goal.returns
returns c = λ k less.
    literal-past c.args.prefix.now c.args.literal.now c.requires.literal c.requires.some c.args.bytes.now (λ i. (c.type_inv.bytes i).fits) c.places.at _ _
    (take_rest c.args.bytes.now (c.places.at + c.args.literal.now.ahead)) refl (needle-short c.args.literal.now) c.places.invariant.1
    (omega (arith, c.places-test.false)) k
