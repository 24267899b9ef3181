use Rattle.std.proofs.Common.{◌+◌, ◌<◌, ℕ, slice_index, ◌∙◌, sym, arith}
use Rattle.std.proofs.lemmas.List.{take_rest}
use Rattle.regress_search.proofs.PrefixUnitLemmas.{rare-past, rare-none, rare-inside, rare-before, rare-behind}
use Rattle.regress_search.proofs.prefix_search.find_prefix_by_required_unit.Goals as goal

pub returns-in_default : goal.returns-in_default
returns-in_default c = λ k less.
    rare-none c.args.prefix.now c.args.rare c.requires c.args.bytes.now (λ i. (c.type_inv.bytes i).fits) c.places.at _ (take_rest c.args.bytes.now (c.places.at + c.args.rare.ahead)) c.in_default.ensures
    c.places.invariant.1 k

pub returns-then-prefix_units_fit_in_range : goal.returns-then-prefix_units_fit_in_range
returns-then-prefix_units_fit_in_range c =
    let bytes : (i : ℕ) → slice_index c.args.bytes.now i < 256 = λ i. (c.type_inv.bytes i).fits in
    let before = c.places.invariant.1 in
    record {
      within = rare-inside c.args.prefix.now c.args.rare c.requires c.args.bytes.now bytes c.places.at _ (take_rest c.args.bytes.now (c.places.at + c.args.rare.ahead)) c.in-Some.more c.in-Some.ensures before;
      passes = sym c.prefix_units_fit_in_range.ensures ∙ c.if-prefix_units_fit_in_range.true;
      none_before = rare-before c.args.prefix.now c.args.rare c.requires c.args.bytes.now bytes c.places.at _ (take_rest c.args.bytes.now (c.places.at + c.args.rare.ahead)) c.in-Some.more c.in-Some.ensures before;
    }

pub places-preserved : goal.places-preserved
places-preserved c =
    let bytes : (i : ℕ) → slice_index c.args.bytes.now i < 256 = λ i. (c.type_inv.bytes i).fits in
    let before = c.places.invariant.1 in
    let inside = rare-inside c.args.prefix.now c.args.rare c.requires c.args.bytes.now bytes c.places.at _ (take_rest c.args.bytes.now (c.places.at + c.args.rare.ahead)) c.in-Some.more c.in-Some.ensures before in (
      omega (arith, inside),
      rare-behind c.args.prefix.now c.args.rare c.requires c.args.bytes.now bytes c.places.at _ (take_rest c.args.bytes.now (c.places.at + c.args.rare.ahead)) c.in-Some.more c.in-Some.ensures before
          (sym c.prefix_units_fit_in_range.ensures ∙ c.if-prefix_units_fit_in_range.false),
    )

pub returns : goal.returns
returns c = λ k less.
    rare-past c.args.prefix.now c.args.rare c.requires c.args.bytes.now (λ i. (c.type_inv.bytes i).fits) c.places.at (omega (arith, c.places-test.false))
    c.places.invariant.1 k
