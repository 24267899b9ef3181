use Rattle.std.proofs.Common.{◌≡◌, ◌<◌, ◌+◌, ◌-◌, slice_index, sym, subst, arith}
use Rattle.std.specs.Int.{bit_at}
use Rattle.memchr.proofs.lemmas.ShiftLemmas.{IsState-start}
use Rattle.regress_search.proofs.PrefixUnitLemmas.{none-more, none-found, window-found, tells-more}
use Rattle.regress_search.proofs.prefix_search.find_prefix_by_shift_or.Goals as goal

pub units-init : goal.units-init
units-init c =
    let n = c.args.prefix.now.len in
    let short : n < 16 = omega (arith, c.args.prefix.now.short) in
    (IsState-start _ _ n short, omega arith, λ k le. absurd (omega (arith, le, c.requires)))

pub overflow_sub-result : goal.overflow_sub-result
overflow_sub-result c =
    let told = tells-more c.args.prefix.now c.args.bytes.now c.units.at c.units.state _ _ c.requires c.units.invariant.0 c.from.ensures c.is_mask_bit_clear.ensures in
    (told.ends c.if-is_mask_bit_clear.true).0

pub returns-then-is_mask_bit_clear : goal.returns-then-is_mask_bit_clear
returns-then-is_mask_bit_clear c =
    let at = c.units.at in
    let told = tells-more c.args.prefix.now c.args.bytes.now at c.units.state _ _ c.requires c.units.invariant.0 c.from.ensures c.is_mask_bit_clear.ensures in
    let ends = told.ends c.if-is_mask_bit_clear.true in
    let enough = ends.0 in
    window-found c.args.prefix.now c.args.bytes.now (at + 1) c.requires (at + 1 - c.args.prefix.now.len) (omega (arith, enough)) (omega (arith, c.units-test.true)) ends.1
    (λ k le. c.units.invariant.2 k (omega (arith, le)))

pub units-preserved : goal.units-preserved
units-preserved c =
    let prefix = c.args.prefix.now in
    let at = c.units.at in
    let told = tells-more prefix c.args.bytes.now at c.units.state _ _ c.requires c.units.invariant.0 c.from.ensures c.is_mask_bit_clear.ensures in
    rw c.from.ensures (
      told.next,
      omega (arith, c.units-test.true),
      none-more prefix c.args.bytes.now at c.requires c.units.invariant.2 (λ k last window.
          let from : at + 1 - prefix.len ≡ k = omega (arith, last) in
          told.goes_on c.if-is_mask_bit_clear.false (omega (arith, last), λ t b. subst (λ p. bit_at (slice_index prefix.masks (slice_index c.args.bytes.now (p + t))) t ≡ 0) (sym from) (window t b))),
    )

pub returns : goal.returns
returns c = none-found c.args.prefix.now c.args.bytes.now c.units.at c.requires (omega (arith, c.units-test.false)) c.units.invariant.2
