use Rattle.std.proofs.Common.{◌≡◌, ◌+◌, slice_index, ◌∙◌, subst, sym, arith}
use Rattle.regress_program.specs.PrefixesAndPrefilters.{units_allowed_by_prefix}
use Rattle.regress_search.proofs.PrefixUnitLemmas.{fits-next, fits-unless}
use Rattle.regress_search.proofs.prefix_search.prefix_units_fit_in_range.Goals as goal

pub returns-then-not-is_key_allowed : goal.returns-then-not-is_key_allowed
returns-then-not-is_key_allowed c =
    let told : c.is_key_allowed.result ≡ units_allowed_by_prefix c.args.prefix.now c.units.ahead (slice_index c.args.bytes.now (c.args.at + c.units.ahead)) =
    subst (λ key. c.is_key_allowed.result ≡ units_allowed_by_prefix c.args.prefix.now c.units.ahead key) c.from.ensures c.is_key_allowed.ensures in
    sym (fits-unless (units_allowed_by_prefix c.args.prefix.now) c.args.bytes.now c.args.at c.args.to c.units.ahead c.units-test.true
    (omega (arith, c.units-test.true, c.if-left-to.false, c.requires.at)) (sym told ∙ c.if-not-is_key_allowed.true))

pub units-preserved : goal.units-preserved
units-preserved c =
    let told : c.is_key_allowed.result ≡ units_allowed_by_prefix c.args.prefix.now c.units.ahead (slice_index c.args.bytes.now (c.args.at + c.units.ahead)) =
    subst (λ key. c.is_key_allowed.result ≡ units_allowed_by_prefix c.args.prefix.now c.units.ahead key) c.from.ensures c.is_key_allowed.ensures in (
      omega (arith, c.units-test.true),
      fits-next (units_allowed_by_prefix c.args.prefix.now) c.args.bytes.now c.args.at c.units.ahead (omega (arith, c.units-test.true, c.if-left-to.false, c.requires.at))
          c.units.invariant.1 (sym told ∙ c.if-not-is_key_allowed.false),
    )
