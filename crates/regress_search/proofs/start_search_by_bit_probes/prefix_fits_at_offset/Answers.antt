use Rattle.std.proofs.Common.{◌≡◌, sym, ap, ◌∙◌, arith}
use Rattle.regress_program.specs.PrefixesAndPrefilters.{units_allowed_by_prefix, prefix_allows_units_at}
use Rattle.regress_search.specs.StartSearch.{unit_keys_of_text}
use Rattle.regress_search.proofs.ProbeLemmas.{fits-goes, fits-stops}
use Rattle.regress_search.proofs.start_search_by_bit_probes.prefix_fits_at_offset.Goals as goal

pub returns-then-not-prefix_allows_unit : goal.returns-then-not-prefix_allows_unit
returns-then-not-prefix_allows_unit g c =
    let w = g.W.SearchContext.searching c.args.context.now in
    sym (fits-stops w c.args.prefix.now c.args.at c.units.ahead c.prefix_allows_unit.result c.units-test.true c.prefix_allows_unit.ensures c.if-not-prefix_allows_unit.true)

pub units-preserved : goal.units-preserved
units-preserved g c =
    let w = g.W.SearchContext.searching c.args.context.now in (
      omega (arith, c.units-test.true),
      fits-goes w c.args.prefix.now c.args.at c.units.ahead c.prefix_allows_unit.result c.prefix_allows_unit.ensures c.if-not-prefix_allows_unit.false c.units.invariant.1,
    )

pub returns : goal.returns
returns g c =
    let w = g.W.SearchContext.searching c.args.context.now in
    let all : c.units.ahead ≡ c.args.prefix.now.len = omega (arith, c.units-test.false, c.units.invariant.0) in
    sym (ap (prefix_allows_units_at (units_allowed_by_prefix c.args.prefix.now) (unit_keys_of_text w) c.args.at) (sym all) ∙ c.units.invariant.1)
