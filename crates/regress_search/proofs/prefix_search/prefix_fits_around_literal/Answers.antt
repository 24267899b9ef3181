use Rattle.std.proofs.Common.{rules, ◌≡◌, length, sym, ◌∙◌, arith}
use Rattle.std.proofs.lemmas.List.{length-take-le}
use Rattle.regress_program.specs.PrefixesAndPrefilters.{units_allowed_by_prefix}
use Rattle.regress_search.proofs.PrefixUnitLemmas.{fits-still, literal-fits}
use Rattle.regress_search.proofs.prefix_search.prefix_fits_around_literal.Goals as goal

pub returns-then-not-prefix_units_fit_in_range : goal.returns-then-not-prefix_units_fit_in_range
returns-then-not-prefix_units_fit_in_range c =
    let inside = c.requires.literal.inside in
    sym (fits-still (units_allowed_by_prefix c.args.prefix.now) c.args.bytes.now c.args.at c.args.literal.now.ahead c.args.prefix.now.len (omega (arith, inside))
    (sym c.prefix_units_fit_in_range.ensures ∙ c.if-not-prefix_units_fit_in_range.true))

pub prefix_units_fit_in_range-requires-2-clause-before : goal.prefix_units_fit_in_range-requires-2-clause-before
prefix_units_fit_in_range-requires-2-clause-before c =
    let sized : length c.args.literal.now.units ≡ 15 = search rules in
    let inside = c.requires.literal.inside in
    let short = c.args.prefix.now.short in
    literal-fits c.args.prefix.now c.args.literal.now c.requires.literal c.args.bytes.now c.args.at
    (length-take-le c.args.literal.now.len c.args.literal.now.units (omega (arith, sized, inside, short))) c.requires.row
    (sym c.prefix_units_fit_in_range.ensures ∙ c.if-not-prefix_units_fit_in_range.false)
