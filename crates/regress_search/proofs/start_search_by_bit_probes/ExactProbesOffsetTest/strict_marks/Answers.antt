use Rattle.std.proofs.Common.{arith, bit_and, slice_index_or}
use Rattle.std.proofs.lemmas.Option.{slice_get-get_or}
use Rattle.regress_program.specs.declared.required_prefix_prefilters.MaskedUnitProbe.{MaskedUnitProbe}
use Rattle.regress_search.specs.StartSearch.{prefix_fits_at}
use Rattle.regress_search.proofs.ProbeLemmas.{exact-at}
use Rattle.regress_search.proofs.MarkedOffsetLemmas.{marks-both}
use Rattle.regress_search.proofs.start_search_by_bit_probes.ExactProbesOffsetTest.strict_marks.Goals as goal

-- what stands for a probe where there is none
abbrev no_probe : MaskedUnitProbe
no_probe = record { ahead = 0; mask = 0; bits = 0 }

pub marks_of_exact_probe-requires-clause-inside : goal.marks_of_exact_probe-requires-clause-inside
marks_of_exact_probe-requires-clause-inside g c =
    let probed = c.args.self.now.probed in
    let four = probed.probes_pass_prefix.four in
    let is = probed.probes_pass_prefix.each 2 (slice_index_or probed.probes.now 2 no_probe) (slice_get-get_or probed.probes.now 2 no_probe (omega (arith, four))) in
    let inside = is.inside in
    omega (arith, inside, c.requires)

pub marks_of_exact_probe-requires-clause-exact : goal.marks_of_exact_probe-requires-clause-exact
marks_of_exact_probe-requires-clause-exact g c =
    let probed = c.args.self.now.probed in
    let four = probed.probes_pass_prefix.four in
    exact-at probed.probes.now c.args.self.now.exact 2 (slice_index_or probed.probes.now 2 no_probe) (slice_get-get_or probed.probes.now 2 no_probe (omega (arith, four)))

pub marks_of_exact_probe-requires-2-clause-inside : goal.marks_of_exact_probe-requires-2-clause-inside
marks_of_exact_probe-requires-2-clause-inside g c =
    let probed = c.args.self.now.probed in
    let four = probed.probes_pass_prefix.four in
    let is = probed.probes_pass_prefix.each 3 (slice_index_or probed.probes.now 3 no_probe) (slice_get-get_or probed.probes.now 3 no_probe (omega (arith, four))) in
    let inside = is.inside in
    omega (arith, inside, c.requires)

pub marks_of_exact_probe-requires-2-clause-exact : goal.marks_of_exact_probe-requires-2-clause-exact
marks_of_exact_probe-requires-2-clause-exact g c =
    let probed = c.args.self.now.probed in
    let four = probed.probes_pass_prefix.four in
    exact-at probed.probes.now c.args.self.now.exact 3 (slice_index_or probed.probes.now 3 no_probe) (slice_get-get_or probed.probes.now 3 no_probe (omega (arith, four)))

pub returns : goal.returns
returns g c =
    let probed = c.args.self.now.probed in
    let four = probed.probes_pass_prefix.four in
    let prefix = probed.prefix.now in
    let test = prefix_fits_at (g.W.SearchContext.searching c.args.context.now) prefix in
    let seldom = c.marks-seldom.result in
    let third = probed.probes_pass_prefix.each 2 (slice_index_or probed.probes.now 2 no_probe) (slice_get-get_or probed.probes.now 2 no_probe (omega (arith, four))) in
    let fourth = probed.probes_pass_prefix.each 3 (slice_index_or probed.probes.now 3 no_probe) (slice_get-get_or probed.probes.now 3 no_probe (omega (arith, four))) in
    marks-both test c.args.at (bit_and seldom c.marks_of_exact_probe.result) c.marks_of_exact_probe-2.result
    (marks-both test c.args.at seldom c.marks_of_exact_probe.result c.marks-seldom.ensures (c.marks_of_exact_probe.ensures prefix third))
    (c.marks_of_exact_probe-2.ensures prefix fourth)
