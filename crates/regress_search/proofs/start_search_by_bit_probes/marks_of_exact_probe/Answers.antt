use Rattle.std.proofs.Common.{◌+◌, subst}
use Rattle.regex_meaning.specs.CodeUnits.{text_units_in_encoding}
use Rattle.regress_input.specs.TextCodeUnits.{MarksUnitsWithBits}
use Rattle.regress_search.proofs.ProbeLemmas.{exact-probe-marks}
use Rattle.regress_search.proofs.start_search_by_bit_probes.marks_of_exact_probe.Goals as goal

pub returns : goal.returns
returns g c f is =
    let w = g.W.SearchContext.searching c.args.context.now in
    exact-probe-marks w (g.met.W.SearchContext.has_units c.args.context.now) f c.args.probe is c.requires.exact c.args.at c.units_with_bits.result c.requires.inside
    (subst (λ bits. MarksUnitsWithBits (text_units_in_encoding w.encoding w.text) (c.args.at + c.args.probe.ahead) 0xFFFF bits c.units_with_bits.result) c.from.ensures c.units_with_bits.ensures)
