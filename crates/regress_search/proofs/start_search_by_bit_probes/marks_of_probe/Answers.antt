use Rattle.regress_search.proofs.ProbeLemmas.{probe-marks}
use Rattle.regress_search.proofs.start_search_by_bit_probes.marks_of_probe.Goals as goal

pub returns : goal.returns
returns g c f is =
    probe-marks (g.W.SearchContext.searching c.args.context.now) (g.met.W.SearchContext.has_units c.args.context.now) f c.args.probe is c.args.at c.units_with_byte_bits.result c.requires
    c.units_with_byte_bits.ensures
