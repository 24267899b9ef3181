use Rattle.std.proofs.Common.{ap, arith}
use Rattle.regex_meaning.specs.CodeUnitOffsets.{units}
use Rattle.regress_match.proofs.api.searches_resumed_at_offsets.offset_of_position.Goals as goal

pub returns-in-Some-clause-fits : goal.returns-in-Some-clause-fits
returns-in-Some-clause-fits g c =
    let less = g.met.E.Input.InputIndexer.offsets_fit c.input-input.result.now in
    let same = ap units c.input-input.ensures in
    omega (arith, less, same)

pub returns-in-None-clause-fits : goal.returns-in-None-clause-fits
returns-in-None-clause-fits g c =
    let less = g.met.E.Input.InputIndexer.offsets_fit c.input-input.result.now in
    let same = ap units c.input-input.ensures in
    omega (arith, less, same)
