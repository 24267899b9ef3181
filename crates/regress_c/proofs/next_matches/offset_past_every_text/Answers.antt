use Rattle.std.proofs.Common.{ap, arith}
use Rattle.regex_meaning.specs.CodeUnitOffsets.{units}
use Rattle.regress_c.proofs.next_matches.offset_past_every_text.Goals as goal

pub returns-clause-past : goal.returns-clause-past
returns-clause-past g c =
    let less = g.met.E.Input.InputIndexer.offsets_fit c.input-input.result.now in
    let same = ap units c.input-input.ensures in
    omega (arith, less, same)
