use Rattle.std.proofs.Common.{◌+◌, ◌≤◌, arith}
use Rattle.regex_meaning.specs.CodeUnitOffsets.{units}
use Rattle.regress_search.proofs.ProbeLemmas.{first-where}
use Rattle.regress_search.proofs.start_search_by_bit_probes.next_by_bit_probes.Goals as goal

pub returns-then-are_exact : goal.returns-then-are_exact
returns-then-are_exact g c =
    let w = g.W.SearchContext.searching c.args.context.now in
    let from = c.args.from in
    let to = from + c.number_of_offsets_with_room.result in
    let enough : units w.text + 1 ≤ to + c.args.probed.prefix.now.len = omega (arith, c.number_of_offsets_with_room.ensures, c.text_end.ensures) in
    first-where w c.args.probed.prefix.now (g.met.W.SearchContext.has_units c.args.context.now) c.args.probed.some c.requires.ascii from to c.first_by_marks.result
    enough c.first_by_marks.ensures

pub returns-then-staged : goal.returns-then-staged
returns-then-staged g c =
    let w = g.W.SearchContext.searching c.args.context.now in
    let from = c.args.from in
    let to = from + c.number_of_offsets_with_room.result in
    let enough : units w.text + 1 ≤ to + c.args.probed.prefix.now.len = omega (arith, c.number_of_offsets_with_room.ensures, c.text_end.ensures) in
    first-where w c.args.probed.prefix.now (g.met.W.SearchContext.has_units c.args.context.now) c.args.probed.some c.requires.ascii from to c.first_by_marks-then-staged.result
    enough c.first_by_marks-then-staged.ensures

pub returns-else-staged : goal.returns-else-staged
returns-else-staged g c =
    let w = g.W.SearchContext.searching c.args.context.now in
    let from = c.args.from in
    let to = from + c.number_of_offsets_with_room.result in
    let enough : units w.text + 1 ≤ to + c.args.probed.prefix.now.len = omega (arith, c.number_of_offsets_with_room.ensures, c.text_end.ensures) in
    first-where w c.args.probed.prefix.now (g.met.W.SearchContext.has_units c.args.context.now) c.args.probed.some c.requires.ascii from to c.first_by_marks-else-staged.result
    enough c.first_by_marks-else-staged.ensures
