use Rattle.std.proofs.Common.{Some, None, arith}
use Rattle.std.proofs.lemmas.Bool.{ltb-true}
use Rattle.regress_input.proofs.BoundaryPositions.{boundary_inside}
use Rattle.regress_backtrack.proofs.LeapMemoryLemmas.{leap-excludes, leap-right}
use Rattle.regress_backtrack.proofs.leap_memory.make_leap_and_store_it.Goals as goal

pub leap_target_from-requires-clause-ascii : goal.leap_target_from-requires-clause-ascii
leap_target_from-requires-clause-ascii g c = c.requires.leap.ascii

pub leap_target_from-requires-clause-alike : goal.leap_target_from-requires-clause-alike
leap_target_from-requires-clause-alike g c = c.requires.leap.alike

pub returns-in-Some-clause-none : goal.returns-in-Some-clause-none
returns-in-Some-clause-none g c = λ yes.
    let w = g.W.SearchContext.searching c.args.context.now in
    let leads = leap-excludes w (g.met.W.SearchContext.has_units c.args.context.now) c.requires.executable c.args.leap.now c.requires.leap c.args.at (Some c.in-Some.target) c.in-Some.ensures in
    leads.2 c.args.at c.requires.at (omega arith) (ltb-true c.args.at c.in-Some.target.to yes)

pub returns-in-Some-clause-sound : goal.returns-in-Some-clause-sound
returns-in-Some-clause-sound g c =
    let w = g.W.SearchContext.searching c.args.context.now in
    leap-right w.tree w.text (g.met.W.SearchContext.is_text c.args.context.now) c.args.at (Some c.in-Some.target.to)
    (leap-excludes w (g.met.W.SearchContext.has_units c.args.context.now) c.requires.executable c.args.leap.now c.requires.leap c.args.at (Some c.in-Some.target) c.in-Some.ensures)

pub returns-in-None-clause-none : goal.returns-in-None-clause-none
returns-in-None-clause-none g c = λ yes.
    let w = g.W.SearchContext.searching c.args.context.now in
    let leads = leap-excludes w (g.met.W.SearchContext.has_units c.args.context.now) c.requires.executable c.args.leap.now c.requires.leap c.args.at None c.in-None.ensures in
    let inside = boundary_inside w.text (g.met.W.SearchContext.is_text c.args.context.now) c.args.at c.requires.at in
    leads c.args.at c.requires.at (omega arith) (omega (arith, inside))

pub returns-in-None-clause-sound : goal.returns-in-None-clause-sound
returns-in-None-clause-sound g c =
    let w = g.W.SearchContext.searching c.args.context.now in
    leap-right w.tree w.text (g.met.W.SearchContext.is_text c.args.context.now) c.args.at None
    (leap-excludes w (g.met.W.SearchContext.has_units c.args.context.now) c.requires.executable c.args.leap.now c.requires.leap c.args.at None c.in-None.ensures)
