use Rattle.std.proofs.Common.{Option, subst}
use Rattle.std.specs.Prelude.{IfSome}
use Rattle.regress_program.specs.declared.leap.Leap.{Leap}
use Rattle.regress_program.specs.declared.plan.Plan.{Plan}
use Rattle.regress_program.specs.Leaps.{IsLeapRightForProgram}
use Rattle.regress_program.specs.TableKeysOfUnits.{is_16_bit_encoding}
use Rattle.regress_program.proofs.FollowSetAndStartLemmas.{some-has}
use Rattle.regress_search.specs.TreePlanAndText.{program_of}
use Rattle.regress_backtrack.proofs.LeapMemoryLemmas.{at-once}
use Rattle.regress_backtrack.proofs.work_limited.candidate_past_leap.Goals as goal

pub leap_to_candidate-requires-clause-leap : goal.leap_to_candidate-requires-clause-leap
leap_to_candidate-requires-clause-leap g c =
    let w = g.W.SearchContext.searching c.args.context.now in
    let P : Leap → Type 0 = IsLeapRightForProgram (is_16_bit_encoding w.encoding) (program_of w) in
    some-has w.plan.leap P c.in-Some.leap (rw (← c.plan.ensures.plan) c.in-Some.is) c.plan.ensures.plan_fits.leap

pub returns-in_default : goal.returns-in_default
returns-in_default g c =
    let w = g.W.SearchContext.searching c.args.context.now in
    at-once w.tree w.text (g.W.Input.Position.PositionType.offset c.args.start) c.requires.at
