use Rattle.std.proofs.Common.{◌≡◌, ◌≤◌, ◌+◌, [], ◌∷◌, length, arith, ap, ap₂, sym, subst, refl, ◌∙◌}
use Rattle.std.specs.Prelude.{IsSome, true, option_map, Option, Err}
use Rattle.regex_meaning.specs.CodeUnitOffsets.{units}
use Rattle.regress_input.proofs.BoundaryPositions.{boundary_inside}
use Rattle.regress_program.specs.CompilationOfTreesAsFunction.{compiled}
use Rattle.regress_search.proofs.SearchableProgramLemmas.{can-search}
use Rattle.regress_search.specs.AttemptsAndStarts.{ticks_of_attempt_at}
use Rattle.regress_search.specs.SearchEffects.{SpendsNeedOrReachesLimit, AllocFailureCostsAStep}
use Rattle.regress_search.specs.declared.exec.SearchError.TheVariants.{Memory}
use Rattle.regress_search.proofs.StepBudgetLemmas.{handed}
use Rattle.regress_backtrack.specs.State.{StateModel, current_thread_state_of, log_len_at_choice_point}
use Rattle.regress_search.specs.TreePlanAndText.{program_of}
use Rattle.regress_backtrack.specs.AttemptResults.{HasSlotPerGroupAndLoop}
use Rattle.regress_backtrack.specs.SearchProgress.{found_from_state, NeedStepsAtLeast}
use Rattle.regress_backtrack.specs.BudgetAccounting.{step_limit}
use Rattle.regress_machine.specs.SearchFindsFirstOutcomeAtPlace.{state_before_first_insn}
use Rattle.regress_machine.specs.Machine.{running}
use Rattle.regress_backtrack.proofs.AttemptResultLemmas.{Begins, first-state, begins, attempt-ends, attempt-spends, attempt-stops, found-with, spends-none, stopped-takes, takes-none, tells-memory}
use Rattle.regress_backtrack.proofs.PushedRecordLemmas.{sound-same}
use Rattle.regress_backtrack.proofs.PaidAttemptLemmas.{ends-from, stops-from, attempt-paid, attempt-short, attempt-unbegun}
use Rattle.regress_backtrack.proofs.attempts.attempt.Given.{Over}
use Rattle.regress_backtrack.proofs.attempts.attempt.Goals.{In_ok-begin}
use Rattle.regress_backtrack.proofs.attempts.attempt.Goals as goal

-- the search from the first state at the place
search-here : (g : Over) (c : In_ok-begin g) → Begins (g.W.SearchContext.searching c.args.context.now) (g.W.Input.Position.PositionType.offset c.args.pos)
search-here g c =
    let w = g.W.SearchContext.searching c.args.context.now in
    begins w (g.W.Input.Position.PositionType.offset c.args.pos)
    (can-search w.tree w.text c.requires.executable.0.well_formed (g.met.W.SearchContext.is_text c.args.context.now) c.requires.executable.0.unicode c.requires.executable.0.bytes) c.requires.executable.1

-- what is remembered begins as that state
state-here : (g : Over) (c : In_ok-begin g)
    → current_thread_state_of c.begin.new.self 0 c.pos_to_offset-at.result ≡ state_before_first_insn (program_of (g.W.SearchContext.searching c.args.context.now)) (g.W.Input.Position.PositionType.offset c.args.pos)
state-here g c =
    let w = g.W.SearchContext.searching c.args.context.now in
    let at = c.pos_to_offset-at.result in
    let groups = c.groups-groups.ensures ∙ c.program.ensures.groups in
    let loops = c.number_of_loops-loops.ensures in
    ap (λ h. current_thread_state_of h 0 at) c.in_ok-begin.ensures.begun ∙ first-state (program_of w) c.groups-groups.result c.number_of_loops-loops.result _ at refl groups loops
    ∙ ap (state_before_first_insn (program_of w)) c.pos_to_offset-at.ensures

pub run_thread-requires-clause-inside : goal.run_thread-requires-clause-inside
run_thread-requires-clause-inside g c =
    let text = (g.W.SearchContext.searching c.args.context.now).text in
    subst (λ at. at ≤ units text) (sym c.pos_to_offset-at.ensures)
    (boundary_inside text (g.met.W.SearchContext.is_text c.args.context.now) (g.W.Input.Position.PositionType.offset c.args.pos) c.requires.executable.1)

pub run_thread-requires-clause-noted : goal.run_thread-requires-clause-noted
run_thread-requires-clause-noted g c = subst (λ (h : StateModel). length h.log ≤ log_len_at_choice_point h.choice_points) (sym c.in_ok-begin.ensures.begun) (omega arith)

pub run_thread-requires-clause-terminates : goal.run_thread-requires-clause-terminates
run_thread-requires-clause-terminates g c =
    let w = g.W.SearchContext.searching c.args.context.now in
    let b = search-here g (goal.at.run_thread-requires-clause-terminates g c).In_ok-begin in
    let first = state-here g (goal.at.run_thread-requires-clause-terminates g c).In_ok-begin in
    subst IsSome (sym (ap (found_from_state w true) first ∙ b.searches)) refl

pub returns-in-Ok-clause-found : goal.returns-in-Ok-clause-found
returns-in-Ok-clause-found g c =
    let w = g.W.SearchContext.searching c.args.context.now in
    let offset = g.W.Input.Position.PositionType.offset in
    let groups = (current_thread_state_of c.run_thread.new.memory 0 0).groups in
    let b = search-here g (goal.at.returns-in-Ok-clause-found g c).In_ok-begin in
    let first = state-here g (goal.at.returns-in-Ok-clause-found g c).In_ok-begin in
    found-with offset c.end_position.result groups ∙ ap (option_map (λ e. (e, groups))) c.end_position.ensures
    ∙ attempt-ends w (offset c.args.pos) c.pos_to_offset-at.result c.begin.new.self c.run_thread.new.memory _ _ _ c.in-Ok.end b first c.in-Ok.ensures.outcome.searched

pub returns-in-Ok-clause-steps : goal.returns-in-Ok-clause-steps
returns-in-Ok-clause-steps g c =
    let w = g.W.SearchContext.searching c.args.context.now in
    let at = g.W.Input.Position.PositionType.offset c.args.pos in
    let begun = (goal.at.returns-in-Ok-clause-steps g c).In_ok-begin in
    let budget = g.S.StepCounter.budget in
    attempt-spends w at c.pos_to_offset-at.result c.begin.new.self (budget c.args.progress.now.steps) (budget c.run_thread.new.progress.steps) g.S.StepCounter.COUNTS (search-here g begun) (state-here g begun)
    c.run_thread.new.memory c.in-Ok.end c.end_position.result c.in-Ok.ensures.outcome.searched

pub returns-in-Err-clause-steps : goal.returns-in-Err-clause-steps
returns-in-Err-clause-steps g c =
    let w = g.W.SearchContext.searching c.args.context.now in
    let at = g.W.Input.Position.PositionType.offset c.args.pos in
    let b = search-here g (goal.at.returns-in-Err-clause-steps g c).In_ok-begin in
    let first = state-here g (goal.at.returns-in-Err-clause-steps g c).In_ok-begin in
    let budget = g.S.StepCounter.budget in
    let counts = g.S.StepCounter.COUNTS in
    let before = budget c.args.progress.now.steps in
    let after = budget c.run_thread.new.progress.steps in
    subst (λ e. SpendsNeedOrReachesLimit {X = Option g.row.W-Input-Position.Denot} (ticks_of_attempt_at w.tree w.text at) (step_limit counts before) (Err e) (step_limit counts after)) (sym c.cause_of_stop.ensures)
    (attempt-stops w at c.pos_to_offset-at.result c.begin.new.self before after counts b first (Option g.row.W-Input-Position.Denot) c.requires.fresh c.in-Err.ensures.outcome.stopped)

pub returns-in-Err-clause-begun : goal.returns-in-Err-clause-begun
returns-in-Err-clause-begun g c =
    let w = g.W.SearchContext.searching c.args.context.now in
    let budget = g.S.StepCounter.budget in
    let counts = g.S.StepCounter.COUNTS in
    let before = budget c.args.progress.now.steps in
    let after = budget c.run_thread.new.progress.steps in
    let begun = HasSlotPerGroupAndLoop w.tree c.run_thread.new.memory in
    subst (λ e. AllocFailureCostsAStep {X = Option g.row.W-Input-Position.Denot} begun (step_limit counts before) (Err e) (step_limit counts after)) (sym c.cause_of_stop.ensures)
    (stopped-takes (Option g.row.W-Input-Position.Denot) counts begun (NeedStepsAtLeast w true (running (current_thread_state_of c.begin.new.self 0 c.pos_to_offset-at.result) ∷ [])) before after c.requires.fresh c.in-Err.ensures.outcome.stopped)

pub returns-in_err-begin-clause-steps : goal.returns-in_err-begin-clause-steps
returns-in_err-begin-clause-steps g c =
    let w = g.W.SearchContext.searching c.args.context.now in
    let need = ticks_of_attempt_at w.tree w.text (g.W.Input.Position.PositionType.offset c.args.pos) in
    let budget = g.S.StepCounter.budget c.args.progress.now.steps in
    let counts = g.S.StepCounter.COUNTS in
    let X = Option g.row.W-Input-Position.Denot in
    handed X X need (step_limit counts budget) (step_limit counts budget) Memory c.from_residual.result c.from_residual.ensures.1 (spends-none X counts need budget budget refl)

pub returns-in_err-begin-clause-begun : goal.returns-in_err-begin-clause-begun
returns-in_err-begin-clause-begun g c =
    let groups = c.groups-groups.ensures ∙ c.program.ensures.groups in
    let loops = c.number_of_loops-loops.ensures in
    let w = g.W.SearchContext.searching c.args.context.now in
    let left = step_limit g.S.StepCounter.COUNTS (g.S.StepCounter.budget c.args.progress.now.steps) in
    takes-none (Option g.row.W-Input-Position.Denot) (HasSlotPerGroupAndLoop w.tree c.begin.new.self) left left c.from_residual.result (λ e. c.in_err-begin.ensures.refused (e ∙ ap₂ (λ n m. n + m) (sym groups) (sym loops)))

pub returns-in_err-begin-clause-cause : goal.returns-in_err-begin-clause-cause
returns-in_err-begin-clause-cause g c = tells-memory c.from_residual.result c.from_residual.ensures.1 c.requires.fresh

pub run_thread-requires-clause-sound : goal.run_thread-requires-clause-sound
run_thread-requires-clause-sound g c = c.requires.sound

pub returns-in_err-begin-clause-sound : goal.returns-in_err-begin-clause-sound
returns-in_err-begin-clause-sound g c = sound-same c.requires.sound

-- ---- The work

pub returns-in-Ok-clause-paid : goal.returns-in-Ok-clause-paid
returns-in-Ok-clause-paid g c = λ pays off fresh.
    let w = g.W.SearchContext.searching c.args.context.now in
    let first = state-here g (goal.at.returns-in-Ok-clause-paid g c).In_ok-begin in
    let ended = ends-from g.S.StepCounter g.M.FailureMemo w first c.run_thread.new.memory c.in-Ok.end c.in-Ok.ensures.outcome.paid in
    attempt-paid w (g.W.Input.Position.PositionType.offset c.args.pos) fresh (ended.1 pays off)

pub returns-in-Err-clause-paid : goal.returns-in-Err-clause-paid
returns-in-Err-clause-paid g c = λ pays off fresh.
    let w = g.W.SearchContext.searching c.args.context.now in
    let first = state-here g (goal.at.returns-in-Err-clause-paid g c).In_ok-begin in
    attempt-short w (g.W.Input.Position.PositionType.offset c.args.pos) fresh (stops-from g.S.StepCounter g.M.FailureMemo w first c.in-Err.ensures.outcome.short pays off)

pub returns-in_err-begin-clause-paid : goal.returns-in_err-begin-clause-paid
returns-in_err-begin-clause-paid g c = λ pays off fresh.
    let w = g.W.SearchContext.searching c.args.context.now in
    attempt-unbegun w (g.W.Input.Position.PositionType.offset c.args.pos) _ fresh c.from_residual.result c.from_residual.ensures.1
