use Rattle.std.proofs.Common.{◌≡◌, ◌<◌, ◌^◌, ◌+◌, length, ap, sym, ◌∙◌, arith, rules}
use Rattle.regex_meaning.specs.CompilationRelation.{Loop1CharBody}
use Rattle.regex_meaning.proofs.EscapesAndNamesLemmas.{Some_inj}
use Rattle.regress_program.specs.InsnsAsSpec.{insn_as_spec_insn}
use Rattle.regress_pikevm.specs.States.{machine_state_of}
use Rattle.regress_bounded.specs.BoundedState.{min_and_greed_of_loop}
use Rattle.regress_bounded.proofs.CharLoopBodyInsns.{body-spelled}
use Rattle.regress_bounded.proofs.StepResultLemmas.{turns-handed, turns-short}
use Rattle.regress_bounded.proofs.ThreadTurnLemmas.{standing-place, known-over, known-goes, has-maximum, RunAt, here-below, here-insn, run-at}
use Rattle.regress_bounded.proofs.thread_steps_and_backtracking.execute_thread_step.Goals.{In-Some}
use Rattle.regress_bounded.proofs.thread_steps_and_backtracking.execute_thread_step.Given.{Over}
use Rattle.regress_bounded.proofs.thread_steps_and_backtracking.execute_thread_step.Goals as goal

-- ---- What is known to fail

pub is_key_known_to_fail-requires : goal.is_key_known_to_fail-requires
is_key_known_to_fail-requires g c = c.key_at-key.ensures.bit (standing-place c.requires.stands)

pub returns-in_err-spend-clause-continues : goal.returns-in_err-spend-clause-continues
returns-in_err-spend-clause-continues g c = λ b h.
    turns-short h c.args.stack.now.items c.spend.new.self c.from_residual.result c.in_err-spend.field-0.0 c.from_residual.ensures.1
    (λ out. known-over h c.key_at-key.result c.key_at-key.ensures.key (sym c.is_key_known_to_fail.ensures ∙ c.if-is_key_known_to_fail.true) c.spend.new.self c.in_err-spend.ensures.over.1)

pub returns-then-is_key_known_to_fail-clause-continues : goal.returns-then-is_key_known_to_fail-clause-continues
returns-then-is_key_known_to_fail-clause-continues g c = λ b h.
    known-goes h c.key_at-key.result c.key_at-key.ensures.key (sym c.is_key_known_to_fail.ensures ∙ c.if-is_key_known_to_fail.true) c.spend.new.self c.spend.ensures.memo c.in_ok-spend.ensures.spent

-- ---- A run without a maximum

pub offset_bounds-insns-state : goal.offset_bounds-insns-state
offset_bounds-insns-state g c =
    let below : c.args.state.ip < length c.args.insns.now = here-below c.args.searched.now.program.now c.args.insns.now c.requires.code c.requires.stands in
    search rules

pub bounds-insns-state : goal.bounds-insns-state
bounds-insns-state g c = here-below c.args.searched.now.program.now c.args.insns.now c.requires.code c.requires.stands

-- the run that stands there
there : (g : Over) (c : In-Some g)
    → RunAt g.Input.Position.PositionType.offset c.args.searched.now.program.now (g.Input.InputIndexer.text c.args.searched.now.input) c.args.insns.now
    (machine_state_of g.Input.Position.PositionType.offset c.args.state) c.in-Some.greedy c.in-Some.least
there g c =
    run-at c.args.searched.now.program.now c.args.insns.now c.requires.code c.requires.stands c.index-insns-state.result c.index-insns-state.is c.in-Some.greedy c.in-Some.least
    (sym c.in-Some.is ∙ c.unbounded_loop.ensures)

fits : (g : Over) (c : In-Some g) → c.args.state.ip + 2 < 2 ^ 64
fits g c =
    let below = (there g c).below in
    let short : length c.args.insns.now < 2 ^ 64 = search rules in
    omega (arith, below, short)

pub overflow_add-run : goal.overflow_add-run
overflow_add-run g c = let few = fits g c in omega (arith, few)

pub offset_bounds-insns-state-2 : goal.offset_bounds-insns-state-2
offset_bounds-insns-state-2 g c = let below : c.args.state.ip + 1 < length c.args.insns.now = (there g c).below in search rules

pub bounds-insns-state-2 : goal.bounds-insns-state-2
bounds-insns-state-2 g c = (there g c).below

pub unbounded_char_loop_with_memo-requires-clause-run : goal.unbounded_char_loop_with_memo-requires-clause-run
unbounded_char_loop_with_memo-requires-clause-run g c = (there g (goal.at.unbounded_char_loop_with_memo-requires-clause-run g c).In-Some).here c.index-insns-state-2.result c.index-insns-state-2.is

pub unbounded_char_loop_with_memo-requires-clause-bytes : goal.unbounded_char_loop_with_memo-requires-clause-bytes
unbounded_char_loop_with_memo-requires-clause-bytes g c =
    body-spelled c.args.searched.now.program.now c.args.searched.now.bytes c.args.state.ip c.index-insns-state-2.result ((there g (goal.at.unbounded_char_loop_with_memo-requires-clause-bytes g c).In-Some).reads c.index-insns-state-2.result c.index-insns-state-2.is)

pub unbounded_char_loop_with_memo-requires-clause-within : goal.unbounded_char_loop_with_memo-requires-clause-within
unbounded_char_loop_with_memo-requires-clause-within g c = fits g (goal.at.unbounded_char_loop_with_memo-requires-clause-within g c).In-Some

pub returns-in_err-next-clause-continues : goal.returns-in_err-next-clause-continues
returns-in_err-next-clause-continues g c = λ b h.
    turns-handed h c.unbounded_char_loop_with_memo.new.stack.items c.unbounded_char_loop_with_memo.new.progress c.from_residual-in_err-next.result c.in_err-next.field-0.0
    c.from_residual-in_err-next.ensures.1 (c.in_err-next.ensures.continues b h)

-- ---- None

pub execute_with_record-requires-clause-limited : goal.execute_with_record-requires-clause-limited
execute_with_record-requires-clause-limited g c = λ least most greedy run.
    let here = here-insn c.args.searched.now.program.now c.args.insns.now c.requires.code c.requires.stands c.index-insns-state.result c.index-insns-state.is in
    let is : insn_as_spec_insn c.index-insns-state.result ≡ Loop1CharBody least most greedy = Some_inj (sym here ∙ run) in
    has-maximum greedy least most (sym c.in_default.is ∙ c.unbounded_loop.ensures ∙ ap min_and_greed_of_loop is)
