use Rattle.std.proofs.Common.{◌≡◌, ◌<◌, true, length, ap, sym, ◌∙◌, rules}
use Rattle.std.specs.Prelude.{IfErr, Ok, Err}
use Rattle.regress_memo.specs.SkippedLookarounds.{lookaround_at}
use Rattle.regress_program.specs.InsnsAsSpec.{insn_as_spec_insn}
use Rattle.regress_program.specs.declared.instructions.Insn.{Insn as Coded}
use Rattle.regress_bounded.specs.Unboundedness.{is_lookaround_or_backref_insn}
use Rattle.regress_bounded.proofs.LookaroundTurnLemmas.{IsLookaround, look-contents, look-continues, look-none, look-there}
use Rattle.regress_bounded.specs.declared.memo_and_work_budget.AttemptAbortReason.TheVariants.{Work}
use Rattle.regress_bounded.proofs.StepResultLemmas.{handed-on, turns-handed, turns-short}
use Rattle.regress_bounded.proofs.ThreadTurnLemmas.{standing-can, standing-inside, here-below, here-insn, goal-ends, leads-on, turn-over, turn-goes}
use Rattle.regress_bounded.proofs.thread_steps_and_backtracking.execute_with_record.Goals as goal

pub bounds-insns-state : goal.bounds-insns-state
bounds-insns-state g c = here-below c.args.searched.now.program.now c.args.insns.now c.requires.code c.requires.stands

pub offset_bounds-insns-state : goal.offset_bounds-insns-state
offset_bounds-insns-state g c =
    let below : c.args.state.ip < length c.args.insns.now = here-below c.args.searched.now.program.now c.args.insns.now c.requires.code c.requires.stands in
    search rules

-- ---- The search ends

pub returns-then-is_goal-clause-continues : goal.returns-then-is_goal-clause-continues
returns-then-is_goal-clause-continues g c = λ b h. record {
  stack = c.args.stack.now.items;
  from = _;
  stands = h;
  ends =
      goal-ends c.args.searched.now.program.now (g.Input.InputIndexer.text c.args.searched.now.input) _ c.index-insns-state.result
      (here-insn c.args.searched.now.program.now c.args.insns.now c.requires.code c.requires.stands c.index-insns-state.result c.index-insns-state.is)
      (sym c.if-is_goal.true ∙ c.is_goal.ensures);
}

-- ---- A lookaround

-- the lookaround, and that it is the current instruction
look : (insn : Coded) → true ≡ is_lookaround_or_backref_insn true (insn_as_spec_insn insn) → IsLookaround (insn_as_spec_insn insn)
look insn is = look-there (insn_as_spec_insn insn) is

pub execute_lookaround-requires-clause-inside : goal.execute_lookaround-requires-clause-inside
execute_lookaround-requires-clause-inside g c = standing-inside c.requires.stands

pub execute_lookaround-requires-clause-contents : goal.execute_lookaround-requires-clause-contents
execute_lookaround-requires-clause-contents g c =
    let l = look c.index-insns-state.result (sym c.if-is_lookaround.true ∙ c.is_lookaround.ensures) in
    let here = here-insn c.args.searched.now.program.now c.args.insns.now c.requires.code c.requires.stands c.index-insns-state.result c.index-insns-state.is in
    look-contents c.requires.stands l.look (ap lookaround_at here ∙ l.is)

pub returns-in_err-next-clause-continues : goal.returns-in_err-next-clause-continues
returns-in_err-next-clause-continues g c = λ b h.
    let l = look c.index-insns-state.result (sym c.if-is_lookaround.true ∙ c.is_lookaround.ensures) in
    let here = here-insn c.args.searched.now.program.now c.args.insns.now c.requires.code c.requires.stands c.index-insns-state.result c.index-insns-state.is in
    turns-handed h c.args.stack.now.items c.execute_lookaround.new.progress c.from_residual.result c.in_err-next.field-0.0 c.from_residual.ensures.1
    (look-continues h l.look (ap lookaround_at here ∙ l.is) c.execute_lookaround.new.progress c.execute_lookaround.ensures.memo (Err c.in_err-next.field-0.0) c.in_err-next.ensures.continues)

pub returns-then-is_lookaround-clause-continues : goal.returns-then-is_lookaround-clause-continues
returns-then-is_lookaround-clause-continues g c = λ b h.
    let l = look c.index-insns-state.result (sym c.if-is_lookaround.true ∙ c.is_lookaround.ensures) in
    let here = here-insn c.args.searched.now.program.now c.args.insns.now c.requires.code c.requires.stands c.index-insns-state.result c.index-insns-state.is in
    look-continues h l.look (ap lookaround_at here ∙ l.is) c.execute_lookaround.new.progress c.execute_lookaround.ensures.memo (Ok c.in_ok-next.next) c.in_ok-next.ensures.continues

-- ---- The next thread is current

pub work_of_step-work-requires-clause-executable : goal.work_of_step-work-requires-clause-executable
work_of_step-work-requires-clause-executable g c = standing-can c.requires.stands

pub push_threads_of_step-requires-clause-inside : goal.push_threads_of_step-requires-clause-inside
push_threads_of_step-requires-clause-inside g c = standing-inside c.requires.stands

pub push_threads_of_step-requires-clause-leads : goal.push_threads_of_step-requires-clause-leads
push_threads_of_step-requires-clause-leads g c =
    leads-on c.requires.stands _ (here-insn c.args.searched.now.program.now c.args.insns.now c.requires.code c.requires.stands c.index-insns-state.result c.index-insns-state.is)
    (sym c.if-is_goal.false ∙ c.is_goal.ensures) (look-none (insn_as_spec_insn c.index-insns-state.result) (sym c.if-is_lookaround.false ∙ c.is_lookaround.ensures))

pub returns-in_err-spend_and_push_record-clause-continues : goal.returns-in_err-spend_and_push_record-clause-continues
returns-in_err-spend_and_push_record-clause-continues g c = λ b h.
    let leads = leads-on c.requires.stands _ (here-insn c.args.searched.now.program.now c.args.insns.now c.requires.code c.requires.stands c.index-insns-state.result c.index-insns-state.is)
    (sym c.if-is_goal.false ∙ c.is_goal.ensures) (look-none (insn_as_spec_insn c.index-insns-state.result) (sym c.if-is_lookaround.false ∙ c.is_lookaround.ensures)) in
    turns-short h c.spend_and_push_record.new.stack.items c.spend_and_push_record.new.progress c.from_residual-in_err-spend_and_push_record.result c.in_err-spend_and_push_record.field-0.0 c.from_residual-in_err-spend_and_push_record.ensures.1
    (λ out. turn-over h c.requires.limited c.requires.key leads c.work_of_step-work.result c.work_of_step-work.ensures c.spend_and_push_record.new.progress (c.in_err-spend_and_push_record.ensures.over out).0)

pub returns-in_err-spend_and_push_record-clause-refused : goal.returns-in_err-spend_and_push_record-clause-refused
returns-in_err-spend_and_push_record-clause-refused g c =
    handed-on (λ r. IfErr r (λ e. e ≡ Work → c.spend_and_push_record.new.stack.items ≡ c.args.stack.now.items)) c.from_residual-in_err-spend_and_push_record.result c.in_err-spend_and_push_record.field-0.0 c.from_residual-in_err-spend_and_push_record.ensures.1
    (λ out. (c.in_err-spend_and_push_record.ensures.over out).1)

pub returns-clause-continues : goal.returns-clause-continues
returns-clause-continues g c = λ b h.
    let leads = leads-on c.requires.stands _ (here-insn c.args.searched.now.program.now c.args.insns.now c.requires.code c.requires.stands c.index-insns-state.result c.index-insns-state.is)
    (sym c.if-is_goal.false ∙ c.is_goal.ensures) (look-none (insn_as_spec_insn c.index-insns-state.result) (sym c.if-is_lookaround.false ∙ c.is_lookaround.ensures)) in
    turn-goes h c.requires.limited c.requires.key leads c.work_of_step-work.result c.work_of_step-work.ensures c.spend_and_push_record.new.stack.items c.push_threads_of_step.new.stack.items
    c.in_ok-spend_and_push_record.ensures.pushed c.in_ok-next-2.next c.in_ok-next-2.ensures c.spend_and_push_record.new.progress c.spend_and_push_record.ensures.memo c.in_ok-spend_and_push_record.ensures.spent
