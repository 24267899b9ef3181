use Rattle.std.proofs.Common.{◌∷◌, ◌++◌, [], sym, subst}
use Rattle.regex_pattern_front.specs.AstToSpecTree.{tree_of}
use Rattle.regress_program.specs.CompilationOfTreesAsFunction.{compiled}
use Rattle.regress_bounded.specs.BoundedState.{ContinuesOrStopsInEachAttempt}
use Rattle.std.proofs.Math.Logic.{∥∥₁_map, ∥∥₁_elim}
use Rattle.std.proofs.Props.{props}
use Rattle.regress_memo.specs.CheckedAnalysis.{IsRecordableMemoKey}
use Rattle.regress_memo.specs.MemoContents.{memo_key_as_spec}
use Rattle.regress_memo.specs.MemoContractView.{MemoView}
use Rattle.regress_bounded.specs.declared.memo_and_work_budget.MemoAndWorkBudget.{MemoAndWorkBudget}
use Rattle.regress_bounded.proofs.BoundedStateLemmas.{still-knows, thread-goes, thread-over, record-bit, record-right, record-goes, record-over}
use Rattle.regress_bounded.proofs.StepResultLemmas.{goes-short}
use Rattle.regress_bounded.proofs.thread_steps_and_backtracking.backtrack_to_pending_entry.Goals as goal

-- ---- To a thread

pub returns-in_err-spend-in-Thread-clause-sound : goal.returns-in_err-spend-in-Thread-clause-sound
returns-in_err-spend-in-Thread-clause-sound g c = still-knows c.requires.stands c.spend.ensures.memo

pub returns-in_err-spend-in-Thread-clause-continues : goal.returns-in_err-spend-in-Thread-clause-continues
returns-in_err-spend-in-Thread-clause-continues g c = λ b h.
    goes-short h c.args.stack.now.items c.spend.new.self c.from_residual.result c.in_err-spend-in-Thread.field-0.0 c.from_residual.ensures.1 c.in_err-spend-in-Thread.ensures.over.0
    (thread-over c.args.stack.now.items c.args.waiting h c.in-Thread.state c.in-Thread.is c.spend.new.self c.in_err-spend-in-Thread.ensures.over.1)

pub returns-in_ok-spend-in-Thread-clause-sound : goal.returns-in_ok-spend-in-Thread-clause-sound
returns-in_ok-spend-in-Thread-clause-sound g c = still-knows c.requires.stands c.spend.ensures.memo

pub returns-in_ok-spend-in-Thread-clause-continues : goal.returns-in_ok-spend-in-Thread-clause-continues
returns-in_ok-spend-in-Thread-clause-continues g c = λ b h.
    thread-goes c.args.stack.now.items c.args.waiting h c.in-Thread.state c.in-Thread.is c.spend.new.self c.spend.ensures.memo c.in_ok-spend-in-Thread.ensures.spent

-- ---- To a run

pub returns-in-PendingLazyLoop-clause-sound : goal.returns-in-PendingLazyLoop-clause-sound
returns-in-PendingLazyLoop-clause-sound g c = still-knows c.requires.stands c.resume_lazy_char_loop.ensures.memo

pub returns-in-PendingLazyLoop-clause-continues : goal.returns-in-PendingLazyLoop-clause-continues
returns-in-PendingLazyLoop-clause-continues g c =
    subst (λ w. ContinuesOrStopsInEachAttempt g.Input.Position.PositionType.offset (compiled (tree_of c.args.searched.now.program.now)) (g.Input.InputIndexer.text c.args.searched.now.input) [] (c.args.stack.now.items ++ w ∷ [])
    c.args.progress.now c.resume_lazy_char_loop.result c.resume_lazy_char_loop.new.stack.items c.resume_lazy_char_loop.new.progress) (sym c.in-PendingLazyLoop.is) c.resume_lazy_char_loop.ensures.continues

-- ---- To a record

pub record_failure-requires : goal.record_failure-requires
record_failure-requires g c =
    let bit = ∥∥₁_elim c.requires.stands (Prim.hlevel props) (λ s. record-bit c.args.stack.now.items c.args.waiting s.stands c.in-Record.key c.in-Record.is) in
    subst (λ (m : MemoView). IsRecordableMemoKey m.memo_analysis m.places (memo_key_as_spec c.in-Record.key)) (sym c.spend-in-Record.ensures.memo) bit

pub returns-in_ok-spend-in-Record-clause-sound : goal.returns-in_ok-spend-in-Record-clause-sound
returns-in_ok-spend-in-Record-clause-sound g c =
    ∥∥₁_map c.requires.stands (λ s. record-right c.args.stack.now.items c.args.waiting s.stands c.in-Record.key c.in-Record.is c.spend-in-Record.new.self.memo _
    c.spend-in-Record.ensures.memo c.record_failure.ensures c.spend-in-Record.new.self.left c.in_ok-spend-in-Record.ensures.spent)

pub returns-in_ok-spend-in-Record-clause-continues : goal.returns-in_ok-spend-in-Record-clause-continues
returns-in_ok-spend-in-Record-clause-continues g c = λ b h.
    let progress : MemoAndWorkBudget = record { memo = c.record_failure.new.self; left = c.spend-in-Record.new.self.left } in
    record-goes c.args.stack.now.items c.args.waiting h c.in-Record.key c.in-Record.is c.spend-in-Record.new.self.memo progress c.spend-in-Record.ensures.memo c.record_failure.ensures
    c.in_ok-spend-in-Record.ensures.spent

pub returns-in_err-spend-in-Record-clause-continues : goal.returns-in_err-spend-in-Record-clause-continues
returns-in_err-spend-in-Record-clause-continues g c = λ b h.
    goes-short h c.args.stack.now.items c.spend-in-Record.new.self c.from_residual-in_err-spend-in-Record.result c.in_err-spend-in-Record.field-0.0 c.from_residual-in_err-spend-in-Record.ensures.1
    c.in_err-spend-in-Record.ensures.over.0
    (record-over c.args.stack.now.items c.args.waiting h c.in-Record.key c.in-Record.is c.spend-in-Record.new.self c.in_err-spend-in-Record.ensures.over.1)

pub returns-in_err-spend-in-Record-clause-sound : goal.returns-in_err-spend-in-Record-clause-sound
returns-in_err-spend-in-Record-clause-sound g c = still-knows c.requires.stands c.spend-in-Record.ensures.memo
