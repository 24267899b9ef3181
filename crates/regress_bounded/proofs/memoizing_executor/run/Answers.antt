use Rattle.std.proofs.Common.{Some, ap, sym, refl, ◌∙◌, arith}
use Rattle.regress_memo.specs.MemoContractView.{MemoView}
use Rattle.regress_pikevm.proofs.ExecutorTurnLemmas.{popped-none}
use Rattle.regress_bounded.proofs.BoundedStateLemmas.{knows, still-knows, standing-on, less-on, stands-as, standing-as}
use Rattle.regress_bounded.proofs.StepResultLemmas.{runs-stopped, comes-less, came-on, came-end}
use Rattle.regress_bounded.proofs.memoizing_executor.run.Goals as goal

pub search-init : goal.search-init
search-init g c = record {
  stands = standing-as {next = Some c.args.start} refl (sym c.clear.ensures.items) c.requires.stands;
  from = λ b h. stands-as {next = Some c.args.start} refl (sym c.clear.ensures.items) h;
  memo_analysis = refl;
  left = omega arith;
}

-- ---- A thread in hand

pub execute_thread_step-requires-clause-stands : goal.execute_thread_step-requires-clause-stands
execute_thread_step-requires-clause-stands g c = standing-as c.in-Some.is refl c.search.invariant.stands

pub returns-in_err-next-in-Some-clause-sound : goal.returns-in_err-next-in-Some-clause-sound
returns-in_err-next-in-Some-clause-sound g c = still-knows c.search.invariant.stands c.execute_thread_step.ensures.memo

pub returns-in_err-next-in-Some-clause-memo_analysis : goal.returns-in_err-next-in-Some-clause-memo_analysis
returns-in_err-next-in-Some-clause-memo_analysis g c = ap (λ (m : MemoView). m.memo_analysis) c.execute_thread_step.ensures.memo ∙ c.search.invariant.memo_analysis

pub returns-in_err-next-in-Some-clause-runs : goal.returns-in_err-next-in-Some-clause-runs
returns-in_err-next-in-Some-clause-runs g c = λ b h.
    let stops = c.in_err-next-in-Some.ensures.continues b (stands-as c.in-Some.is refl (c.search.invariant.from b h)) in
    runs-stopped (stands-as c.in-Some.is refl (c.search.invariant.from b h)) c.execute_thread_step.new.progress (ap (λ (m : MemoView). m.memo_analysis) c.execute_thread_step.ensures.memo)
    c.from_residual.result c.in_err-next-in-Some.field-0.0 c.from_residual.ensures.1 stops

pub returns-in-End-clause-sound : goal.returns-in-End-clause-sound
returns-in-End-clause-sound g c = still-knows c.search.invariant.stands c.execute_thread_step.ensures.memo

pub returns-in-End-clause-memo_analysis : goal.returns-in-End-clause-memo_analysis
returns-in-End-clause-memo_analysis g c = ap (λ (m : MemoView). m.memo_analysis) c.execute_thread_step.ensures.memo ∙ c.search.invariant.memo_analysis

pub returns-in-End-clause-runs : goal.returns-in-End-clause-runs
returns-in-End-clause-runs g c = λ b h.
    let there = standing-as c.in-Some.is refl c.search.invariant.stands in
    came-end there c.execute_thread_step.new.stack.items c.execute_thread_step.new.progress c.in-End.is c.in_ok-next-in-Some.ensures.continues b (stands-as c.in-Some.is refl (c.search.invariant.from b h))

pub search-smaller-in-ContinueWith : goal.search-smaller-in-ContinueWith
search-smaller-in-ContinueWith g c =
    let there = standing-as c.in-Some.is refl c.search.invariant.stands in
    less-on there (λ b h. comes-less h (came-on there c.execute_thread_step.new.stack.items c.execute_thread_step.new.progress c.in-ContinueWith.is c.in_ok-next-in-Some.ensures.continues b h))

pub search-preserved-in-ContinueWith : goal.search-preserved-in-ContinueWith
search-preserved-in-ContinueWith g c =
    let there = standing-as c.in-Some.is refl c.search.invariant.stands in
    let came = came-on there c.execute_thread_step.new.stack.items c.execute_thread_step.new.progress c.in-ContinueWith.is c.in_ok-next-in-Some.ensures.continues in
    record {
      stands = standing-on there (λ b h. (came b h).stands);
      from = λ b h. (came b (stands-as c.in-Some.is refl (c.search.invariant.from b h))).stands;
      memo_analysis = ap (λ (m : MemoView). m.memo_analysis) c.execute_thread_step.ensures.memo ∙ c.search.invariant.memo_analysis;
      left = omega (arith, c.execute_thread_step.ensures.left, c.search.invariant.left);
    }

-- ---- One that waits

pub backtrack_to_pending_entry-requires-clause-stands : goal.backtrack_to_pending_entry-requires-clause-stands
backtrack_to_pending_entry-requires-clause-stands g c = standing-as c.in-None.is c.in-Some-pop.ensures.items c.search.invariant.stands

pub returns-in_err-next-in-Some-pop-clause-memo_analysis : goal.returns-in_err-next-in-Some-pop-clause-memo_analysis
returns-in_err-next-in-Some-pop-clause-memo_analysis g c = c.backtrack_to_pending_entry.ensures.memo_analysis ∙ c.search.invariant.memo_analysis

pub returns-in_err-next-in-Some-pop-clause-runs : goal.returns-in_err-next-in-Some-pop-clause-runs
returns-in_err-next-in-Some-pop-clause-runs g c = λ b h.
    let stops = c.in_err-next-in-Some-pop.ensures.continues b (stands-as c.in-None.is c.in-Some-pop.ensures.items (c.search.invariant.from b h)) in
    runs-stopped (stands-as c.in-None.is c.in-Some-pop.ensures.items (c.search.invariant.from b h)) c.backtrack_to_pending_entry.new.progress c.backtrack_to_pending_entry.ensures.memo_analysis
    c.from_residual-in_err-next-in-Some-pop.result c.in_err-next-in-Some-pop.field-0.0 c.from_residual-in_err-next-in-Some-pop.ensures.1 stops

pub search-smaller : goal.search-smaller
search-smaller g c =
    less-on (standing-as c.in-None.is c.in-Some-pop.ensures.items c.search.invariant.stands) (λ b h. comes-less h (c.in_ok-next-in-Some-pop.ensures.continues b h))

pub search-preserved : goal.search-preserved
search-preserved g c = record {
  stands = standing-on (standing-as c.in-None.is c.in-Some-pop.ensures.items c.search.invariant.stands) (λ b h. (c.in_ok-next-in-Some-pop.ensures.continues b h).stands);
  from = λ b h. (c.in_ok-next-in-Some-pop.ensures.continues b (stands-as c.in-None.is c.in-Some-pop.ensures.items (c.search.invariant.from b h))).stands;
  memo_analysis = c.backtrack_to_pending_entry.ensures.memo_analysis ∙ c.search.invariant.memo_analysis;
  left = omega (arith, c.backtrack_to_pending_entry.ensures.left, c.search.invariant.left);
}

-- ---- None

pub returns-in-None-pop-clause-sound : goal.returns-in-None-pop-clause-sound
returns-in-None-pop-clause-sound g c = knows c.search.invariant.stands

pub returns-in-None-pop-clause-memo_analysis : goal.returns-in-None-pop-clause-memo_analysis
returns-in-None-pop-clause-memo_analysis g c = c.search.invariant.memo_analysis

pub returns-in-None-pop-clause-runs : goal.returns-in-None-pop-clause-runs
returns-in-None-pop-clause-runs g c = λ b h.
    let empty = popped-none c.search.stack.items c.pop.new.self.items _ c.in-None-pop.ensures.items c.in-None-pop.ensures.cases.0 c.in-None-pop.ensures.rest in
    stands-as c.in-None.is empty (c.search.invariant.from b h)
