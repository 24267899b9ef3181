use Rattle.std.proofs.Common.{ℕ, ◌∷◌, refl, subst, sym, ap, ◌∙◌, arith}
use Rattle.regex_pattern_front.specs.AstToSpecTree.{tree_of}
use Rattle.regress_input.specs.CharAndByteReadsFromOffset.{direction_of_forward_flag}
use Rattle.regress_program.specs.CompilationOfTreesAsFunction.{compiled}
use Rattle.regress_machine.specs.Machine.{running}
use Rattle.regress_pikevm.specs.States.{machine_state_of, effect_of_next_states, threads_of_stack}
use Rattle.regress_pikevm.proofs.ExecutorTurnLemmas.{less-by, reads-literals}
use Rattle.regress_bounded.proofs.ContentsSearchLemmas.{ContentsRemain, contents-begin, contents-can, contents-inside, contents-continue, contents-dead, contents-end, contents-ended, contents-exits}
use Rattle.regress_bounded.proofs.ContentsSearchLemmas.{contents-fork, contents-refuse, contents-refuse-memory, contents-resumed, contents-short}
use Rattle.regress_bounded.proofs.ContentsSearchLemmas.{contents-taken, contents-unresumed, inner-answers, inner-inside, paid-by}
use Rattle.regress_bounded.proofs.ContentsSearchLemmas.{paid-less, step-over}
use Rattle.regress_bounded.proofs.lookarounds.+search_contents.Given.{Over}
use Rattle.regress_bounded.proofs.lookarounds.+search_contents.Goals.{In-Some}
use Rattle.regress_bounded.proofs.lookarounds.+search_contents.Goals as goal

-- the current thread, and those below it
abbrev IsTaken : (g : Over) (t : ℕ) (c : In-Some g t) → Type 0
IsTaken g t c =
    let offset = g.Input.Position.PositionType.offset in
    ContentsRemain (compiled (tree_of c.args.searched.now.program.now)) (g.Input.InputIndexer.text c.args.searched.now.input) (direction_of_forward_flag c.args.forward) (machine_state_of offset c.args.start)
    c.args.progress.now.left c.current_or_resumed_state.new.progress.left (running (machine_state_of offset c.in-Some.state) ∷ threads_of_stack offset c.current_or_resumed_state.new.stack.items)

taken : (g : Over) (t : ℕ) (c : In-Some g t) → IsTaken g t c
taken g t c =
    contents-taken g.Input.Position.PositionType.offset _ _ _ _ _ _ _ _ c.current_or_resumed_state.new.stack.items c.search.invariant.remains c.in_ok-state.field-0 c.in-Some.state c.in-Some.is
    c.in_ok-state.ensures.resumes

pub search-init : goal.search-init
search-init g t c =
    let program = compiled (tree_of c.args.searched.now.program.now) in
    let text = g.Input.InputIndexer.text c.args.searched.now.input in
    let d = direction_of_forward_flag c.args.forward in
    let offset = g.Input.Position.PositionType.offset in
    let start = machine_state_of offset c.args.start in
    let total = c.args.progress.now.left in
    record {
      remains = subst (λ l. ContentsRemain program text d start total total (running start ∷ threads_of_stack offset l)) (sym c.new-stack.ensures.items)
          (contents-begin program text d start total c.requires.inside c.requires.result);
      memo = refl;
    }

-- ---- No thread

pub returns-in_err-state-clause-memo : goal.returns-in_err-state-clause-memo
returns-in_err-state-clause-memo g t c = c.current_or_resumed_state.ensures.memo ∙ c.search.invariant.memo

pub returns-in_err-state-clause-left : goal.returns-in_err-state-clause-left
returns-in_err-state-clause-left g t c = let a = c.current_or_resumed_state.ensures.left in let b = c.search.invariant.remains.few in omega (arith, a, b)

pub returns-in_err-state-clause-finds : goal.returns-in_err-state-clause-finds
returns-in_err-state-clause-finds g t c = λ turns f e.
    contents-unresumed g.Input.Position.PositionType.offset _ _ _ _ _ _ _ _ c.current_or_resumed_state.new.stack.items c.search.invariant.remains c.in_err-state.field-0.0 c.in_err-state.ensures.resumes
    c.from_residual.result c.from_residual.ensures.1 turns f e

pub returns-in_default-clause-memo : goal.returns-in_default-clause-memo
returns-in_default-clause-memo g t c = c.current_or_resumed_state.ensures.memo ∙ c.search.invariant.memo

pub returns-in_default-clause-left : goal.returns-in_default-clause-left
returns-in_default-clause-left g t c = let a = c.current_or_resumed_state.ensures.left in let b = c.search.invariant.remains.few in omega (arith, a, b)

pub returns-in_default-clause-finds : goal.returns-in_default-clause-finds
returns-in_default-clause-finds g t c = λ turns f e.
    contents-ended g.Input.Position.PositionType.offset _ _ _ _ _ _ _ _ c.current_or_resumed_state.new.stack.items c.search.invariant.remains c.in_ok-state.field-0 c.in_default.is c.in_ok-state.ensures.resumes turns f e

-- ---- A step

pub work_in_direction-work-requires-clause-executable : goal.work_in_direction-work-requires-clause-executable
work_in_direction-work-requires-clause-executable g t c = contents-can _ _ _ (taken g t (goal.at.work_in_direction-work-requires-clause-executable g t c).In-Some)

pub returns-in_err-spend-clause-memo : goal.returns-in_err-spend-clause-memo
returns-in_err-spend-clause-memo g t c = c.spend.ensures.memo ∙ c.current_or_resumed_state.ensures.memo ∙ c.search.invariant.memo

pub returns-in_err-spend-clause-finds : goal.returns-in_err-spend-clause-finds
returns-in_err-spend-clause-finds g t c = λ turns f e.
    let offset = g.Input.Position.PositionType.offset in
    contents-refuse offset f _ c.from_residual-in_err-spend.result c.in_err-spend.field-0.0 c.from_residual-in_err-spend.ensures.1 c.spend.new.self.left (λ is.
    step-over offset _ _ _ _ _ _ _ _ c.current_or_resumed_state.new.stack.items (g.met.Input.InputIndexer.is_text c.args.searched.now.input) (reads-literals (tree_of c.args.searched.now.program.now) _ c.args.searched.now.bytes)
    (taken g t (goal.at.returns-in_err-spend-clause-finds g t c).In-Some) c.work_in_direction-work.result c.work_in_direction-work.ensures c.in_err-spend.ensures.over.1 turns f e)

pub execute_in_direction-requires-clause-executable : goal.execute_in_direction-requires-clause-executable
execute_in_direction-requires-clause-executable g t c = contents-can _ _ _ (taken g t (goal.at.execute_in_direction-requires-clause-executable g t c).In-Some)

pub execute_in_direction-requires-clause-inside : goal.execute_in_direction-requires-clause-inside
execute_in_direction-requires-clause-inside g t c = contents-inside _ _ _ (taken g t (goal.at.execute_in_direction-requires-clause-inside g t c).In-Some)

pub returns-in_err-execute_in_direction-clause-memo : goal.returns-in_err-execute_in_direction-clause-memo
returns-in_err-execute_in_direction-clause-memo g t c = c.spend.ensures.memo ∙ c.current_or_resumed_state.ensures.memo ∙ c.search.invariant.memo

pub returns-in_err-execute_in_direction-clause-left : goal.returns-in_err-execute_in_direction-clause-left
returns-in_err-execute_in_direction-clause-left g t c = let a = c.current_or_resumed_state.ensures.left in let b = c.search.invariant.remains.few in let d = c.spend.ensures.left in omega (arith, a, b, d)

pub search-smaller-in-Dead : goal.search-smaller-in-Dead
search-smaller-in-Dead g t c =
    let offset = g.Input.Position.PositionType.offset in
    let less = paid-less offset _ _ _ _ _ _ c.spend.new.self.left _ c.current_or_resumed_state.new.stack.items (g.met.Input.InputIndexer.is_text c.args.searched.now.input) (reads-literals (tree_of c.args.searched.now.program.now) _ c.args.searched.now.bytes)
    (taken g t (goal.at.search-smaller-in-Dead g t c).In-Some) (paid-by offset _ _ _ _ _ _ c.spend.new.self.left _ c.current_or_resumed_state.new.stack.items (g.met.Input.InputIndexer.is_text c.args.searched.now.input) (reads-literals (tree_of c.args.searched.now.program.now) _ c.args.searched.now.bytes)
    (taken g t (goal.at.search-smaller-in-Dead g t c).In-Some) c.work_in_direction-work.result c.work_in_direction-work.ensures c.in_ok-spend.ensures.spent) in
    let a = c.current_or_resumed_state.ensures.left in
    omega (arith, less, a)

pub search-preserved-in-Dead : goal.search-preserved-in-Dead
search-preserved-in-Dead g t c =
    let offset = g.Input.Position.PositionType.offset in
    record {
      remains = contents-dead offset _ _ _ _ _ _ c.spend.new.self.left _ c.current_or_resumed_state.new.stack.items (g.met.Input.InputIndexer.is_text c.args.searched.now.input) (reads-literals (tree_of c.args.searched.now.program.now) _ c.args.searched.now.bytes)
          (taken g t (goal.at.search-preserved-in-Dead g t c).In-Some) c.in_ok-execute_in_direction.field-0 c.in_ok-execute_in_direction.ensures (paid-by offset _ _ _ _ _ _ c.spend.new.self.left _ c.current_or_resumed_state.new.stack.items (g.met.Input.InputIndexer.is_text c.args.searched.now.input) (reads-literals (tree_of c.args.searched.now.program.now) _ c.args.searched.now.bytes)
          (taken g t (goal.at.search-preserved-in-Dead g t c).In-Some) c.work_in_direction-work.result c.work_in_direction-work.ensures c.in_ok-spend.ensures.spent) c.in-Dead.is;
      memo = c.spend.ensures.memo ∙ c.current_or_resumed_state.ensures.memo ∙ c.search.invariant.memo;
    }

pub search-smaller-in-Continue : goal.search-smaller-in-Continue
search-smaller-in-Continue g t c =
    let offset = g.Input.Position.PositionType.offset in
    let less = paid-less offset _ _ _ _ _ _ c.spend.new.self.left _ c.current_or_resumed_state.new.stack.items (g.met.Input.InputIndexer.is_text c.args.searched.now.input) (reads-literals (tree_of c.args.searched.now.program.now) _ c.args.searched.now.bytes)
    (taken g t (goal.at.search-smaller-in-Continue g t c).In-Some) (paid-by offset _ _ _ _ _ _ c.spend.new.self.left _ c.current_or_resumed_state.new.stack.items (g.met.Input.InputIndexer.is_text c.args.searched.now.input) (reads-literals (tree_of c.args.searched.now.program.now) _ c.args.searched.now.bytes)
    (taken g t (goal.at.search-smaller-in-Continue g t c).In-Some) c.work_in_direction-work.result c.work_in_direction-work.ensures c.in_ok-spend.ensures.spent) in
    let a = c.current_or_resumed_state.ensures.left in
    omega (arith, less, a)

pub search-preserved-in-Continue : goal.search-preserved-in-Continue
search-preserved-in-Continue g t c =
    let offset = g.Input.Position.PositionType.offset in
    record {
      remains = contents-continue offset _ _ _ _ _ _ c.spend.new.self.left _ c.current_or_resumed_state.new.stack.items (g.met.Input.InputIndexer.is_text c.args.searched.now.input) (reads-literals (tree_of c.args.searched.now.program.now) _ c.args.searched.now.bytes)
          (taken g t (goal.at.search-preserved-in-Continue g t c).In-Some) c.in_ok-execute_in_direction.field-0 c.in_ok-execute_in_direction.ensures (paid-by offset _ _ _ _ _ _ c.spend.new.self.left _ c.current_or_resumed_state.new.stack.items (g.met.Input.InputIndexer.is_text c.args.searched.now.input) (reads-literals (tree_of c.args.searched.now.program.now) _ c.args.searched.now.bytes)
          (taken g t (goal.at.search-preserved-in-Continue g t c).In-Some) c.work_in_direction-work.result c.work_in_direction-work.ensures c.in_ok-spend.ensures.spent) c.in-Continue.state c.in-Continue.is;
      memo = c.spend.ensures.memo ∙ c.current_or_resumed_state.ensures.memo ∙ c.search.invariant.memo;
    }

pub returns-in_err-push-in-Fork-clause-memo : goal.returns-in_err-push-in-Fork-clause-memo
returns-in_err-push-in-Fork-clause-memo g t c = c.spend.ensures.memo ∙ c.current_or_resumed_state.ensures.memo ∙ c.search.invariant.memo

pub returns-in_err-push-in-Fork-clause-left : goal.returns-in_err-push-in-Fork-clause-left
returns-in_err-push-in-Fork-clause-left g t c = let a = c.current_or_resumed_state.ensures.left in let b = c.search.invariant.remains.few in let d = c.spend.ensures.left in omega (arith, a, b, d)

pub returns-in_err-push-in-Fork-clause-finds : goal.returns-in_err-push-in-Fork-clause-finds
returns-in_err-push-in-Fork-clause-finds g t c = λ turns f e.
    contents-refuse-memory g.Input.Position.PositionType.offset f c.args.progress.now.left c.from_residual-in_err-push-in-Fork.result c.from_residual-in_err-push-in-Fork.ensures.1 c.spend.new.self.left

pub search-smaller-in-Fork : goal.search-smaller-in-Fork
search-smaller-in-Fork g t c =
    let offset = g.Input.Position.PositionType.offset in
    let less = paid-less offset _ _ _ _ _ _ c.spend.new.self.left _ c.current_or_resumed_state.new.stack.items (g.met.Input.InputIndexer.is_text c.args.searched.now.input) (reads-literals (tree_of c.args.searched.now.program.now) _ c.args.searched.now.bytes)
    (taken g t (goal.at.search-smaller-in-Fork g t c).In-Some) (paid-by offset _ _ _ _ _ _ c.spend.new.self.left _ c.current_or_resumed_state.new.stack.items (g.met.Input.InputIndexer.is_text c.args.searched.now.input) (reads-literals (tree_of c.args.searched.now.program.now) _ c.args.searched.now.bytes)
    (taken g t (goal.at.search-smaller-in-Fork g t c).In-Some) c.work_in_direction-work.result c.work_in_direction-work.ensures c.in_ok-spend.ensures.spent) in
    let a = c.current_or_resumed_state.ensures.left in
    omega (arith, less, a)

pub search-preserved-in-Fork : goal.search-preserved-in-Fork
search-preserved-in-Fork g t c =
    let offset = g.Input.Position.PositionType.offset in
    record {
      remains = contents-fork offset _ _ _ _ _ _ c.spend.new.self.left _ c.current_or_resumed_state.new.stack.items (g.met.Input.InputIndexer.is_text c.args.searched.now.input) (reads-literals (tree_of c.args.searched.now.program.now) _ c.args.searched.now.bytes)
          (taken g t (goal.at.search-preserved-in-Fork g t c).In-Some) c.in_ok-execute_in_direction.field-0 c.in_ok-execute_in_direction.ensures (paid-by offset _ _ _ _ _ _ c.spend.new.self.left _ c.current_or_resumed_state.new.stack.items (g.met.Input.InputIndexer.is_text c.args.searched.now.input) (reads-literals (tree_of c.args.searched.now.program.now) _ c.args.searched.now.bytes)
          (taken g t (goal.at.search-preserved-in-Fork g t c).In-Some) c.work_in_direction-work.result c.work_in_direction-work.ensures c.in_ok-spend.ensures.spent) c.in-Fork.preferred c.in-Fork.other c.push.new.self.items c.in-Fork.is c.in_ok-push-in-Fork.ensures.items;
      memo = c.spend.ensures.memo ∙ c.current_or_resumed_state.ensures.memo ∙ c.search.invariant.memo;
    }

pub returns-in_err-next-in-CharLoopExits-clause-memo : goal.returns-in_err-next-in-CharLoopExits-clause-memo
returns-in_err-next-in-CharLoopExits-clause-memo g t c = c.spend.ensures.memo ∙ c.current_or_resumed_state.ensures.memo ∙ c.search.invariant.memo

pub returns-in_err-next-in-CharLoopExits-clause-left : goal.returns-in_err-next-in-CharLoopExits-clause-left
returns-in_err-next-in-CharLoopExits-clause-left g t c = let a = c.current_or_resumed_state.ensures.left in let b = c.search.invariant.remains.few in let d = c.spend.ensures.left in omega (arith, a, b, d)

pub search-smaller-in-CharLoopExits : goal.search-smaller-in-CharLoopExits
search-smaller-in-CharLoopExits g t c =
    let offset = g.Input.Position.PositionType.offset in
    let less = paid-less offset _ _ _ _ _ _ c.spend.new.self.left _ c.current_or_resumed_state.new.stack.items (g.met.Input.InputIndexer.is_text c.args.searched.now.input) (reads-literals (tree_of c.args.searched.now.program.now) _ c.args.searched.now.bytes)
    (taken g t (goal.at.search-smaller-in-CharLoopExits g t c).In-Some) (paid-by offset _ _ _ _ _ _ c.spend.new.self.left _ c.current_or_resumed_state.new.stack.items (g.met.Input.InputIndexer.is_text c.args.searched.now.input) (reads-literals (tree_of c.args.searched.now.program.now) _ c.args.searched.now.bytes)
    (taken g t (goal.at.search-smaller-in-CharLoopExits g t c).In-Some) c.work_in_direction-work.result c.work_in_direction-work.ensures c.in_ok-spend.ensures.spent) in
    let a = c.current_or_resumed_state.ensures.left in
    omega (arith, less, a)

pub search-preserved-in-CharLoopExits : goal.search-preserved-in-CharLoopExits
search-preserved-in-CharLoopExits g t c =
    let offset = g.Input.Position.PositionType.offset in
    record {
      remains = contents-exits offset _ _ _ _ _ _ c.spend.new.self.left _ c.current_or_resumed_state.new.stack.items (g.met.Input.InputIndexer.is_text c.args.searched.now.input) (reads-literals (tree_of c.args.searched.now.program.now) _ c.args.searched.now.bytes)
          (taken g t (goal.at.search-preserved-in-CharLoopExits g t c).In-Some) c.in_ok-execute_in_direction.field-0 c.in_ok-execute_in_direction.ensures (paid-by offset _ _ _ _ _ _ c.spend.new.self.left _ c.current_or_resumed_state.new.stack.items (g.met.Input.InputIndexer.is_text c.args.searched.now.input) (reads-literals (tree_of c.args.searched.now.program.now) _ c.args.searched.now.bytes)
          (taken g t (goal.at.search-preserved-in-CharLoopExits g t c).In-Some) c.work_in_direction-work.result c.work_in_direction-work.ensures c.in_ok-spend.ensures.spent) c.in-CharLoopExits.field-0 c.in-CharLoopExits.states.items _
          (sym c.in_ok-execute_in_direction.ensures ∙ ap (effect_of_next_states offset) c.in-CharLoopExits.is) c.in_ok-next-in-CharLoopExits.ensures;
      memo = c.spend.ensures.memo ∙ c.current_or_resumed_state.ensures.memo ∙ c.search.invariant.memo;
    }

-- ---- A lookaround

pub search_contents-requires : goal.search_contents-requires
search_contents-requires g t c =
    let offset = g.Input.Position.PositionType.offset in
    let less = paid-less offset _ _ _ _ _ _ c.spend.new.self.left _ c.current_or_resumed_state.new.stack.items (g.met.Input.InputIndexer.is_text c.args.searched.now.input) (reads-literals (tree_of c.args.searched.now.program.now) _ c.args.searched.now.bytes)
    (taken g t (goal.at.search_contents-requires g t c).In-Some) (paid-by offset _ _ _ _ _ _ c.spend.new.self.left _ c.current_or_resumed_state.new.stack.items (g.met.Input.InputIndexer.is_text c.args.searched.now.input) (reads-literals (tree_of c.args.searched.now.program.now) _ c.args.searched.now.bytes)
    (taken g t (goal.at.search_contents-requires g t c).In-Some) c.work_in_direction-work.result c.work_in_direction-work.ensures c.in_ok-spend.ensures.spent) in
    let a = c.current_or_resumed_state.ensures.left in
    let b = c.search.invariant.remains.few in
    let inside = inner-inside offset _ _ _ _ _ _ c.spend.new.self.left _ c.current_or_resumed_state.new.stack.items (g.met.Input.InputIndexer.is_text c.args.searched.now.input) (reads-literals (tree_of c.args.searched.now.program.now) _ c.args.searched.now.bytes)
    (taken g t (goal.at.search_contents-requires g t c).In-Some) c.in_ok-execute_in_direction.field-0 c.in_ok-execute_in_direction.ensures c.in-Lookaround.forward c.in-Lookaround.negate c.in-Lookaround.inner c.in-Lookaround.after c.in-Lookaround.is in
    let result = inner-answers offset _ _ _ _ _ _ c.spend.new.self.left _ c.current_or_resumed_state.new.stack.items (g.met.Input.InputIndexer.is_text c.args.searched.now.input) (reads-literals (tree_of c.args.searched.now.program.now) _ c.args.searched.now.bytes)
    (taken g t (goal.at.search_contents-requires g t c).In-Some) c.in_ok-execute_in_direction.field-0 c.in_ok-execute_in_direction.ensures c.in-Lookaround.forward c.in-Lookaround.negate c.in-Lookaround.inner c.in-Lookaround.after c.in-Lookaround.is in
    λ κs h. (less-by _ _ t (omega (arith, less, a, b)) c.decreases, (h.0, (h.1.0, (h.1.1.0, (h.1.1.1.0, (h.1.1.1.1.0, (h.1.1.1.1.1, (c.requires.code, (inside, result)))))))))

pub returns-in_err-found-in-Lookaround-clause-memo : goal.returns-in_err-found-in-Lookaround-clause-memo
returns-in_err-found-in-Lookaround-clause-memo g t c = c.search_contents.ensures.memo ∙ c.spend.ensures.memo ∙ c.current_or_resumed_state.ensures.memo ∙ c.search.invariant.memo

pub returns-in_err-found-in-Lookaround-clause-left : goal.returns-in_err-found-in-Lookaround-clause-left
returns-in_err-found-in-Lookaround-clause-left g t c =
    let a = c.current_or_resumed_state.ensures.left in let b = c.search.invariant.remains.few in let d = c.spend.ensures.left in let e = c.search_contents.ensures.left in omega (arith, a, b, d, e)

pub returns-in_err-found-in-Lookaround-clause-finds : goal.returns-in_err-found-in-Lookaround-clause-finds
returns-in_err-found-in-Lookaround-clause-finds g t c = λ turns f e.
    let offset = g.Input.Position.PositionType.offset in
    contents-refuse offset f _ c.from_residual-in_err-found-in-Lookaround.result c.in_err-found-in-Lookaround.field-0.0 c.from_residual-in_err-found-in-Lookaround.ensures.1 c.search_contents.new.progress.left (λ is.
    contents-short offset _ _ _ _ _ _ c.spend.new.self.left _ c.current_or_resumed_state.new.stack.items (g.met.Input.InputIndexer.is_text c.args.searched.now.input) (reads-literals (tree_of c.args.searched.now.program.now) _ c.args.searched.now.bytes)
    (taken g t (goal.at.returns-in_err-found-in-Lookaround-clause-finds g t c).In-Some) c.in_ok-execute_in_direction.field-0 c.in_ok-execute_in_direction.ensures c.in-Lookaround.forward c.in-Lookaround.negate c.in-Lookaround.inner c.in-Lookaround.after c.in-Lookaround.is (paid-by offset _ _ _ _ _ _ c.spend.new.self.left _ c.current_or_resumed_state.new.stack.items (g.met.Input.InputIndexer.is_text c.args.searched.now.input) (reads-literals (tree_of c.args.searched.now.program.now) _ c.args.searched.now.bytes)
    (taken g t (goal.at.returns-in_err-found-in-Lookaround-clause-finds g t c).In-Some) c.work_in_direction-work.result c.work_in_direction-work.ensures c.in_ok-spend.ensures.spent) c.search_contents.new.progress.left c.search_contents.ensures.left c.in_err-found-in-Lookaround.field-0.0 is c.in_err-found-in-Lookaround.ensures.finds turns f e)

pub search-smaller : goal.search-smaller
search-smaller g t c =
    let offset = g.Input.Position.PositionType.offset in
    let less = paid-less offset _ _ _ _ _ _ c.spend.new.self.left _ c.current_or_resumed_state.new.stack.items (g.met.Input.InputIndexer.is_text c.args.searched.now.input) (reads-literals (tree_of c.args.searched.now.program.now) _ c.args.searched.now.bytes)
    (taken g t (goal.at.search-smaller g t c).In-Some) (paid-by offset _ _ _ _ _ _ c.spend.new.self.left _ c.current_or_resumed_state.new.stack.items (g.met.Input.InputIndexer.is_text c.args.searched.now.input) (reads-literals (tree_of c.args.searched.now.program.now) _ c.args.searched.now.bytes)
    (taken g t (goal.at.search-smaller g t c).In-Some) c.work_in_direction-work.result c.work_in_direction-work.ensures c.in_ok-spend.ensures.spent) in
    let a = c.current_or_resumed_state.ensures.left in
    let e = c.search_contents.ensures.left in
    omega (arith, less, a, e)

pub search-preserved : goal.search-preserved
search-preserved g t c =
    let offset = g.Input.Position.PositionType.offset in
    record {
      remains = contents-resumed offset _ _ _ _ _ _ c.spend.new.self.left _ c.current_or_resumed_state.new.stack.items (g.met.Input.InputIndexer.is_text c.args.searched.now.input) (reads-literals (tree_of c.args.searched.now.program.now) _ c.args.searched.now.bytes)
          (taken g t (goal.at.search-preserved g t c).In-Some) c.in_ok-execute_in_direction.field-0 c.in_ok-execute_in_direction.ensures c.in-Lookaround.forward c.in-Lookaround.negate c.in-Lookaround.inner c.in-Lookaround.after c.in-Lookaround.is (paid-by offset _ _ _ _ _ _ c.spend.new.self.left _ c.current_or_resumed_state.new.stack.items (g.met.Input.InputIndexer.is_text c.args.searched.now.input) (reads-literals (tree_of c.args.searched.now.program.now) _ c.args.searched.now.bytes)
          (taken g t (goal.at.search-preserved g t c).In-Some) c.work_in_direction-work.result c.work_in_direction-work.ensures c.in_ok-spend.ensures.spent) c.search_contents.new.progress.left c.search_contents.ensures.left
          c.in_ok-found-in-Lookaround.found c.in_ok-found-in-Lookaround.ensures.finds c.resume_after_lookaround-next.result c.resume_after_lookaround-next.ensures;
      memo = c.search_contents.ensures.memo ∙ c.spend.ensures.memo ∙ c.current_or_resumed_state.ensures.memo ∙ c.search.invariant.memo;
    }

-- ---- The end

pub returns-in-Accept-clause-memo : goal.returns-in-Accept-clause-memo
returns-in-Accept-clause-memo g t c = c.spend.ensures.memo ∙ c.current_or_resumed_state.ensures.memo ∙ c.search.invariant.memo

pub returns-in-Accept-clause-left : goal.returns-in-Accept-clause-left
returns-in-Accept-clause-left g t c = let a = c.current_or_resumed_state.ensures.left in let b = c.search.invariant.remains.few in let d = c.spend.ensures.left in omega (arith, a, b, d)

pub returns-in-Accept-clause-finds : goal.returns-in-Accept-clause-finds
returns-in-Accept-clause-finds g t c = λ turns f e.
    let offset = g.Input.Position.PositionType.offset in
    contents-end offset _ _ _ _ _ _ c.spend.new.self.left _ c.current_or_resumed_state.new.stack.items (g.met.Input.InputIndexer.is_text c.args.searched.now.input) (reads-literals (tree_of c.args.searched.now.program.now) _ c.args.searched.now.bytes)
    (taken g t (goal.at.returns-in-Accept-clause-finds g t c).In-Some) c.in_ok-execute_in_direction.field-0 c.in_ok-execute_in_direction.ensures (paid-by offset _ _ _ _ _ _ c.spend.new.self.left _ c.current_or_resumed_state.new.stack.items (g.met.Input.InputIndexer.is_text c.args.searched.now.input) (reads-literals (tree_of c.args.searched.now.program.now) _ c.args.searched.now.bytes)
    (taken g t (goal.at.returns-in-Accept-clause-finds g t c).In-Some) c.work_in_direction-work.result c.work_in_direction-work.ensures c.in_ok-spend.ensures.spent) c.in-Accept.end c.in-Accept.is turns f e
