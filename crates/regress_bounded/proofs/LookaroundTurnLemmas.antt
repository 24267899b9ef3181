-- A turn at a lookaround is one event, which costs a unit more than the search of its contents.
use Rattle.std.proofs.Common.{◌≡◌, ◌≤◌, ℕ, ◌+◌, Bool, true, false, List, [], ◌∷◌, ◌++◌, Option, Some, None, refl, sym, ap, ◌∙◌, subst, arith}
use Rattle.std.proofs.Math.Logic.{∥∥₁_map, ∥∥₁_elim}
use Rattle.std.specs.Prelude.{Result, Ok, Err, IsErrAnd, option_map, slice_get}
use Rattle.regex_meaning.specs.Text.{Text, Direction, rightwards}
use Rattle.regex_meaning.specs.CodeUnitOffsets.{units}
use Rattle.regex_meaning.specs.CompilationRelation.{Program, Insn, Lookahead, Lookbehind}
use Rattle.regress_machine.specs.Machine as machine
use Rattle.regress_machine.specs.Machine.{running, Next, goes, scans, ends, asks, stuck, Found, after_lookaround, state_with_ip, state_at_next_ip, act, search}
use Rattle.regress_machine.specs.InsnEffects.{IsNotStuck}
use Rattle.regress_input.specs.CharAndByteReadsFromOffset.{direction_of_forward_flag}
use Rattle.regress_machine.proofs.MachineSearchLemmas.{asked-inner}
use Rattle.regress_memo.specs.SkippedLookarounds.{LookaroundInsn, lookaround_at}
use Rattle.regress_memo.specs.MemoSearch.{one_thread, thread_entries, threads_in}
use Rattle.regress_memo.proofs.SkippedLookaroundLemmas.{asks-there}
use Rattle.regress_memo.proofs.StepKindByInstruction.{asked-there}
use Rattle.regress_pikevm.specs.declared.pikevm.states.NextStates.{NextStates}
use Rattle.regress_pikevm.specs.declared.pikevm.states.NextStates.TheVariants.{Dead, Continue, Fork, CharLoopExits, Lookaround as TurnLooks, Accept}
use Rattle.regress_pikevm.specs.declared.pikevm.states.State.{State}
use Rattle.regress_pikevm.specs.States.{machine_state_of, effect_of_next_states, current_thread_if_any}
use Rattle.regress_bounded.specs.BudgetSpending.{LowersBudgetByWork}
use Rattle.regress_bounded.specs.CostsOfSearchEvents.{searches_contents}
use Rattle.regress_bounded.specs.BoundedState.{BoundedAttempt, AttemptHasState, HasAttemptState, MayBeNextSearchEvent, ContinuesOrStops}
use Rattle.regress_bounded.specs.LookaroundResults.{HasResult, ContentsOfLookaround, SearchResultIs, LookaroundResultIs}
use Rattle.regress_bounded.specs.Unboundedness.{is_lookaround_or_backref_insn}
use Rattle.regress_bounded.specs.declared.memo_and_work_budget.MemoAndWorkBudget.{MemoAndWorkBudget}
use Rattle.regress_bounded.specs.declared.memo_and_work_budget.AttemptAbortReason.{AttemptAbortReason}
use Rattle.regress_bounded.specs.declared.memo_and_work_budget.AttemptAbortReason.TheVariants.{Memory, Work}
use Rattle.regress_bounded.specs.declared.pending_stack.StackEntry.{StackEntry}
use Rattle.regress_bounded.proofs.BoundedStateLemmas.{finds, come, comes-on, is-short}
use Rattle.regress_bounded.proofs.StepResultLemmas.{handed-on}

-- The test of an instruction tells whether it is a lookaround.
pub record IsLookaround (x : Insn) : Type 0 where
  pub look : LookaroundInsn
  pub is : lookaround_at (Some x) ≡ Some look

pub look-there : (x : Insn) → true ≡ is_lookaround_or_backref_insn true x → IsLookaround x
look-there (Lookahead negate start_group end_group continuation) e = record { look = _; is = refl }
look-there (Lookbehind negate start_group end_group continuation) e = record { look = _; is = refl }
look-there x e = cc

pub look-none : (x : Insn) → false ≡ is_lookaround_or_backref_insn true x → lookaround_at (Some x) ≡ None
look-none (Lookahead negate start_group end_group continuation) e = cc
look-none (Lookbehind negate start_group end_group continuation) e = cc
look-none x e = refl

module _ {P : Type 0} {offset : P → ℕ} {program : Program} {text : Text} {s : machine.State} {stack : List (StackEntry P)} {c : MemoAndWorkBudget} where
  -- The search of the contents has a result, because the enclosing search has one.
  contents-of : {b : BoundedAttempt} → AttemptHasState offset program text b (one_thread (running s) ∷ []) stack c → (look : LookaroundInsn) → lookaround_at (slice_get program.insns s.ip) ≡ Some look
      → ContentsOfLookaround program text s
  contents-of {b = b} h look there =
      let f = finds program text c.memo.memo_analysis h.right.paid b h.is_memory h.answers h.work h.now (one_thread (running s) ∷ h.row) (come offset program text b h) in
      let a = asked-inner program text f.turns rightwards look.inner look.negate s (state_at_next_ip s) (state_with_ip look.continuation s) (threads_in h.row) f.within.found
      (asks-there program text rightwards s look (slice_get program.insns s.ip) there) f.within.searches in
      record { look = look; there = there; turns = f.turns; found = a.found; searches = a.searches }

  pub look-contents : HasAttemptState offset program text (one_thread (running s) ∷ []) stack c → (look : LookaroundInsn) → lookaround_at (slice_get program.insns s.ip) ≡ Some look
      → ∥ ContentsOfLookaround program text s ∥₁
  look-contents there look is = ∥∥₁_map there (λ h. contents-of h.stands look is)

  module _ {b : BoundedAttempt} (h : AttemptHasState offset program text b (one_thread (running s) ∷ []) stack c) (look : LookaroundInsn) (there : lookaround_at (slice_get program.insns s.ip) ≡ Some look)
      (c' : MemoAndWorkBudget) (same : c'.memo ≡ c.memo) where
    abbrev its : ContentsOfLookaround program text s
    its = contents-of h look there

    look-happens : MayBeNextSearchEvent offset program text b h (its.found.steps + 1) h.now (thread_entries (after_lookaround its.look.negate (state_with_ip its.look.continuation s) its.found.end) ++ h.row)
    look-happens = searches_contents s its.look its.turns its.found h.row its.there its.searches

    pub look-continues : (r : Result (Option (State P)) AttemptAbortReason) → ((x : ContentsOfLookaround program text s) → LookaroundResultIs offset x r c.left c'.left)
        → ContinuesOrStops offset program text b h r stack c'
    look-continues (Ok next) continues =
        let x = continues its in
        comes-on offset program text b h next h.row stack (its.found.steps + 1) c'
        (subst (λ ts. MayBeNextSearchEvent offset program text b h (its.found.steps + 1) h.now (thread_entries ts ++ h.row)) (sym x.0) look-happens) h.is same x.1
    look-continues (Err Memory) continues = tt
    look-continues (Err Work) continues = is-short offset program text b h (its.found.steps + 1) c' look-happens (continues its)

-- ---- The search of the contents decides a lookaround

module _ {P : Type 0} (offset : P → ℕ) (program : Program) (text : Text) (s : State P) where
  abbrev here : machine.State
  here = machine_state_of offset s

  -- The machine asks for a search of the contents.
  asked : (x : ContentsOfLookaround program text here) → act program text rightwards here ≡ asks x.look.inner x.look.negate (state_at_next_ip here) (state_with_ip x.look.continuation here)
  asked x = asks-there program text rightwards here x.look (slice_get program.insns s.ip) x.there

  pub look-can : ∥ ContentsOfLookaround program text here ∥₁ → IsNotStuck (act program text rightwards here)
  look-can contents = ∥∥₁_elim contents (one (act program text rightwards here)) (λ x. subst IsNotStuck (sym (asked x)) tt)
    where
      one : (n : Next) → (p q : IsNotStuck n) → p ≡ q
      one (goes ts) p q = refl
      one (scans n ts) p q = refl
      one (ends u) p q = refl
      one (asks d negate u v) p q = refl
      one stuck p q = absurd p

  module _ (turn : NextStates P) (turned : effect_of_next_states offset turn ≡ act program text rightwards here) where
    -- No other effect than a lookaround is possible.
    pub look-other : ∥ ContentsOfLookaround program text here ∥₁ → ((forward negate : Bool) (inner after : State P) → turn ≡ TurnLooks forward negate inner after → ⊥) → ⊥
    look-other contents other = ∥∥₁_elim contents (λ p. absurd p) (λ x. by turn refl (turned ∙ asked x))
      where
        by : {d : Direction} {negate : Bool} {u v : machine.State} (n : NextStates P) → turn ≡ n → effect_of_next_states offset n ≡ asks d negate u v → ⊥
        by Dead is e = cc
        by (Continue t) is e = cc
        by (Fork t u) is e = cc
        by (CharLoopExits n states) is e = cc
        by (Accept t) is e = cc
        by (TurnLooks forward negate inner after) is e = other forward negate inner after is

    module _ (forward negate : Bool) (inner after : State P) (was : turn ≡ TurnLooks forward negate inner after) where
      abbrev way : Direction
      way = direction_of_forward_flag forward

      -- The executor's search of the contents is that of the machine.
      record IsOf (x : ContentsOfLookaround program text here) : Type 0 where
        direction : way ≡ x.look.inner
        negative : negate ≡ x.look.negate
        first : machine_state_of offset inner ≡ state_at_next_ip here
        behind : machine_state_of offset after ≡ state_with_ip x.look.continuation here

      is-of : (x : ContentsOfLookaround program text here) → IsOf x
      is-of x =
          let same : asks way negate (machine_state_of offset inner) (machine_state_of offset after) ≡ asks x.look.inner x.look.negate (state_at_next_ip here) (state_with_ip x.look.continuation here) =
          sym (ap (effect_of_next_states offset) was) ∙ turned ∙ asked x in
          record { direction = cc; negative = cc; first = cc; behind = cc }

      its-search : (x : ContentsOfLookaround program text here) → search program text x.turns way (running (machine_state_of offset inner) ∷ []) ≡ Some x.found
      its-search x =
          let p = is-of x in
          subst (λ u. search program text x.turns way (running u ∷ []) ≡ Some x.found) (sym p.first)
          (subst (λ d. search program text x.turns d (running (state_at_next_ip here) ∷ []) ≡ Some x.found) (sym p.direction) x.searches)

      pub look-result : ∥ ContentsOfLookaround program text here ∥₁ → HasResult program text way (running (machine_state_of offset inner) ∷ [])
      look-result contents = ∥∥₁_map contents (λ x. record { turns = x.turns; found = x.found; searches = its-search x })

      pub look-inside : offset s.pos ≤ units text → offset inner.pos ≤ units text
      look-inside inside =
          let a = asked-there program text rightwards here way negate (machine_state_of offset inner) (machine_state_of offset after) (sym turned ∙ ap (effect_of_next_states offset) was) in
          let same : offset inner.pos ≡ offset s.pos = ap (λ (u : machine.State). u.pos) a.first in
          omega (arith, same, inside)

      module _ (old mid new : ℕ) (spent : LowersBudgetByWork 1 old mid) (x : ContentsOfLookaround program text here) where
        abbrev Finds : Result (Option (State P)) AttemptAbortReason → Type 0
        Finds result = (turns : ℕ) (f : Found) → search program text turns way (running (machine_state_of offset inner) ∷ []) ≡ Some f → SearchResultIs offset f result mid new

        pub look-ok : (found : Option (State P)) → Finds (Ok found) → (next : Option (State P))
            → current_thread_if_any offset next ≡ after_lookaround negate (machine_state_of offset after) (option_map (λ s. machine_state_of offset s) found)
            → LookaroundResultIs offset x (Ok next) old new
        look-ok found answers next resumed =
            let h = answers x.turns x.found (its-search x) in
            let p = is-of x in
            let a : old ≡ 1 + mid = spent in
            let b : mid ≡ x.found.steps + new = h.1 in
            (resumed ∙ ap (after_lookaround negate (machine_state_of offset after)) h.0 ∙ (λ i. after_lookaround (p.negative i) (p.behind i) x.found.end), omega (arith, a, b))

        pub look-err : (r : Result (Option (State P)) AttemptAbortReason) (e : AttemptAbortReason) → IsErrAnd r (λ f. f ≡ e) → Finds (Err e) → LookaroundResultIs offset x r old new
        look-err r e handed answers = handed-on (λ r. LookaroundResultIs offset x r old new) r e handed (by e (answers x.turns x.found (its-search x)))
          where
            by : (e : AttemptAbortReason) → SearchResultIs offset x.found (Err e) mid new → LookaroundResultIs offset x (Err e) old new
            by Memory h = tt
            by Work h = let a : old ≡ 1 + mid = spent in let over = h.0 in (omega (arith, a, over), h.1)
