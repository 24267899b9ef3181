-- The search of a lookaround's contents takes as much work as the machine takes steps.
use Rattle.std.proofs.Common.{◌≡◌, ◌≤◌, ◌<◌, ℕ, zero, suc, ◌+◌, ◌-◌, List, [], ◌∷◌, ◌++◌, Bool, false, Option, Some, None, refl, sym, ap, ◌∙◌, subst, arith, inl, inr}
use Rattle.std.proofs.Math.Logic.{∥∥₁_map, ∥∥₁_elim}
use Rattle.std.specs.Prelude.{is_some, Result, Ok, Err, option_map, slice_get, IsTrue, IsErrAnd}
use Rattle.regex_meaning.specs.Text.{Text, Direction}
use Rattle.regex_meaning.specs.CodeUnitOffsets.{HasRisingPlaceOffsets, units}
use Rattle.regex_meaning.specs.CompilationRelation.{Program, Insn}
use Rattle.regress_input.specs.CharAndByteReadsFromOffset.{direction_of_forward_flag}
use Rattle.regress_machine.specs.TextsForBytePrograms.{HasUtf8CharactersAndOffsets}
use Rattle.regress_machine.specs.Machine as machine
use Rattle.regress_machine.specs.Machine.{Thread, running, waiting, Next, goes, scans, ends, asks, stuck, Found, result_without_threads}
use Rattle.regress_machine.specs.Machine.{after_lookaround, first_running_and_others_waiting, act, search}
use Rattle.regress_machine.specs.InsnEffects.{IsNotStuck, is_byte_sequence_insn}
use Rattle.regress_machine.proofs.MachineSearchLemmas.{Later, Asked, waits-later, goes-later, scans-later, ends-found, never_stuck, asked-inner}
use Rattle.regress_machine.proofs.OffsetsInsideText.{AllIn, NextIn, in-append, in-resumed, act-inside}
use Rattle.regress_pikevm.specs.declared.pikevm.states.State.{State}
use Rattle.regress_pikevm.specs.declared.pikevm.states.NextStates.{NextStates}
use Rattle.regress_pikevm.specs.declared.pikevm.states.NextStates.TheVariants.{Dead, Continue, Fork, Lookaround, Accept}
use Rattle.regress_pikevm.specs.States.{machine_state_of, effect_of_next_states, threads_of_stack, pending_threads, states_by_priority, current_thread_if_any}
use Rattle.regress_pikevm.proofs.ExecutorTurnLemmas.{waiting-append}
use Rattle.regress_bounded.specs.BudgetSpending.{LowersBudgetByWork, WorkExceedsBudget, IsWorkOrMoreThanLeft}
use Rattle.regress_bounded.specs.CostsOfSearchEvents.{work_of_machine_step}
use Rattle.regress_bounded.specs.LookaroundResults.{HasResult, ResumesFirstThread, SearchResultIs}
use Rattle.regress_bounded.specs.declared.memo_and_work_budget.AttemptAbortReason.{AttemptAbortReason}
use Rattle.regress_bounded.specs.declared.memo_and_work_budget.AttemptAbortReason.TheVariants.{Memory, Work}
use Rattle.regress_bounded.proofs.StepResultLemmas.{handed-on}

module _ (program : Program) (text : Text) (d : Direction) where
  -- A search from `start` with `total` units of work has reached the threads `ts`, and `left` units are left.
  pub record ContentsRemain (start : machine.State) (total left : ℕ) (ts : List Thread) : Type 0 where
    pub answers : HasResult program text d ts
    pub inside : AllIn (units text) ts
    pub from : (turns : ℕ) (f : Found) → search program text turns d (running start ∷ []) ≡ Some f → Later program text turns d (total - left) ts f
    pub few : left ≤ total

  pub contents-begin : (start : machine.State) (total : ℕ) → start.pos ≤ units text → HasResult program text d (running start ∷ []) → ContentsRemain start total total (running start ∷ [])
  contents-begin start total inside answers = record {
    answers = answers;
    inside = (inside, tt);
    from = λ turns f e. record { found = f; searches = e; steps = omega arith; end = refl };
    few = omega arith;
  }

  -- In each search from the threads `ts`, the threads `us` are reached with this work.
  abbrev pub Leads : (ts : List Thread) (work : ℕ) (us : List Thread) → Type 0
  Leads ts work us = (turns : ℕ) (g : Found) → search program text turns d ts ≡ Some g → Later program text turns d work us g

  -- Each search from the threads `ts` takes at least this many steps.
  abbrev pub TakesAtLeast : (ts : List Thread) (work : ℕ) → Type 0
  TakesAtLeast ts work = (turns : ℕ) (g : Found) → search program text turns d ts ≡ Some g → work ≤ g.steps

  leads-answer : {ts us : List Thread} {work : ℕ} → Leads ts work us → HasResult program text d ts → HasResult program text d us
  leads-answer leads answers = ∥∥₁_map answers (λ a. let l = leads a.turns a.found a.searches in record { turns = a.turns; found = l.found; searches = l.searches })

  module _ {start : machine.State} {total left : ℕ} {ts : List Thread} (r : ContentsRemain start total left ts) where
    pub contents-go : (work left' : ℕ) (us : List Thread) → LowersBudgetByWork work left left' → Leads ts work us → AllIn (units text) us → ContentsRemain start total left' us
    contents-go work left' us spent leads inside = record {
      answers = leads-answer leads r.answers;
      inside = inside;
      from = λ turns f e.
          let l = r.from turns f e in
          let m = leads turns l.found l.searches in
          record {
            found = m.found;
            searches = m.searches;
            steps = (let a = l.steps in let b = m.steps in let few = r.few in let s : left ≡ work + left' = spent in omega (arith, a, b, few, s));
            end = l.end ∙ m.end;
          };
      few = (let few = r.few in let s : left ≡ work + left' = spent in omega (arith, few, s));
    }

    -- If the work left is less than the steps left, it is less than all steps at the start.
    pub contents-over : (work : ℕ) → left < work → TakesAtLeast ts work → (turns : ℕ) (f : Found) → search program text turns d (running start ∷ []) ≡ Some f → total < f.steps
    contents-over work over most turns f e =
        let l = r.from turns f e in
        let a = l.steps in
        let b = most turns l.found l.searches in
        let few = r.few in
        omega (arith, a, b, few, over)

    -- If no thread is left, nothing is found.
    pub contents-none : ts ≡ [] → (turns : ℕ) (f : Found) → search program text turns d (running start ∷ []) ≡ Some f → (None ≡ f.end) × LowersBudgetByWork f.steps total left
    unfolding search
    contents-none is turns f e =
        let l = r.from turns f e in
        let none : search program text turns d [] ≡ Some l.found = subst (λ ts. search program text turns d ts ≡ Some l.found) is l.searches in
        by turns l.found none l.steps l.end
      where
        by : (turns : ℕ) (g : Found) → search program text turns d [] ≡ Some g → f.steps ≡ (total - left) + g.steps → f.end ≡ g.end → (None ≡ f.end) × LowersBudgetByWork f.steps total left
        by zero g e steps end =
            let is : result_without_threads ≡ g = cc in
            let n = ap (λ (g : Found). g.steps) is in
            let few = r.few in
            (ap (λ (g : Found). g.end) is ∙ sym end, omega (arith, n, steps, few))
        by (suc n) g e steps end =
            let is : result_without_threads ≡ g = cc in
            let n = ap (λ (g : Found). g.steps) is in
            let few = r.few in
            (ap (λ (g : Found). g.end) is ∙ sym end, omega (arith, n, steps, few))

  -- ---- The first thread

  pub contents-wait : (s : machine.State) (ts : List Thread) → TakesAtLeast (waiting s ∷ ts) 1
  contents-wait s ts turns g e = let l = (waits-later program text turns d s ts g e).steps in omega (arith, l)

  module _ {start : machine.State} {total left : ℕ} {s : machine.State} {ts : List Thread} where
    pub contents-resume : ContentsRemain start total left (waiting s ∷ ts) → (left' : ℕ) → LowersBudgetByWork 1 left left' → ContentsRemain start total left' (running s ∷ ts)
    contents-resume r left' spent = contents-go r 1 left' (running s ∷ ts) spent (λ turns g e. waits-later program text turns d s ts g e) r.inside

    module _ (r : ContentsRemain start total left (running s ∷ ts)) where
      pub contents-can : IsNotStuck (act program text d s)
      contents-can = ∥∥₁_elim r.answers (by (act program text d s)) (λ a. can a.turns a.found a.searches (act program text d s) refl)
        where
          by : (x : Next) → (p q : IsNotStuck x) → p ≡ q
          by (goes ts) p q = refl
          by (scans n ts) p q = refl
          by (ends u) p q = refl
          by (asks inner negate u v) p q = refl
          by stuck p q = absurd p

          can : (turns : ℕ) (g : Found) → search program text turns d (running s ∷ ts) ≡ Some g → (x : Next) → act program text d s ≡ x → IsNotStuck x
          can turns g e (goes ss) is = tt
          can turns g e (scans n ss) is = tt
          can turns g e (ends u) is = tt
          can turns g e (asks inner negate u v) is = tt
          can turns g e stuck is = never_stuck program text turns d s ts g is e

      pub contents-inside : s.pos ≤ units text
      contents-inside = r.inside.0

  -- A step takes at least its work.
  pub step-takes : (s : machine.State) (ts : List Thread) → TakesAtLeast (running s ∷ ts) (work_of_machine_step (act program text d s))
  step-takes s ts turns g e = by (act program text d s) refl
    where
      by : (x : Next) → act program text d s ≡ x → work_of_machine_step x ≤ g.steps
      by (goes ss) is = let l = (goes-later program text turns d s ss ts g is e).steps in omega (arith, l)
      by (scans n ss) is = let l = (scans-later program text turns d s n ss ts g is e).steps in omega (arith, l)
      by (ends u) is = let same = ap (λ (h : Found). h.steps) (ends-found program text turns d s u ts g is e) in omega (arith, same)
      by (asks inner negate u v) is = let l = (asked-inner program text turns d inner negate s u v ts g is e).rest.steps in omega (arith, l)
      by stuck is = absurd (never_stuck program text turns d s ts g is e)

-- ---- Results

module _ {P : Type 0} (offset : P → ℕ) (f : Found) (total : ℕ) where
  may-refuse : (e : AttemptAbortReason) (new : ℕ) → (e ≡ Work → WorkExceedsBudget f.steps total new) → SearchResultIs offset f (Err e) total new
  may-refuse Memory new over = tt
  may-refuse Work new over = over refl

  -- An error is handed on. It is `Work` only if the search takes more steps than work was left.
  pub contents-refuse : (r : Result (Option (State P)) AttemptAbortReason) (e : AttemptAbortReason) → IsErrAnd r (λ f. f ≡ e) → (new : ℕ) → (e ≡ Work → WorkExceedsBudget f.steps total new)
      → SearchResultIs offset f r total new
  contents-refuse r e handed new over = handed-on (λ r. SearchResultIs offset f r total new) r e handed (may-refuse e new over)

  -- An allocation may fail at any time.
  pub contents-refuse-memory : (r : Result (Option (State P)) AttemptAbortReason) → IsErrAnd r (λ f. f ≡ Memory) → (new : ℕ) → SearchResultIs offset f r total new
  contents-refuse-memory r handed new = handed-on (λ r. SearchResultIs offset f r total new) r Memory handed tt

-- ---- What follows a step

module _ {P : Type 0} (offset : P → ℕ) (program : Program) (text : Text) (d : Direction) (start : machine.State) (total left left' : ℕ) (s : machine.State) (rest : List (State P))
    (is : HasRisingPlaceOffsets text) (reads : (i : ℕ) (insn : Insn) → slice_get program.insns i ≡ Some insn → IsTrue (is_byte_sequence_insn insn) → HasUtf8CharactersAndOffsets text)
    (r : ContentsRemain program text d start total left (running s ∷ threads_of_stack offset rest)) where
  abbrev below : List Thread
  below = threads_of_stack offset rest

  next-inside : (x : Next) → act program text d s ≡ x → NextIn (units text) x
  next-inside x e = subst (NextIn (units text)) e (act-inside text is program d (slice_get program.insns s.ip) s (reads s.ip) r.inside.0)

  -- The work of the step was taken.
  abbrev pub IsPaid : Type 0
  IsPaid = LowersBudgetByWork (work_of_machine_step (act program text d s)) left left'

  pub paid-by : (number : ℕ) → IsWorkOrMoreThanLeft left (work_of_machine_step (act program text d s)) number → LowersBudgetByWork number left left' → IsPaid
  paid-by number (inl same) spent = subst (λ n. LowersBudgetByWork n left left') same spent
  paid-by number (inr more) spent = let s : left ≡ number + left' = spent in let over = more.0 in absurd (omega (arith, s, over))

  pub paid-less : IsPaid → left' < left
  paid-less paid = let p : left ≡ work_of_machine_step (act program text d s) + left' = paid in omega (arith, p)

  pub step-over : (number : ℕ) → IsWorkOrMoreThanLeft left (work_of_machine_step (act program text d s)) number → WorkExceedsBudget number left left' → (turns : ℕ) (f : Found)
      → search program text turns d (running start ∷ []) ≡ Some f → WorkExceedsBudget f.steps total left'
  step-over number works over turns f e = (contents-over program text d r (work_of_machine_step (act program text d s)) (by works) (step-takes program text d s below) turns f e, over.1)
    where
      by : IsWorkOrMoreThanLeft left (work_of_machine_step (act program text d s)) number → left < work_of_machine_step (act program text d s)
      by (inl same) = subst (λ n. left < n) same over.0
      by (inr more) = more.1

  goes-on : IsPaid → (ss after : List Thread) → act program text d s ≡ goes ss → after ≡ ss ++ below → ContentsRemain program text d start total left' after
  goes-on paid ss after e a =
      subst (ContentsRemain program text d start total left') (sym a)
      (contents-go program text d r 1 left' (ss ++ below) (subst (λ x. LowersBudgetByWork (work_of_machine_step x) left left') e paid)
      (λ turns g q. goes-later program text turns d s ss below g e q) (in-append (units text) ss below (next-inside (goes ss) e) r.inside.1))

  scans-on : IsPaid → (n : ℕ) (ss after : List Thread) → act program text d s ≡ scans n ss → after ≡ ss ++ below → ContentsRemain program text d start total left' after
  scans-on paid n ss after e a =
      subst (ContentsRemain program text d start total left') (sym a)
      (contents-go program text d r (1 + n) left' (ss ++ below) (let p : left ≡ (n + 1) + left' = subst (λ x. LowersBudgetByWork (work_of_machine_step x) left left') e paid in omega (arith, p))
      (λ turns g q. scans-later program text turns d s n ss below g e q) (in-append (units text) ss below (next-inside (scans n ss) e) r.inside.1))

  module _ (turn : NextStates P) (turned : effect_of_next_states offset turn ≡ act program text d s) where
    effect-is : {x : NextStates P} → turn ≡ x → act program text d s ≡ effect_of_next_states offset x
    effect-is was = sym turned ∙ ap (effect_of_next_states offset) was

    pub contents-dead : IsPaid → turn ≡ Dead → ContentsRemain program text d start total left' below
    contents-dead paid was = goes-on paid [] below (effect-is was) refl

    pub contents-continue : IsPaid → (next : State P) → turn ≡ Continue next → ContentsRemain program text d start total left' (running (machine_state_of offset next) ∷ below)
    contents-continue paid next was = goes-on paid (running (machine_state_of offset next) ∷ []) _ (effect-is was) refl

    pub contents-fork : IsPaid → (preferred other : State P) (stack : List (State P)) → turn ≡ Fork preferred other → stack ≡ rest ++ other ∷ []
        → ContentsRemain program text d start total left' (running (machine_state_of offset preferred) ∷ threads_of_stack offset stack)
    contents-fork paid preferred other stack was pushed =
        goes-on paid (running (machine_state_of offset preferred) ∷ waiting (machine_state_of offset other) ∷ []) _ (effect-is was)
        (ap (λ l. running (machine_state_of offset preferred) ∷ l) (ap (threads_of_stack offset) pushed ∙ waiting-append offset rest (other ∷ [])))

    pub contents-exits : IsPaid → (n : ℕ) (states : List (State P)) (after : List Thread) → act program text d s ≡ scans n (first_running_and_others_waiting (states_by_priority offset states))
        → after ≡ first_running_and_others_waiting (states_by_priority offset states) ++ below → ContentsRemain program text d start total left' after
    contents-exits paid n states after e a = scans-on paid n (first_running_and_others_waiting (states_by_priority offset states)) after e a

    -- The end of the contents takes a step.
    pub contents-end : IsPaid → (end : State P) → turn ≡ Accept end → (turns : ℕ) (f : Found) → search program text turns d (running start ∷ []) ≡ Some f
        → (Some (machine_state_of offset end) ≡ f.end) × LowersBudgetByWork f.steps total left'
    contents-end paid end was turns f e =
        let l = r.from turns f e in
        let same = ends-found program text turns d s (machine_state_of offset end) below l.found (effect-is was) l.searches in
        let one = ap (λ (g : Found). g.steps) same in
        let a = l.steps in
        let few = r.few in
        let p : left ≡ 1 + left' = subst (λ x. LowersBudgetByWork (work_of_machine_step x) left left') (effect-is was) paid in
        (sym (ap (λ (g : Found). g.end) same) ∙ sym l.end, omega (arith, one, a, few, p))

    -- ---- A lookaround

    module _ (forward negate : Bool) (inner after : State P) (was : turn ≡ Lookaround forward negate inner after) where
      abbrev way : Direction
      way = direction_of_forward_flag forward

      asks-is : act program text d s ≡ asks way negate (machine_state_of offset inner) (machine_state_of offset after)
      asks-is = effect-is was

      abbrev Inner : (turns : ℕ) (g : Found) → Type 0
      Inner turns g = Asked program text turns d way negate (machine_state_of offset inner) (machine_state_of offset after) below g

      inner-of : (turns : ℕ) (g : Found) → search program text turns d (running s ∷ below) ≡ Some g → Inner turns g
      inner-of turns g e = asked-inner program text turns d way negate s (machine_state_of offset inner) (machine_state_of offset after) below g asks-is e

      pub inner-inside : offset inner.pos ≤ units text
      inner-inside = (next-inside (asks way negate (machine_state_of offset inner) (machine_state_of offset after)) asks-is).0

      pub inner-answers : HasResult program text way (running (machine_state_of offset inner) ∷ [])
      inner-answers = ∥∥₁_map r.answers (λ a. let i = inner-of a.turns a.found a.searches in record { turns = a.turns; found = i.found; searches = i.searches })

      -- The result of the search of the inner contents.
      abbrev pub Finds : Result (Option (State P)) AttemptAbortReason → (old new : ℕ) → Type 0
      Finds result old new = (turns : ℕ) (f : Found) → search program text turns way (running (machine_state_of offset inner) ∷ []) ≡ Some f → SearchResultIs offset f result old new

      module _ (paid : IsPaid) (left'' : ℕ) (less : left'' ≤ left') where
        one-paid : left ≡ 1 + left'
        one-paid = subst (λ x. LowersBudgetByWork (work_of_machine_step x) left left') asks-is paid

        pub contents-resumed : (found : Option (State P)) → Finds (Ok found) left' left'' → (next : Option (State P))
            → current_thread_if_any offset next ≡ after_lookaround negate (machine_state_of offset after) (option_map (λ s. machine_state_of offset s) found)
            → ContentsRemain program text d start total left'' (current_thread_if_any offset next ++ below)
        contents-resumed found finds next resumed =
            contents-go program text d r (left - left'') left'' (current_thread_if_any offset next ++ below) (let p = one-paid in omega (arith, p, less)) leads
            (subst (λ ts. AllIn (units text) (ts ++ below)) (sym resumed)
            (in-append (units text) (after_lookaround negate (machine_state_of offset after) (option_map (λ s. machine_state_of offset s) found)) below
            (in-resumed (units text) negate (machine_state_of offset after) (option_map (λ s. machine_state_of offset s) found)
            (next-inside (asks way negate (machine_state_of offset inner) (machine_state_of offset after)) asks-is).1) r.inside.1))
          where
            leads : Leads program text d (running s ∷ below) (left - left'') (current_thread_if_any offset next ++ below)
            leads turns g e =
                let i = inner-of turns g e in
                let x = finds turns i.found i.searches in
                let same : after_lookaround negate (machine_state_of offset after) i.found.end ≡ current_thread_if_any offset next = ap (after_lookaround negate (machine_state_of offset after)) (sym x.0) ∙ sym resumed in
                let work : 1 + i.found.steps ≡ left - left'' = let p = one-paid in let s : left' ≡ i.found.steps + left'' = x.1 in omega (arith, p, s) in
                subst (λ n. Later program text turns d n (current_thread_if_any offset next ++ below) g) work
                (subst (λ ts. Later program text turns d (1 + i.found.steps) (ts ++ below) g) same i.rest)

        -- If the inner contents need more work than is left, so does the whole search.
        pub contents-short : (e : AttemptAbortReason) → e ≡ Work → Finds (Err e) left' left'' → (turns : ℕ) (f : Found) → search program text turns d (running start ∷ []) ≡ Some f → WorkExceedsBudget f.steps total left''
        contents-short reason is finds turns f e =
            let l = r.from turns f e in
            let i = inner-of turns l.found l.searches in
            let x = subst (λ e. SearchResultIs offset i.found (Err e) left' left'') is (finds turns i.found i.searches) in
            let p = one-paid in
            let a = l.steps in
            let b = i.rest.steps in
            let few = r.few in
            let over = x.0 in
            (omega (arith, p, a, b, few, over), x.1)

-- ---- The first thread

-- A waiting thread is not resumed because no work is left.
pub resume-short : {P : Type 0} (offset : P → ℕ) (next : Option (State P)) (stack rest : List (State P)) (s : State P) (old new : ℕ) → is_some next ≡ false → stack ≡ rest ++ s ∷ []
    → (r : Result (Option (State P)) AttemptAbortReason) (e : AttemptAbortReason) → IsErrAnd r (λ f. f ≡ e) → (e ≡ Work) × WorkExceedsBudget 1 old new
    → ResumesFirstThread offset (pending_threads offset next stack) r rest old new
resume-short offset (Some t) stack rest s old new none popped r e handed over = cc
resume-short offset None stack rest s old new none popped r e handed over =
    handed-on (λ r. ResumesFirstThread offset (pending_threads offset None stack) r rest old new) r e handed
    (subst (λ e. ResumesFirstThread offset (pending_threads offset None stack) (Err e) rest old new) (sym over.0)
    ((s, ap (threads_of_stack offset) popped ∙ waiting-append offset rest (s ∷ [])), over.1))

module _ {P : Type 0} (offset : P → ℕ) (program : Program) (text : Text) (d : Direction) (start : machine.State) (total left left' : ℕ) (ts : List Thread) (rest : List (State P))
    (r : ContentsRemain program text d start total left ts) where
  -- The first thread is current, perhaps after it was resumed.
  pub contents-taken : (o : Option (State P)) (s : State P) → o ≡ Some s → ResumesFirstThread offset ts (Ok o) rest left left'
      → ContentsRemain program text d start total left' (running (machine_state_of offset s) ∷ threads_of_stack offset rest)
  contents-taken o s is h = by (subst (λ o. ResumesFirstThread offset ts (Ok o) rest left left') is h)
    where
      by : ResumesFirstThread offset ts (Ok (Some s)) rest left left' → ContentsRemain program text d start total left' (running (machine_state_of offset s) ∷ threads_of_stack offset rest)
      by (inl k) = subst (λ n. ContentsRemain program text d start total n (running (machine_state_of offset s) ∷ threads_of_stack offset rest)) (sym k.1) (subst (ContentsRemain program text d start total left) k.0 r)
      by (inr k) = contents-resume program text d (subst (ContentsRemain program text d start total left) k.0 r) left' k.1

  -- No thread is left.
  pub contents-ended : (o : Option (State P)) → o ≡ None → ResumesFirstThread offset ts (Ok o) rest left left' → (turns : ℕ) (f : Found) → search program text turns d (running start ∷ []) ≡ Some f
      → (None ≡ f.end) × LowersBudgetByWork f.steps total left'
  contents-ended o is h turns f e =
      let k = subst (λ o. ResumesFirstThread offset ts (Ok o) rest left left') is h in
      let none = contents-none program text d r k.0 turns f e in
      (none.0, subst (λ n. LowersBudgetByWork f.steps total n) (sym k.1) none.1)

  -- The first thread is not resumed because no work is left.
  pub contents-unresumed : (e : AttemptAbortReason) → ResumesFirstThread offset ts (Err e) rest left left' → (result : Result (Option (State P)) AttemptAbortReason) → IsErrAnd result (λ f. f ≡ e)
      → (turns : ℕ) (f : Found) → search program text turns d (running start ∷ []) ≡ Some f → SearchResultIs offset f result total left'
  contents-unresumed Memory h result handed turns f q = absurd h
  contents-unresumed Work h result handed turns f q =
      contents-refuse offset f total result Work handed left' (λ is.
      (contents-over program text d (subst (ContentsRemain program text d start total left) h.0.1 r) 1 h.1.0 (contents-wait program text d (machine_state_of offset h.0.0) (threads_of_stack offset rest)) turns f q, h.1.1))
