-- A turn of a thread costs the work of its step and leaves the threads of that step.
use Rattle.std.proofs.Common.{◌≡◌, ◌≤◌, ◌<◌, ℕ, ◌+◌, ◌-◌, Bool, true, false, min, List, [], ◌∷◌, ◌++◌, map, length, Option, Some, None, refl, sym, ap, ◌∙◌, subst, arith, inl, inr, append_assoc}
use Rattle.std.proofs.Common.{append-nil, slice_get}
use Rattle.std.specs.Prelude.{◌⊎◌, ◌==◌, Result, Ok, Err, IfOk, IfSome, if◌then◌else◌, is_some, option_map, get_or}
use Rattle.std.proofs.Math.Logic.{∥∥₁_elim}
use Rattle.std.proofs.Props.{props}
use Rattle.std.proofs.lemmas.Bool.{cases_lt, eqb-true}
use Rattle.regex_meaning.specs.Text.{Text, Direction, rightwards}
use Rattle.regex_meaning.specs.CodeUnitOffsets.{HasRisingPlaceOffsets, place_at, units}
use Rattle.regex_meaning.specs.CompilationRelation.{Program, Insn, Goal, Loop1CharBody}
use Rattle.regex_meaning.proofs.EscapesAndNamesLemmas.{Some_inj}
use Rattle.regex_pattern_front.specs.AstToSpecTree.{tree_of}
use Rattle.regex_pattern_front.specs.declared.ir.Regex.{Regex}
use Rattle.regress_program.specs.InsnsAsSpec.{insn_as_spec_insn}
use Rattle.regress_program.specs.declared.instructions.Insn.{Insn as Coded}
use Rattle.regress_program.specs.declared.instructions.Insn.TheVariants.{Goal as CodedGoal, Loop1CharBody as CodedRun}
use Rattle.regress_program.specs.CompilationOfTreesAsFunction.{compiled}
use Rattle.regress_machine.specs.Machine as machine
use Rattle.regress_machine.specs.Machine.{Thread, running, waiting, Next, goes, scans, ends, asks, stuck, first_running_and_others_waiting, test_of, act, act_on}
use Rattle.regress_machine.specs.InsnEffects.{IsNotStuck, tested_char_count_of_step}
use Rattle.regress_machine.proofs.InsnFetchLemmas.{act-some, fetched-below}
use Rattle.regress_machine.proofs.CharLoopExitStateLemmas.{run-turn}
use Rattle.regress_memo.specs.CharLoopExitThreadLists.{passing}
use Rattle.regress_memo.specs.SkippedLookarounds.{lookaround_at}
use Rattle.regress_memo.specs.MemoSearch.{Key, Entry, one_thread, key_record, thread_entries}
use Rattle.regress_memo.specs.Successors.{is_goal_insn}
use Rattle.regress_memo.specs.AnalysisChecks.{unlimited}
use Rattle.regress_memo.specs.declared.memo.ThreadMemoKey.{ThreadMemoKey as Stored}
use Rattle.regress_memo.specs.MemoContents.{memo_key_as_spec, memo_key_at, has_failure}
use Rattle.regress_bounded.specs.declared.memo_and_work_budget.MemoAndWorkBudget.{MemoAndWorkBudget}
use Rattle.regress_bounded.specs.declared.pending_stack.StackEntry.{StackEntry}
use Rattle.regress_bounded.specs.declared.pending_stack.StackEntry.TheVariants.{Thread as AsThread, Record as AsRecord}
use Rattle.regress_pikevm.specs.declared.pikevm.states.State.{State}
use Rattle.regress_pikevm.specs.declared.pikevm.states.NextStates.{NextStates}
use Rattle.regress_bounded.specs.CostsOfSearchEvents.{StepLeavesOnlyThreads, IsKeyNewIfAny, work_of_machine_step, threads_after_step, entries_with_record_of_state, drops, turns, tries_chars}
use Rattle.regress_bounded.specs.BoundedState.{BoundedAttempt, IsUnfailedStateKeyIfAny, IsNotUnboundedCharLoop, char_loop_max, HasAttemptState, IsStackOfEntriesFromTop, AttemptHasState}
use Rattle.regress_bounded.specs.BoundedState.{MayBeNextSearchEvent, TakesOneEvent, NextEventExceedsWorkLeft}
use Rattle.regress_bounded.specs.BoundedState.{TakesPreferredState, TakesPreferredThread, HasPassedRequiredChars, IsStateAtUnboundedLoopOverInsn, entry_of_current_thread, is_known_key}
use Rattle.regress_bounded.specs.BoundedState.{stack_with_record_if_any, min_and_greed_of_loop}
use Rattle.regress_bounded.specs.BudgetSpending.{LowersBudgetByWork, IsWorkOrMoreThanLeft, WorkExceedsBudget}
use Rattle.regress_pikevm.specs.States.{machine_state_of, effect_of_next_states, states_by_priority, threads_of_stack}
use Rattle.regress_pikevm.proofs.InsnFetchLemmas.{insn-here}
use Rattle.regress_pikevm.proofs.ExecutorTurnLemmas.{scan-threads, waiting-append}
use Rattle.regress_bounded.proofs.CharLoopBodyInsns.{body-tested, body-insn, body-below}
use Rattle.regress_memo.proofs.StepKindByInstruction.{asks-none, never-ends, scans-run}
use Rattle.regress_bounded.proofs.SearchEventCostLemmas.{ScansAt, scans-at}
use Rattle.regress_bounded.proofs.BoundedStateLemmas.{row-push, can-turn, inside, new, known, comes-on, is-short}

-- ---- The steps of the current thread

-- An instruction can run unless it is stuck.
abbrev can_take : Next → Bool
can_take stuck = false
can_take _ = true

can-yes : (n : Next) → IsNotStuck n → can_take n ≡ true
can-yes (goes ts) h = refl
can-yes (scans tries ts) h = refl
can-yes (ends s) h = refl
can-yes (asks d negate u s) h = refl
can-yes stuck h = absurd h

yes-can : (n : Next) → can_take n ≡ true → IsNotStuck n
yes-can (goes ts) h = tt
yes-can (scans tries ts) h = tt
yes-can (ends s) h = tt
yes-can (asks d negate u s) h = tt
yes-can stuck h = cc

module _ {P : Type 0} {offset : P → ℕ} {program : Program} {text : Text} {s : machine.State} {stack : List (StackEntry P)} {c : MemoAndWorkBudget}
    (there : HasAttemptState offset program text (one_thread (running s) ∷ []) stack c) where
  pub standing-can : IsNotStuck (act program text rightwards s)
  standing-can =
      yes-can (act program text rightwards s)
      (∥∥₁_elim there (Prim.hlevel props) (λ h. can-yes (act program text rightwards s) (can-turn offset program text h.begin s h.stands)))

  pub standing-inside : s.pos ≤ units text
  standing-inside = ∥∥₁_elim there (Prim.hlevel props) (λ h. inside offset program text h.begin s h.stands)

  -- The memo table has a bit for the offset of the current thread.
  pub standing-place : s.pos < c.memo.places
  standing-place =
      ∥∥₁_elim there (Prim.hlevel props) (λ h.
      let within = inside offset program text h.begin s h.stands in let all = h.stands.right.is_true.places in omega (arith, within, all))

-- The option has a key that the test accepts.
record IsKnownKey (test : Key → Bool) (o : Option Key) : Type 0 where
  key : Key
  is : o ≡ Some key
  known : test key ≡ true

known-key : (test : Key → Bool) (key : Option Stored) (o : Option Key) → option_map memo_key_as_spec key ≡ o → is_known_key test (option_map memo_key_as_spec key) ≡ true → IsKnownKey test o
known-key test None o e h = cc
known-key test (Some k) o e h = record { key = memo_key_as_spec k; is = sym e; known = h }

-- The key of the current thread is known to fail.
module _ {P : Type 0} {offset : P → ℕ} {program : Program} {text : Text} {b : BoundedAttempt} {s : machine.State} {stack : List (StackEntry P)} {c : MemoAndWorkBudget}
    (h : AttemptHasState offset program text b (one_thread (running s) ∷ []) stack c) (key : Option Stored) (its : option_map memo_key_as_spec key ≡ memo_key_at c.memo.memo_analysis s)
    (fails : is_known_key (has_failure c.memo) (option_map memo_key_as_spec key) ≡ true) where
  known-happens : MayBeNextSearchEvent offset program text b h 1 h.now h.row
  known-happens = let k = known-key (has_failure c.memo) key (memo_key_at c.memo.memo_analysis s) its fails in drops s k.key h.row k.is (known offset program text b h k.key k.known)

  pub known-over : (c' : MemoAndWorkBudget) → WorkExceedsBudget 1 c.left c'.left → NextEventExceedsWorkLeft offset program text b h c'
  known-over c' spent = is-short offset program text b h 1 c' known-happens spent

  pub known-goes : (c' : MemoAndWorkBudget) → c'.memo ≡ c.memo → LowersBudgetByWork 1 c.left c'.left → TakesOneEvent offset program text b h None stack c'
  known-goes c' same spent = comes-on offset program text b h None h.row stack 1 c' known-happens h.is same spent

-- ---- The current instruction

-- No instruction but a char loop is an unbounded loop.
pub unbounded_loop-other : (insn : Coded) → ((greedy : Bool) (least most : ℕ) → insn ≡ CodedRun greedy least most → ⊥) → None ≡ min_and_greed_of_loop (insn_as_spec_insn insn)
unbounded_loop-other (CodedRun greedy least most) other = absurd (other greedy least most refl)
unbounded_loop-other insn other = refl

-- No instruction but a goal ends the search.
pub goal-other : (insn : Coded) → (insn ≡ CodedGoal → ⊥) → false ≡ is_goal_insn (insn_as_spec_insn insn)
goal-other CodedGoal other = absurd (other refl)
goal-other insn other = refl

pub char-loop-other : (insn : Coded) → ((greedy : Bool) (least most : ℕ) → insn ≡ CodedRun greedy least most → ⊥) → None ≡ char_loop_max (insn_as_spec_insn insn)
char-loop-other (CodedRun greedy least most) other = absurd (other greedy least most refl)
char-loop-other insn other = refl

-- The instruction is a char loop with this maximum.
record HasMaximum (x : Insn) (most : ℕ) : Type 0 where
  least : ℕ
  greedy : Bool
  is : x ≡ Loop1CharBody least most greedy

maximum-of : (x : Insn) (most : ℕ) → Some most ≡ char_loop_max x → HasMaximum x most
maximum-of (Loop1CharBody l m g) most e = let same : most ≡ m = Some_inj e in record { least = l; greedy = g; is = ap (λ n. Loop1CharBody l n g) (sym same) }
maximum-of x most e = cc

-- A char loop that is not unbounded has a maximum.
pub has-maximum : (greedy : Bool) (least most : ℕ) → None ≡ min_and_greed_of_loop (Loop1CharBody least most greedy) → (most == unlimited) ≡ false
has-maximum greedy least most none = by (most == unlimited) refl
  where
    by : (b : Bool) → (most == unlimited) ≡ b → (most == unlimited) ≡ false
    by true e = let never : false ≡ true = ap is_some (none ∙ ap (λ b. if b then Some (least, greedy) else None) e) in cc
    by false e = e

unbounded_loop-run : (insn : Insn) (greedy : Bool) (least : ℕ) → Some (least, greedy) ≡ min_and_greed_of_loop insn → insn ≡ Loop1CharBody least unlimited greedy
unbounded_loop-run (Loop1CharBody l m g) greedy least found = by (m == unlimited) refl
  where
    by : (b : Bool) → (m == unlimited) ≡ b → Loop1CharBody l m g ≡ Loop1CharBody least unlimited greedy
    by true e =
        let same : Some (least, greedy) ≡ Some (l, g) = found ∙ ap (λ b. if b then Some (l, g) else None) e in
        let pair = Some_inj same in
        ap (λ n. Loop1CharBody l n g) (eqb-true m unlimited e) ∙ ap (λ p. Loop1CharBody p.0 unlimited p.1) (sym pair)
    by false e = let never : true ≡ false = ap is_some (found ∙ ap (λ b. if b then Some (l, g) else None) e) in cc
unbounded_loop-run insn greedy least found = cc

module _ {P : Type 0} (offset : P → ℕ) (re : Regex) (text : Text) (insns : List Coded) (s : machine.State) where
  -- The current instruction is an unbounded char loop, and its body follows it.
  pub record RunAt (greedy : Bool) (least : ℕ) : Type 0 where
    pub below : s.ip + 1 < length insns
    pub reads : (body : Coded) → body ≡ get_or insns (s.ip + 1) body → slice_get (compiled (tree_of re)).insns (s.ip + 1) ≡ Some (insn_as_spec_insn body)
    pub here : (body : Coded) → body ≡ get_or insns (s.ip + 1) body
        → IsStateAtUnboundedLoopOverInsn offset (compiled (tree_of re)) text (record { body = body; least = least; greedy = greedy }) greedy s

module _ (re : Regex) (text : Text) (d : Direction) (insns : List Coded) (code : map insn_as_spec_insn insns ≡ (compiled (tree_of re)).insns) (s : machine.State)
    (can : IsNotStuck (act (compiled (tree_of re)) text d s)) where
  abbrev its-program : Program
  its-program = compiled (tree_of re)

  pub can-below : s.ip < length insns
  can-below = fetched-below insn_as_spec_insn insns its-program.insns s.ip code (act-some its-program text d (slice_get its-program.insns s.ip) s can)

  pub can-insn : (insn : Coded) → insn ≡ get_or insns s.ip insn → slice_get its-program.insns s.ip ≡ Some (insn_as_spec_insn insn)
  can-insn insn is = insn-here re insns code text d s can insn is

  -- The current instruction is a char loop, and its body follows it.
  pub record ReadsAt (least most : ℕ) (greedy : Bool) : Type 0 where
    pub run : slice_get its-program.insns s.ip ≡ Some (Loop1CharBody least most greedy)
    pub at : ScansAt its-program text s
    pub below : s.ip + 1 < length insns
    pub body : (body : Coded) → body ≡ get_or insns (s.ip + 1) body → slice_get its-program.insns (s.ip + 1) ≡ Some (insn_as_spec_insn body)

  pub reads-at : (least most : ℕ) (greedy : Bool) → slice_get its-program.insns s.ip ≡ Some (Loop1CharBody least most greedy) → ReadsAt least most greedy
  reads-at least most greedy run =
      let at = scans-at its-program text d s least most greedy run can in
      let tested = body-tested its-program s.ip at.test at.body in
      record { run = run; at = at; below = body-below re insns code s.ip tested; body = λ body is. body-insn re insns code s.ip tested body is }

  -- The current instruction is a char loop with this maximum, and its body follows it.
  pub record ReadsUpTo (most : ℕ) : Type 0 where
    pub least : ℕ
    pub greedy : Bool
    pub reads : ReadsAt least most greedy

  pub reads-up-to : (insn : Coded) → insn ≡ get_or insns s.ip insn → (most : ℕ) → Some most ≡ char_loop_max (insn_as_spec_insn insn) → ReadsUpTo most
  reads-up-to insn is most found =
      let m = maximum-of (insn_as_spec_insn insn) most found in
      record { least = m.least; greedy = m.greedy; reads = reads-at m.least most m.greedy (can-insn insn is ∙ ap Some m.is) }

module _ {P : Type 0} {offset : P → ℕ} (re : Regex) {text : Text} (insns : List Coded) (code : map insn_as_spec_insn insns ≡ (compiled (tree_of re)).insns) {s : machine.State}
    {stack : List (StackEntry P)} {c : MemoAndWorkBudget} (there : HasAttemptState offset (compiled (tree_of re)) text (one_thread (running s) ∷ []) stack c) where
  pub here-below : s.ip < length insns
  here-below = can-below re text rightwards insns code s (standing-can there)

  pub here-insn : (insn : Coded) → insn ≡ get_or insns s.ip insn → slice_get (compiled (tree_of re)).insns s.ip ≡ Some (insn_as_spec_insn insn)
  here-insn insn is = can-insn re text rightwards insns code s (standing-can there) insn is

  pub run-at : (insn : Coded) → insn ≡ get_or insns s.ip insn → (greedy : Bool) (least : ℕ) → Some (least, greedy) ≡ min_and_greed_of_loop (insn_as_spec_insn insn)
      → RunAt offset re text insns s greedy least
  run-at insn is greedy least found =
      let x = reads-at re text rightwards insns code s (standing-can there) least unlimited greedy (here-insn insn is ∙ ap Some (unbounded_loop-run (insn_as_spec_insn insn) greedy least found)) in
      record { below = x.below; reads = x.body; here = λ body body_is. record { insn = x.run; body = x.body body body_is } }

-- ---- The work of a turn

-- A turn at a goal ends the search.
pub goal-ends : (re : Regex) (text : Text) (s : machine.State) (insn : Coded) → slice_get (compiled (tree_of re)).insns s.ip ≡ Some (insn_as_spec_insn insn) → true ≡ is_goal_insn (insn_as_spec_insn insn)
    → act (compiled (tree_of re)) text rightwards s ≡ ends s
goal-ends re text s insn here goal =
    ap (λ o. act_on (compiled (tree_of re)) text rightwards o s) (here ∙ ap Some (by (insn_as_spec_insn insn) (sym goal)))
  where
    by : (x : Insn) → is_goal_insn x ≡ true → x ≡ Goal
    by Goal e = refl
    by x e = cc

-- A turn that is neither at a goal nor at a lookaround leaves threads.
module _ {P : Type 0} {offset : P → ℕ} {program : Program} {text : Text} {s : machine.State} {stack : List (StackEntry P)} {c : MemoAndWorkBudget}
    (there : HasAttemptState offset program text (one_thread (running s) ∷ []) stack c) where
  pub leads-on : (insn : Insn) → slice_get program.insns s.ip ≡ Some insn → false ≡ is_goal_insn insn → lookaround_at (Some insn) ≡ None → StepLeavesOnlyThreads (act program text rightwards s)
  leads-on insn here other none = by (act program text rightwards s) refl (standing-can there)
    where
      by : (x : Next) → act program text rightwards s ≡ x → IsNotStuck x → StepLeavesOnlyThreads x
      by (goes ts) is can = tt
      by (scans tries ts) is can = tt
      by (ends t) is can = absurd (never-ends program text rightwards s insn here (sym other) t is)
      by (asks inner negate u t) is can = absurd (asks-none program text rightwards s inner negate u t is (ap lookaround_at here ∙ none))
      by stuck is can = absurd can

-- A turn that is not at a char loop tries no character.
pub other-work : (program : Program) (text : Text) (d : Direction) (s : machine.State) (x : Insn) → slice_get program.insns s.ip ≡ Some x → None ≡ char_loop_max x → (left : ℕ)
    → IsWorkOrMoreThanLeft left (work_of_machine_step (act program text d s)) 1
other-work program text d s x here none left = inl (by (act program text d s) refl)
  where
    by : (n : Next) → act program text d s ≡ n → 1 ≡ work_of_machine_step n
    by (scans n ts) is =
        let r = scans-run program text d s n ts is in
        let never : None ≡ Some r.most = none ∙ ap char_loop_max (Some_inj (sym here ∙ r.is)) in
        let no : ⊥ = cc in absurd no
    by (goes ts) is = refl
    by (ends t) is = refl
    by (asks inner negate u t) is = refl
    by stuck is = refl

-- A turn at a char loop does this much work for the characters that pass up to a limit.
pub run-work : (program : Program) (text : Text) (d : Direction) (s : machine.State) → HasRisingPlaceOffsets text → (test : ℕ → Bool) (place least most : ℕ) (greedy : Bool)
    → slice_get program.insns s.ip ≡ Some (Loop1CharBody least most greedy) → test_of program (slice_get program.insns (s.ip + 1)) ≡ Some test → place_at text s.pos ≡ Some place
    → {P : Type 0} (offset : P → ℕ) (left passed : ℕ) (pos : P) → HasPassedRequiredChars offset text d test (min most (left - 1)) place passed pos
    → IsWorkOrMoreThanLeft left (work_of_machine_step (act program text d s)) (min most (passed + 1) + 1)
run-work program text d s is_text test place least most greedy run body at offset left passed pos over = by (cases_lt passed (min most (left - 1)))
  where
    all : ℕ
    all = passing text test d place

    tries_are : tested_char_count_of_step (act program text d s) ≡ min most (all + 1)
    tries_are = ap tested_char_count_of_step (run-turn program text d place s least most greedy test run body at)

    by : (passed < min most (left - 1)) ⊎ (min most (left - 1) ≤ passed) → IsWorkOrMoreThanLeft left (work_of_machine_step (act program text d s)) (min most (passed + 1) + 1)
    by (inl few) =
        let none = over.all few in
        let sum = over.past.sum in
        let same : passed ≡ all = omega (arith, none, sum) in
        inl (ap (λ n. min most (n + 1) + 1) same ∙ ap (λ n. n + 1) (sym tries_are))
    by (inr full) =
        let few = over.few in
        let sum = over.past.sum in
        elim (cases_lt (left - 1) most) [
          | inl less ↦ inr (omega (arith, full, few, less), omega (arith, full, few, less, sum, tries_are))
          | inr le ↦ let both : min most (passed + 1) + 1 ≡ min most (all + 1) + 1 = omega (arith, full, few, le, sum) in inl (both ∙ ap (λ n. n + 1) (sym tries_are))
        ]

-- ---- The threads that a turn leaves

pub leads-can : (x : Next) → StepLeavesOnlyThreads x → IsNotStuck x
leads-can (goes ts) leads = tt
leads-can (scans tries ts) leads = tt
leads-can (ends t) leads = absurd leads
leads-can (asks inner negate u t) leads = absurd leads
leads-can stuck leads = absurd leads

-- The lemmas below carry the facts of a turn to the value that the executor returns.
module _ {P : Type 0} (offset : P → ℕ) {step : Next} {t x : NextStates P} (turned : effect_of_next_states offset t ≡ step) (is : t ≡ x) where
  pub arm-leads : StepLeavesOnlyThreads step → StepLeavesOnlyThreads (effect_of_next_states offset x)
  arm-leads leads = subst StepLeavesOnlyThreads (sym turned ∙ ap (effect_of_next_states offset) is) leads

  pub arm-threads : threads_after_step step ≡ threads_after_step (effect_of_next_states offset x)
  arm-threads = ap threads_after_step (sym turned ∙ ap (effect_of_next_states offset) is)

-- The same holds if the states are given.
pub taken-threads : {P E : Type 0} (offset : P → ℕ) (ts : List Thread) (states : List (State P)) (old last : List (StackEntry P)) → ts ≡ first_running_and_others_waiting (states_by_priority offset states)
    → (r : Result (Option (State P)) E) → IfOk r (λ next. TakesPreferredState offset states old next last) → IfOk r (λ next. TakesPreferredThread offset ts old next last)
taken-threads offset ts states old last are (Ok next) h = record { states = states; are = are; taken = h }
taken-threads offset ts states old last are (Err e) h = tt

-- The entries of threads with one more thread end with the entry of that thread.
tries-on : (us : List Thread) (u : Thread) (row : List Entry) → thread_entries (us ++ u ∷ []) ++ row ≡ thread_entries us ++ one_thread u ∷ row
tries-on [] u row = refl
tries-on (v ∷ us) u row = ap (λ l. one_thread v ∷ l) (tries-on us u row)

module _ {P : Type 0} (offset : P → ℕ) (program : Program) (text : Text) where
  -- The other states wait on the stack, the last one first.
  rows-push : (others : List (State P)) (old : List (StackEntry P)) (row : List Entry) → IsStackOfEntriesFromTop offset program text old row
      → IsStackOfEntriesFromTop offset program text (old ++ map (λ o. AsThread o) others) (thread_entries (threads_of_stack offset others) ++ row)
  rows-push [] old row r = subst (λ l. IsStackOfEntriesFromTop offset program text l row) (sym (append-nil old)) r
  rows-push (s ∷ others) old row r =
      let more = row-push offset program text old (AsThread s) (one_thread (waiting (machine_state_of offset s))) row refl r in
      let all = rows-push others (old ++ AsThread s ∷ []) (one_thread (waiting (machine_state_of offset s)) ∷ row) more in
      let order : thread_entries (threads_of_stack offset (s ∷ others)) ++ row ≡ thread_entries (threads_of_stack offset others) ++ one_thread (waiting (machine_state_of offset s)) ∷ row =
      ap (λ us. thread_entries us ++ row) (waiting-append offset (s ∷ []) others) ∙ tries-on (threads_of_stack offset others) (waiting (machine_state_of offset s)) row in
      subst (λ l. IsStackOfEntriesFromTop offset program text (old ++ map (λ o. AsThread o) (s ∷ others)) l) (sym order)
      (subst (λ l. IsStackOfEntriesFromTop offset program text l (thread_entries (threads_of_stack offset others) ++ one_thread (waiting (machine_state_of offset s)) ∷ row))
      (append_assoc old (AsThread s ∷ []) (map (λ o. AsThread o) others)) all)

  -- The preferred state is taken, and the others wait above the entries below.
  record TakenAbove (ts : List Thread) (below : List Entry) (next : Option (State P)) (stack : List (StackEntry P)) : Type 0 where
    row : List Entry
    same : thread_entries ts ++ below ≡ entry_of_current_thread offset next ++ row
    is : IsStackOfEntriesFromTop offset program text stack row

  taken-above : (ts : List Thread) (below : List Entry) (old last : List (StackEntry P)) → IsStackOfEntriesFromTop offset program text old below → (next : Option (State P)) → TakesPreferredThread offset ts old next last
      → TakenAbove ts below next last
  taken-above ts below old last is next t = by next t.taken
    where
      by : (next : Option (State P)) → TakesPreferredState offset t.states old next last → TakenAbove ts below next last
      by None h = record {
        row = below;
        same = ap (λ us. thread_entries us ++ below) (t.are ∙ ap (λ l. first_running_and_others_waiting (states_by_priority offset l)) h.0);
        is = subst (λ l. IsStackOfEntriesFromTop offset program text l below) (sym h.1) is;
      }
      by (Some s) h =
          let order : ts ≡ running (machine_state_of offset s) ∷ threads_of_stack offset h.others =
          t.are ∙ sym (append-nil (first_running_and_others_waiting (states_by_priority offset t.states))) ∙ sym (scan-threads offset t.states h.others [] s h.is) in
          record {
            row = thread_entries (threads_of_stack offset h.others) ++ below;
            same = ap (λ us. thread_entries us ++ below) order;
            is = subst (λ l. IsStackOfEntriesFromTop offset program text l (thread_entries (threads_of_stack offset h.others) ++ below)) (sym h.wait) (rows-push h.others old below is);
          }

module _ {P : Type 0} {offset : P → ℕ} {program : Program} {text : Text} {b : BoundedAttempt} {s : machine.State} {stack : List (StackEntry P)} {c : MemoAndWorkBudget}
    (h : AttemptHasState offset program text b (one_thread (running s) ∷ []) stack c) (limited : IsNotUnboundedCharLoop program s.ip) {key : Option Stored} (k : IsUnfailedStateKeyIfAny c.memo s key)
    (leads : StepLeavesOnlyThreads (act program text rightwards s)) where
  abbrev recorded : List Entry
  recorded = entries_with_record_of_state s (option_map memo_key_as_spec key) h.row

  turn-happens : MayBeNextSearchEvent offset program text b h (work_of_machine_step (act program text rightwards s)) h.now (thread_entries (threads_after_step (act program text rightwards s)) ++ recorded)
  turn-happens = by (act program text rightwards s) refl leads
    where
      new-key : (key : Option Stored) → IfSome key (λ k. has_failure c.memo (memo_key_as_spec k) ≡ false) → IsKeyNewIfAny (option_map memo_key_as_spec key) h.now
      new-key None unknown = tt
      new-key (Some k) unknown = new offset program text b h (memo_key_as_spec k) unknown

      by : (x : Next) → act program text rightwards s ≡ x → StepLeavesOnlyThreads x → MayBeNextSearchEvent offset program text b h (work_of_machine_step x) h.now (thread_entries (threads_after_step x) ++ recorded)
      by (goes ts) is leads = turns s ts (option_map memo_key_as_spec key) h.row is k.is (new-key key k.unknown)
      by (scans n ts) is leads =
          let r = scans-run program text rightwards s n ts is in
          tries_chars s r.least r.most r.greedy n ts (option_map memo_key_as_spec key) h.row r.is (limited r.least r.most r.greedy r.is) is k.is (new-key key k.unknown)
      by (ends t) is leads = absurd leads
      by (asks inner negate u t) is leads = absurd leads
      by stuck is leads = absurd leads

  -- If the work of the turn exceeds the work left, the work is too little.
  pub turn-over : (number : ℕ) → IsWorkOrMoreThanLeft c.left (work_of_machine_step (act program text rightwards s)) number → (c' : MemoAndWorkBudget) → WorkExceedsBudget number c.left c'.left
      → NextEventExceedsWorkLeft offset program text b h c'
  turn-over number (inl same) c' spent = is-short offset program text b h (work_of_machine_step (act program text rightwards s)) c' turn-happens (subst (λ n. WorkExceedsBudget n c.left c'.left) same spent)
  turn-over number (inr more) c' spent = is-short offset program text b h (work_of_machine_step (act program text rightwards s)) c' turn-happens (more.1, spent.1)

  -- The record of the current thread's key waits on the stack.
  record-waits : (mid : List (StackEntry P)) → mid ≡ stack_with_record_if_any key stack → IsStackOfEntriesFromTop offset program text mid recorded
  record-waits mid pushed = subst (λ xs. IsStackOfEntriesFromTop offset program text xs recorded) (sym pushed) (by key)
    where
      by : (key : Option Stored) → IsStackOfEntriesFromTop offset program text (stack_with_record_if_any key stack) (entries_with_record_of_state s (option_map memo_key_as_spec key) h.row)
      by None = h.is
      by (Some k) =
          row-push offset program text stack (AsRecord k) (key_record (memo_key_as_spec k) (running s ∷ [])) h.row (record { threads = running s ∷ []; is = refl }) h.is

  pub turn-goes : (number : ℕ) → IsWorkOrMoreThanLeft c.left (work_of_machine_step (act program text rightwards s)) number → (mid last : List (StackEntry P)) → mid ≡ stack_with_record_if_any key stack
      → (next : Option (State P)) → TakesPreferredThread offset (threads_after_step (act program text rightwards s)) mid next last
      → (c' : MemoAndWorkBudget) → c'.memo ≡ c.memo → LowersBudgetByWork number c.left c'.left → TakesOneEvent offset program text b h next last c'
  turn-goes number works mid last pushed next taken c' same spent =
      let x = taken-above offset program text (threads_after_step (act program text rightwards s)) recorded mid last (record-waits mid pushed) next taken in
      let work = work_of_machine_step (act program text rightwards s) in
      let exact : number ≡ work = by works in
      comes-on offset program text b h next x.row last work c' (subst (λ row. MayBeNextSearchEvent offset program text b h work h.now row) x.same turn-happens) x.is same
      (subst (λ n. LowersBudgetByWork n c.left c'.left) exact spent)
    where
      by : IsWorkOrMoreThanLeft c.left (work_of_machine_step (act program text rightwards s)) number → number ≡ work_of_machine_step (act program text rightwards s)
      by (inl same) = same
      by (inr more) = absurd (let left : c.left ≡ number + c'.left = spent in let over = more.0 in omega (arith, left, over))
