-- A turn at a lazy unbounded char loop takes its nearest exit, and each resumption takes the next exit.
use Rattle.std.proofs.Common.{◌≡◌, ◌≤◌, ◌<◌, ◌^◌, ℕ, ◌+◌, ◌-◌, Bool, true, false, min, List, [], ◌∷◌, ◌++◌, Option, Some, None, refl, sym, ap, ◌∙◌, subst, arith, inl, inr}
use Rattle.std.specs.Prelude.{◌⊎◌, IsSome, is_some, option_map, slice_get}
use Rattle.std.proofs.Math.Logic.{∥∥₁_elim}
use Rattle.std.proofs.Props.{props}
use Rattle.std.proofs.lemmas.Bool.{cases_lt}
use Rattle.regex_meaning.specs.Text.{Text, Direction, rightwards, last_place, moved}
use Rattle.regex_meaning.specs.CodeUnitOffsets.{HasRisingPlaceOffsets, IsBoundary, units, place_at, offset as text_offset}
use Rattle.regex_meaning.specs.CompilationRelation.{Program, Loop1CharBody}
use Rattle.regex_meaning.proofs.CodeUnitOffsetsLemmas.{place_at-offset, offset-place_at, IsBoundary-place}
use Rattle.regex_meaning.proofs.EscapesAndNamesLemmas.{Some_inj}
use Rattle.regress_program.specs.InsnsAsSpec.{insn_as_spec_insn}
use Rattle.regress_machine.specs.Machine as machine
use Rattle.regress_machine.specs.Machine.{running, test_of}
use Rattle.regress_machine.specs.InsnEffects.{state_after_char_loop_to_offset}
use Rattle.regress_machine.proofs.NearestCharacterLemmas.{moved-zero}
use Rattle.regress_machine.specs.CharLoopExitStatesByPreference.{behind}
use Rattle.regress_memo.specs.CharLoopExitThreadLists.{passing, pending_loop_threads}
use Rattle.regress_memo.specs.DistinctLists.{IsNew}
use Rattle.regress_memo.specs.MemoSearch.{Key, Entry, one_thread, thread_group, key_record, thread_entries}
use Rattle.regress_memo.specs.WorkBound.{initial_threads}
use Rattle.regress_memo.specs.AnalysisChecks.{unlimited}
use Rattle.regress_memo.specs.declared.memo.ThreadMemoKey.{ThreadMemoKey as Stored}
use Rattle.regress_memo.specs.MemoContents.{memo_key_as_spec, memo_key_at, has_failure}
use Rattle.regress_memo.specs.AmortizedMemoSearchSteps.{ReachesEntries}
use Rattle.regress_bounded.specs.declared.memo_and_work_budget.MemoAndWorkBudget.{MemoAndWorkBudget}
use Rattle.regress_bounded.specs.declared.pending_stack.UnboundedCharLoop.{UnboundedCharLoop}
use Rattle.regress_bounded.specs.declared.pending_stack.StackEntry.{StackEntry}
use Rattle.regress_bounded.specs.declared.pending_stack.StackEntry.TheVariants.{PendingLazyLoop as AsRun, Record as AsRecord}
use Rattle.regress_pikevm.specs.declared.pikevm.states.State.{State}
use Rattle.regress_bounded.specs.CostsOfSearchEvents.{IsKnownToFail, ThreadsPendAbove, some_wait, takes_nearest, drops_loop, resumes_loop}
use Rattle.regress_bounded.specs.BoundedState.{BoundedAttempt, IsStackOfEntriesFromTop, IsPendingLazyLoop, AttemptHasState, SomeAttemptHasState, HasAttemptState, TakesOneEvent}
use Rattle.regress_bounded.specs.BoundedState.{NextEventExceedsWorkLeft, IsStateAtUnboundedLoopOverInsn, HasPassedRequiredChars, TakesNearestExit, MayBeNextSearchEvent}
use Rattle.regress_bounded.specs.WorkOfCharLoopsAndAttempts.{StateIsAtUnboundedCharLoop, key_after_chars}
use Rattle.regress_bounded.specs.BudgetSpending.{LowersBudgetByWork, WorkExceedsBudget}
use Rattle.regress_pikevm.specs.States.{machine_state_of}
use Rattle.regress_bounded.proofs.SearchEventCostLemmas.{ScansAt, scans-at}
use Rattle.regress_bounded.proofs.CharLoopEventLemmas.{few-happen, greedy-at-least, nearest-behind, row-above}
use Rattle.regex_meaning.proofs.OutcomeDirectionLemmas.{left-few}
use Rattle.regress_memo.proofs.CharLoopExitLemmas.{passing-left}
use Rattle.regress_search.proofs.CharLoopReach.{some-of}
use Rattle.regress_search.proofs.StopByteScanLemmas.{places-few}
use Rattle.regress_bounded.proofs.CharLoopWorkLemmas.{lazy-key}
use Rattle.regress_bounded.proofs.BoundedStateLemmas.{Popped, popped, back-comes, happens-back, row-push, can-turn, new, known, CostsAtLeast, comes-on, is-short}
use Rattle.regress_input.proofs.BoundaryPositions.{boundary_inside}

-- ---- The characters that a loop reads

-- At most as many characters pass as the text has code units.
pub few-passed : (text : Text) → HasRisingPlaceOffsets text → (d : Direction) (test : ℕ → Bool) (place : ℕ) → place ≤ last_place text → passing text test d place ≤ units text
few-passed text is d test place inside =
    let a = passing-left text test d place inside in
    let b = left-few text d place inside in
    let c = places-few text is (last_place text) (omega arith) in
    omega (arith, a, b, c, inside)

-- The loop has a test and a place, and it passes over `passed` characters up to a limit.
pub record PassesOver {P : Type 0} (offset : P → ℕ) (program : Program) (text : Text) (run : UnboundedCharLoop) (limit : ℕ) (s : machine.State) (passed : ℕ) (pos : P) : Type 0 where
  pub test : ℕ → Bool
  pub tests : test_of program (Some (insn_as_spec_insn run.body)) ≡ Some test
  pub place : ℕ
  pub at : place_at text s.pos ≡ Some place
  pub inside : place ≤ last_place text
  pub over : HasPassedRequiredChars offset text rightwards test limit place passed pos

module _ {P : Type 0} {offset : P → ℕ} {program : Program} {text : Text} {run : UnboundedCharLoop} {greedy : Bool} {s : machine.State} (here : IsStateAtUnboundedLoopOverInsn offset program text run greedy s) where
  -- The loop has a test, and its state is at a boundary.
  pub record Reads : Type 0 where
    pub test : IsSome (test_of program (Some (insn_as_spec_insn run.body)))
    pub at : IsBoundary text s.pos

  reads-at : ScansAt program text s → Reads
  reads-at x = record { test = ap is_some (ap (test_of program) (sym here.body) ∙ x.body); at = ap is_some x.at }

  module _ {stack : List (StackEntry P)} {c : MemoAndWorkBudget} (there : HasAttemptState offset program text (one_thread (running s) ∷ []) stack c) where
    pub reads-here : Reads
    reads-here =
        let by = λ (x : SomeAttemptHasState offset program text (one_thread (running s) ∷ []) stack c).
        reads-at (scans-at program text rightwards s run.least unlimited greedy here.insn (can-turn offset program text x.begin s x.stands)) in
        record {
          test = ∥∥₁_elim there (Prim.hlevel props) (λ x. (by x).test);
          at = ∥∥₁_elim there (Prim.hlevel props) (λ x. (by x).at);
        }

    pub passes-over : HasRisingPlaceOffsets text → (limit passed : ℕ) (pos : P)
        → ((test : ℕ → Bool) (place : ℕ) → test_of program (Some (insn_as_spec_insn run.body)) ≡ Some test → place_at text s.pos ≡ Some place → HasPassedRequiredChars offset text rightwards test limit place passed pos)
        → PassesOver offset program text run limit s passed pos
    passes-over is limit passed pos h =
        let t = some-of (test_of program (Some (insn_as_spec_insn run.body))) reads-here.test in
        let p = IsBoundary-place text s.pos is reads-here.at in
        record { test = t.0; tests = t.1; place = p.0; at = p.1; inside = p.3; over = h t.0 p.0 t.1 p.1 }

  -- The loop is unbounded for each test that its body has.
  pub unbounded_loop-by : (test : ℕ → Bool) → test_of program (Some (insn_as_spec_insn run.body)) ≡ Some test → StateIsAtUnboundedCharLoop program s test run.least greedy
  unbounded_loop-by test e = record { run = here.insn; body = ap (test_of program) here.body ∙ e }

-- The number of characters passed fits into a machine word.
pub passed-fits : {P : Type 0} {offset : P → ℕ} {program : Program} {text : Text} {run : UnboundedCharLoop} {limit : ℕ} {s : machine.State} {passed : ℕ} {pos : P}
    → PassesOver offset program text run limit s passed pos
    → HasRisingPlaceOffsets text → units text < 2 ^ 63 → passed + 2 < 2 ^ 64
passed-fits p is short = let few = few-passed _ is rightwards p.test p.place p.inside in let sum = p.over.past.sum in omega (arith, few, sum, short)

-- The loop is the same for an equal greediness.
pub run-which : {P : Type 0} {offset : P → ℕ} {program : Program} {text : Text} {run : UnboundedCharLoop} {greedy which : Bool} {s : machine.State} → IsStateAtUnboundedLoopOverInsn offset program text run greedy s → greedy ≡ which
    → IsStateAtUnboundedLoopOverInsn offset program text run which s
run-which {run = run} here same = record { insn = here.insn ∙ ap (λ b. Some (Loop1CharBody run.least unlimited b)) same; body = here.body }

-- ---- A turn at a loop

module _ {P : Type 0} {offset : P → ℕ} {program : Program} {text : Text} {b : BoundedAttempt} {s : machine.State} {stack : List (StackEntry P)} {c : MemoAndWorkBudget}
    (h : AttemptHasState offset program text b (one_thread (running s) ∷ []) stack c) {run : UnboundedCharLoop} {passed : ℕ} {pos : P} (p : PassesOver offset program text run (min run.least (c.left - 1)) s passed pos) where
  abbrev all : ℕ
  all = passing text p.test rightwards p.place

  abbrev Least : Type 0
  Least = CostsAtLeast offset program text b h (passed + 2)

  -- The next event costs at least the characters that pass.
  pub at-least : {greedy : Bool} → IsStateAtUnboundedLoopOverInsn offset program text run greedy s → Least
  at-least {greedy} here = by (cases_lt all run.least)
    where
      some-first : (greedy : Bool) → StateIsAtUnboundedCharLoop program s p.test run.least greedy → run.least ≤ all → Least
      some-first true unbounded_loop le =
          let few = p.over.few in
          let x = greedy-at-least offset program text b s h p.test run.least p.place unbounded_loop p.at run.least (omega arith) le (λ m first less. absurd (omega (arith, first, less))) in
          let more = x.more in
          record { cost = x.cost; now = x.now; row = x.row; happens = x.happens; more = omega (arith, more, few) }
      some-first false unbounded_loop le =
          let few = p.over.few in
          record {
            cost = run.least + 2;
            now = h.now;
            row = one_thread (running (behind text rightwards p.place s run.least)) ∷ thread_group (pending_loop_threads text p.test rightwards (run.least + 1) p.place s) ∷ h.row;
            happens = takes_nearest s p.test run.least p.place h.row (thread_group (pending_loop_threads text p.test rightwards (run.least + 1) p.place s) ∷ h.row) unbounded_loop p.at le some_wait;
            more = omega (arith, few);
          }

      by : (all < run.least) ⊎ (run.least ≤ all) → Least
      by (inl few) =
          let sum = p.over.past.sum in
          record {
            cost = all + 2;
            now = h.now;
            row = h.row;
            happens = few-happen offset program text b s h p.test run.least p.place (unbounded_loop-by here p.test p.tests) p.at few;
            more = omega (arith, sum);
          }
      by (inr le) = some-first greedy (unbounded_loop-by here p.test p.tests) le

  -- If too few characters pass, the turn leaves no thread.
  pub short-goes : {greedy : Bool} → IsStateAtUnboundedLoopOverInsn offset program text run greedy s → passed < run.least → (c' : MemoAndWorkBudget) → c'.memo ≡ c.memo → LowersBudgetByWork (passed + 2) c.left c'.left
      → TakesOneEvent offset program text b h None stack c'
  short-goes here few c' same spent =
      let left : c.left ≡ passed + 2 + c'.left = spent in
      let none = p.over.all (omega (arith, few, left)) in
      let sum = p.over.past.sum in
      let is : all ≡ passed = omega (arith, sum, none) in
      let happens = few-happen offset program text b s h p.test run.least p.place (unbounded_loop-by here p.test p.tests) p.at (omega (arith, is, few)) in
      comes-on offset program text b h None h.row stack (passed + 2) c' (subst (λ n. MayBeNextSearchEvent offset program text b h (n + 2) h.now h.row) is happens) h.is same spent

-- ---- A turn at a lazy loop

module _ {P : Type 0} {offset : P → ℕ} {program : Program} {text : Text} {b : BoundedAttempt} (state : State P) {stack : List (StackEntry P)} {c : MemoAndWorkBudget}
    (h : AttemptHasState offset program text b (one_thread (running (machine_state_of offset state)) ∷ []) stack c) {run : UnboundedCharLoop} (here : IsStateAtUnboundedLoopOverInsn offset program text run false (machine_state_of offset state))
    {passed : ℕ} {pos : P} (p : PassesOver offset program text run (min run.least (c.left - 1)) (machine_state_of offset state) passed pos) (le : run.least ≤ passed) where
  abbrev s : machine.State
  s = machine_state_of offset state

  unbounded_loop : StateIsAtUnboundedCharLoop program s p.test run.least false
  unbounded_loop = unbounded_loop-by here p.test p.tests

  pub lazy-goes : (next : State P) (new : List (StackEntry P))
      → ((test : ℕ → Bool) (place : ℕ) → test_of program (Some (insn_as_spec_insn run.body)) ≡ Some test → place_at text (offset pos) ≡ Some place → TakesNearestExit offset text test place pos state next stack new)
      → (c' : MemoAndWorkBudget) → c'.memo ≡ c.memo → LowersBudgetByWork (passed + 2) c.left c'.left → TakesOneEvent offset program text b h (Some next) new c'
  lazy-goes next new nearest c' same spent =
      let sum = p.over.past.sum in
      let few = p.over.few in
      let there = moved text rightwards passed p.place in
      let near = nearest p.test there p.tests (ap (place_at text) p.over.past.at ∙ place_at-offset text there h.right.paid.is_text p.over.past.within) in
      let is : behind text rightwards p.place s passed ≡ machine_state_of offset next = sym (near.is_here ∙ ap (λ at. state_after_char_loop_to_offset at s) p.over.past.at) in
      let after = nearest-behind offset program text c.memo.memo_analysis h.right.paid p.test run.least p.place state unbounded_loop p.inside passed (omega (arith, sum)) there refl pos next stack new near in
      let x = row-above offset program text (pending_loop_threads text p.test rightwards (passed + 1) p.place s) h.row stack new h.is after in
      let least_is : passed ≡ run.least = omega (arith, le, few) in
      let above : ThreadsPendAbove (pending_loop_threads text p.test rightwards (run.least + 1) p.place s) h.row x.row =
      subst (λ n. ThreadsPendAbove (pending_loop_threads text p.test rightwards (n + 1) p.place s) h.row x.row) least_is x.above in
      let first : MayBeNextSearchEvent offset program text b h (run.least + 2) h.now (one_thread (running (behind text rightwards p.place s run.least)) ∷ x.row) =
      takes_nearest s p.test run.least p.place h.row x.row unbounded_loop p.at (omega (arith, sum, le)) above in
      let counted = subst (λ n. MayBeNextSearchEvent offset program text b h (n + 2) h.now (one_thread (running (behind text rightwards p.place s n)) ∷ x.row)) (sym least_is) first in
      comes-on offset program text b h (Some next) x.row new (passed + 2) c' (subst (λ r. MayBeNextSearchEvent offset program text b h (passed + 2) h.now (one_thread (running r) ∷ x.row)) is counted) x.is same spent

-- ---- Resumption of a lazy loop

module _ {P : Type 0} {offset : P → ℕ} {program : Program} {text : Text} {b : BoundedAttempt} (stack : List (StackEntry P)) (state : State P) {c : MemoAndWorkBudget}
    (h : AttemptHasState offset program text b [] (stack ++ AsRun state ∷ []) c) where
  abbrev its : machine.State
  its = machine_state_of offset state

  abbrev pub left-off : Popped offset program text stack (AsRun state) h.row
  left-off = popped offset program text b stack (AsRun state) h

  abbrev pub rest-of : IsPendingLazyLoop offset program text its left-off.entry
  rest-of = left-off.stands

  its-inside : rest-of.place ≤ last_place text
  its-inside = (offset-place_at text its.pos rest-of.place h.right.paid.is_text rest-of.at).1

  abbrev waits-at : List Entry
  waits-at = thread_group (pending_loop_threads text rest-of.test rightwards 0 rest-of.place its) ∷ left-off.rest

  comes-back : ReachesEntries program text c.memo.memo_analysis rightwards b.memory (thread_entries (initial_threads program b.at)) h.work h.now waits-at
  comes-back = back-comes offset program text b stack (AsRun state) h (thread_group (pending_loop_threads text rest-of.test rightwards 0 rest-of.place its)) rest-of.is

  abbrev pub key-back : Key
  key-back = key_after_chars program text c.memo.memo_analysis rightwards rest-of.test rest-of.place its 0

  -- The state at the loop's body has the key of the waiting threads.
  key-there : memo_key_at c.memo.memo_analysis (record its { ip = its.ip + 1; pos = its.pos }) ≡ Some key-back
  key-there =
      let paid = h.right.paid in
      let same : text_offset text rest-of.place ≡ its.pos = (offset-place_at text its.pos rest-of.place paid.is_text rest-of.at).0 in
      subst (λ q. memo_key_at c.memo.memo_analysis (record its { ip = its.ip + 1; pos = q }) ≡ Some key-back) same
      (lazy-key program c.memo.memo_analysis paid.memo_analysis paid.bounded text paid.is_text paid.bytes paid.short rightwards b.memory (thread_entries (initial_threads program b.at)) h.work h.now left-off.rest
      its rest-of.test rest-of.least rest-of.place rest-of.run its-inside comes-back)

  place-in : its.pos < c.memo.places
  place-in =
      let within = boundary_inside text h.right.paid.is_text its.pos (ap is_some rest-of.at) in
      let places = h.right.is_true.places in
      omega (arith, within, places)

  -- A key that is found is the key of the waiting threads.
  module _ {found : Option Stored} {stored : Stored} (found_is : found ≡ Some stored) (told : option_map memo_key_as_spec found ≡ memo_key_at c.memo.memo_analysis (record its { ip = its.ip + 1; pos = its.pos })) where
    abbrev k : Key
    k = memo_key_as_spec stored

    is : k ≡ key-back
    is = Some_inj (sym (ap (option_map memo_key_as_spec) found_is) ∙ told ∙ key-there)

    -- If the key is known to fail, the waiting threads are dropped.
    back-known : has_failure c.memo k ≡ true → MayBeNextSearchEvent offset program text b h 1 h.now left-off.rest
    back-known fails =
        let known-there : IsKnownToFail program text c.memo.memo_analysis rightwards key-back h.now =
        subst (λ k. IsKnownToFail program text c.memo.memo_analysis rightwards k h.now) is (known offset program text b h k fails) in
        happens-back offset program text b stack (AsRun state) h (thread_group (pending_loop_threads text rest-of.test rightwards 0 rest-of.place its)) rest-of.is
        (drops_loop its rest-of.test rest-of.least rest-of.place left-off.rest rest-of.run rest-of.at known-there)

    pub back-known-over : has_failure c.memo k ≡ true → (c' : MemoAndWorkBudget) → WorkExceedsBudget 1 c.left c'.left → NextEventExceedsWorkLeft offset program text b h c'
    back-known-over fails c' spent = is-short offset program text b h 1 c' (back-known fails) spent

    pub back-known-goes : has_failure c.memo k ≡ true → (c' : MemoAndWorkBudget) → c'.memo ≡ c.memo → LowersBudgetByWork 1 c.left c'.left → TakesOneEvent offset program text b h None stack c'
    back-known-goes fails c' same spent = comes-on offset program text b h None left-off.rest stack 1 c' (back-known fails) left-off.below same spent

    -- If the key is not known to fail, the nearest exit is taken above a record of the key.
    abbrev recorded-row : List Entry
    recorded-row = key_record key-back (pending_loop_threads text rest-of.test rightwards 0 rest-of.place its) ∷ left-off.rest

    back-again : has_failure c.memo k ≡ false → (row : List Entry) → ThreadsPendAbove (pending_loop_threads text rest-of.test rightwards 1 rest-of.place its) recorded-row row
        → MayBeNextSearchEvent offset program text b h 2 h.now (one_thread (running (behind text rightwards rest-of.place its 0)) ∷ row)
    back-again unknown row above =
        happens-back offset program text b stack (AsRun state) h (thread_group (pending_loop_threads text rest-of.test rightwards 0 rest-of.place its)) rest-of.is
        (resumes_loop its rest-of.test rest-of.least rest-of.place left-off.rest row rest-of.run rest-of.at (subst (λ k. IsNew k h.now) is (new offset program text b h k unknown)) above)

    pub back-over : has_failure c.memo k ≡ false → (c' : MemoAndWorkBudget) → WorkExceedsBudget 2 c.left c'.left → NextEventExceedsWorkLeft offset program text b h c'
    back-over unknown c' spent = is-short offset program text b h 2 c' (back-again unknown (thread_group (pending_loop_threads text rest-of.test rightwards 1 rest-of.place its) ∷ recorded-row) some_wait) spent

    pub back-goes : has_failure c.memo k ≡ false → (next : State P) (mid last : List (StackEntry P)) → mid ≡ stack ++ AsRecord stored ∷ []
        → TakesNearestExit offset text rest-of.test rest-of.place state.pos state next mid last
        → (c' : MemoAndWorkBudget) → c'.memo ≡ c.memo → LowersBudgetByWork 2 c.left c'.left → TakesOneEvent offset program text b h (Some next) last c'
    back-goes unknown next mid last pushed near' c' same spent =
        let t = c.memo.memo_analysis in
        let near = subst (λ xs. TakesNearestExit offset text rest-of.test rest-of.place state.pos state next xs last) pushed near' in
        let none : moved text rightwards 0 rest-of.place ≡ rest-of.place = moved-zero text rightwards rest-of.place in
        let at : text_offset text (moved text rightwards 0 rest-of.place) ≡ its.pos =
        ap (text_offset text) none ∙ (offset-place_at text its.pos rest-of.place h.right.paid.is_text rest-of.at).0 in
        let nearest_is : behind text rightwards rest-of.place its 0 ≡ machine_state_of offset next = ap (λ q. state_after_char_loop_to_offset q its) at ∙ sym near.is_here in
        let all = pending_loop_threads text rest-of.test rightwards 0 rest-of.place its in
        let more = pending_loop_threads text rest-of.test rightwards 1 rest-of.place its in
        let after = nearest-behind offset program text t h.right.paid rest-of.test rest-of.least rest-of.place state rest-of.run its-inside 0 (omega arith)
        rest-of.place (sym none) state.pos next (stack ++ AsRecord stored ∷ []) last near in
        let below : IsStackOfEntriesFromTop offset program text (stack ++ AsRecord stored ∷ []) recorded-row =
        row-push offset program text stack (AsRecord stored) (key_record key-back all) left-off.rest (record { threads = all; is = ap (λ k. key_record k all) (sym is) }) left-off.below in
        let x = row-above offset program text more recorded-row (stack ++ AsRecord stored ∷ []) last below after in
        comes-on offset program text b h (Some next) x.row last 2 c'
        (subst (λ r. MayBeNextSearchEvent offset program text b h 2 h.now (one_thread (running r) ∷ x.row)) nearest_is (back-again unknown x.row x.above)) x.is same spent

-- ---- The loop that a stack entry resumes

module _ {P : Type 0} {offset : P → ℕ} {program : Program} {text : Text} (stack : List (StackEntry P)) (state : State P) {c : MemoAndWorkBudget}
    (there : HasAttemptState offset program text [] (stack ++ AsRun state ∷ []) c) where
  -- The memo table has a bit for the place of the loop.
  pub back-place : offset state.pos < c.memo.places
  back-place = ∥∥₁_elim there (Prim.hlevel props) (λ x. place-in stack state x.stands)

  pub back-boundary : IsBoundary text (offset state.pos)
  back-boundary = ∥∥₁_elim there (Prim.hlevel props) (λ x. ap is_some (rest-of stack state x.stands).at)

  pub back-tested : IsSome (test_of program (slice_get program.insns (state.ip + 1)))
  back-tested = ∥∥₁_elim there (Prim.hlevel props) (λ x. ap is_some (rest-of stack state x.stands).run.body)

  -- The state at the loop's body has a key.
  pub back-keyed : {found : Option Stored} → found ≡ None → option_map memo_key_as_spec found ≡ memo_key_at c.memo.memo_analysis (record (machine_state_of offset state) { ip = state.ip + 1; pos = offset state.pos }) → ⊥
  back-keyed none told =
      ∥∥₁_elim there (Prim.hlevel props) (λ x.
      let never = sym (ap (option_map memo_key_as_spec) none) ∙ told ∙ key-there stack state x.stands in let no : ⊥ = cc in no)
