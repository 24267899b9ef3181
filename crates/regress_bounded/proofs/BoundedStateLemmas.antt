-- An event leads from one state of a bounded attempt to the next, and the last state gives its result.
use Rattle.std.proofs.Common.{◌≡◌, ◌≤◌, ◌<◌, ℕ, ◌+◌, true, false, List, [], ◌∷◌, ◌++◌, Option, Some, None, refl, sym, ap, ◌∙◌, subst, arith}
use Rattle.std.proofs.lemmas.List.{reverse-append}
use Rattle.std.specs.Prelude.{reverse}
use Rattle.regex_meaning.specs.Text.{Text, rightwards}
use Rattle.regex_meaning.specs.CodeUnitOffsets.{units}
use Rattle.regex_meaning.specs.CompilationRelation.{Program}
use Rattle.regress_machine.specs.Machine as machine
use Rattle.regress_machine.specs.Machine.{Thread, running, waiting, Next, goes, scans, ends, asks, stuck, act, Found, result_without_threads, search}
use Rattle.regress_machine.specs.InsnEffects.{IsNotStuck}
use Rattle.regress_machine.proofs.MachineSearchLemmas.{ends-found, never_stuck}
use Rattle.regress_memo.specs.AmortizedStepCosts.{potential_by}
use Rattle.regress_memo.specs.DistinctLists.{IsNew}
use Rattle.regress_memo.specs.MemoSearch.{Key, Keys, Entry, one_thread, key_record, thread_entries, threads_in, IsMemory, HoldsInvariant as Finds}
use Rattle.regress_memo.proofs.MemoSearchLemmas.{work-is-bounded, reached-fail}
use Rattle.regress_memo.specs.declared.analysis_result.MemoAnalysis.{MemoAnalysis}
use Rattle.regress_memo.specs.WorkBound.{initial_threads}
use Rattle.regress_memo.specs.AnalysisAsPotentials.{analysis_as_liveness, recorded, potentials_of, key_cost_of}
use Rattle.regress_memo.specs.CheckedAnalysis.{IsRecordableMemoKey, IsMemoPlanForText}
use Rattle.regress_memo.proofs.CheckedAnalysisLemmas.{ledgers-serve}
use Rattle.regress_memo.specs.Laws.{analysis_keys, KeyFails}
use Rattle.regress_memo.specs.MemoContents.{memo_key_as_spec, has_failure, RecordsFailure}
use Rattle.regress_memo.specs.MemoContractView.{MemoView}
use Rattle.regress_memo.specs.AmortizedMemoSearchSteps.{ReachesEntries, IsKeyed}
use Rattle.regress_memo.proofs.MemoTableLawLemmas.{memos-hold, memos-are-true, keys-are-there}
use Rattle.regress_memo.specs.declared.memo.ThreadMemoKey.{ThreadMemoKey as Stored}
use Rattle.regress_bounded.specs.declared.memo_and_work_budget.MemoAndWorkBudget.{MemoAndWorkBudget}
use Rattle.regress_bounded.specs.declared.pending_stack.StackEntry.{StackEntry}
use Rattle.regress_bounded.specs.declared.pending_stack.StackEntry.TheVariants.{Thread as AsThread, Record as AsRecord}
use Rattle.regress_pikevm.specs.declared.pikevm.states.State.{State}
use Rattle.std.proofs.Math.Logic.{∥∥₁_map, ∥∥₁_elim}
use Rattle.std.proofs.Props.{props}
use Rattle.regress_bounded.specs.BoundedState.{AnalysisBoundsSearch, IsSoundMemo, IsMemoRight, HasAttemptState, BoundedAttempt, IsRecordOf, StackEntryStandsFor, StackStandsFor}
use Rattle.regress_bounded.specs.BoundedState.{IsStackOfEntriesFromTop, AttemptHasState}
use Rattle.regress_bounded.specs.BoundedState.{TakesOneEvent, NextEventExceedsWorkLeft, MayBeNextSearchEvent, entry_of_current_thread}
use Rattle.regress_bounded.specs.CostsOfSearchEvents.{Costs, IsSearchEvent, IsKnownToFail, reaches, resumes, then_happens}
use Rattle.regress_bounded.proofs.SearchEventCostLemmas.{costs-come}
use Rattle.regress_bounded.specs.BudgetSpending.{LowersBudgetByWork, WorkExceedsBudget}
use Rattle.regress_pikevm.specs.States.{machine_state_of}

-- ---- Stacks and the entries that they stand for

module _ {P : Type 0} (offset : P → ℕ) (program : Program) (text : Text) where
  -- Pushing a stack entry puts the entry that it stands for in front of the others.
  pub row-push : (stack : List (StackEntry P)) (w : StackEntry P) (e : Entry) (row : List Entry) → StackEntryStandsFor offset program text w e → IsStackOfEntriesFromTop offset program text stack row
      → IsStackOfEntriesFromTop offset program text (stack ++ w ∷ []) (e ∷ row)
  row-push stack w e row s r = subst (λ l. StackStandsFor offset program text l (e ∷ row)) (sym (reverse-append stack (w ∷ []))) (s, r)

  pub record Popped (stack : List (StackEntry P)) (w : StackEntry P) (row : List Entry) : Type 0 where
    pub entry : Entry
    pub rest : List Entry
    pub is : row ≡ entry ∷ rest
    pub stands : StackEntryStandsFor offset program text w entry
    pub below : IsStackOfEntriesFromTop offset program text stack rest

  -- Popping the last stack entry takes the first of the entries.
  pub row-pop : (stack : List (StackEntry P)) (w : StackEntry P) (row : List Entry) → IsStackOfEntriesFromTop offset program text (stack ++ w ∷ []) row → Popped stack w row
  row-pop stack w row r = by row (subst (λ l. StackStandsFor offset program text l row) (reverse-append stack (w ∷ [])) r)
    where
      by : (row : List Entry) → StackStandsFor offset program text (w ∷ reverse stack) row → Popped stack w row
      by [] h = absurd h
      by (e ∷ row) h = record { entry = e; rest = row; is = refl; stands = h.0; below = h.1 }

  pub row-none : (row : List Entry) → IsStackOfEntriesFromTop offset program text [] row → row ≡ []
  row-none [] h = refl
  row-none (e ∷ row) h = absurd h

-- ---- The result of a search

module _ (program : Program) (text : Text) (t : MemoAnalysis) (paid : AnalysisBoundsSearch program text t) where
  abbrev pub served : IsMemoPlanForText program t text
  served = ledgers-serve program t paid.memo_analysis text paid.is_text paid.bytes paid.short

  module _ (b : BoundedAttempt) (memory : IsMemory program text (analysis_as_liveness t) (analysis_keys program text t) b.memory)
      (answers : search program text b.turns rightwards (initial_threads program b.at) ≡ Some b.found) where
    abbrev pub Come : (work : ℕ) → List Key → List Entry → Type 0
    Come work now row = ReachesEntries program text t rightwards b.memory (thread_entries (initial_threads program b.at)) work now row

    -- The current entries find what the whole attempt finds.
    pub finds : (work : ℕ) (now : List Key) (row : List Entry) → Come work now row
        → Finds program text (analysis_as_liveness t) (analysis_keys program text t) rightwards now row b.found
    finds work now row h =
        (work-is-bounded program text (analysis_as_liveness t) (analysis_keys program text t) served.plan.liveness served.serves.keys rightwards (λ k. key_cost_of t k.ip)
        (potential_by program (potentials_of t) (key_cost_of t) (recorded t)) b.memory (initial_threads program b.at) b.turns b.found memory answers work now row h.comes).stands

    -- The current thread is not stuck.
    pub then-can : (work : ℕ) (now : List Key) (s : machine.State) (rest : List Entry) → Come work now (one_thread (running s) ∷ rest) → IsNotStuck (act program text rightwards s)
    then-can work now s rest h = by (act program text rightwards s) refl
      where
        found : Finds program text (analysis_as_liveness t) (analysis_keys program text t) rightwards now (one_thread (running s) ∷ rest) b.found
        found = finds work now (one_thread (running s) ∷ rest) h

        by : (x : Next) → act program text rightwards s ≡ x → IsNotStuck x
        by (goes ss) e = tt
        by (scans tries ss) e = tt
        by (ends t) e = tt
        by (asks inner negate u t) e = tt
        by stuck e = never_stuck program text found.turns rightwards s (threads_in rest) found.within.found e found.within.searches

    -- If the current thread ends the search, its end is the one that the attempt finds.
    pub then-ends : (work : ℕ) (now : List Key) (s u : machine.State) (rest : List Entry) → Come work now (one_thread (running s) ∷ rest)
        → act program text rightwards s ≡ ends u → b.found.end ≡ Some u
    then-ends work now s u rest h e =
        let f = finds work now (one_thread (running s) ∷ rest) h in
        sym f.within.end ∙ ap (λ (f : Found). f.end) (ends-found program text f.turns rightwards s u (threads_in rest) f.within.found e f.within.searches)

    -- If no entry is left, the attempt finds no match.
    pub then-none : (work : ℕ) (now : List Key) → Come work now [] → b.found.end ≡ None
    unfolding search
    then-none work now h = by f.turns refl
      where
        f : Finds program text (analysis_as_liveness t) (analysis_keys program text t) rightwards now [] b.found
        f = finds work now [] h

        by : (n : ℕ) → f.turns ≡ n → b.found.end ≡ None
        by n q =
            let e : Some result_without_threads ≡ Some f.within.found = f.within.searches in
            let is : result_without_threads ≡ f.within.found = cc in sym f.within.end ∙ sym (ap (λ (f : Found). f.end) is)

-- ---- Events of the current thread

module _ {P : Type 0} (offset : P → ℕ) (program : Program) (text : Text) (b : BoundedAttempt) {front : List Entry} {stack : List (StackEntry P)} {c : MemoAndWorkBudget}
    (h : AttemptHasState offset program text b front stack c) where
  -- The laws on work cover the events so far.
  pub come : ReachesEntries program text c.memo.memo_analysis rightwards b.memory (thread_entries (initial_threads program b.at)) h.work h.now (front ++ h.row)
  come = costs-come program text c.memo.memo_analysis h.right.paid b.at h.inside b.memory h.work h.now (front ++ h.row) h.costs

  pub new : (k : Key) → has_failure c.memo k ≡ false → IsNew k h.now
  new k unknown = memos-hold.new (has_failure c.memo) h.now k h.holds unknown

  pub known : (k : Key) → has_failure c.memo k ≡ true → IsKnownToFail program text c.memo.memo_analysis rightwards k h.now
  known k fails = record { known = h.holds.all k fails; fails = h.right.is_true.fails k fails }

  -- An event takes its cost from the work that was left.
  pub comes-on : (next : Option (State P)) (row' : List Entry) (stack' : List (StackEntry P)) (cost : ℕ) (c' : MemoAndWorkBudget) → MayBeNextSearchEvent offset program text b h cost h.now (entry_of_current_thread offset next ++ row')
      → IsStackOfEntriesFromTop offset program text stack' row' → c'.memo ≡ c.memo → LowersBudgetByWork cost c.left c'.left → TakesOneEvent offset program text b h next stack' c'
  comes-on next row' stack' cost c' happens is same spent =
      subst (λ m. TakesOneEvent offset program text b h next stack' (record { memo = m; left = c'.left })) (sym same)
      (record {
        stands = record {
          right = h.right;
          inside = h.inside;
          is_memory = h.is_memory;
          answers = h.answers;
          work = h.work + cost;
          now = h.now;
          row = row';
          costs = then_happens h.work cost h.now h.now (front ++ h.row) (entry_of_current_thread offset next ++ row') h.costs happens;
          is = is;
          holds = h.holds;
          spent = (let e = h.spent in let s : c.left ≡ cost + c'.left = spent in omega (arith, e, s));
        };
        cost = cost;
        happens = happens;
        spent = spent;
      })

  -- The next event costs at least this much work.
  pub record CostsAtLeast (work : ℕ) : Type 0 where
    pub cost : ℕ
    pub now : List Key
    pub row : List Entry
    pub happens : MayBeNextSearchEvent offset program text b h cost now row
    pub more : work ≤ cost

  -- If the work left is less than the least cost of the next event, the work is too little.
  pub falls-short : (work : ℕ) (c' : MemoAndWorkBudget) → CostsAtLeast work → WorkExceedsBudget work c.left c'.left → NextEventExceedsWorkLeft offset program text b h c'
  falls-short work c' x spent =
      record { cost = x.cost; now = x.now; row = x.row; happens = x.happens; over = (let s : c.left < work = spent.0 in let m = x.more in omega (arith, s, m)); none = spent.1 }

  pub is-short : {now' : List Key} {row' : List Entry} (cost : ℕ) (c' : MemoAndWorkBudget) → MayBeNextSearchEvent offset program text b h cost now' row' → WorkExceedsBudget cost c.left c'.left
      → NextEventExceedsWorkLeft offset program text b h c'
  is-short {now'} {row'} cost c' happens spent = falls-short cost c' (record { cost = cost; now = now'; row = row'; happens = happens; more = omega arith }) spent

-- The current thread is keyed, lies inside the text and is not stuck.
module _ {P : Type 0} (offset : P → ℕ) (program : Program) (text : Text) (b : BoundedAttempt) (s : machine.State) {stack : List (StackEntry P)} {c : MemoAndWorkBudget}
    (h : AttemptHasState offset program text b (one_thread (running s) ∷ []) stack c) where
  pub keyed : IsKeyed program text c.memo.memo_analysis rightwards s
  keyed = (come offset program text b h).keyed.0

  pub inside : s.pos ≤ units text
  inside = keyed.sound.within

  pub can-turn : IsNotStuck (act program text rightwards s)
  can-turn = then-can program text c.memo.memo_analysis h.right.paid b h.is_memory h.answers h.work h.now s h.row (come offset program text b h)

-- ---- Entries that are popped

module _ {P : Type 0} (offset : P → ℕ) (program : Program) (text : Text) (b : BoundedAttempt) (stack : List (StackEntry P)) (w : StackEntry P) {c : MemoAndWorkBudget}
    (h : AttemptHasState offset program text b [] (stack ++ w ∷ []) c) where
  abbrev pub popped : Popped offset program text stack w h.row
  popped = row-pop offset program text stack w h.row h.is

  -- An event of the popped entry may be the next event.
  pub happens-back : (e : Entry) → popped.entry ≡ e → {cost : ℕ} {now' : List Key} {row' : List Entry}
      → IsSearchEvent program text c.memo.memo_analysis rightwards h.now cost (e ∷ popped.rest) now' row' → MayBeNextSearchEvent offset program text b h cost now' row'
  happens-back e is {cost} {now'} {row'} happens =
      subst (λ row. IsSearchEvent program text c.memo.memo_analysis rightwards h.now cost row now' row') (sym (popped.is ∙ ap (λ e. e ∷ popped.rest) is)) happens

  pub back-comes : (e : Entry) → popped.entry ≡ e → ReachesEntries program text c.memo.memo_analysis rightwards b.memory (thread_entries (initial_threads program b.at)) h.work h.now (e ∷ popped.rest)
  back-comes e is =
      subst (ReachesEntries program text c.memo.memo_analysis rightwards b.memory (thread_entries (initial_threads program b.at)) h.work h.now) (popped.is ∙ ap (λ e. e ∷ popped.rest) is)
      (come offset program text b h)

-- The popped entry is a thread, which becomes the current one.
module _ {P : Type 0} {offset : P → ℕ} {program : Program} {text : Text} {b : BoundedAttempt} (stack : List (StackEntry P)) (w : StackEntry P) {c : MemoAndWorkBudget}
    (h : AttemptHasState offset program text b [] (stack ++ w ∷ []) c) (s : State P) (is : w ≡ AsThread s) where
  taken-up : MayBeNextSearchEvent offset program text b h 1 h.now (one_thread (running (machine_state_of offset s)) ∷ (popped offset program text b stack w h).rest)
  taken-up =
      let p = popped offset program text b stack w h in
      let there : p.entry ≡ one_thread (waiting (machine_state_of offset s)) = subst (λ w. StackEntryStandsFor offset program text w p.entry) is p.stands in
      happens-back offset program text b stack w h (one_thread (waiting (machine_state_of offset s))) there (resumes (machine_state_of offset s) p.rest)

  pub thread-goes : (c' : MemoAndWorkBudget) → c'.memo ≡ c.memo → LowersBudgetByWork 1 c.left c'.left → TakesOneEvent offset program text b h (Some s) stack c'
  thread-goes c' same spent =
      let p = popped offset program text b stack w h in
      comes-on offset program text b h (Some s) p.rest stack 1 c' taken-up p.below same spent

  pub thread-over : (c' : MemoAndWorkBudget) → WorkExceedsBudget 1 c.left c'.left → NextEventExceedsWorkLeft offset program text b h c'
  thread-over c' spent = is-short offset program text b h 1 c' taken-up spent

-- The popped entry is a record, whose key is noted as failed.
module _ {P : Type 0} {offset : P → ℕ} {program : Program} {text : Text} {b : BoundedAttempt} (stack : List (StackEntry P)) (w : StackEntry P) {c : MemoAndWorkBudget}
    (h : AttemptHasState offset program text b [] (stack ++ w ∷ []) c) (k : Stored) (is : w ≡ AsRecord k) where
  abbrev pub below : Popped offset program text stack w h.row
  below = popped offset program text b stack w h

  abbrev pub stood : IsRecordOf offset program text (memo_key_as_spec k) below.entry
  stood = subst (λ w. StackEntryStandsFor offset program text w below.entry) is below.stands

  abbrev keys : Keys
  keys = analysis_keys program text c.memo.memo_analysis

  at-record : ReachesEntries program text c.memo.memo_analysis rightwards b.memory (thread_entries (initial_threads program b.at)) h.work h.now (key_record (memo_key_as_spec k) stood.threads ∷ below.rest)
  at-record = back-comes offset program text b stack w h (key_record (memo_key_as_spec k) stood.threads) stood.is

  record-finds : Finds program text (analysis_as_liveness c.memo.memo_analysis) keys rightwards h.now (key_record (memo_key_as_spec k) stood.threads ∷ below.rest) b.found
  record-finds = finds program text c.memo.memo_analysis h.right.paid b h.is_memory h.answers h.work h.now _ at-record

  -- The key of a record has a bit in the memo table.
  pub record-bit : IsRecordableMemoKey c.memo.memo_analysis c.memo.places (memo_key_as_spec k)
  record-bit =
      subst (λ n. IsRecordableMemoKey c.memo.memo_analysis n (memo_key_as_spec k)) (sym h.right.is_true.places)
      (keys-are-there.has_bit program text c.memo.memo_analysis h.right.paid.memo_analysis rightwards (memo_key_as_spec k) stood.threads record-finds.noted.0.is_of)

  record-fails : KeyFails program text c.memo.memo_analysis (memo_key_as_spec k)
  record-fails =
      let s = served program text c.memo.memo_analysis h.right.paid in
      reached-fail program text (analysis_as_liveness c.memo.memo_analysis) keys s.plan.liveness s.serves.keys rightwards h.now (memo_key_as_spec k) stood.threads below.rest b.found record-finds

  reached : MayBeNextSearchEvent offset program text b h 1 (memo_key_as_spec k ∷ h.now) below.rest
  reached = happens-back offset program text b stack w h (key_record (memo_key_as_spec k) stood.threads) stood.is (reaches (memo_key_as_spec k) stood.threads below.rest)

  pub record-over : (c' : MemoAndWorkBudget) → WorkExceedsBudget 1 c.left c'.left → NextEventExceedsWorkLeft offset program text b h c'
  record-over c' spent = is-short offset program text b h 1 c' reached spent

  -- These facts hold with an analysis equal to that of the memo.
  record ByAnalysis (t : MemoAnalysis) : Type 0 where
    paid : AnalysisBoundsSearch program text t
    memory : IsMemory program text (analysis_as_liveness t) (analysis_keys program text t) b.memory
    costs : Costs program text t rightwards b.memory (thread_entries (initial_threads program b.at)) (h.work + 1) (memo_key_as_spec k ∷ h.now) below.rest

  noted-by : (m n : MemoView) → m ≡ c.memo → RecordsFailure (memo_key_as_spec k) m n → (left : ℕ) → LowersBudgetByWork 1 c.left left
      → IsSoundMemo program text n × TakesOneEvent offset program text b h None stack (record { memo = n; left = left })
  noted-by m n is notes left spent =
      let notes' : RecordsFailure (memo_key_as_spec k) c.memo n = subst (λ m. RecordsFailure (memo_key_as_spec k) m n) is notes in
      let by : ByAnalysis n.memo_analysis =
      subst ByAnalysis (sym notes'.same.memo_analysis)
      (record { paid = h.right.paid; memory = h.is_memory; costs = then_happens h.work 1 h.now (memo_key_as_spec k ∷ h.now) h.row below.rest h.costs reached }) in
      let right : IsSoundMemo program text n = record { paid = by.paid; is_true = memos-are-true.failure program text (memo_key_as_spec k) c.memo n notes' record-fails h.right.is_true } in (
        right,
        record {
          stands = record {
            right = right;
            inside = h.inside;
            is_memory = by.memory;
            answers = h.answers;
            work = h.work + 1;
            now = memo_key_as_spec k ∷ h.now;
            row = below.rest;
            costs = by.costs;
            is = below.below;
            holds = memos-hold.failure (memo_key_as_spec k) c.memo n h.now notes' h.holds;
            spent = (let e = h.spent in let s : c.left ≡ 1 + left = spent in omega (arith, e, s));
          };
          cost = 1;
          happens = reached;
          spent = spent;
        },
      )

  pub record-right : (m n : MemoView) → m ≡ c.memo → RecordsFailure (memo_key_as_spec k) m n → (left : ℕ) → LowersBudgetByWork 1 c.left left → IsSoundMemo program text n
  record-right m n is notes left spent = (noted-by m n is notes left spent).0

  pub record-goes : (m : MemoView) (c' : MemoAndWorkBudget) → m ≡ c.memo → RecordsFailure (memo_key_as_spec k) m c'.memo → LowersBudgetByWork 1 c.left c'.left
      → TakesOneEvent offset program text b h None stack c'
  record-goes m c' is notes spent = (noted-by m c'.memo is notes c'.left spent).1

-- ---- Facts that a state of an attempt holds

module _ {P : Type 0} {offset : P → ℕ} {program : Program} {text : Text} {front : List Entry} {stack : List (StackEntry P)} {c : MemoAndWorkBudget}
    (there : HasAttemptState offset program text front stack c) where
  pub knows : IsMemoRight program text c.memo
  knows = ∥∥₁_map there (λ s. s.stands.right)

  -- A memo that equals a sound one is sound.
  pub still-knows : {n : MemoView} → n ≡ c.memo → IsMemoRight program text n
  still-knows same = subst (IsMemoRight program text) (sym same) knows

  -- A step from one state of an attempt to another keeps that there is such an attempt.
  pub standing-on : {front' : List Entry} {stack' : List (StackEntry P)} {c' : MemoAndWorkBudget}
      → ((b : BoundedAttempt) → AttemptHasState offset program text b front stack c → AttemptHasState offset program text b front' stack' c') → HasAttemptState offset program text front' stack' c'
  standing-on f = ∥∥₁_map there (λ s. record { begin = s.begin; stands = f s.begin s.stands })

  pub less-on : {n m : ℕ} → ((b : BoundedAttempt) → AttemptHasState offset program text b front stack c → n < m) → n < m
  less-on f = ∥∥₁_elim there (Prim.hlevel props) (λ s. f s.begin s.stands)

-- Equal threads, stacks and memos give the same state of an attempt.
module _ {P : Type 0} {offset : P → ℕ} {program : Program} {text : Text} {next next' : Option (State P)} (next_is : next ≡ next') {stack stack' : List (StackEntry P)} (stack_is : stack ≡ stack')
    {c : MemoAndWorkBudget} where
  pub stands-as : {b : BoundedAttempt} → AttemptHasState offset program text b (entry_of_current_thread offset next) stack c → AttemptHasState offset program text b (entry_of_current_thread offset next') stack' c
  stands-as {b} h =
      subst (λ xs. AttemptHasState offset program text b (entry_of_current_thread offset next') xs c) stack_is (subst (λ n. AttemptHasState offset program text b (entry_of_current_thread offset n) stack c) next_is h)

  pub standing-as : HasAttemptState offset program text (entry_of_current_thread offset next) stack c → HasAttemptState offset program text (entry_of_current_thread offset next') stack' c
  standing-as there = standing-on there (λ b h. stands-as h)
