-- An attempt finds the match at its offset, costs exactly its events, and leaves enough work for the next ones.
use Rattle.std.proofs.Common.{◌≡◌, ◌≤◌, ◌<◌, ◌^◌, ℕ, ◌+◌, ◌-◌, ◌*◌, Bool, false, List, [], ◌∷◌, ◌++◌, Option, Some, None, refl, sym, ap, ◌∙◌, subst, arith}
use Rattle.std.specs.Prelude.{option_map, Result, Ok, Err, IfSome, IsSome}
use Rattle.std.proofs.Math.Logic.{∥∥₁_map, ∥∥₁_elim, ∥∥₁_prop}
use Rattle.std.proofs.Props.{props}
use Rattle.regex_meaning.specs.Text.{Text, rightwards}
use Rattle.regex_meaning.specs.CodeUnitOffsets.{HasRisingPlaceOffsets, IsBoundary, units}
use Rattle.regex_meaning.specs.Tree.{Tree}
use Rattle.regress_program.specs.CompilationOfTreesAsFunction.{compiled}
use Rattle.regress_input.proofs.BoundaryPositions.{boundary_inside}
use Rattle.regress_search.specs.AttemptsAndStarts.{match_end_and_groups_at, steps_for_attempt, search_from}
use Rattle.regress_search.proofs.AttemptSearchLemmas.{begins}
use Rattle.regex_meaning.specs.CompilationRelation.{Program}
use Rattle.regress_machine.specs.SearchFindsFirstOutcomeAtPlace.{state_before_first_insn, end_and_groups_of_state, TreeProgramCanSearchText}
use Rattle.regress_machine.specs.InsnEffects.{end_of_search}
use Rattle.regress_machine.specs.Machine as machine
use Rattle.regress_machine.specs.Machine.{running, ends, Found, search}
use Rattle.regress_memo.specs.Liveness.{ReadsAsBytes}
use Rattle.regress_memo.specs.MemoSearch.{Key, Entry, one_thread, thread_entries, Answers}
use Rattle.regress_memo.specs.declared.analysis_result.MemoAnalysis.{MemoAnalysis}
use Rattle.regress_memo.specs.WorkBound.{initial_threads, work_per_position, all_keys_cost_per_position}
use Rattle.regress_memo.specs.AnalysisAsPotentials.{insn_analysis_of}
use Rattle.regress_memo.specs.Laws.{ListsExactlyKnownKeys}
use Rattle.regress_memo.specs.MemoContents.{has_failure, IsEmptyMemo}
use Rattle.regress_memo.specs.MemoContractView.{MemoView}
use Rattle.regress_memo.proofs.MemoTableLawLemmas.{memos-are-true}
use Rattle.regress_search.proofs.CharLoopReach.{some-of}
use Rattle.regress_memo.specs.AmortizedMemoSearchSteps.{ReachesEntries}
use Rattle.regress_search.specs.MatchesWithinWork.{least_offset_after_match}
use Rattle.regress_bounded.specs.declared.memo_and_work_budget.MemoAndWorkBudget.{MemoAndWorkBudget}
use Rattle.regress_bounded.specs.declared.memo_and_work_budget.AttemptAbortReason.{AttemptAbortReason}
use Rattle.regress_bounded.specs.declared.memo_and_work_budget.AttemptAbortReason.TheVariants.{Work}
use Rattle.regress_pikevm.specs.InsnEffects.{end_and_groups}
use Rattle.regress_pikevm.proofs.ExecutorTurnLemmas.{map-end}
use Rattle.regress_pikevm.specs.declared.pikevm.states.State.{State}
use Rattle.regress_bounded.specs.WorkBoundForAllMatches.{AnalysisBoundsProgram, second_stage_work_per_position}
use Rattle.regress_bounded.specs.BoundedState.{AnalysisBoundsSearch, IsSoundMemo, IsMemoRight, BoundedAttempt, BoundedAttemptBegins, AttemptHasState, HasAttemptState, AbortedBecauseWorkIsSpent}
use Rattle.regress_bounded.specs.BoundedState.{AttemptEndsAt, AttemptResultIs, entry_of_current_thread}
use Rattle.regress_bounded.specs.CostsOfSearchEvents.{Costs, nothing_yet, then_happens}
use Rattle.regress_bounded.specs.CostsOfAttempts.{AttemptCosts, EventsOfAttempt, HasFinished, IsListOfFailures, failures_of, is_end, no_entry}
use Rattle.regress_bounded.specs.declared.pending_stack.StackEntry.{StackEntry}
use Rattle.regress_search.specs.CostsOfSearches.{CostsMoreThanLeft, Failures, TakesExactCost}
use Rattle.regress_bounded.specs.WorkOfCharLoopsAndAttempts.{HasMadeAttempts, AttemptsHaveKnownKeys, AttemptIsUnderWay}
use Rattle.regress_pikevm.specs.States.{machine_state_of}
use Rattle.regress_bounded.specs.WorkOfSuccessiveAttempts.{Walked, AttemptsLeaveEnoughWork as AreWalked}
use Rattle.regress_memo.proofs.StepKindByInstruction.{ends-itself}
use Rattle.regress_bounded.proofs.SearchEventCostLemmas.{event-comes}
use Rattle.regress_bounded.proofs.SuccessiveAttemptLemmas.{memory-of, then-starts, in-order, still-onward, so-far, behind-end, then-ends, then-none}
use Rattle.regress_bounded.proofs.BoundedStateLemmas.{row-none}
use Rattle.regress_bounded.proofs.BoundedStateLemmas as standing

-- ---- The initial state

module _ {P : Type 0} {offset : P → ℕ} {program : Program} {text : Text} where
  pub begins-stands : {at : ℕ} {c : MemoAndWorkBudget} {b : BoundedAttempt} (start : State P) → HasRisingPlaceOffsets text → IsBoundary text at → machine_state_of offset start ≡ state_before_first_insn program at → BoundedAttemptBegins program text at c b
      → AttemptHasState offset program text b (entry_of_current_thread offset (Some start)) [] c
  begins-stands {at} {c} {b} start is_text on is h =
      let right = h.right in
      let paid = right.paid in
      let t = c.memo.memo_analysis in
      let inside' : b.at ≤ units text = subst (λ n. n ≤ units text) (sym h.at) (boundary_inside text is_text at on) in
      let same : state_before_first_insn program b.at ≡ machine_state_of offset start = ap (state_before_first_insn program) h.at ∙ sym is in
      record {
        right = right;
        inside = inside';
        is_memory = h.is_memory;
        answers = h.answers;
        work = 0;
        now = b.memory;
        row = [];
        costs = subst (λ u. Costs program text t rightwards b.memory (thread_entries (initial_threads program b.at)) 0 b.memory (one_thread (running u) ∷ [])) same nothing_yet;
        is = tt;
        holds = h.holds;
        spent = (let t = h.total in omega (arith, t));
      }

module _ {P : Type 0} (offset : P → ℕ) (program : Program) (text : Text) where
  -- The attempt has the known failures as its memory, and it finds what the search finds.
  record Attempt (at : ℕ) (c : MemoAndWorkBudget) (searched : Option Found) : Type 0 where
    begin : BoundedAttempt
    begins : BoundedAttemptBegins program text at c begin
    found : searched ≡ Some begin.found

  attempt-begins : (at turns : ℕ) (c : MemoAndWorkBudget) → IsSoundMemo program text c.memo → IsSome (search program text turns rightwards (initial_threads program at))
      → Attempt at c (search program text turns rightwards (initial_threads program at))
  attempt-begins at turns c right answers =
      let f = some-of (search program text turns rightwards (initial_threads program at)) answers in
      let m = memos-are-true.failures program text c.memo right.is_true in
      record {
        begin = record { at = at; memory = m.memory; total = c.left; turns = turns; found = f.0 };
        begins = record { right = right; at = refl; is_memory = m.is; holds = m.holds; total = refl; answers = f.1 };
        found = f.1;
      }

  -- ---- The match that an attempt finds

  module _ (b : BoundedAttempt) (c : MemoAndWorkBudget) where
    nothing-found : AttemptHasState offset program text b [] [] c → b.found.end ≡ None
    nothing-found h =
        let none : h.row ≡ [] = row-none offset program text h.row h.is in
        standing.then-none program text c.memo.memo_analysis h.right.paid b h.is_memory h.answers h.work h.now
        (subst (ReachesEntries program text c.memo.memo_analysis rightwards b.memory (thread_entries (initial_threads program b.at)) h.work h.now) none (standing.come offset program text b h))

    end-found : (end : State P) → AttemptEndsAt offset program text b end c → b.found.end ≡ Some (machine_state_of offset end)
    end-found end h =
        let s = h.stands in
        standing.then-ends program text c.memo.memo_analysis s.right.paid b s.is_memory s.answers s.work s.now h.from (machine_state_of offset end) s.row (standing.come offset program text b s) h.ends

  -- The end of a match lies inside the text.
  end-inside : (b : BoundedAttempt) (c : MemoAndWorkBudget) (end : State P) → AttemptEndsAt offset program text b end c → offset end.pos ≤ units text
  end-inside b c end h =
      let own : offset end.pos ≡ h.from.pos = ap (λ (u : machine.State). u.pos) (ends-itself program text rightwards h.from (machine_state_of offset end) h.ends) in
      let within = standing.inside offset program text b h.from h.stands in
      omega (arith, own, within)

  runs-found : (b : BoundedAttempt) (c : MemoAndWorkBudget) (end : Option (State P)) → AttemptResultIs offset program text b (Ok end) c → b.found.end ≡ option_map (λ e. machine_state_of offset e) end
  runs-found b c None h = nothing-found b c h
  runs-found b c (Some e) h = end-found b c e h

  -- ---- The work that is left for later attempts

  module _ (at ahead : ℕ) (old new : MemoAndWorkBudget) (same : new.memo.memo_analysis ≡ old.memo.memo_analysis) (walked : Walked program text old ahead) (le : ahead ≤ at) (inside : at ≤ units text)
      (answered : Answers program text rightwards (initial_threads program at)) where
    abbrev t : MemoAnalysis
    t = new.memo.memo_analysis

    -- The attempt starts from the failures known so far.
    abbrev its : BoundedAttempt
    its = record { at = at; memory = walked.walked.memory; total = old.left; turns = answered.turns; found = answered.found }

    its-begins : IsSoundMemo program text old.memo → BoundedAttemptBegins program text at old its
    its-begins right = record { right = right; at = refl; is_memory = walked.walked.has.is; holds = walked.walked.holds; total = refl; answers = answered.searches }

    has : HasMadeAttempts program text t ahead walked.done walked.walked.memory
    has = subst (λ t. HasMadeAttempts program text t ahead walked.done walked.walked.memory) (sym same) walked.walked.has

    module _ (paid : AnalysisBoundsSearch program text t) where
      trying : (known : Key → Bool) (work : ℕ) (now : List Key) (row : List Entry) → ReachesEntries program text t rightwards its.memory (thread_entries (initial_threads program at)) work now row → ListsExactlyKnownKeys known now
          → AttemptIsUnderWay program text t known at walked.done work row
      trying known work now row h holds = record {
        memory = its.memory;
        now = now;
        has = still-onward program t paid.memo_analysis text paid.is_text paid.bytes paid.short ahead walked.done its.memory has at le;
        comes = h;
        holds = holds;
      }

      still-enough : (work : ℕ) → work + new.left ≡ old.left → second_stage_work_per_position t * (units text + 1) ≤ walked.done + work + new.left
      still-enough work spent =
          let e = walked.enough in
          let u = ap (λ t. second_stage_work_per_position t * (units text + 1)) same in
          omega (arith, e, u, spent)

      -- An attempt that finds no match leaves enough work for an attempt at the next offset.
      walked-none : AttemptHasState offset program text its [] [] new → Walked program text new (at + 1)
      walked-none h =
          let none : h.row ≡ [] = row-none offset program text h.row h.is in
          let come = subst (ReachesEntries program text t rightwards its.memory (thread_entries (initial_threads program at)) h.work h.now) none (standing.come offset program text its h) in
          record {
            done = walked.done + h.work;
            walked = then-none program t paid.memo_analysis text paid.is_text paid.bytes paid.short (has_failure new.memo) at walked.done h.work answered (trying (has_failure new.memo) h.work h.now [] come h.holds);
            enough = still-enough h.work h.spent;
          }

      -- An attempt that finds a match leaves enough work for an attempt behind it.
      walked-found : (end : State P) → AttemptEndsAt offset program text its end new → Walked program text new (least_offset_after_match at (offset end.pos))
      walked-found end h =
          let s = h.stands in
          let own : offset end.pos ≡ h.from.pos = ap (λ (u : machine.State). u.pos) (ends-itself program text rightwards h.from (machine_state_of offset end) h.ends) in
          let order : at ≤ h.from.pos = in-order program t paid.memo_analysis text paid.is_text paid.bytes paid.short at its.memory s.work s.now (running h.from) s.row (standing.come offset program text its s) in
          let on = behind-end at (offset end.pos) (omega (arith, own, order)) in
          record {
            done = walked.done + s.work;
            walked = then-ends program t paid.memo_analysis text paid.is_text paid.bytes paid.short (has_failure new.memo) at walked.done s.work (running h.from) s.row answered
                (trying (has_failure new.memo) s.work s.now (one_thread (running h.from) ∷ s.row) (standing.come offset program text its s) s.holds)
                (least_offset_after_match at (offset end.pos)) (let a = on.0 in omega (arith, a, own)) on.1;
            enough = still-enough s.work s.spent;
          }

      -- An attempt with enough work at its start does not stop for lack of work.
      never-over : AbortedBecauseWorkIsSpent offset program text its new → ⊥
      never-over h =
          let x = h.short in
          let before = h.stands in
          let comes : ReachesEntries program text t rightwards its.memory (thread_entries (initial_threads program at)) (before.work + x.cost) x.now x.row =
          subst (λ t. ReachesEntries program text t rightwards its.memory (thread_entries (initial_threads program at)) (before.work + x.cost) x.now x.row) (sym h.same)
          (event-comes program text h.before.memo.memo_analysis before.right.paid its.memory (thread_entries (initial_threads program at)) before.work x.cost before.now x.now (h.front ++ before.row) x.row x.happens
          (standing.come offset program text its before)) in
          let all =
          so-far program t paid.memo_analysis text paid.is_text paid.bytes paid.short at walked.done its.memory
          (still-onward program t paid.memo_analysis text paid.is_text paid.bytes paid.short ahead walked.done its.memory has at le) answered (before.work + x.cost) x.now x.row inside comes in
          let third : second_stage_work_per_position t ≡ 1 + (work_per_position t + (all_keys_cost_per_position t + (insn_analysis_of t 0).ready)) = omega arith in
          let same_all = ap (λ m. m * (units text + 1)) third in
          let u = ap (λ t. second_stage_work_per_position t * (units text + 1)) same in
          let e = walked.enough in
          let total : before.work + h.before.left ≡ old.left = before.spent in
          let over = x.over in
          absurd (omega (arith, all, same_all, u, e, total, over))

-- ---- Before the first attempt

module _ (program : Program) (text : Text) (is_text : HasRisingPlaceOffsets text) (bytes : ReadsAsBytes program text) (short : units text < 2 ^ 63) (t : MemoAnalysis) (has : AnalysisBoundsProgram program t)
    (m : MemoView) (begun : IsEmptyMemo t (units text + 1) false m) where
  its-paid : AnalysisBoundsSearch program text t
  its-paid = record { memo_analysis = has.memo_analysis; bounded = has.bounded; is_text = is_text; bytes = bytes; short = short }

  pub begun-right : IsSoundMemo program text m
  begun-right = record { paid = subst (AnalysisBoundsSearch program text) (sym begun.memo_analysis) its-paid; is_true = memos-are-true.begun program text t false m has.memo_analysis begun }

  pub begun-walked : (left : ℕ) → second_stage_work_per_position t * (units text + 1) ≤ left → Walked program text (record { memo = m; left = left }) 0
  begun-walked left enough = record {
    done = 0;
    walked = subst (λ t. AttemptsHaveKnownKeys program text t (has_failure m) 0 0) (sym begun.memo_analysis)
        (then-starts program t has.memo_analysis text is_text bytes short (has_failure m) (memory-of t (units text + 1) false m begun) 0);
    enough = (let same = ap (λ t. second_stage_work_per_position t * (units text + 1)) begun.memo_analysis in omega (arith, same, enough));
  }

-- The search at a boundary of the text has an answer.
answered-at : (tree : Tree) (text : Text) → TreeProgramCanSearchText (compiled tree) tree text → (at : ℕ) → IsBoundary text at → Answers (compiled tree) text rightwards (initial_threads (compiled tree) at)
answered-at tree text can at on =
    let s = some-of (search_from tree text at rightwards (state_before_first_insn (compiled tree) at)) (begins tree text at can on).answers in
    record { turns = steps_for_attempt tree text at; found = s.0; searches = s.1 }

-- ---- The result of an attempt, from each way in which it may begin

module _ {P : Type 0} (offset : P → ℕ) {tree : Tree} {text : Text} (can : TreeProgramCanSearchText (compiled tree) tree text) (at : ℕ) (on : IsBoundary text at) (old : MemoAndWorkBudget) where
  first : IsSoundMemo (compiled tree) text old.memo → Attempt offset (compiled tree) text at old (search (compiled tree) text (steps_for_attempt tree text at) rightwards (initial_threads (compiled tree) at))
  first right = attempt-begins offset (compiled tree) text at (steps_for_attempt tree text at) old right (begins tree text at can on).answers

  -- The initial state of the executor is a state of an attempt.
  pub attempt-stands : HasRisingPlaceOffsets text → IsMemoRight (compiled tree) text old.memo → (start : State P) → machine_state_of offset start ≡ state_before_first_insn (compiled tree) at
      → HasAttemptState offset (compiled tree) text (entry_of_current_thread offset (Some start)) [] old
  attempt-stands is knows start begun = ∥∥₁_map knows (λ right. let x = first right in record { begin = x.begin; stands = begins-stands start is on begun x.begins })

  module _ (new : MemoAndWorkBudget) where
    abbrev ByRuns : Result (Option (State P)) AttemptAbortReason → Type 0
    ByRuns r = (b : BoundedAttempt) → BoundedAttemptBegins (compiled tree) text at old b → AttemptResultIs offset (compiled tree) text b r new

    -- The end of a match that is found lies inside the text.
    pub found-inside : {found : Option (State P)} {end : State P} → found ≡ Some end → IsMemoRight (compiled tree) text old.memo → ByRuns (Ok found) → offset end.pos ≤ units text
    found-inside {end = end} is knows runs =
        let by = subst (λ o. ByRuns (Ok o)) is runs in
        ∥∥₁_elim knows (Prim.hlevel props) (λ right. let x = first right in end-inside offset (compiled tree) text x.begin new end (by x.begin x.begins))

    -- The end and the groups that are found are those of the tree's match at the offset.
    pub found-all : (end : Option (State P)) → IsMemoRight (compiled tree) text old.memo → ByRuns (Ok end) → end_and_groups offset end ≡ match_end_and_groups_at tree text at
    found-all end knows runs =
        ∥∥₁_elim knows (Prim.hlevel props) (λ right.
        let x = first right in
        let e = runs-found offset (compiled tree) text x.begin new end (runs x.begin x.begins) in
        map-end offset end ∙ ap (option_map end_and_groups_of_state) (sym e ∙ sym (ap end_of_search x.found)) ∙ (begins tree text at can on).end)

    -- An attempt that stops for lack of work leaves no work.
    pub none-left : (e : AttemptAbortReason) → IsMemoRight (compiled tree) text old.memo → ByRuns (Err e) → e ≡ Work → new.left ≡ 0
    none-left e knows runs is =
        ∥∥₁_elim knows (Prim.hlevel props) (λ right.
        let x = first right in (subst (λ e. AttemptResultIs offset (compiled tree) text x.begin (Err e) new) is (runs x.begin x.begins)).short.none)

    -- ---- Successive attempts

    module _ {ahead : ℕ} (is : HasRisingPlaceOffsets text) (knows : IsMemoRight (compiled tree) text old.memo) (same : new.memo.memo_analysis ≡ old.memo.memo_analysis)
        (walked : AreWalked (compiled tree) text old ahead) (le : ahead ≤ at) where
      inside : at ≤ units text
      inside = boundary_inside text is at on

      abbrev from : Walked (compiled tree) text old ahead → BoundedAttempt
      from w = its offset (compiled tree) text at ahead old new same w le inside (answered-at tree text can at on)

      from-begins : (w : Walked (compiled tree) text old ahead) → IsSoundMemo (compiled tree) text old.memo → BoundedAttemptBegins (compiled tree) text at old (from w)
      from-begins w right = its-begins offset (compiled tree) text at ahead old new same w le inside (answered-at tree text can at on) right

      -- If no match is found, enough work is left for an attempt at the next offset.
      pub on-by-none : {found : Option (State P)} → found ≡ None → ByRuns (Ok found) → AreWalked (compiled tree) text new (at + 1)
      on-by-none found_is runs =
          let by = subst (λ o. ByRuns (Ok o)) found_is runs in
          ∥∥₁_elim knows ∥∥₁_prop (λ right. ∥∥₁_map walked (λ w.
          let ends = by (from w) (from-begins w right) in
          walked-none offset (compiled tree) text at ahead old new same w le inside (answered-at tree text can at on) ends.right.paid ends))

      -- If a match is found, enough work is left for an attempt behind it.
      pub on-by-found : {found : Option (State P)} {end : State P} → found ≡ Some end → ByRuns (Ok found) → AreWalked (compiled tree) text new (least_offset_after_match at (offset end.pos))
      on-by-found {end = end} found_is runs =
          let by = subst (λ o. ByRuns (Ok o)) found_is runs in
          ∥∥₁_elim knows ∥∥₁_prop (λ right. ∥∥₁_map walked (λ w.
          let ends = by (from w) (from-begins w right) in
          walked-found offset (compiled tree) text at ahead old new same w le inside (answered-at tree text can at on) ends.stands.right.paid end ends))

      -- An attempt does not stop for lack of work.
      pub never-wanted : (e : AttemptAbortReason) → ByRuns (Err e) → e ≡ Work → ⊥
      never-wanted e runs is =
          ∥∥₁_elim knows (Prim.hlevel props) (λ right. ∥∥₁_elim walked (Prim.hlevel props) (λ w.
          let over = subst (λ e. AttemptResultIs offset (compiled tree) text (from w) (Err e) new) is (runs (from w) (from-begins w right)) in
          never-over offset (compiled tree) text at ahead old new same w le inside (answered-at tree text can at on) (subst (AnalysisBoundsSearch (compiled tree) text) (sym same) right.paid) over))

-- ---- The exact cost of an attempt

-- These lemmas give the cost of an attempt from each way in which it may begin.
module _ {P : Type 0} (offset : P → ℕ) {tree : Tree} {text : Text} (can : TreeProgramCanSearchText (compiled tree) tree text) (at : ℕ) (on : IsBoundary text at) (old new : MemoAndWorkBudget)
    (knows : IsMemoRight (compiled tree) text old.memo) where
  abbrev Spends : (cost : ℕ) → (after : Option Failures) → Type 0
  Spends = AttemptCosts tree text (failures_of old.memo) at

  module _ (b : BoundedAttempt) (begun : BoundedAttemptBegins (compiled tree) text at old b) where
    -- The events that lead to a state give its cost and its known failures.
    events-of : {front : List Entry} {stack : List (StackEntry P)} {c : MemoAndWorkBudget} → AttemptHasState offset (compiled tree) text b front stack c → (cost : ℕ) (now : List Key) (row : List Entry)
        → Costs (compiled tree) text c.memo.memo_analysis rightwards b.memory (thread_entries (initial_threads (compiled tree) b.at)) cost now row
        → (after : Option Failures) → IfSome after (λ failures. HasFinished (compiled tree) text row × IsListOfFailures failures now)
        → EventsOfAttempt tree text (failures_of old.memo) at cost after
    events-of {c = c} h cost now row costs after over = record {
      memo_analysis = c.memo.memo_analysis;
      is_analysis = h.right.paid.memo_analysis;
      memory = b.memory;
      lists = record { only = λ k is. begun.holds.only k is; all = λ k known. begun.holds.all k known };
      now = now;
      row = row;
      costs = subst (λ n. Costs (compiled tree) text c.memo.memo_analysis rightwards b.memory (thread_entries (initial_threads (compiled tree) n)) cost now row) begun.at costs;
      over = over;
    }

    -- An attempt that has finished took exactly its cost.
    finished : {front : List Entry} {stack : List (StackEntry P)} → (h : AttemptHasState offset (compiled tree) text b front stack new) → HasFinished (compiled tree) text (front ++ h.row)
        → TakesExactCost Spends old.left new.left (failures_of new.memo)
    finished {front} h over = (
      h.work,
      ∣ events-of h h.work h.now (front ++ h.row) h.costs (Some (failures_of new.memo)) (over, record { only = λ k is. h.holds.only k is; all = λ k known. h.holds.all k known }) ∣₁,
      (let total = begun.total in let spent = h.spent in omega (arith, total, spent)),
    )

    -- An attempt that has a result took exactly its cost.
    its-cost : (found : Option (State P)) → AttemptResultIs offset (compiled tree) text b (Ok found) new → TakesExactCost Spends old.left new.left (failures_of new.memo)
    its-cost None h = finished h (subst (HasFinished (compiled tree) text) (sym (row-none offset (compiled tree) text h.row h.is)) no_entry)
    its-cost (Some end) h = finished h.stands (is_end h.from (machine_state_of offset end) h.stands.row h.ends)

    -- An attempt that stops for lack of work costs more than was left.
    its-cost-more : AbortedBecauseWorkIsSpent offset (compiled tree) text b new → CostsMoreThanLeft Spends old.left
    its-cost-more h =
        let s = h.stands in
        let x = h.short in ∣ (
          s.work + x.cost,
          ∣ events-of s (s.work + x.cost) x.now x.row (then_happens s.work x.cost s.now x.now (h.front ++ s.row) x.row s.costs x.happens) None tt ∣₁,
          (let total = begun.total in let spent = s.spent in let over = x.over in omega (arith, total, spent, over)),
        ) ∣₁

  -- An attempt that finds a match or finds none takes exactly its cost.
  pub exact-cost : new.left ≤ old.left → (found : Option (State P)) → ByRuns offset can at on old new (Ok found) → TakesExactCost Spends old.left new.left (failures_of new.memo)
  exact-cost less found runs = (
    old.left - new.left,
    ∥∥₁_elim knows ∥∥₁_prop (λ right.
        let x = first offset can at on old right in
        let t = its-cost x.begin x.begins found (runs x.begin x.begins) in
        let is : t.0 ≡ old.left - new.left = let l = t.2 in omega (arith, l) in
        subst (λ n. Spends n (Some (failures_of new.memo))) is t.1),
    omega (arith, less),
  )

  -- An attempt that fails for lack of work costs more than was left.
  pub more-than-left : (e : AttemptAbortReason) → ByRuns offset can at on old new (Err e) → e ≡ Work → CostsMoreThanLeft Spends old.left
  more-than-left e runs is = ∥∥₁_elim knows ∥∥₁_prop (λ right.
      let x = first offset can at on old right in
      its-cost-more x.begin x.begins (subst (λ e. AttemptResultIs offset (compiled tree) text x.begin (Err e) new) is (runs x.begin x.begins)))
