-- One work bound covers all attempts of an iteration over matches together.
use Rattle.std.proofs.Common.{◌≡◌, ◌≤◌, ◌<◌, ◌^◌, ℕ, ◌+◌, ◌-◌, ◌*◌, Bool, true, false, if◌then◌else◌, List, [], ◌∷◌, refl, ap, arith}
use Rattle.std.specs.Prelude.{nat_lt}
use Rattle.std.proofs.lemmas.Bool.{ltb-true}
use Rattle.std.proofs.Math.Nat.{add-mul, mul-add}
use Rattle.regex_meaning.specs.Text.{Text, rightwards}
use Rattle.regex_meaning.specs.CodeUnitOffsets.{HasRisingPlaceOffsets, units}
use Rattle.regex_meaning.specs.CompilationRelation.{Program}
use Rattle.regex_meaning.proofs.EachElementLemmas.{Each-right}
use Rattle.regress_machine.specs.SearchFindsFirstOutcomeAtPlace.{state_before_first_insn}
use Rattle.regress_machine.specs.Machine.{Thread, running}
use Rattle.regress_memo.specs.Liveness.{ReadsAsBytes}
use Rattle.regress_memo.specs.LoopDataKeyCodes.{plan_codes}
use Rattle.regress_memo.specs.DistinctLists.{IsIn}
use Rattle.regress_memo.specs.AmortizedStepCosts.{potential_by}
use Rattle.regress_memo.specs.SuccessiveMatches.{at_first, passed, failed, found}
use Rattle.regress_memo.specs.MemoSearch.{Key, Entry, one_thread, thread_entries, keys_in, offset_of_thread, AreOnward, Answers, IsMemory}
use Rattle.regress_memo.specs.MemoSearch as turns
use Rattle.regress_memo.proofs.DistinctListLemmas.{distinct-right}
use Rattle.regress_memo.proofs.StepCostLemmas.{one-weighs}
use Rattle.regress_memo.proofs.MemoSearchLemmas.{turns-go-on, work-is-bounded}
use Rattle.regress_memo.proofs.ThreadPotentialLemmas.{places-keys}
use Rattle.regress_memo.specs.declared.analysis_result.MemoAnalysis.{MemoAnalysis}
use Rattle.regress_memo.specs.WorkBound.{all_keys_cost_per_position, work_per_position, initial_threads}
use Rattle.regress_memo.specs.AnalysisAsPotentials.{insn_analysis_of, analysis_as_liveness, key_code_questions_of, recorded, potentials_of, key_cost_of}
use Rattle.regress_memo.specs.CheckedAnalysis.{IsAnalysisOf, IsMemoPlanForText}
use Rattle.regress_memo.proofs.WorkBoundLemmas.{ledgers-bound, costs-of-all}
use Rattle.regress_memo.proofs.CheckedAnalysisLemmas.{ledgers-serve}
use Rattle.regress_memo.specs.Laws.{analysis_keys, ListsExactlyKnownKeys}
use Rattle.regress_memo.specs.MemoContents.{has_failure, IsEmptyMemo}
use Rattle.regress_memo.specs.MemoContractView.{MemoView}
use Rattle.regress_memo.specs.AmortizedMemoSearchSteps.{ReachesEntries}
use Rattle.regress_memo.proofs.MemoTableLawLemmas.{memos-hold}
use Rattle.regress_memo.proofs.AmortizedMemoSearchLemmas.{searches-are-paid}
use Rattle.regress_bounded.specs.WorkOfCharLoopsAndAttempts.{HasMadeAttempts, AttemptsHaveKnownKeys, AttemptIsUnderWay}

-- ---- Known failures

-- An empty memo has no known failures.
pub memory-of : (t : MemoAnalysis) (places : ℕ) (records_successes : Bool) (m : MemoView) → IsEmptyMemo t places records_successes m → ListsExactlyKnownKeys (has_failure m) []
memory-of t places records_successes m begun = (memos-hold.begun t places records_successes m begun).0

-- ---- Places

-- The next attempt begins behind the match, and at least one offset further.
pub behind-end : (at end : ℕ) → at ≤ end → (end ≤ (if nat_lt at end then end else end + 1)) × (at < (if nat_lt at end then end else end + 1))
behind-end at end le = by (nat_lt at end) refl
  where
    by : (b : Bool) → nat_lt at end ≡ b → (end ≤ (if b then end else end + 1)) × (at < (if b then end else end + 1))
    by true e = let more = ltb-true at end e in (omega arith, more)
    by false e = (omega arith, omega (arith, le))

-- ---- Attempts

module _ (program : Program) (t : MemoAnalysis) (of : IsAnalysisOf program t) (text : Text) (is_text : HasRisingPlaceOffsets text) (bytes : ReadsAsBytes program text) (less : units text < 2 ^ 63) where
  abbrev Walked : (ahead done : ℕ) → List Key → Type 0
  Walked ahead done memory = HasMadeAttempts program text t ahead done memory

  abbrev Come : (at : ℕ) → (memory : List Key) → (work : ℕ) → (now : List Key) → List Entry → Type 0
  Come at memory work now row = ReachesEntries program text t rightwards memory (thread_entries (initial_threads program at)) work now row

  -- The search at an offset has an answer.
  abbrev Answered : ℕ → Type 0
  Answered at = Answers program text rightwards (initial_threads program at)

  abbrev served : IsMemoPlanForText program t text
  served = ledgers-serve program t of text is_text bytes less

  abbrev key_cost : Key → ℕ
  key_cost k = key_cost_of t k.ip

  abbrev weight : List Thread → ℕ
  weight ts = potential_by program (potentials_of t) (key_cost_of t) (recorded t) ts

  -- No work has been done before the first attempt.
  pub stands-still : (at : ℕ) → Walked at 0 []
  stands-still at = record {
    from = at;
    looks = 0;
    starts = [];
    attempted = at_first at;
    order = omega arith;
    is = record { known = tt; distinct = tt; inside = tt };
  }

  -- The next attempt may begin at any later offset.
  pub still-onward : (ahead done : ℕ) (memory : List Key) → Walked ahead done memory → (at : ℕ) → ahead ≤ at → Walked at done memory
  still-onward ahead done memory w at le = let order = w.order in record {
    from = w.from;
    looks = w.looks + (at - ahead);
    starts = w.starts;
    attempted = passed w.from ahead at w.looks done memory w.starts w.attempted le;
    order = omega (arith, order, le);
    is = w.is;
  }

  -- An attempt starts with the initial threads and no work done.
  pub in-hand : (at : ℕ) → at ≤ units text → (memory : List Key) → Come at memory 0 memory (thread_entries (initial_threads program at))
  in-hand at inside memory = searches-are-paid.begins program t of text is_text bytes less at inside memory

  first-onward : (at : ℕ) → AreOnward at (thread_entries (initial_threads program at))
  first-onward at = (omega arith, tt, tt)

  -- All threads of an attempt are at or behind its start.
  pub in-order : (at : ℕ) (memory : List Key) (work : ℕ) (now : List Key) (u : Thread) (rest : List Entry) → Come at memory work now (one_thread u ∷ rest) → at ≤ offset_of_thread u
  in-order at memory work now u rest h =
      (turns-go-on program text (analysis_as_liveness t) (analysis_keys program text t) rightwards key_cost weight memory (initial_threads program at) at work now (one_thread u ∷ rest) refl (first-onward at) h.comes).0

  module _ (at done : ℕ) (memory : List Key) (walked : Walked at done memory) (answers : Answered at) (more : ℕ) (now : List Key) (row : List Entry) where
    -- The work bound holds in a search after any number of turns.
    stands-so : Come at memory more now row
        → turns.KeepsResultWithinPotential program text (analysis_as_liveness t) (analysis_keys program text t) rightwards key_cost weight memory (initial_threads program at) more now row answers.found
    stands-so h =
        work-is-bounded program text (analysis_as_liveness t) (analysis_keys program text t) served.plan.liveness served.serves.keys rightwards key_cost weight memory (initial_threads program at)
        answers.turns answers.found walked.is answers.searches more now row h.comes

    still-memory : Come at memory more now row → IsMemory program text (analysis_as_liveness t) (analysis_keys program text t) now
    still-memory h =
        let s = (stands-so h).stands in
        record {
          known = s.known;
          distinct = distinct-right (keys_in row) now s.distinct;
          inside = Each-right (λ k. IsIn k (analysis_keys program text t).all) (keys_in row) now s.inside;
        }

    -- The work of the attempts so far and of this one leaves room for one unit per place.
    pub with-room : at ≤ units text → Come at memory more now row
        → done + more + (units text + 1) ≤ (1 + (work_per_position t + (all_keys_cost_per_position t + (insn_analysis_of t 0).ready))) * (units text + 1)
    with-room inside h =
        let n = units text + 1 in
        let order = walked.order in
        let before = ledgers-bound program t of text is_text bytes less 0 (n + done) (record {
          early = n;
          late = done;
          from = walked.from;
          next = at;
          looks = walked.looks;
          memory = memory;
          starts = walked.starts;
          few = omega arith;
          remembered = walked.attempted;
          from_inside = omega (arith, order, inside);
          next_inside = omega (arith, inside);
          all = refl;
        }) in
        let here = (stands-so h).bounded in
        let first = one-weighs program (potentials_of t) (key_cost_of t) (recorded t) (one_thread (running (state_before_first_insn program at))) in
        let cost = places-keys.cost (recorded t) (units text) (plan_codes (key_code_questions_of t)) (key_cost_of t) in
        let costs = ap (λ p. p * n) (costs-of-all t of.coded) in
        let some = mul-one (insn_analysis_of t 0).ready (units text) in
        let a = add-mul (1 + work_per_position t) (all_keys_cost_per_position t + (insn_analysis_of t 0).ready) n in
        let b = add-mul (all_keys_cost_per_position t) (insn_analysis_of t 0).ready n in
        let same : (1 + (work_per_position t + (all_keys_cost_per_position t + (insn_analysis_of t 0).ready))) * n ≡ (1 + work_per_position t + (all_keys_cost_per_position t + (insn_analysis_of t 0).ready)) * n = ap (λ m. m * n) (omega arith) in
        let its : (0 + 1 + work_per_position t) * n ≡ (1 + work_per_position t) * n = ap (λ m. m * n) (omega arith) in
        omega (arith, before, here, first, cost, costs, some, a, b, same, its)
      where
        mul-one : (r u : ℕ) → r ≤ r * (u + 1)
        mul-one r u = let m = mul-add r u 1 in omega (arith, m)

    pub so-far : at ≤ units text → Come at memory more now row
        → done + more ≤ (1 + (work_per_position t + (all_keys_cost_per_position t + (insn_analysis_of t 0).ready))) * (units text + 1)
    so-far inside h = let all = with-room inside h in omega (arith, all)

  -- ---- The end of an attempt

  pub then-failed : (at done : ℕ) (memory : List Key) → Walked at done memory → Answered at → (more : ℕ) (now : List Key) → Come at memory more now []
      → Walked (at + 1) (done + more) now
  then-failed at done memory w answers more now h = let order = w.order in record {
    from = w.from;
    looks = w.looks + 1;
    starts = at ∷ w.starts;
    attempted = failed w.from at w.looks done more memory now w.starts answers.turns answers.found w.attempted answers.searches h.comes;
    order = omega (arith, order);
    is = still-memory at done memory w answers more now [] h;
  }

  -- If the current thread ends, the next attempt begins there or behind an empty match.
  pub then-found : (at done : ℕ) (memory : List Key) → Walked at done memory → Answered at → (more : ℕ) (now : List Key) (u : Thread) (rest : List Entry)
      → Come at memory more now (one_thread u ∷ rest) → (on : ℕ) → offset_of_thread u ≤ on → at < on → Walked on (done + more) now
  then-found at done memory w answers more now u rest h on le further = let order = w.order in record {
    from = on;
    looks = w.looks + 1;
    starts = at ∷ w.starts;
    attempted = found w.from at on w.looks done more memory now w.starts answers.turns answers.found u rest w.attempted answers.searches (first-onward at) h.comes le (omega (arith, order, further));
    order = omega arith;
    is = still-memory at done memory w answers more now (one_thread u ∷ rest) h;
  }

  -- ---- Attempts and the failures that they know

  module _ (known : Key → Bool) where
    abbrev Behind : (ahead done : ℕ) → Type 0
    Behind ahead done = AttemptsHaveKnownKeys program text t known ahead done

    abbrev Trying : (at done work : ℕ) → List Entry → Type 0
    Trying at done work row = AttemptIsUnderWay program text t known at done work row

    pub then-starts : ListsExactlyKnownKeys known [] → (at : ℕ) → Behind at 0
    then-starts holds at = record { memory = []; has = stands-still at; holds = holds }

    -- If a match is found, the next attempt begins behind it.
    pub then-ends : (at done work : ℕ) (u : Thread) (rest : List Entry) → Answered at → Trying at done work (one_thread u ∷ rest)
        → (on : ℕ) → offset_of_thread u ≤ on → at < on → Behind on (done + work)
    then-ends at done work u rest answers b on le further = record {
      memory = b.now;
      has = then-found at done b.memory b.has answers work b.now u rest b.comes on le further;
      holds = b.holds;
    }

    -- If no match begins at an offset, the next attempt begins at the next one.
    pub then-none : (at done work : ℕ) → Answered at → Trying at done work [] → Behind (at + 1) (done + work)
    then-none at done work answers b = record {
      memory = b.now;
      has = then-failed at done b.memory b.has answers work b.now b.comes;
      holds = b.holds;
    }
