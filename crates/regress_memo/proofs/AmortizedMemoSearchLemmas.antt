-- Each step of a memoized search keeps its threads keyed, and potentials or key costs cover it.
use Rattle.std.proofs.Common.{◌≡◌, ◌≤◌, ◌<◌, ◌^◌, ℕ, ◌+◌, Bool, true, false, List, [], ◌∷◌, ◌++◌, Option, Some, None}
use Rattle.std.proofs.Common.{refl, sym, ap, ◌∙◌, subst, arith, append_assoc, if◌then◌else◌, sum_by, slice_get}
use Rattle.std.proofs.lemmas.List.{length-replicate}
use Rattle.regex_meaning.specs.Laws.{Each}
use Rattle.regex_meaning.proofs.EachElementLemmas.{Each-append, Each-right}
use Rattle.regex_meaning.specs.Text.{Text, Direction, rightwards}
use Rattle.regex_meaning.specs.CodeUnitOffsets.{HasRisingPlaceOffsets, units}
use Rattle.regex_meaning.specs.CompilationRelation.{Program, Insn, Lookahead, Lookbehind}
use Rattle.regress_machine.specs.SearchFindsFirstOutcomeAtPlace.{state_before_first_insn}
use Rattle.regress_machine.specs.Machine.{State, Thread, running, waiting, goes, Found, after_lookaround, state_with_ip, state_at_next_ip, act, search}
use Rattle.regress_memo.specs.Liveness.{Agree, outermost, ReadsAsBytes}
use Rattle.regress_memo.specs.ThreadBisimulation.{AlikeThreads, AlikeAnswers}
use Rattle.regress_memo.specs.SkippedLookarounds.{LookaroundInsn, lookaround_at}
use Rattle.regress_memo.specs.LoopDataKeyCodes.{HasSlotsOfProgram, plan_code, key_of}
use Rattle.regress_memo.specs.DistinctLists.{IsNew}
use Rattle.regress_memo.specs.PreservedSlotCounts.{state_of_thread}
use Rattle.regress_memo.specs.MemoPlanChecksAndGuarantees.{RecordsNewKey, plan_steps_below_record}
use Rattle.regress_memo.specs.MemoSearch.{Key, Entry, one_thread, key_record, thread_entries, threads_in, at_first, gives, reaches}
use Rattle.regress_memo.specs.ThreadPotentials.{is_one_of}
use Rattle.regress_memo.proofs.CappedCharLoopLemmas.{others-paid}
use Rattle.regress_memo.proofs.PreservedSlotLemmas.{states-stay, end-has-slots}
use Rattle.regress_memo.proofs.LivenessLemmas.{threads-alike}
use Rattle.regress_memo.proofs.SkippedLookaroundLemmas.{asks-there}
use Rattle.regress_memo.proofs.ClosedLookaroundLemmas.{look-weighs}
use Rattle.regress_memo.proofs.SharedMemoLookaroundLemmas.{soundness-stays}
use Rattle.regress_memo.proofs.StepCostLemmas.{turns-paid, tries-weigh, one-weighs}
use Rattle.regress_memo.proofs.MemoPlanLemmas.{plans-take}
use Rattle.regress_memo.proofs.MemoSearchLemmas.{threads-tries, threads-joined, turns-right, keys-tries}
use Rattle.regress_memo.specs.declared.analysis_result.MemoAnalysis.{MemoAnalysis}
use Rattle.regress_memo.specs.UnreachedCharLoopBodies.{IsNotLoopBody, FlowsPastBodies}
use Rattle.regress_memo.specs.Successors.{successors_of_insn_if_any}
use Rattle.regress_memo.specs.AnalysisChecks.{IsConsistentAt}
use Rattle.regress_memo.specs.WorkBound.{IsWorkBounded}
use Rattle.regress_memo.specs.AnalysisAsPotentials.{insn_analysis_of, analysis_as_liveness, key_code_questions_of, recorded, potentials_of, key_cost_of, insn_direction}
use Rattle.regress_memo.specs.CheckedAnalysis.{IsAnalysisOf, ip_of, IsMemoPlanForText}
use Rattle.regress_memo.proofs.UnreachedLoopBodyLemmas.{bodies-apart}
use Rattle.regress_memo.proofs.InsnsOutsideLoops.{starts-outside}
use Rattle.regress_memo.proofs.SearchDirectionLemmas.{ways-stay}
use Rattle.regress_memo.proofs.CheckedAnalysisLemmas.{recorded-is, ledgers-serve}
use Rattle.regress_memo.specs.Laws.{analysis_keys, KeyFails}
use Rattle.regress_memo.specs.MemoContents.{memo_key_at}
use Rattle.regress_memo.specs.AmortizedMemoSearchSteps.{IsKeyed, AreKeyed, ReachesEntries, StepsReachEntries, WorkIsCoveredByKeyCosts}
use Rattle.regress_memo.proofs.MemoTableLawLemmas.{thread-key, records-there}

-- ---- Keys of states

-- If a state has no memo key, its instruction does not record.
pub no-key : (t : MemoAnalysis) (s : State) → memo_key_at t s ≡ None → is_one_of (recorded t) s.ip ≡ false
no-key t s none = by (is_one_of (recorded t) s.ip) refl
  where
    by : (b : Bool) → is_one_of (recorded t) s.ip ≡ b → is_one_of (recorded t) s.ip ≡ false
    by false e = e
    by true e =
        let some : Some (key_of (plan_code (key_code_questions_of t)) s) ≡ None =
        sym (ap (λ b. if b then Some (key_of (plan_code (key_code_questions_of t)) s) else None) (recorded-is t s.ip e)) ∙ none in
        absurd (let no : ⊥ = cc in no)

-- The instruction of a state records, and the state has the key `k`.
pub record HasKey (t : MemoAnalysis) (s : State) (k : Key) : Type 0 where
  pub records : (insn_analysis_of t s.ip).records ≡ true
  pub is : key_of (plan_code (key_code_questions_of t)) s ≡ k

pub has-key : (t : MemoAnalysis) (s : State) (k : Key) → memo_key_at t s ≡ Some k → HasKey t s k
has-key t s k is = by (insn_analysis_of t s.ip).records refl is
  where
    by : (b : Bool) → (insn_analysis_of t s.ip).records ≡ b → (if b then Some (key_of (plan_code (key_code_questions_of t)) s) else None) ≡ Some k → HasKey t s k
    by false e h = absurd (let no : ⊥ = cc in no)
    by true e h = record { records = e; is = cc }

-- ---- Threads that have keys

module _ (program : Program) (text : Text) (t : MemoAnalysis) (d : Direction) where
  all-keyed : (ts : List Thread) → Each (λ u. HasSlotsOfProgram program (state_of_thread u)) ts → AlikeThreads (Agree (analysis_as_liveness t) (units text) outermost d) ts ts
      → Each (λ u. insn_direction t (ip_of u) ≡ d) ts → Each (λ u. IsNotLoopBody program (ip_of u)) ts → AreKeyed program text t d ts
  all-keyed [] of sound way apart = tt
  all-keyed (running s ∷ ts) of sound way apart =
      (record { of = of.0; sound = sound.0; way = way.0; no_body = apart.0 }, all-keyed ts of.1 sound.1 way.1 apart.1)
  all-keyed (waiting s ∷ ts) of sound way apart =
      (record { of = of.0; sound = sound.0; way = way.0; no_body = apart.0 }, all-keyed ts of.1 sound.1 way.1 apart.1)

  -- The threads of joined entries are keyed if those of both parts are.
  pub keyed-joined : (entries rest : List Entry) → AreKeyed program text t d (threads_in entries) → AreKeyed program text t d (threads_in rest)
      → AreKeyed program text t d (threads_in (entries ++ rest))
  keyed-joined entries rest above below =
      subst (AreKeyed program text t d) (sym (threads-joined entries rest))
      (Each-append (λ u. IsKeyed program text t d (state_of_thread u)) (threads_in entries) (threads_in rest) above below)

  pub keyed-rest : (entries rest : List Entry) → AreKeyed program text t d (threads_in (entries ++ rest)) → AreKeyed program text t d (threads_in rest)
  keyed-rest entries rest h =
      Each-right (λ u. IsKeyed program text t d (state_of_thread u)) (threads_in entries) (threads_in rest) (subst (AreKeyed program text t d) (threads-joined entries rest) h)

  pub keyed-tries : (ts : List Thread) → AreKeyed program text t d ts → AreKeyed program text t d (threads_in (thread_entries ts))
  keyed-tries ts h = subst (AreKeyed program text t d) (sym (threads-tries ts)) h

-- The instruction after a lookaround is searched in the same direction. Neither it nor the first instruction of the contents is the body of a char loop.
pub record LookFlows (program : Program) (t : MemoAnalysis) (ip : ℕ) (l : LookaroundInsn) : Type 0 where
  pub way : insn_direction t l.continuation ≡ insn_direction t ip
  pub no_body : IsNotLoopBody program l.continuation
  pub first_no_body : IsNotLoopBody program (ip + 1)

pub look-flows : (program : Program) (t : MemoAnalysis) → IsAnalysisOf program t → ((ip : ℕ) → FlowsPastBodies program (successors_of_insn_if_any ip (slice_get program.insns ip)) ip)
    → (ip : ℕ) (l : LookaroundInsn) → lookaround_at (slice_get program.insns ip) ≡ Some l → LookFlows program t ip l
look-flows program t of past ip l is = by (slice_get program.insns ip) is (of.steps ip) (past ip)
  where
    same : (a : LookaroundInsn) → Some a ≡ Some l → LookFlows program t ip a → LookFlows program t ip l
    same a e h = subst (LookFlows program t ip) (let q : a ≡ l = cc in q) h

    by : (x : Option Insn) → lookaround_at x ≡ Some l → IsConsistentAt t program (successors_of_insn_if_any ip x) ip → FlowsPastBodies program (successors_of_insn_if_any ip x) ip
        → LookFlows program t ip l
    by (Some (Lookahead negate start_group end_group continuation)) e h p = same _ e (record { way = h.on.way; no_body = p.1; first_no_body = p.0 })
    by (Some (Lookbehind negate start_group end_group continuation)) e h p = same _ e (record { way = h.on.way; no_body = p.1; first_no_body = p.0 })
    by _ e h p = cc

-- ---- What continues after a lookaround

module _ (program : Program) (t : MemoAnalysis) (of : IsAnalysisOf program t) (past : (ip : ℕ) → FlowsPastBodies program (successors_of_insn_if_any ip (slice_get program.insns ip)) ip)
    (text : Text) (is_text : HasRisingPlaceOffsets text) (bytes : ReadsAsBytes program text) (less : units text < 2 ^ 63) (d : Direction)
    (s : State) (l : LookaroundInsn) (is : lookaround_at (slice_get program.insns s.ip) ≡ Some l) (turns : ℕ) (f : Found)
    (e : search program text turns l.inner (running (state_at_next_ip s) ∷ []) ≡ Some f) where
  abbrev looking : IsMemoPlanForText program t text
  looking = ledgers-serve program t of text is_text bytes less

  abbrev pub behind : List Thread
  behind = after_lookaround l.negate (state_with_ip l.continuation s) f.end

  -- The thread that continues is sound, because the end of the contents is.
  behind-sound : IsKeyed program text t d s → AlikeThreads (Agree (analysis_as_liveness t) (units text) outermost d) behind behind
  behind-sound k =
      let asked = (soundness-stays program text (analysis_as_liveness t) looking.plan.liveness d).asks outermost l.inner l.negate s (state_at_next_ip s) (state_with_ip l.continuation s) k.sound
      (asks-there program text d s l (slice_get program.insns s.ip) is) in
      let both = threads-alike program text (analysis_as_liveness t) looking.plan.liveness turns asked.world l.inner (running (state_at_next_ip s) ∷ []) (running (state_at_next_ip s) ∷ []) (asked.contents, tt) in
      asked.behind f.end f.end (subst (λ o. AlikeAnswers (Agree (analysis_as_liveness t) (units text) asked.world l.inner) o o) e both).ends

  abbrev Slotted : State → Type 0
  Slotted = HasSlotsOfProgram program

  behind-slotted : Slotted s → Each (λ u. Slotted (state_of_thread u)) behind
  behind-slotted k = by l.negate f.end refl
    where
      its : Slotted (state_with_ip l.continuation s)
      its = record { groups = k.groups; starts = k.starts; loops = k.loops }

      by : (negate : Bool) (end : Option State) → f.end ≡ end → Each (λ u. Slotted (state_of_thread u)) (after_lookaround negate (state_with_ip l.continuation s) end)
      by false None ended = tt
      by true None ended = (its, tt)
      by true (Some u) ended = tt
      by false (Some u) ended =
          let there = end-has-slots program text l.inner turns (state_at_next_ip s) u f (record { groups = k.groups; starts = k.starts; loops = k.loops }) e ended in
          (record { groups = there.groups; starts = there.starts; loops = there.loops }, tt)

  each-behind : (Good : ℕ → Type 0) → Good l.continuation → Each (λ u. Good (ip_of u)) behind
  each-behind Good h = by l.negate f.end
    where
      by : (negate : Bool) (end : Option State) → Each (λ u. Good (ip_of u)) (after_lookaround negate (state_with_ip l.continuation s) end)
      by false None = tt
      by true None = (h, tt)
      by true (Some u) = tt
      by false (Some u) = (h, tt)

  pub behind-keyed : IsKeyed program text t d s → AreKeyed program text t d behind
  behind-keyed k =
      let on = look-flows program t of past s.ip l is in
      all-keyed program text t d behind (behind-slotted k.of) (behind-sound k) (each-behind (λ ip. insn_direction t ip ≡ d) (on.way ∙ k.way)) (each-behind (IsNotLoopBody program) on.no_body)

-- ---- Steps of keyed threads

module _ (program : Program) (t : MemoAnalysis) (of : IsAnalysisOf program t) (ready : (ip : ℕ) → 1 ≤ (insn_analysis_of t ip).ready)
    (past : (ip : ℕ) → FlowsPastBodies program (successors_of_insn_if_any ip (slice_get program.insns ip)) ip) (text : Text) (is_text : HasRisingPlaceOffsets text) (bytes : ReadsAsBytes program text)
    (less : units text < 2 ^ 63) (d : Direction) (memory : List Key) (first : List Entry) (work : ℕ) (now : List Key) (rest : List Entry) where
  abbrev Come : (work : ℕ) → List Key → List Entry → Type 0
  Come work now row = ReachesEntries program text t d memory first work now row

  abbrev served : IsMemoPlanForText program t text
  served = ledgers-serve program t of text is_text bytes less

  -- The threads that a step of a keyed state leaves are keyed.
  left-keyed : (s : State) (ts : List Thread) → IsKeyed program text t d s → act program text d s ≡ goes ts → AreKeyed program text t d ts
  left-keyed s ts k turn =
      all-keyed program text t d ts (states-stay program text d s ts k.of turn)
      ((soundness-stays program text (analysis_as_liveness t) served.plan.liveness d).goes outermost s ts k.sound turn)
      (ways-stay program t of text d s ts k.way turn) (bodies-apart program t of past text d s ts turn)

  pub turned : (s : State) (ts : List Thread) → act program text d s ≡ goes ts → memo_key_at t s ≡ None → Come work now (one_thread (running s) ∷ rest) → Come (work + 1) now (thread_entries ts ++ rest)
  turned s ts turn none h = record {
    comes = gives work 1 now (one_thread (running s) ∷ []) (thread_entries ts) rest tt h.comes ((served.serves.gives d now s).turned ts turn)
        ((turns-paid.threads program (potentials_of t) (key_cost_of t) (recorded t) of.paid text (plan_code (key_code_questions_of t)) d s).turned ts turn (no-key t s none));
    keyed = keyed-joined program text t d (thread_entries ts) rest (keyed-tries program text t d ts (left-keyed s ts h.keyed.0 turn)) h.keyed.1;
  }

  recorded-key : (s : State) (ts : List Thread) (k : Key) → HasKey t s k → act program text d s ≡ goes ts → IsNew k now → Come work now (one_thread (running s) ∷ rest)
      → Come (work + 1) now ((thread_entries ts ++ key_record (key_of (plan_code (key_code_questions_of t)) s) (running s ∷ []) ∷ []) ++ rest)
  recorded-key s ts k has turn new h =
      let key = key_of (plan_code (key_code_questions_of t)) s in
      let ips = recorded t in
      let keyed = h.keyed.0 in
      let there = records-there t s.ip has.records in
      let rec : RecordsNewKey program text (analysis_as_liveness t) (key_code_questions_of t) (insn_direction t) ips (plan_steps_below_record program) d now s = record {
        records = there;
        goes = keyed.way;
        no_body = keyed.no_body;
        of = keyed.of;
        sound = keyed.sound;
        one = plans-take.threads program key keyed.no_body;
        new = subst (λ k. IsNew k now) (sym has.is) new;
      } in
      record {
        comes = gives work 1 now (one_thread (running s) ∷ []) (thread_entries ts ++ key_record key (running s ∷ []) ∷ []) rest tt h.comes ((served.serves.gives d now s).recorded ts turn rec)
            ((turns-paid.threads program (potentials_of t) (key_cost_of t) ips of.paid text (plan_code (key_code_questions_of t)) d s).recorded ts turn there);
        keyed =
            keyed-joined program text t d (thread_entries ts ++ key_record key (running s ∷ []) ∷ []) rest
            (keyed-joined program text t d (thread_entries ts) (key_record key (running s ∷ []) ∷ []) (keyed-tries program text t d ts (left-keyed s ts keyed turn)) tt) h.keyed.1;
      }

  pub with-record : (s : State) (ts : List Thread) (k : Key) → act program text d s ≡ goes ts → memo_key_at t s ≡ Some k → IsNew k now → Come work now (one_thread (running s) ∷ rest)
      → Come (work + 1) now (thread_entries ts ++ key_record k (running s ∷ []) ∷ rest)
  with-record s ts k turn is new h =
      let has = has-key t s k is in
      subst (Come (work + 1) now)
      (append_assoc (thread_entries ts) (key_record (key_of (plan_code (key_code_questions_of t)) s) (running s ∷ []) ∷ []) rest ∙ ap (λ k. thread_entries ts ++ key_record k (running s ∷ []) ∷ rest) has.is)
      (recorded-key s ts k has turn new h)

  pub known-fails : (s : State) (k : Key) → memo_key_at t s ≡ Some k → KeyFails program text t k → Come work now (one_thread (running s) ∷ rest) → Come (work + 1) now rest
  known-fails s k is fails h =
      let keyed = h.keyed.0 in
      let of_key = thread-key program text t d s k is keyed.no_body keyed.way keyed.of keyed.sound in
      record {
        comes = gives work 1 now (one_thread (running s) ∷ []) [] rest tt h.comes
            ((turns-right program text (analysis_as_liveness t) (analysis_keys program text t) served.plan.liveness served.serves.keys d).dropped now k (running s ∷ []) fails of_key)
            ((others-paid.ends program (potentials_of t) (key_cost_of t) (recorded t) s).known (ready s.ip));
        keyed = h.keyed.1;
      }

  pub taken-up : (s : State) → Come work now (one_thread (waiting s) ∷ rest) → Come (work + 1) now (one_thread (running s) ∷ rest)
  taken-up s h = record {
    comes = gives work 1 now (one_thread (waiting s) ∷ []) (one_thread (running s) ∷ []) rest tt h.comes (served.serves.gives d now s).taken_up
        (turns-paid.threads program (potentials_of t) (key_cost_of t) (recorded t) of.paid text (plan_code (key_code_questions_of t)) d s).taken_up;
    keyed = (h.keyed.0, h.keyed.1);
  }

  pub record-reached : (k : Key) (ts : List Thread) → Come work now (key_record k ts ∷ rest) → Come (work + 1) (k ∷ now) rest
  record-reached k ts h = record { comes = reaches work now k ts rest h.comes; keyed = h.keyed }

-- ---- Lookarounds

module _ (program : Program) (t : MemoAnalysis) (of : IsAnalysisOf program t) (bounded : IsWorkBounded t program) (text : Text) (is_text : HasRisingPlaceOffsets text) (bytes : ReadsAsBytes program text)
    (less : units text < 2 ^ 63) (d : Direction) (memory : List Key) (first : List Entry) (work : ℕ) (now : List Key) (rest : List Entry) where
  module _ (s : State) (l : LookaroundInsn) (is : lookaround_at (slice_get program.insns s.ip) ≡ Some l) (turns : ℕ) (f : Found)
      (e : search program text turns l.inner (running (state_at_next_ip s) ∷ []) ≡ Some f) where
    abbrev left-behind : List Thread
    left-behind = after_lookaround l.negate (state_with_ip l.continuation s) f.end

    looked : ReachesEntries program text t d memory first work now (one_thread (running s) ∷ rest)
        → ReachesEntries program text t d memory first (work + (f.steps + 1)) now (thread_entries left-behind ++ rest)
    looked h = record {
      comes = gives work (f.steps + 1) now (one_thread (running s) ∷ []) (thread_entries left-behind) rest tt h.comes (((ledgers-serve program t of text is_text bytes less).serves.looks d now s l is).searched turns f e)
          (let w = potentials_of t in
          let x = one-weighs program w (key_cost_of t) (recorded t) (one_thread (running s)) in
          let y = tries-weigh program w (key_cost_of t) (recorded t) left-behind in
          let none = ap (sum_by (λ (k : Key). key_cost_of t k.ip)) (keys-tries left-behind) in
          let enough = look-weighs program t of bounded text s l is turns f e in
          omega (arith, x, y, none, enough));
      keyed = keyed-joined program text t d (thread_entries left-behind) rest (keyed-tries program text t d left-behind (behind-keyed program t of bounded.past text is_text bytes less d s l is turns f e h.keyed.0)) h.keyed.1;
    }

  pub comes-on : StepsReachEntries program text t d memory first work now rest
  comes-on = record {
    turned = turned program t of bounded.ready bounded.past text is_text bytes less d memory first work now rest;
    recorded = with-record program t of bounded.ready bounded.past text is_text bytes less d memory first work now rest;
    known = known-fails program t of bounded.ready bounded.past text is_text bytes less d memory first work now rest;
    looked = λ s l turns f is e h. looked s l is turns f e h;
    taken_up = taken-up program t of bounded.ready bounded.past text is_text bytes less d memory first work now rest;
    reached = record-reached program t of bounded.ready bounded.past text is_text bytes less d memory first work now rest;
  }

-- ---- The beginning of a search

first-keyed : (program : Program) (t : MemoAnalysis) → IsAnalysisOf program t → (text : Text) → HasRisingPlaceOffsets text → ReadsAsBytes program text → units text < 2 ^ 63 → (at : ℕ) → at ≤ units text
    → IsKeyed program text t rightwards (state_before_first_insn program at)
first-keyed program t of text is_text bytes less at inside = record {
  of = record { groups = length-replicate _ _; starts = length-replicate _ _; loops = length-replicate _ _ };
  sound = (soundness-stays program text (analysis_as_liveness t) (ledgers-serve program t of text is_text bytes less).plan.liveness rightwards).at_first at inside
      (starts-outside program t of);
  way = of.starts.forward;
  no_body = refl;
}

pub searches-are-paid : WorkIsCoveredByKeyCosts
searches-are-paid = record {
  begins = λ program t of text is_text bytes less at inside memory. record {
    comes = at_first;
    keyed = (first-keyed program t of text is_text bytes less at inside, tt);
  };
  comes_on = λ program t of bounded text is_text bytes less d memory first work now rest. comes-on program t of bounded text is_text bytes less d memory first work now rest;
}
