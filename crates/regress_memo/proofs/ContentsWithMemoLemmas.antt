-- Searches of lookarounds' contents with the memo table keep the invariant, and are covered.
use Rattle.std.proofs.Common.{◌≡◌, ◌≤◌, ◌<◌, ◌^◌, ℕ, ◌+◌, Bool, true, false, Some, List, [], ◌∷◌, ◌++◌, refl, sym, ap, subst, ◌∙◌, arith, sum_by, slice_get, append_assoc}
use Rattle.std.proofs.lemmas.List.{append_cancel_right}
use Rattle.std.proofs.lemmas.List.Sums.{sum_by-cons, sum_by-append}
use Rattle.regex_meaning.specs.Laws.{Each}
use Rattle.regex_meaning.proofs.EachElementLemmas.{Each-append, Each-right}
use Rattle.regex_meaning.specs.Text.{Text, Direction}
use Rattle.regex_meaning.specs.CodeUnitOffsets.{HasRisingPlaceOffsets, units}
use Rattle.regex_meaning.specs.CompilationRelation.{Program}
use Rattle.regress_machine.specs.Machine.{State, Thread, running, waiting, goes, Found, result_without_threads, after_lookaround, state_with_ip, state_at_next_ip, act, search}
use Rattle.regress_machine.proofs.MachineSearchLemmas.{asked-inner}
use Rattle.regress_machine.proofs.ExecutorLoopLemmas.{left-ends, left-none}
use Rattle.regress_memo.specs.Liveness.{Liveness, ReadsAsBytes, outermost}
use Rattle.regress_memo.specs.SkippedLookarounds.{LookaroundInsn, lookaround_at}
use Rattle.regress_memo.specs.DistinctLists.{IsIn}
use Rattle.regress_memo.specs.MemoSearch.{Key, Keys, Entry, one_thread, thread_group, key_record, thread_entries, threads_in, keys_in, IsBare, entry_potential}
use Rattle.regress_memo.specs.MemoSearch.{FindEnd, IsMemory, HoldsInvariant, ReachesBySteps, at_first, gives, reaches, learns}
use Rattle.regress_memo.specs.LookaroundsWithSharedMemo.{AreLearned}
use Rattle.regress_memo.specs.CappedCharLoops.{IsLookaroundContentsSearched}
use Rattle.regress_memo.specs.AmortizedStepCosts.{potential_by}
use Rattle.regress_memo.specs.declared.analysis_result.MemoAnalysis.{MemoAnalysis}
use Rattle.regress_memo.specs.AnalysisAsPotentials.{analysis_as_liveness, recorded, potentials_of, key_cost_of}
use Rattle.regress_memo.specs.CheckedAnalysis.{IsAnalysisOf, IsMemoPlanForText}
use Rattle.regress_memo.specs.Laws.{analysis_keys, KeySucceeds}
use Rattle.regress_memo.specs.AmortizedMemoSearchSteps.{IsKeyed, ReachesEntries}
use Rattle.regress_memo.specs.ContentsApart.{is_in_contents, AreOnSide, IsSide, IsArea, IsSearchApart, SearchStaysApart}
use Rattle.regress_memo.specs.ContentsWithMemo.{ThreadsComeOn, AllowsMemoInContents, CoversContents, contents_of, HasComeTo, SearchComesOn, IsAtLookaround, ContentsHaveComeTo, LookaroundIsCovered}
use Rattle.regress_memo.specs.ContentsWithMemo.{SilentLookaroundsAreCovered, PartsOfSearchesAreCovered, SearchesOfContentsComeOn, LookaroundsThatRecordAreCovered}
use Rattle.regress_memo.proofs.AmortizedMemoSearchLemmas.{has-key, turned, with-record, known-fails, taken-up, record-reached, keyed-rest, look-flows, behind-keyed, keyed-joined, keyed-tries}
use Rattle.regress_memo.proofs.CappedCharLoopLemmas.{looks-pay}
use Rattle.regress_memo.proofs.CheckedAnalysisLemmas.{recorded-is, ledgers-serve}
use Rattle.regress_memo.proofs.ContentsApartLemmas.{keys-apart, steps-stay, entries-of, entries-joined}
use Rattle.regress_memo.proofs.DistinctListLemmas.{distinct-right, sum-moved}
use Rattle.regress_memo.proofs.MemoSearchLemmas.{keys-bare, keys-joined, keys-tries, work-is-bounded}
use Rattle.regress_memo.proofs.SharedMemoLookaroundLemmas.{looks-learn, soundness-stays, success-shared}
use Rattle.regress_memo.proofs.SkippedLookaroundLemmas.{asks-there}
use Rattle.regress_memo.proofs.StepCostLemmas.{tries-weigh, one-weighs}
use Rattle.regress_memo.proofs.ClosedLookaroundLemmas.{weighs-no-more, silent-weighs}
use Rattle.regress_memo.specs.ThreadPotentials.{is_one_of}

-- ---- Parts of searches

module _ (program : Program) (text : Text) (a : Liveness) (keys : Keys) (d : Direction) (key_cost : Key → ℕ) (weight : List Thread → ℕ) (memory : List Key) (row : List Entry) where
  abbrev Covered : ℕ → List Key → List Entry → Type 0
  Covered work now to = work + sum_by (entry_potential weight) to + sum_by key_cost (keys_in row ++ memory) ≤ sum_by (entry_potential weight) row + sum_by key_cost (keys_in to ++ now)

  part-covered : (work : ℕ) (now : List Key) (to : List Entry) → ReachesBySteps program text a keys d key_cost weight memory row work now to → Covered work now to
  part-covered _ _ _ at_first = omega arith
  part-covered _ _ _ (gives work more now front entries rest b c g paid) =
      let before = part-covered work now (front ++ rest) c in
      let x = sum_by-append (entry_potential weight) front rest in
      let z = sum_by-append (entry_potential weight) entries rest in
      let k = ap (λ ks. sum_by key_cost (ks ++ now)) (keys-bare front rest b) in
      let l = ap (λ ks. sum_by key_cost (ks ++ now)) (keys-joined entries rest) in
      let o = ap (sum_by key_cost) (append_assoc (keys_in entries) (keys_in rest) now) in
      let p = sum_by-append key_cost (keys_in entries) (keys_in rest ++ now) in
      omega (arith, before, paid, x, z, k, l, o, p)
  part-covered _ _ _ (reaches work now k us rest c) =
      let before = part-covered work now (key_record k us ∷ rest) c in
      let x = sum_by-cons (entry_potential weight) (key_record k us) rest in
      let y = sum-moved key_cost k (keys_in rest) now in
      omega (arith, before, x, y)
  part-covered _ _ _ (learns work more now new rest c known distinct inside paid) =
      let before = part-covered work now rest c in
      let x = sum_by-append key_cost (keys_in rest) now in
      let y = sum_by-append key_cost (keys_in rest) (new ++ now) in
      let z = sum_by-append key_cost new now in
      omega (arith, before, paid, x, y, z)

pub parts-covered : PartsOfSearchesAreCovered
parts-covered program text a keys d key_cost weight memory row work now to c = part-covered program text a keys d key_cost weight memory row work now to c

-- ---- What is known of a search

module _ (program : Program) (t : MemoAnalysis) (of : IsAnalysisOf program t) (text : Text) (is_text : HasRisingPlaceOffsets text) (bytes : ReadsAsBytes program text) (less : units text < 2 ^ 63) where
  abbrev served : IsMemoPlanForText program t text
  served = ledgers-serve program t of text is_text bytes less

  abbrev a : Liveness
  a = analysis_as_liveness t

  abbrev keys : Keys
  keys = analysis_keys program text t

  abbrev key_cost : Key → ℕ
  key_cost k = key_cost_of t k.ip

  abbrev weight : List Thread → ℕ
  weight ts = potential_by program (potentials_of t) (key_cost_of t) (recorded t) ts

  module _ (side : ℕ → Bool) (d : Direction) (memory : List Key) (first : List Thread) (work : ℕ) (now : List Key) (row : List Entry) (h : HasComeTo program text t side d memory first work now row)
      (turns : ℕ) (f : Found) (e : search program text turns d first ≡ Some f) where
    abbrev stands : HoldsInvariant program text a keys d now row f
    stands = (work-is-bounded program text a keys served.plan.liveness served.serves.keys d key_cost weight memory first turns f h.is_memory e work now row h.comes.comes).stands

    memory-stays : HoldsInvariant program text a keys d now row f → IsMemory program text a keys now
    memory-stays s = record {
      known = s.known;
      distinct = distinct-right (keys_in row) now s.distinct;
      inside = Each-right (λ k. IsIn k keys.all) (keys_in row) now s.inside;
    }

    search-comes-on : SearchComesOn program text t side d memory first work now row turns f
    search-comes-on = record {
      holds = stands;
      is_memory = memory-stays stands;
      fails = λ none.
          let s = subst (λ row. HoldsInvariant program text a keys d now row f) none stands in
          sym (left-none program text false s.turns d 0 f s.within).ends_so;
      ends = λ s u rest is ended.
          let inv = subst (λ row. HoldsInvariant program text a keys d now row f) is stands in
          sym (left-ends program text false inv.turns d 0 s u (threads_in rest) f ended inv.within).ends_so;
      found = λ front rest is bare end.
          (success-shared program text a keys served.plan.liveness served.serves.keys d).shared now front rest f bare end
          (subst (λ row. HoldsInvariant program text a keys d now row f) is stands);
    }

  -- ---- Contents begin

  module _ (allows : AllowsMemoInContents t program) (side : ℕ → Bool) (d : Direction) (memory : List Key) (first : List Thread) (work : ℕ) (now : List Key) (rest : List Entry) (s : State) (l : LookaroundInsn)
      (is : lookaround_at (slice_get program.insns s.ip) ≡ Some l) (h : IsAtLookaround program text t side d memory first work now rest s l) where
    first-of-contents : IsKeyed program text t d s → IsKeyed program text t l.inner (state_at_next_ip s)
    first-of-contents k =
        let asked = (soundness-stays program text a served.plan.liveness d).asks outermost l.inner l.negate s (state_at_next_ip s) (state_with_ip l.continuation s) k.sound
        (asks-there program text d s l (slice_get program.insns s.ip) is) in
        record {
          of = record { groups = k.of.groups; starts = k.of.starts; loops = k.of.loops };
          sound = (soundness-stays program text a served.plan.liveness l.inner).outer asked.world (state_at_next_ip s) (state_at_next_ip s) asked.contents;
          way = of.ways s.ip l is;
          no_body = (look-flows program t of allows.past s.ip l is).first_no_body;
        }

    contents-begin : ContentsHaveComeTo program text t side d memory first work now rest s l 0 now (thread_entries (contents_of s))
    contents-begin =
        let known = search-comes-on side d memory first work now (one_thread (running s) ∷ rest) h h.answers.turns h.answers.found h.answers.searches in
        let inv = known.holds in
        let asked = asked-inner program text inv.turns d l.inner l.negate s (state_at_next_ip s) (state_with_ip l.continuation s) (threads_in rest) inv.within.found
        (asks-there program text d s l (slice_get program.insns s.ip) is) inv.within.searches in
        record {
          is_memory = known.is_memory;
          answers = record { turns = inv.turns; found = asked.found; searches = asked.searches };
          comes = record { comes = at_first; keyed = (first-of-contents h.comes.keyed.0, tt) };
          apart = keys-apart.contents_begin program allows.apart now s.ip l is (state_at_next_ip s) refl;
        }

-- ---- Steps

module _ (program : Program) (t : MemoAnalysis) (of : IsAnalysisOf program t) (allows : AllowsMemoInContents t program) (text : Text) (is_text : HasRisingPlaceOffsets text) (bytes : ReadsAsBytes program text) (less : units text < 2 ^ 63)
    (side : ℕ → Bool) (area : IsArea side program) (d : Direction) (memory : List Key) (first : List Thread) (work : ℕ) (now : List Key) (rest : List Entry) where
  abbrev Has : (work : ℕ) → List Key → List Entry → Type 0
  Has work now row = HasComeTo program text t side d memory first work now row

  stays : SearchStaysApart side program memory now rest
  stays = keys-apart.stays side program area allows.apart memory now rest

  -- A step of a thread, whose entries are on each side of its instruction.
  of-thread : (more : ℕ) (s : State) (entries : List Entry) → ((other : ℕ → Bool) → IsSide other program → other s.ip ≡ true → AreOnSide other entries)
      → (ReachesEntries program text t d memory (thread_entries first) work now (one_thread (running s) ∷ rest) → ReachesEntries program text t d memory (thread_entries first) (work + more) now (entries ++ rest))
      → Has work now (one_thread (running s) ∷ rest) → Has (work + more) now (entries ++ rest)
  of-thread more s entries on step h = record {
    is_memory = h.is_memory;
    answers = h.answers;
    comes = step h.comes;
    apart = stays.gives (one_thread (running s) ∷ []) entries (λ other is_side here. on other is_side here.threads.0) h.apart;
  }

  left-on : (s : State) (ts : List Thread) → act program text d s ≡ goes ts → (other : ℕ → Bool) → IsSide other program → other s.ip ≡ true → AreOnSide other (thread_entries ts)
  left-on s ts turn other is_side here = entries-of other ts ((steps-stay.steps other program is_side.closed text d s here).goes ts turn)

  threads-come-on : ThreadsComeOn program text t side d memory first work now rest
  threads-come-on = record {
    turned = λ s ts turn none h.
        of-thread 1 s (thread_entries ts) (left-on s ts turn)
        (turned program t of allows.ready allows.past text is_text bytes less d memory (thread_entries first) work now rest s ts turn none) h;
    recorded = λ s ts k turn is new h.
        let record-here = key_record k (running s ∷ []) ∷ [] in
        let at : k.ip ≡ s.ip = sym (ap (λ (k : Key). k.ip) (has-key t s k is).is) in
        let same : (thread_entries ts ++ record-here) ++ rest ≡ thread_entries ts ++ key_record k (running s ∷ []) ∷ rest = append_assoc (thread_entries ts) record-here rest in
        subst (Has (work + 1) now) same
        (of-thread 1 s (thread_entries ts ++ record-here)
        (λ other is_side here. entries-joined other (thread_entries ts) record-here (left-on s ts turn other is_side here) (record { threads = tt; records = (ap other at ∙ here, tt) }))
        (λ c. subst (ReachesEntries program text t d memory (thread_entries first) (work + 1) now) (sym same)
        (with-record program t of allows.ready allows.past text is_text bytes less d memory (thread_entries first) work now rest s ts k turn is new c)) h);
    known = λ s k is fails h.
        of-thread 1 s [] (λ other is_side here. record { threads = tt; records = tt })
        (known-fails program t of allows.ready allows.past text is_text bytes less d memory (thread_entries first) work now rest s k is fails) h;
    taken_up = λ s h. record {
      is_memory = h.is_memory;
      answers = h.answers;
      comes = taken-up program t of allows.ready allows.past text is_text bytes less d memory (thread_entries first) work now rest s h.comes;
      apart = stays.gives (one_thread (waiting s) ∷ []) (one_thread (running s) ∷ []) (λ other is_side here. record { threads = (here.threads.0, tt); records = tt }) h.apart;
    };
    reached = λ k ts h. record {
      is_memory = h.is_memory;
      answers = h.answers;
      comes = record-reached program t of allows.ready allows.past text is_text bytes less d memory (thread_entries first) work now rest k ts h.comes;
      apart = stays.reaches k ts h.apart;
    };
    gives = λ more front entries bare step paid keyed on h. record {
      is_memory = h.is_memory;
      answers = h.answers;
      comes = record {
        comes = gives work more now front entries rest bare h.comes.comes step paid;
        keyed = keyed-joined program text t d entries rest keyed (keyed-rest program text t d front rest h.comes.keyed);
      };
      apart = stays.gives front entries on h.apart;
    };
  }

pub contents-come-on : SearchesOfContentsComeOn
contents-come-on = record {
  begins = λ program t of allows text is_text bytes less side d memory first work now rest s l is h.
      contents-begin program t of text is_text bytes less allows side d memory first work now rest s l is h;
  comes_on = λ program t of text is_text bytes less side d memory first work now row h turns f e.
      search-comes-on program t of text is_text bytes less side d memory first work now row h turns f e;
  steps = λ program t of allows text is_text bytes less side area d memory first work now rest.
      threads-come-on program t of allows text is_text bytes less side area d memory first work now rest;
}

-- ---- Lookarounds

module _ (program : Program) (t : MemoAnalysis) (of : IsAnalysisOf program t) (allows : AllowsMemoInContents t program) (text : Text) (is_text : HasRisingPlaceOffsets text) (bytes : ReadsAsBytes program text) (less : units text < 2 ^ 63) where
  abbrev weighs : List Thread → ℕ
  weighs ts = potential_by program (potentials_of t) (key_cost_of t) (recorded t) ts

  abbrev costs : Key → ℕ
  costs k = key_cost_of t k.ip

  -- Threads weigh something.
  some-weight : (front : List Entry) → IsBare front → (threads_in front ≡ [] → ⊥) → 1 ≤ sum_by (entry_potential weighs) front
  some-weight [] bare some = absurd (some refl)
  some-weight (one_thread (running s) ∷ front) bare some =
      let x = sum_by-cons (entry_potential weighs) (one_thread (running s)) front in let one = allows.ready s.ip in omega (arith, x, one)
  some-weight (one_thread (waiting s) ∷ front) bare some =
      let x = sum_by-cons (entry_potential weighs) (one_thread (waiting s)) front in omega (arith, x)
  some-weight (thread_group [] ∷ front) bare some =
      let x = sum_by-cons (entry_potential weighs) (thread_group []) front in let l = some-weight front bare some in omega (arith, x, l)
  some-weight (thread_group (running s ∷ ts) ∷ front) bare some =
      let x = sum_by-cons (entry_potential weighs) (thread_group (running s ∷ ts)) front in let one = allows.ready s.ip in omega (arith, x, one)
  some-weight (thread_group (waiting s ∷ ts) ∷ front) bare some =
      let x = sum_by-cons (entry_potential weighs) (thread_group (waiting s ∷ ts)) front in omega (arith, x)
  some-weight (key_record k ts ∷ front) bare some = absurd bare

  no-threads : (d : Direction) → search program text 0 d [] ≡ Some result_without_threads
  unfolding search
  no-threads d = refl

  -- An empty list of threads finds no end.
  finds-none : (d : Direction) (ts : List Thread) → FindEnd program text d ts → ts ≡ [] → ⊥
  finds-none d [] found none = let some = found 0 result_without_threads (no-threads d) in (let no : ⊥ = cc in no)
  finds-none d (u ∷ ts) found none = cc

  module _ (side : ℕ → Bool) (area : IsArea side program) (d : Direction) (memory : List Key) (first : List Thread) (work : ℕ) (now : List Key) (rest : List Entry) (s : State) (l : LookaroundInsn)
      (is : lookaround_at (slice_get program.insns s.ip) ≡ Some l) (covers : CoversContents t l.continuation s.ip) (h : IsAtLookaround program text t side d memory first work now rest s l)
      (turns : ℕ) (f : Found) (e : search program text turns l.inner (contents_of s) ≡ Some f) where
    abbrev left-behind : List Thread
    left-behind = after_lookaround l.negate (state_with_ip l.continuation s) f.end

    abbrev plan : IsMemoPlanForText program t text
    plan = ledgers-serve program t of text is_text bytes less

    abbrev Contents : (more : ℕ) → List Key → List Entry → Type 0
    Contents more now' row = ContentsHaveComeTo program text t side d memory first work now rest s l more now' row

    unrecorded : is_one_of (recorded t) s.ip ≡ false
    unrecorded = by (is_one_of (recorded t) s.ip) refl
      where
        by : (b : Bool) → is_one_of (recorded t) s.ip ≡ b → is_one_of (recorded t) s.ip ≡ false
        by false e = e
        by true e = let off = covers.silent in let never : true ≡ false = sym (recorded-is t s.ip e) ∙ off in cc

    ready-for-both : 1 + sum_by (entry_potential weighs) (thread_entries (contents_of s)) + sum_by (entry_potential weighs) (thread_entries left-behind)
        ≤ sum_by (entry_potential weighs) (one_thread (running s) ∷ [])
    ready-for-both =
        let w = potentials_of t in
        let x = one-weighs program w (key_cost_of t) (recorded t) (one_thread (running s)) in
        let y = one-weighs program w (key_cost_of t) (recorded t) (one_thread (running (state_at_next_ip s))) in
        let z = tries-weigh program w (key_cost_of t) (recorded t) left-behind in
        let resumed = weighs-no-more t l.negate (state_with_ip l.continuation s) f.end in
        let pays = of.paid.passed s.ip unrecorded in
        let both = covers.contents in
        omega (arith, x, y, z, resumed, pays, both)

    abbrev outer : SearchComesOn program text t side d memory first work now (one_thread (running s) ∷ rest) h.answers.turns h.answers.found
    outer = search-comes-on program t of text is_text bytes less side d memory first work now (one_thread (running s) ∷ rest) h h.answers.turns h.answers.found h.answers.searches

    -- The search around goes on, if keys of the contents are learned and pay for them.
    goes-on : (more : ℕ) (learned : List Key) → AreLearned program text (analysis_as_liveness t) (analysis_keys program text t) (one_thread (running s) ∷ rest) now learned
        → Each (λ (k : Key). is_in_contents s.ip l.continuation k.ip ≡ true) learned
        → more ≤ sum_by (entry_potential weighs) (thread_entries (contents_of s)) + sum_by costs learned
        → ReachesEntries program text t d memory (thread_entries first) (work + (more + 1)) (learned ++ now) (thread_entries left-behind ++ rest)
    goes-on more learned are inside taught =
        let searched : IsLookaroundContentsSearched program text (analysis_as_liveness t) (analysis_keys program text t) d costs weighs now learned
        (one_thread (running s) ∷ []) (thread_entries left-behind) rest (contents_of s) more = record {
          front_bare = tt;
          learns = are;
          new = keys-apart.new side program memory now s rest l is h.apart learned inside;
          distinct = outer.holds.distinct;
          taught = taught;
          gives = (plan.serves.looks d (learned ++ now) s l is).searched turns f e;
          ready = ready-for-both;
        } in
        let on = looks-pay program text (analysis_as_liveness t) (analysis_keys program text t) d costs weighs memory (thread_entries first) work now learned
        (one_thread (running s) ∷ []) (thread_entries left-behind) rest (contents_of s) more h.comes.comes searched in
        let same : work + (1 + more) ≡ work + (more + 1) = omega arith in
        record {
          comes = subst (λ n. ReachesBySteps program text (analysis_as_liveness t) (analysis_keys program text t) d costs weighs memory (thread_entries first) n (learned ++ now) (thread_entries left-behind ++ rest)) same on;
          keyed = keyed-joined program text t d (thread_entries left-behind) rest
              (keyed-tries program text t d left-behind (behind-keyed program t of allows.past text is_text bytes less d s l is turns f e h.comes.keyed.0)) h.comes.keyed.1;
        }

    covered : LookaroundIsCovered program text t side d memory first work now rest s l turns f
    covered = record {
      failed = λ more now' c.
          let learnt = looks-learn program text (analysis_as_liveness t) (analysis_keys program text t) plan.plan.liveness plan.serves.keys l.inner costs weighs (one_thread (running s) ∷ rest) now
          (contents_of s) turns f c.is_memory e more now' [] c.comes.comes in
          let same : c.apart.new ≡ learnt.new = append_cancel_right c.apart.new learnt.new now (sym c.apart.now_is ∙ learnt.now_is) in
          let paid = learnt.paid in
          let on = goes-on more learnt.new learnt.learned (subst (Each (λ (k : Key). is_in_contents s.ip l.continuation k.ip ≡ true)) same c.apart.learned) (omega (arith, paid)) in
          record {
            is_memory = h.is_memory;
            answers = h.answers;
            comes = subst (λ ks. ReachesEntries program text t d memory (thread_entries first) (work + (more + 1)) ks (thread_entries left-behind ++ rest)) (sym learnt.now_is) on;
            apart = (keys-apart.stays side program area allows.apart memory now rest).looks s l now' [] f.end is c.apart h.apart;
          };
      found = λ more now' front row c bare end.
          let contents = search-comes-on program t of text is_text bytes less (is_in_contents s.ip l.continuation) l.inner now (contents_of s) more now' (front ++ row) c turns f e in
          let succeed = (contents.found front row refl bare end).1 in
          let of_row : keys_in (front ++ row) ≡ keys_in row = keys-bare front row bare in
          let learnt = looks-learn program text (analysis_as_liveness t) (analysis_keys program text t) plan.plan.liveness plan.serves.keys l.inner costs weighs (one_thread (running s) ∷ rest) now
          (contents_of s) turns f c.is_memory e more now' (front ++ row) c.comes.comes in
          let same : c.apart.new ≡ learnt.new = append_cancel_right c.apart.new learnt.new now (sym c.apart.now_is ∙ learnt.now_is) in
          let all = learnt.found (subst (Each (KeySucceeds program text t)) (sym of_row) succeed) in
          let learned = keys_in row ++ learnt.new in
          let are = subst (λ ks. AreLearned program text (analysis_as_liveness t) (analysis_keys program text t) (one_thread (running s) ∷ rest) now (ks ++ learnt.new)) of_row all in
          let inside = Each-append (λ (k : Key). is_in_contents s.ip l.continuation k.ip ≡ true) (keys_in row) learnt.new
          (subst (Each (λ (k : Key). is_in_contents s.ip l.continuation k.ip ≡ true)) of_row c.apart.own.records)
          (subst (Each (λ (k : Key). is_in_contents s.ip l.continuation k.ip ≡ true)) same c.apart.learned) in
          let paid = (work-is-bounded program text (analysis_as_liveness t) (analysis_keys program text t) plan.plan.liveness plan.serves.keys l.inner costs weighs now (contents_of s) turns f c.is_memory e more now'
          (front ++ row) c.comes.comes).paid in
          let heavy = some-weight front bare (λ none. finds-none l.inner (threads_in front) end none) in
          let both = sum_by-append (entry_potential weighs) front row in
          let x = ap (λ ks. sum_by costs (ks ++ now')) of_row in
          let y = sum_by-append costs (keys_in row) now' in
          let z = ap (sum_by costs) learnt.now_is ∙ sum_by-append costs learnt.new now in
          let w = sum_by-append costs (keys_in row) learnt.new in
          let on = goes-on (more + 1) learned are inside (omega (arith, paid, heavy, both, x, y, z, w)) in
          let memory_is : learned ++ now ≡ keys_in row ++ now' = append_assoc (keys_in row) learnt.new now ∙ ap (λ ks. keys_in row ++ ks) (sym learnt.now_is) in
          record {
            is_memory = h.is_memory;
            answers = h.answers;
            comes = subst (λ ks. ReachesEntries program text t d memory (thread_entries first) (work + (more + 1 + 1)) ks (thread_entries left-behind ++ rest)) memory_is on;
            apart = subst (λ ks. IsSearchApart side program memory (ks ++ now') (thread_entries left-behind ++ rest)) of_row
                ((keys-apart.stays side program area allows.apart memory now rest).looks s l now' (front ++ row) f.end is c.apart h.apart);
          };
    }

pub looks-covered : LookaroundsThatRecordAreCovered
looks-covered program t of allows text is_text bytes less side area d memory first work now rest s l is covers h turns f e =
    covered program t of allows text is_text bytes less side area d memory first work now rest s l is covers h turns f e

-- ---- Contents that record nothing

pub silent-covered : SilentLookaroundsAreCovered
silent-covered program t of allows bounds text is_text bytes less side area d memory first work now rest s l is quiet h turns f e =
    let w = potentials_of t in
    let served_by = ledgers-serve program t of text is_text bytes less in
    let left = after_lookaround l.negate (state_with_ip l.continuation s) f.end in
    let x = one-weighs program w (key_cost_of t) (recorded t) (one_thread (running s)) in
    let y = tries-weigh program w (key_cost_of t) (recorded t) left in
    let none = ap (sum_by (λ (k : Key). key_cost_of t k.ip)) (keys-tries left) in
    let enough = silent-weighs program t of bounds text s l is quiet turns f e in
    (threads-come-on program t of allows text is_text bytes less side area d memory first work now rest).gives (f.steps + 1) (one_thread (running s) ∷ []) (thread_entries left) tt
    ((served_by.serves.looks d now s l is).searched turns f e) (omega (arith, x, y, none, enough))
    (keyed-tries program text t d left (behind-keyed program t of allows.past text is_text bytes less d s l is turns f e h.comes.keyed.0))
    (λ other is_side here. entries-of other left ((steps-stay.steps other program is_side.closed text d s here.threads.0).looks l f.end is)) h
