-- Searches of lookaround contents learn keys for the enclosing search, which may decide
-- lookarounds.
use Rattle.std.proofs.Common.{◌≡◌, ℕ, ◌+◌, ◌≤◌, List, [], ◌∷◌, ◌++◌, Option, Some, None, Bool, true, false, ◌||◌, refl, ap, ◌∙◌, sym, subst, arith, append_assoc, append-nil, sum_by}
use Rattle.std.specs.Prelude.{IsSome}
use Rattle.std.proofs.lemmas.List.Sums.{sum_by-append}
use Rattle.regex_meaning.specs.Laws.{Each}
use Rattle.regex_meaning.proofs.EachElementLemmas.{Each-append, Each-map, Each-left, Each-right}
use Rattle.regex_meaning.specs.Text.{Text, Direction}
use Rattle.regex_meaning.specs.CodeUnitOffsets.{units}
use Rattle.regex_meaning.specs.CompilationRelation.{Program}
use Rattle.regress_machine.specs.Machine.{State, Thread, running, Next, goes, scans, ends, asks, Found, after_lookaround, act, search}
use Rattle.regress_machine.specs.SearchFindsFirstOutcomeAtPlace.{state_before_first_insn}
use Rattle.regress_machine.specs.ThreadSimulation.{Simulates}
use Rattle.regress_machine.proofs.ThreadSimulationLemmas.{within-start, simulates-same, simulates-asks-any}
use Rattle.regress_machine.proofs.MachineSearchLemmas.{search_more}
use Rattle.regress_machine.proofs.ExecutorLoopLemmas.{left-ends}
use Rattle.regress_memo.specs.ThreadBisimulation.{AlikeEnds, AlikeNext}
use Rattle.regress_memo.specs.Liveness.{Liveness, World, IsLivenessFor, Agree, outermost}
use Rattle.regress_memo.specs.DistinctLists.{IsIn, IsNew, AreDistinct, AreIn}
use Rattle.regress_memo.specs.MemoSearch.{Key, Keys, Entry, one_thread, thread_group, key_record, IsBare, thread_entries, threads_in, keys_in, FindEnd, KeyStandsFor, AreKeys, Succeeds}
use Rattle.regress_memo.specs.MemoSearch.{IsKnown, known_to_reach, AreRightKeyRecords, AreAnswered, HoldsInvariant, ReachesBySteps, at_first, gives, reaches, learns}
use Rattle.regress_memo.specs.LookaroundsWithSharedMemo.{LookaroundsLearnKeys, FoundEndIsShared, SoundStatesLeaveSoundThreads, KnownResultsDecideLookarounds}
use Rattle.regress_memo.proofs.LivenessLemmas.{agree-of, agree-kept}
use Rattle.regress_memo.proofs.FailingThreadLists.{same-answers, row-ends}
use Rattle.regress_memo.proofs.DistinctListLemmas.{distinct-right, distinct-moved}
use Rattle.regress_memo.proofs.ThreadsThatFailAlone.{splits}
use Rattle.regress_memo.proofs.MemoSearchLemmas.{threads-joined, noted-below, answered-below, work-is-bounded}

-- `xs`, `ys` and `zs` are distinct if `xs` and `ys` each are with `zs` and no `ys` is in `xs`.
distinct-between : (xs ys zs : List Key) → AreDistinct (xs ++ zs) → AreDistinct (ys ++ zs) → Each (λ y. IsNew y xs) ys → AreDistinct (xs ++ (ys ++ zs))
distinct-between xs [] zs h k new = h
distinct-between xs (y ∷ ys) zs h k new =
    distinct-moved y xs (ys ++ zs) (Each-append (λ j. j ≡ y → ⊥) xs (ys ++ zs) new.0 k.0, distinct-between xs ys zs h k.1 new.1)

module _ (program : Program) (text : Text) (a : Liveness) (keys : Keys) (d : Direction) (key_cost : Key → ℕ) (weight : List Thread → ℕ) (memory : List Key) (row : List Entry) where
  grows : (work : ℕ) (now : List Key) (to : List Entry) → ReachesBySteps program text a keys d key_cost weight memory row work now to → (new : List Key) × (now ≡ new ++ memory)
  grows _ _ _ at_first = ([], refl)
  grows _ _ _ (gives work more now front entries rest b c g paid) = grows work now (front ++ rest) c
  grows _ _ _ (reaches work now k us rest c) = let g = grows work now (key_record k us ∷ rest) c in (k ∷ g.0, ap (λ ks. k ∷ ks) g.1)
  grows _ _ _ (learns work more now new rest c known distinct inside paid) =
      let g = grows work now rest c in (new ++ g.0, ap (λ ks. new ++ ks) g.1 ∙ sym (append_assoc new g.0 memory))

pub looks-learn : LookaroundsLearnKeys
looks-learn program text a keys acc are d key_cost weight outer memory us turns f m e work now row c =
    let g = grows program text a keys d key_cost weight memory (thread_entries us) work now row c in
    let h = work-is-bounded program text a keys acc are d key_cost weight memory us turns f m e work now row c in
    let new = g.0 in
    let is = g.1 in
    let paid = h.paid in
    let x = sum_by-append key_cost (keys_in row) now in
    let y = ap (sum_by key_cost) is ∙ sum_by-append key_cost new memory in
    let z = sum_by-append key_cost (keys_in row) new in
    let known = Each-left (IsKnown program text a keys) new memory (subst (Each (IsKnown program text a keys)) is h.stands.known) in
    let there = Each-left (λ k. IsIn k keys.all) new memory (subst (λ ks. AreIn ks keys.all) is (Each-right (λ k. IsIn k keys.all) (keys_in row) now h.stands.inside)) in
    let here = Each-left (λ k. IsIn k keys.all) (keys_in row) now h.stands.inside in
    let both : AreDistinct ((keys_in row ++ new) ++ memory) =
    subst AreDistinct (ap (λ ks. keys_in row ++ ks) is ∙ sym (append_assoc (keys_in row) new memory)) h.stands.distinct in
    let distinct = subst AreDistinct is (distinct-right (keys_in row) now h.stands.distinct) in
    record {
      new = new;
      now_is = is;
      learned = record { known = known; distinct = λ apart before. distinct-between (keys_in outer) new memory before distinct apart; inside = there };
      paid = omega (arith, paid, x, y);
      found = λ reach. record {
        known = Each-append (IsKnown program text a keys) (keys_in row) new (Each-map (Succeeds program text a keys) (IsKnown program text a keys) (λ k r. known_to_reach r) (keys_in row) reach) known;
        distinct = λ apart before. distinct-between (keys_in outer) (keys_in row ++ new) memory before both apart;
        inside = Each-append (λ k. IsIn k keys.all) (keys_in row) new here there;
      };
      found_paid = omega (arith, paid, x, y, z);
    }

module _ (program : Program) (text : Text) (d : Direction) where
  -- A search that begins with threads that find an end has an end.
  pub begins-found : (ts vs : List Thread) (n : ℕ) (f : Found) → FindEnd program text d ts → search program text n d (ts ++ vs) ≡ Some f → IsSome f.end
  begins-found ts vs n f found e =
      let x = splits program text d vs n n (omega arith) ts f e in
      let some = found n x.alone x.is in
      subst IsSome (sym (x.same_end some)) some

module _ (program : Program) (text : Text) (a : Liveness) (keys : Keys) (acc : IsLivenessFor program text a) (are : AreKeys program text a keys) (d : Direction) where
  some-alike : (x y : Option State) → AlikeEnds (Agree a (units text) outermost d) x y → IsSome x → IsSome y
  some-alike None y h i = cc
  some-alike (Some x) None h i = absurd h
  some-alike (Some x) (Some y) h i = refl

  reaches-all : (k : Key) (us : List Thread) (n : ℕ) (f : Found) → KeyStandsFor program text a keys d k us → search program text n d us ≡ Some f → IsSome f.end → Succeeds program text a keys k
  reaches-all k us n f is e some c ts of = by c (are.one_way d c k us ts is of) of
    where
      by : (c : Direction) → d ≡ c → KeyStandsFor program text a keys c k ts → (m : ℕ) (g : Found) → search program text m c ts ≡ Some g → IsSome g.end
      by c same of m g q =
          let here = subst (λ c. KeyStandsFor program text a keys c k ts) (sym same) of in
          let q' = subst (λ c. search program text m c ts ≡ Some g) (sym same) q in
          let x = search_more program text n (n + m) (omega arith) d us f e in
          let y = search_more program text m (n + m) (omega arith) d ts g q' in
          some-alike f.end g.end (same-answers program text a acc d (n + m) us ts f g (are.alike d k us ts is here) x y).1 some

  pub found-shared : (ts : List Thread) → FindEnd program text d ts → (front : List Thread) (rest : List Entry) → AreRightKeyRecords program text a keys d (ts ++ front) rest → AreAnswered program text d rest
      → Each (Succeeds program text a keys) (keys_in rest)
  found-shared ts found front [] h q = tt
  found-shared ts found front (one_thread u ∷ rest) h q =
      found-shared ts found (front ++ u ∷ []) rest (subst (λ vs. AreRightKeyRecords program text a keys d vs rest) (append_assoc ts front (u ∷ [])) h) q
  found-shared ts found front (thread_group us ∷ rest) h q =
      found-shared ts found (front ++ us) rest (subst (λ vs. AreRightKeyRecords program text a keys d vs rest) (append_assoc ts front us) h) q
  found-shared ts found front (key_record k us ∷ rest) h q =
      let n = q.0.turns in
      let f = q.0.found in
      let w = h.0.simulates.within n [] f (ap (search program text n d) (append-nil us) ∙ q.0.searches) in
      let e = ap (search program text n d) (sym (append_assoc ts front [])) ∙ w.searches in
      let some : IsSome f.end = subst IsSome w.end (begins-found program text d ts (front ++ []) n w.found found e) in
      (reaches-all k us n f h.0.is_of q.0.searches some, found-shared ts found front rest h.1 q.1)

  row-found : (memory : List Key) (front rest : List Entry) (f : Found) → IsBare front → FindEnd program text d (threads_in front) → HoldsInvariant program text a keys d memory (front ++ rest) f
      → IsSome f.end × Each (Succeeds program text a keys) (keys_in rest)
  row-found memory front rest f b found h =
      let ts = threads_in front in
      let w = h.within in
      let e = ap (search program text h.turns d) (sym (threads-joined front rest)) ∙ w.searches in
      let below = noted-below program text a keys d front rest h.noted in (
        subst IsSome w.end (begins-found program text d ts (threads_in rest) h.turns w.found found e),
        found-shared ts found [] rest (subst (λ vs. AreRightKeyRecords program text a keys d vs rest) (sym (append-nil ts)) below) (answered-below program text a keys d front rest b h.answered),
      )

module _ (program : Program) (text : Text) (d : Direction) where
  ends-found-here : (s t : State) → act program text d s ≡ ends t → FindEnd program text d (running s ∷ [])
  ends-found-here s t is n f e =
      let w = within-start program text false n d (running s ∷ []) f e in
      let over = left-ends program text false n d 0 s t [] f is w in
      subst IsSome over.ends_so refl

pub success-shared : FoundEndIsShared
success-shared program text a keys acc are d = record {
  ends = ends-found-here program text d;
  shared = λ memory front rest f b found h. row-found program text a keys acc are d memory front rest f b found h;
}

-- ---- Threads stay sound

module _ (program : Program) (text : Text) (a : Liveness) (acc : IsLivenessFor program text a) (d : Direction) where
  abbrev SoundNext : World → Next → Type 0
  SoundNext w x = AlikeNext (λ w d. Agree a (units text) w d) w d x x

  next-sound : (w : World) (s : State) (x : Next) → Agree a (units text) w d s s → act program text d s ≡ x → SoundNext w x
  next-sound w s x g e = subst (SoundNext w) e ((agree-kept program text a acc).kept w d s s g)

  begins-sound : (at : ℕ) → at ≤ units text → ((l : ℕ) → a.inside 0 l ≡ false) → Agree a (units text) outermost d (state_before_first_insn program at) (state_before_first_insn program at)
  begins-sound at le out =
      agree-of a (units text) _ _ _ _ refl refl le refl (λ e. refl) refl (λ id e. refl) refl
      (λ l h. let no_loop = out l in cc)
      (λ l e. cc)

  agree-outermost : (w : World) (s t : State) → Agree a (units text) w d s t → Agree a (units text) outermost d s t
  agree-outermost w s t g =
      agree-of a (units text) _ _ _ _ g.ip g.pos g.within g.as_many_groups g.groups g.as_many_starts (λ id e. g.starts id (either-way (a.start s.ip id) (w.starts id) e)) g.as_many_loops
      g.loops
      (λ l e. cc)
    where
      either-way : (b c : Bool) → (b || false) ≡ true → (b || c) ≡ true
      either-way true c e = refl
      either-way false c e = cc

pub soundness-stays : SoundStatesLeaveSoundThreads
soundness-stays program text a acc d = record {
  at_first = begins-sound program text a acc d;
  goes = λ w s ts g e. next-sound program text a acc d w s (goes ts) g e;
  scans = λ w s n ts g e. (next-sound program text a acc d w s (scans n ts) g e).1;
  asks = λ w inner negate s u t g e. (next-sound program text a acc d w s (asks inner negate u t) g e).2;
  outer = agree-outermost program text a acc d;
}

-- ---- Lookarounds that known keys decide

module _ (program : Program) (text : Text) (d : Direction) where
  resumed-none : (negate : Bool) (t : State) (e : Option State) → e ≡ None → Simulates program text false d 0 (after_lookaround negate t None) (after_lookaround negate t e)
  resumed-none negate t e is = subst (λ e. Simulates program text false d 0 (after_lookaround negate t None) (after_lookaround negate t e)) (sym is) (simulates-same program text false d (after_lookaround negate t None))

  resumed-some : (t : State) (e : Option State) → IsSome e → Simulates program text false d 0 [] (after_lookaround true t e)
  resumed-some t None h = cc
  resumed-some t (Some x) h = simulates-same program text false d []

pub looks-decided : KnownResultsDecideLookarounds
looks-decided program text d = record {
  fails = λ inner negate s u t is none.
      simulates-asks-any program text d inner negate s u t 0 (after_lookaround negate t None) is (λ k g e. resumed-none program text d negate t g.end (row-ends program text inner k (running u ∷ []) g none e));
  reaches = λ inner s u t is some. simulates-asks-any program text d inner true s u t 0 [] is (λ k g e. resumed-some program text d t g.end (some k g e));
}
