-- Memo steps keep the invariant of a search, so its result is right and its work is bounded.
use Rattle.std.proofs.Common.{◌≡◌, ℕ, ◌+◌, ◌≤◌, List, [], ◌∷◌, ◌++◌, Some, false, refl, ap, ◌∙◌, sym, subst, arith, append_assoc, append-nil, sum_by}
use Rattle.std.proofs.lemmas.List.Sums.{sum_by-cons, sum_by-append}
use Rattle.regex_meaning.specs.Laws.{Each}
use Rattle.regex_meaning.proofs.EachElementLemmas.{Each-append, Each-map, Each-left, Each-right}
use Rattle.regex_meaning.specs.Text.{Text, Direction, rightwards, leftwards}
use Rattle.regex_meaning.specs.CompilationRelation.{Program}
use Rattle.regress_machine.specs.Machine.{Thread, Found, search}
use Rattle.regress_machine.specs.ThreadSimulation.{Within, Simulates, AllFindNothing}
use Rattle.regress_machine.proofs.ThreadSimulationLemmas.{within-start, within-simulates, simulates-fewer, simulates-then, simulates-before}
use Rattle.regress_memo.specs.Liveness.{Liveness, IsLivenessFor}
use Rattle.regress_memo.specs.DistinctLists.{IsIn, IsNew, AreDistinct, AreIn}
use Rattle.regress_memo.specs.MemoSearch.{Key, Keys, Entry, one_thread, thread_group, key_record, IsBare, thread_entries, threads_in, keys_in, offset_of_thread, AreOnward, GoesOnward, HoldsInvariant}
use Rattle.regress_memo.specs.MemoSearch.{InvariantKeepingSteps, StepsKeepInvariant}
use Rattle.regress_memo.specs.MemoSearch.{entry_potential, Answers, KeyStandsFor, AreKeys, Fails, IsKnown, known_to_fail, IsMemory, AreRightKeyRecords, AreAnswered, IsOpened, AreOpened, IsMemoStep}
use Rattle.regress_memo.specs.MemoSearch.{ReachesBySteps, at_first, gives, reaches, learns, PendingRecordsStayRight}
use Rattle.regress_memo.specs.MemoSearch.{RightwardSearchesNeverMoveLeft, KeepsResultWithinPotential, WorkIsBounded}
use Rattle.regress_memo.specs.StepSoundness.{IsSoundStep}
use Rattle.regress_memo.specs.SuccessOfThreadLists.{KeyFailsWhenRecordReached}
use Rattle.regress_memo.proofs.ThreadsThatFailAlone.{splits}
use Rattle.regress_memo.proofs.FailingThreadLists.{row-takes, row-shared, same-answers}
use Rattle.regress_memo.proofs.DistinctListLemmas.{distinct-moved, in-moved, sum-moved, distinct-joined, cost-few}

-- ---- Rows of entries

pub threads-tries : (ts : List Thread) → threads_in (thread_entries ts) ≡ ts
threads-tries [] = refl
threads-tries (t ∷ ts) = ap (λ us. t ∷ us) (threads-tries ts)

pub keys-tries : (ts : List Thread) → keys_in (thread_entries ts) ≡ []
keys-tries [] = refl
keys-tries (t ∷ ts) = keys-tries ts

pub threads-joined : (xs ys : List Entry) → threads_in (xs ++ ys) ≡ threads_in xs ++ threads_in ys
threads-joined [] ys = refl
threads-joined (one_thread t ∷ xs) ys = ap (λ us. t ∷ us) (threads-joined xs ys)
threads-joined (thread_group ts ∷ xs) ys = ap (λ us. ts ++ us) (threads-joined xs ys) ∙ sym (append_assoc ts (threads_in xs) (threads_in ys))
threads-joined (key_record k ts ∷ xs) ys = threads-joined xs ys

pub keys-joined : (xs ys : List Entry) → keys_in (xs ++ ys) ≡ keys_in xs ++ keys_in ys
keys-joined [] ys = refl
keys-joined (one_thread t ∷ xs) ys = keys-joined xs ys
keys-joined (thread_group ts ∷ xs) ys = keys-joined xs ys
keys-joined (key_record k ts ∷ xs) ys = ap (λ ks. k ∷ ks) (keys-joined xs ys)

-- Bare entries add no keys to those of the entries behind them.
pub keys-bare : (front rest : List Entry) → IsBare front → keys_in (front ++ rest) ≡ keys_in rest
keys-bare [] rest b = refl
keys-bare (one_thread t ∷ front) rest b = keys-bare front rest b
keys-bare (thread_group ts ∷ front) rest b = keys-bare front rest b
keys-bare (key_record k ts ∷ front) rest b = absurd b

onward-none : (d : Direction) (ts : List Thread) → GoesOnward d ts []
onward-none rightwards [] = refl
onward-none rightwards (t ∷ ts) = tt
onward-none leftwards ts = tt

-- Joined entries go onward if both parts do and no key of the second is ahead of the first.
onward-joined : (from at : ℕ) → from ≤ at → (entries rest : List Entry) → AreOnward at entries → Each (λ k. k.at ≤ at) (keys_in rest) → AreOnward from rest → AreOnward from (entries ++ rest)
onward-joined from at le [] rest h below k = k
onward-joined from at le (one_thread t ∷ xs) rest h below k =
    let here = h.0 in (
      omega (arith, le, here),
      subst (λ ks. Each (λ k. k.at ≤ offset_of_thread t) ks) (sym (keys-joined xs rest))
          (Each-append (λ k. k.at ≤ offset_of_thread t) (keys_in xs) (keys_in rest) h.1 (Each-map (λ k. k.at ≤ at) (λ k. k.at ≤ offset_of_thread t) (λ k l. omega (arith, here, l)) (keys_in rest) below)),
      onward-joined from at le xs rest h.2 below k,
    )
onward-joined from at le (thread_group ts ∷ xs) rest h below q = (both ts h.0, onward-joined from at le xs rest h.1 below q)
  where
    both : (ts : List Thread) → Each (λ t. (at ≤ offset_of_thread t) × Each (λ k. k.at ≤ offset_of_thread t) (keys_in xs)) ts → Each (λ t. (from ≤ offset_of_thread t) × Each (λ k. k.at ≤ offset_of_thread t) (keys_in (xs ++ rest))) ts
    both [] h = tt
    both (t ∷ ts) h =
        let here = h.0.0 in (
          (
            omega (arith, le, here),
            subst (λ ks. Each (λ k. k.at ≤ offset_of_thread t) ks) (sym (keys-joined xs rest))
                (Each-append (λ k. k.at ≤ offset_of_thread t) (keys_in xs) (keys_in rest) h.0.1 (Each-map (λ k. k.at ≤ at) (λ k. k.at ≤ offset_of_thread t) (λ k l. omega (arith, here, l)) (keys_in rest) below)),
          ),
          both ts h.1,
        )
onward-joined from at le (key_record k ts ∷ xs) rest h below q = let here = h.0 in (omega (arith, le, here), onward-joined from at le xs rest h.1 below q)

onward-rest : (from : ℕ) (front rest : List Entry) → IsBare front → AreOnward from (front ++ rest) → AreOnward from rest
onward-rest from [] rest b h = h
onward-rest from (one_thread t ∷ front) rest b h = onward-rest from front rest b h.2
onward-rest from (thread_group ts ∷ front) rest b h = onward-rest from front rest b h.1
onward-rest from (key_record k ts ∷ front) rest b h = absurd b

-- The first thread of bare entries is neither before `from` nor before any key below.
onward-head : (from : ℕ) (front rest : List Entry) → IsBare front → AreOnward from (front ++ rest) → (t : Thread) (ts : List Thread) → threads_in front ≡ t ∷ ts
    → (from ≤ offset_of_thread t) × Each (λ k. k.at ≤ offset_of_thread t) (keys_in rest)
onward-head from [] rest b h t ts e = cc
onward-head from (one_thread u ∷ front) rest b h t ts e =
    let same : u ≡ t = cc in
    subst (λ t. (from ≤ offset_of_thread t) × Each (λ k. k.at ≤ offset_of_thread t) (keys_in rest)) same (h.0, subst (λ ks. Each (λ k. k.at ≤ offset_of_thread u) ks) (keys-bare front rest b) h.1)
onward-head from (thread_group [] ∷ front) rest b h t ts e = onward-head from front rest b h.1 t ts e
onward-head from (thread_group (u ∷ us) ∷ front) rest b h t ts e =
    let same : u ≡ t = cc in
    subst (λ t. (from ≤ offset_of_thread t) × Each (λ k. k.at ≤ offset_of_thread t) (keys_in rest)) same (h.0.0.0, subst (λ ks. Each (λ k. k.at ≤ offset_of_thread u) ks) (keys-bare front rest b) h.0.0.1)
onward-head from (key_record k us ∷ front) rest b h t ts e = absurd b

onward-turn : (from : ℕ) (d : Direction) → d ≡ rightwards → (front entries rest : List Entry) → IsBare front → GoesOnward d (threads_in front) entries → AreOnward from (front ++ rest) → AreOnward from (entries ++ rest)
onward-turn from leftwards e front entries rest b g h = cc
onward-turn from rightwards e front entries rest b g h = by (threads_in front) refl g
  where
    by : (ts : List Thread) → threads_in front ≡ ts → GoesOnward rightwards ts entries → AreOnward from (entries ++ rest)
    by [] e g = subst (λ xs. AreOnward from (xs ++ rest)) (sym g) (onward-rest from front rest b h)
    by (t ∷ ts) e g = let x = onward-head from front rest b h t ts e in onward-joined from (offset_of_thread t) x.0 entries rest g x.1 (onward-rest from front rest b h)

-- A memo step is a sound step.
pub given : (program : Program) (text : Text) (a : Liveness) (keys : Keys) (d : Direction) (memory : List Key) (ts : List Thread) (entries : List Entry)
    → IsMemoStep program text a keys d memory ts entries → IsSoundStep program text a keys d memory ts entries
given program text a keys d memory ts entries g = record {
  spent = g.spent;
  simulates = g.simulates;
  noted = g.noted;
  opened = g.opened;
  distinct = g.distinct;
}

module _ (program : Program) (text : Text) (a : Liveness) (keys : Keys) (d : Direction) where
  abbrev AreRight : List Thread → List Entry → Type 0
  AreRight above row = AreRightKeyRecords program text a keys d above row

  noted-joined : (above : List Thread) (xs ys : List Entry) → AreRight above xs → AreRight (above ++ threads_in xs) ys → AreRight above (xs ++ ys)
  noted-joined above [] ys h k = subst (λ ts. AreRight ts ys) (append-nil above) k
  noted-joined above (one_thread t ∷ xs) ys h k = noted-joined (above ++ t ∷ []) xs ys h (subst (λ ts. AreRight ts ys) (sym (append_assoc above (t ∷ []) (threads_in xs))) k)
  noted-joined above (thread_group ts ∷ xs) ys h k = noted-joined (above ++ ts) xs ys h (subst (λ vs. AreRight vs ys) (sym (append_assoc above ts (threads_in xs))) k)
  noted-joined above (key_record j us ∷ xs) ys h k = (h.0, noted-joined above xs ys h.1 k)

  noted-right : (above : List Thread) (xs ys : List Entry) → AreRight above (xs ++ ys) → AreRight (above ++ threads_in xs) ys
  noted-right above [] ys h = subst (λ ts. AreRight ts ys) (sym (append-nil above)) h
  noted-right above (one_thread t ∷ xs) ys h = subst (λ ts. AreRight ts ys) (append_assoc above (t ∷ []) (threads_in xs)) (noted-right (above ++ t ∷ []) xs ys h)
  noted-right above (thread_group ts ∷ xs) ys h = subst (λ vs. AreRight vs ys) (append_assoc above ts (threads_in xs)) (noted-right (above ++ ts) xs ys h)
  noted-right above (key_record j us ∷ xs) ys h = noted-right above xs ys h.1

  -- Records stay right if the first threads are replaced by ones that simulate them.
  noted-simulates : (n : ℕ) (us ts : List Thread) → Simulates program text false d n us ts → (front : List Thread) (row : List Entry) → AreRight (ts ++ front) row → AreRight (us ++ front) row
  noted-simulates n us ts s front [] h = tt
  noted-simulates n us ts s front (one_thread t ∷ row) h =
      subst (λ vs. AreRight vs row) (sym (append_assoc us front (t ∷ []))) (noted-simulates n us ts s (front ++ t ∷ []) row (subst (λ vs. AreRight vs row) (append_assoc ts front (t ∷ [])) h))
  noted-simulates n us ts s front (thread_group ws ∷ row) h =
      subst (λ vs. AreRight vs row) (sym (append_assoc us front ws)) (noted-simulates n us ts s (front ++ ws) row (subst (λ vs. AreRight vs row) (append_assoc ts front ws) h))
  noted-simulates n us ts s front (key_record k vs ∷ row) h = (
    record {
      is_of = h.0.is_of;
      simulates =
          simulates-fewer program text d (keys.taken k) (keys.taken k + n) (us ++ front) vs (omega arith)
          (simulates-then program text false d (keys.taken k) n vs (ts ++ front) (us ++ front) h.0.simulates (simulates-before program text false d n us ts front s));
    },
    noted-simulates n us ts s front row h.1,
  )

  pub noted-stay : (spent : ℕ) (ts : List Thread) (entries rest : List Entry) → Simulates program text false d spent (threads_in entries) ts
      → AreRight [] entries → AreRight ts rest → AreRight [] (entries ++ rest)
  noted-stay n ts entries rest s h k =
      noted-joined [] entries rest h
      (subst (λ us. AreRight us rest) (append-nil (threads_in entries)) (noted-simulates n (threads_in entries) ts s [] rest (subst (λ us. AreRight us rest) (sym (append-nil ts)) k)))

  -- Records below some entries are right with the threads of these above them.
  pub noted-below : (front rest : List Entry) → AreRight [] (front ++ rest) → AreRight (threads_in front) rest
  noted-below front rest h = noted-right [] front rest h

  pub noted-none : (above ts : List Thread) → AreRight above (thread_entries ts)
  noted-none above [] = tt
  noted-none above (t ∷ ts) = noted-none (above ++ t ∷ []) ts

  abbrev Answered : List Entry → Type 0
  Answered row = AreAnswered program text d row

  pub answered-joined : (xs ys : List Entry) → Answered xs → Answered ys → Answered (xs ++ ys)
  answered-joined [] ys h k = k
  answered-joined (one_thread t ∷ xs) ys h k = answered-joined xs ys h k
  answered-joined (thread_group ts ∷ xs) ys h k = answered-joined xs ys h k
  answered-joined (key_record j us ∷ xs) ys h k = (h.0, answered-joined xs ys h.1 k)

  pub answered-below : (front rest : List Entry) → IsBare front → Answered (front ++ rest) → Answered rest
  answered-below [] rest b h = h
  answered-below (one_thread t ∷ front) rest b h = answered-below front rest b h
  answered-below (thread_group ts ∷ front) rest b h = answered-below front rest b h
  answered-below (key_record k ts ∷ front) rest b h = absurd b

  pub answered-none : (ts : List Thread) → Answered (thread_entries ts)
  answered-none [] = tt
  answered-none (t ∷ ts) = answered-none ts

  -- If threads simulate ones whose search answers, the first of them answer.
  pub answers-first : (n turns : ℕ) (us others ts vs : List Thread) (f : Found) → Simulates program text false d n (us ++ others) ts → search program text turns d (ts ++ vs) ≡ Some f
      → Answers program text d us
  answers-first n turns us others ts vs f s e =
      let w = s.within turns vs f e in
      let x = splits program text d (others ++ vs) turns turns (omega arith) us w.found (ap (search program text turns d) (sym (append_assoc us others vs)) ∙ w.searches) in
      record { turns = turns; found = x.alone; searches = x.is }

  module _ (memory : List Key) (ts : List Thread) where
    opened-answer : (turns : ℕ) (vs : List Thread) (f : Found) → search program text turns d (ts ++ vs) ≡ Some f → (entries : List Entry) → AreOpened program text a keys d memory ts entries → Answered entries
    opened-answer turns vs f e [] h = tt
    opened-answer turns vs f e (one_thread t ∷ xs) h = opened-answer turns vs f e xs h
    opened-answer turns vs f e (thread_group us ∷ xs) h = opened-answer turns vs f e xs h
    opened-answer turns vs f e (key_record k us ∷ xs) h = (answers-first h.0.spent turns us h.0.others ts vs f h.0.comes e, opened-answer turns vs f e xs h.1)

  pub turns-go-on : (key_cost : Key → ℕ) (weight : List Thread → ℕ) (memory : List Key) (ts : List Thread) (from work : ℕ) (now : List Key) (row : List Entry) → d ≡ rightwards → AreOnward from (thread_entries ts)
      → ReachesBySteps program text a keys d key_cost weight memory (thread_entries ts) work now row → AreOnward from row
  turns-go-on key_cost weight memory ts from _ _ _ e h at_first = h
  turns-go-on key_cost weight memory ts from _ _ _ e h (gives work more now front entries rest b c g paid) =
      onward-turn from d e front entries rest b g.onward (turns-go-on key_cost weight memory ts from work now (front ++ rest) e h c)
  turns-go-on key_cost weight memory ts from _ _ _ e h (reaches work now k us rest c) = (turns-go-on key_cost weight memory ts from work now (key_record k us ∷ rest) e h c).1
  turns-go-on key_cost weight memory ts from _ _ _ e h (learns work more now new rest c known distinct inside paid) = turns-go-on key_cost weight memory ts from work now rest e h c

  module _ (acc : IsLivenessFor program text a) (are : AreKeys program text a keys) where
    -- No record below is of a key that is opened.
    returns-not : (memory : List Key) (ts : List Thread) (k : Key) (us : List Thread) → KeyStandsFor program text a keys d k us → IsOpened program text a keys d memory ts k us
        → (front : List Thread) (rest : List Entry) → AreRight (ts ++ front) rest → Answered rest → IsNew k (keys_in rest)
    returns-not memory ts k us is o front [] h q = tt
    returns-not memory ts k us is o front (one_thread t ∷ rest) h q =
        returns-not memory ts k us is o (front ++ t ∷ []) rest (subst (λ vs. AreRight vs rest) (append_assoc ts front (t ∷ [])) h) q
    returns-not memory ts k us is o front (thread_group ws ∷ rest) h q = returns-not memory ts k us is o (front ++ ws) rest (subst (λ vs. AreRight vs rest) (append_assoc ts front ws) h) q
    returns-not memory ts k us is o front (key_record j vs ∷ rest) h q = (λ same. wrong same, returns-not memory ts k us is o front rest h.1 q.1)
      where
        wrong : j ≡ k → ⊥
        wrong same =
            let m = keys.taken j in
            let of = subst (λ i. KeyStandsFor program text a keys d i vs) same h.0.is_of in
            let taken = ap keys.taken same in
            let s =
            simulates-then program text false d m o.spent vs (ts ++ front) ((us ++ o.others) ++ front) h.0.simulates (simulates-before program text false d o.spent (us ++ o.others) ts front o.comes) in
            let n = q.0.turns in
            let f = q.0.found in
            let w = s.within n [] f (ap (search program text n d) (append-nil vs) ∙ q.0.searches) in
            let e : us ++ (o.others ++ front) ≡ ((us ++ o.others) ++ front) ++ [] = sym (append_assoc us o.others front) ∙ sym (append-nil ((us ++ o.others) ++ front)) in
            let x = splits program text d (o.others ++ front) n n (omega arith) us w.found (ap (search program text n d) e ∙ w.searches) in
            let steps = (same-answers program text a acc d n us vs x.alone f (are.alike d k us vs is of) x.is q.0.searches).0 in
            let few = w.few in
            let less = x.few in
            let some = o.some in
            omega (arith, steps, few, less, some, taken)

    opened-new : (memory : List Key) (ts : List Thread) (rest : List Entry) → AreRight ts rest → Answered rest → (above : List Thread) (entries : List Entry) → AreRight above entries
        → AreOpened program text a keys d memory ts entries → Each (λ k. IsNew k (keys_in rest ++ memory)) (keys_in entries)
    opened-new memory ts rest h q above [] n o = tt
    opened-new memory ts rest h q above (one_thread t ∷ xs) n o = opened-new memory ts rest h q (above ++ t ∷ []) xs n o
    opened-new memory ts rest h q above (thread_group us ∷ xs) n o = opened-new memory ts rest h q (above ++ us) xs n o
    opened-new memory ts rest h q above (key_record k us ∷ xs) n o = (
      Each-append (λ j. j ≡ k → ⊥) (keys_in rest) memory (returns-not memory ts k us n.0.is_of o.0 [] rest (subst (λ vs. AreRight vs rest) (sym (append-nil ts)) h) q) o.0.new,
      opened-new memory ts rest h q above xs n.1 o.1,
    )

    noted-inside : (above : List Thread) (entries : List Entry) → AreRight above entries → AreIn (keys_in entries) keys.all
    noted-inside above [] h = tt
    noted-inside above (one_thread t ∷ xs) h = noted-inside (above ++ t ∷ []) xs h
    noted-inside above (thread_group us ∷ xs) h = noted-inside (above ++ us) xs h
    noted-inside above (key_record k us ∷ xs) h = (are.inside d k us h.0.is_of, noted-inside above xs h.1)

    abbrev Holds : List Key → List Entry → Found → Type 0
    Holds memory row f = HoldsInvariant program text a keys d memory row f

    turn-begins : (memory : List Key) (ts : List Thread) (turns : ℕ) (f : Found) → IsMemory program text a keys memory → search program text turns d ts ≡ Some f → Holds memory (thread_entries ts) f
    turn-begins memory ts turns f m e = record {
      turns = turns;
      within = subst (λ us. Within program text false turns d 0 us f) (sym (threads-tries ts)) (within-start program text false turns d ts f e);
      known = m.known;
      noted = noted-none [] ts;
      answered = answered-none ts;
      distinct = subst (λ ks. AreDistinct (ks ++ memory)) (sym (keys-tries ts)) m.distinct;
      inside = subst (λ ks. AreIn (ks ++ memory) keys.all) (sym (keys-tries ts)) m.inside;
    }

    pub turn-left : (memory : List Key) (front entries rest : List Entry) (f : Found) → IsBare front → IsSoundStep program text a keys d memory (threads_in front) entries → Holds memory (front ++ rest) f → Holds memory (entries ++ rest) f
    turn-left memory front entries rest f b g h =
        let ts = threads_in front in
        let n = h.turns in
        let w = subst (λ us. Within program text false n d 0 us f) (threads-joined front rest) h.within in
        let v = within-simulates program text false n d 0 g.spent (threads_in entries) ts (threads_in rest) f g.simulates w in
        let few = v.few in
        let below = noted-below front rest h.noted in
        let answered = answered-below front rest b h.answered in
        let distinct = subst (λ ks. AreDistinct (ks ++ memory)) (keys-bare front rest b) h.distinct in
        let inside = subst (λ ks. AreIn (ks ++ memory) keys.all) (keys-bare front rest b) h.inside in
        let same : keys_in entries ++ (keys_in rest ++ memory) ≡ keys_in (entries ++ rest) ++ memory =
        sym (append_assoc (keys_in entries) (keys_in rest) memory) ∙ ap (λ ks. ks ++ memory) (sym (keys-joined entries rest)) in
        record {
          turns = n;
          within = subst (λ us. Within program text false n d 0 us f) (sym (threads-joined entries rest))
              (record { found = v.found; searches = v.searches; end = v.end; few = omega (arith, few); counted = λ x. cc });
          known = h.known;
          noted = noted-stay g.spent ts entries rest g.simulates g.noted below;
          answered = answered-joined entries rest (opened-answer memory ts n (threads_in rest) w.found w.searches entries g.opened) answered;
          distinct = subst AreDistinct same (distinct-joined (keys_in entries) (keys_in rest ++ memory) g.distinct (opened-new memory ts rest below answered [] entries g.noted g.opened) distinct);
          inside = subst (λ ks. AreIn ks keys.all) same (Each-append (λ j. IsIn j keys.all) (keys_in entries) (keys_in rest ++ memory) (noted-inside [] entries g.noted) inside);
        }

    turn-turned : (memory : List Key) (front entries rest : List Entry) (f : Found) → IsBare front → IsMemoStep program text a keys d memory (threads_in front) entries → Holds memory (front ++ rest) f → Holds memory (entries ++ rest) f
    turn-turned memory front entries rest f b g h = turn-left memory front entries rest f b (given program text a keys d memory (threads_in front) entries g) h

    pub fails-all : (k : Key) (ts : List Thread) → KeyStandsFor program text a keys d k ts → AllFindNothing program text d ts → Fails program text a keys k
    fails-all k ts is none e us of =
        by e (are.one_way d e k ts us is of) of
      where
        by : (e : Direction) → d ≡ e → KeyStandsFor program text a keys e k us → AllFindNothing program text e us
        by e same of =
            let here = subst (λ c. KeyStandsFor program text a keys c k us) (sym same) of in
            subst (λ c. AllFindNothing program text c us) same (row-shared program text a acc d ts us (are.alike d k ts us is here) none)

    record-fails : (memory : List Key) (k : Key) (ts : List Thread) (rest : List Entry) (f : Found) → Holds memory (key_record k ts ∷ rest) f → Fails program text a keys k
    record-fails memory k ts rest f h =
        fails-all k ts h.noted.0.is_of (simulates-fewer program text d 0 (keys.taken k) [] ts (omega arith) h.noted.0.simulates)

    turn-reached : (memory : List Key) (k : Key) (ts : List Thread) (rest : List Entry) (f : Found) → Holds memory (key_record k ts ∷ rest) f → Holds (k ∷ memory) rest f
    turn-reached memory k ts rest f h = record {
      turns = h.turns;
      within = h.within;
      known = (known_to_fail (record-fails memory k ts rest f h), h.known);
      noted = h.noted.1;
      answered = h.answered.1;
      distinct = distinct-moved k (keys_in rest) memory h.distinct;
      inside = in-moved k (keys_in rest) memory keys.all h.inside;
    }

    pub turns-of : InvariantKeepingSteps program text a keys d
    turns-of = record {
      begins = turn-begins;
      dropped = λ memory k ts fails is. record {
        spent = 0;
        simulates = fails d ts is;
        noted = tt;
        opened = tt;
        distinct = tt;
        onward = onward-none d ts;
      };
      takes = λ t ts none. row-takes program text d t ts none;
      turned = turn-turned;
      reached = turn-reached;
    }

    -- ---- Work of a search

    module _ (key_cost : Key → ℕ) (weight : List Thread → ℕ) (memory : List Key) (ts : List Thread) (n : ℕ) (f : Found) (m : IsMemory program text a keys memory) (e : search program text n d ts ≡ Some f) where
      abbrev Paid : ℕ → List Key → List Entry → Type 0
      Paid work now row = work + sum_by (entry_potential weight) row + sum_by key_cost memory ≤ sum_by (entry_potential weight) (thread_entries ts) + sum_by key_cost (keys_in row ++ now)

      work-done : (work : ℕ) (now : List Key) (row : List Entry) → ReachesBySteps program text a keys d key_cost weight memory (thread_entries ts) work now row → Holds now row f × Paid work now row
      work-done _ _ _ at_first =
          let y = ap (λ ks. sum_by key_cost (ks ++ memory)) (keys-tries ts) in
          (turn-begins memory ts n f m e, omega (arith, y))
      work-done _ _ _ (gives work more now front entries rest b c g paid) =
          let h = work-done work now (front ++ rest) c in
          let before = h.1 in
          let x = sum_by-append (entry_potential weight) front rest in
          let z = sum_by-append (entry_potential weight) entries rest in
          let k = ap (λ ks. sum_by key_cost (ks ++ now)) (keys-bare front rest b) in
          let l = ap (λ ks. sum_by key_cost (ks ++ now)) (keys-joined entries rest) in
          let o = ap (sum_by key_cost) (append_assoc (keys_in entries) (keys_in rest) now) in
          let p = sum_by-append key_cost (keys_in entries) (keys_in rest ++ now) in
          (turn-turned now front entries rest f b g h.0, omega (arith, before, paid, x, z, k, l, o, p))
      work-done _ _ _ (reaches work now k us rest c) =
          let h = work-done work now (key_record k us ∷ rest) c in
          let before = h.1 in
          let x = sum_by-cons (entry_potential weight) (key_record k us) rest in
          let y = sum-moved key_cost k (keys_in rest) now in
          (turn-reached now k us rest f h.0, omega (arith, before, x, y))
      work-done _ _ _ (learns work more now new rest c known distinct inside paid) =
          let h = work-done work now rest c in
          let before = h.1 in
          let x = sum_by-append key_cost (keys_in rest) now in
          let y = sum_by-append key_cost (keys_in rest) (new ++ now) in
          let z = sum_by-append key_cost new now in (
            record {
              turns = h.0.turns;
              within = h.0.within;
              known = Each-append (IsKnown program text a keys) new now known h.0.known;
              noted = h.0.noted;
              answered = h.0.answered;
              distinct = distinct;
              inside =
                  Each-append (λ j. IsIn j keys.all) (keys_in rest) (new ++ now) (Each-left (λ j. IsIn j keys.all) (keys_in rest) now h.0.inside)
                  (Each-append (λ j. IsIn j keys.all) new now inside (Each-right (λ j. IsIn j keys.all) (keys_in rest) now h.0.inside));
            },
            omega (arith, before, paid, x, y, z),
          )

      pub work-bounded : (work : ℕ) (now : List Key) (row : List Entry) → ReachesBySteps program text a keys d key_cost weight memory (thread_entries ts) work now row
          → KeepsResultWithinPotential program text a keys d key_cost weight memory ts work now row f
      work-bounded work now row c =
          let h = work-done work now row c in
          let paid = h.1 in
          let few = cost-few key_cost (keys_in row ++ now) keys.all h.0.distinct h.0.inside in
          record { stands = h.0; paid = paid; bounded = omega (arith, paid, few) }

-- ---- Laws

pub noted-stays : PendingRecordsStayRight
noted-stays program text a keys d spent ts entries rest s h k = noted-stay program text a keys d spent ts entries rest s h k

pub turns-right : StepsKeepInvariant
turns-right program text a keys acc are d = turns-of program text a keys d acc are

pub work-is-bounded : WorkIsBounded
work-is-bounded program text a keys acc are d key_cost weight memory ts n f m e work now row c = work-bounded program text a keys d acc are key_cost weight memory ts n f m e work now row c

pub turns-onward : RightwardSearchesNeverMoveLeft
turns-onward program text a keys d key_cost weight memory ts from work now row e h c = turns-go-on program text a keys d key_cost weight memory ts from work now row e h c

pub reached-fail : KeyFailsWhenRecordReached
reached-fail program text a keys acc are d memory k ts rest f h = record-fails program text a keys d acc are memory k ts rest f h
