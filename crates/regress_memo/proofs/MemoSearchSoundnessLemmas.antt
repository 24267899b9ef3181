-- A memoized search keeps its result if each step replaces threads by ones that simulate them.
use Rattle.std.proofs.Common.{◌≡◌, ◌≤◌, ℕ, false, List, [], ◌∷◌, ◌++◌, Some, ap, ◌∙◌, sym, subst, arith, append-nil}
use Rattle.std.specs.Prelude.{IsSome}
use Rattle.regex_meaning.specs.Laws.{Each}
use Rattle.regex_meaning.specs.Text.{Text, Direction}
use Rattle.regex_meaning.specs.CompilationRelation.{Program}
use Rattle.regress_machine.specs.Machine.{Thread, Found, search}
use Rattle.regress_machine.specs.ThreadSimulation.{Within, Simulates}
use Rattle.regress_machine.proofs.ThreadSimulationLemmas.{within-start, within-simulates, simulates-fewer, simulates-same}
use Rattle.regress_memo.specs.Liveness.{Liveness, IsLivenessFor}
use Rattle.regress_memo.specs.MemoSearch.{Key, Keys, Entry, one_thread, thread_group, key_record, thread_entries, threads_in, keys_in, IsBare, KeyStandsFor, AreKeys, Fails, Succeeds, FindEnd}
use Rattle.regress_memo.specs.MemoSearch.{AreRightKeyRecords, AreAnswered, AreOpened}
use Rattle.regress_memo.specs.MemoSearchSoundness.{RemainsSound, AreComing, ReplacesSoundly, SearchesStaySound}
use Rattle.regress_memo.proofs.MemoSearchLemmas.{threads-tries, threads-joined, noted-stay, noted-below, noted-none, answered-joined, answered-below, answered-none, answers-first, fails-all}
use Rattle.regress_memo.proofs.SharedMemoLookaroundLemmas.{begins-found, found-shared}
use Rattle.regress_memo.proofs.ThreadPotentialLemmas.{none-noted}

module _ (program : Program) (text : Text) (a : Liveness) (keys : Keys) (d : Direction) where
  coming-answer : (ts vs : List Thread) (turns : ℕ) (f : Found) → search program text turns d (ts ++ vs) ≡ Some f → (entries : List Entry)
      → AreComing program text a keys d ts entries → AreAnswered program text d entries
  coming-answer ts vs turns f e [] h = tt
  coming-answer ts vs turns f e (one_thread t ∷ xs) h = coming-answer ts vs turns f e xs h
  coming-answer ts vs turns f e (thread_group us ∷ xs) h = coming-answer ts vs turns f e xs h
  coming-answer ts vs turns f e (key_record k us ∷ xs) h = (
    answers-first program text a keys d h.0.spent turns us h.0.others ts vs f h.0.comes e,
    coming-answer ts vs turns f e xs h.1,
  )

  begins : (ts : List Thread) (turns : ℕ) (f : Found) → search program text turns d ts ≡ Some f → RemainsSound program text a keys d (thread_entries ts) f
  begins ts turns f e = record {
    turns = turns;
    within = subst (λ us. Within program text false turns d 0 us f) (sym (threads-tries ts)) (within-start program text false turns d ts f e);
    noted = noted-none program text a keys d [] ts;
    answered = answered-none program text a keys d ts;
  }

  turned : (front entries rest : List Entry) (f : Found) → IsBare front → ReplacesSoundly program text a keys d (threads_in front) entries
      → RemainsSound program text a keys d (front ++ rest) f → RemainsSound program text a keys d (entries ++ rest) f
  turned front entries rest f b g h =
      let ts = threads_in front in
      let n = h.turns in
      let w = subst (λ us. Within program text false n d 0 us f) (threads-joined front rest) h.within in
      let v = within-simulates program text false n d 0 g.spent (threads_in entries) ts (threads_in rest) f g.simulates w in
      let few = v.few in
      record {
        turns = n;
        within = subst (λ us. Within program text false n d 0 us f) (sym (threads-joined entries rest))
            (record { found = v.found; searches = v.searches; end = v.end; few = omega (arith, few); counted = λ x. cc });
        noted = noted-stay program text a keys d g.spent ts entries rest g.simulates g.noted (noted-below program text a keys d front rest h.noted);
        answered = answered-joined program text a keys d entries rest (coming-answer ts (threads_in rest) n w.found w.searches entries g.coming)
            (answered-below program text a keys d front rest b h.answered);
      }

  module _ (acc : IsLivenessFor program text a) (are : AreKeys program text a keys) where
    reached : (k : Key) (ts : List Thread) (rest : List Entry) (f : Found) → RemainsSound program text a keys d (key_record k ts ∷ rest) f
        → Fails program text a keys k × RemainsSound program text a keys d rest f
    reached k ts rest f h = (
      fails-all program text a keys d acc are k ts h.noted.0.is_of
          (simulates-fewer program text d 0 (keys.taken k) [] ts (omega arith) h.noted.0.simulates),
      record { turns = h.turns; within = h.within; noted = h.noted.1; answered = h.answered.1 },
    )

    shared : (front rest : List Entry) (f : Found) → IsBare front → FindEnd program text d (threads_in front)
        → RemainsSound program text a keys d (front ++ rest) f → IsSome f.end × Each (Succeeds program text a keys) (keys_in rest)
    shared front rest f b found h =
        let ts = threads_in front in
        let w = h.within in
        let e = ap (search program text h.turns d) (sym (threads-joined front rest)) ∙ w.searches in
        let below = noted-below program text a keys d front rest h.noted in (
          subst IsSome w.end (begins-found program text d ts (threads_in rest) h.turns w.found found e),
          found-shared program text a keys acc are d ts found [] rest
              (subst (λ vs. AreRightKeyRecords program text a keys d vs rest) (sym (append-nil ts)) below) (answered-below program text a keys d front rest b h.answered),
        )

  -- ---- Steps of a search

  opened-coming : (memory : List Key) (ts : List Thread) (entries : List Entry) → AreOpened program text a keys d memory ts entries
      → AreComing program text a keys d ts entries
  opened-coming memory ts [] h = tt
  opened-coming memory ts (one_thread t ∷ xs) h = opened-coming memory ts xs h
  opened-coming memory ts (thread_group us ∷ xs) h = opened-coming memory ts xs h
  opened-coming memory ts (key_record k us ∷ xs) h = (
    record { others = h.0.others; spent = h.0.spent; comes = h.0.comes },
    opened-coming memory ts xs h.1,
  )

  none-coming : (ts : List Thread) (bare rest : List Entry) → IsBare bare → AreComing program text a keys d ts rest → AreComing program text a keys d ts (bare ++ rest)
  none-coming ts [] rest b h = h
  none-coming ts (one_thread u ∷ bare) rest b h = none-coming ts bare rest b h
  none-coming ts (thread_group us ∷ bare) rest b h = none-coming ts bare rest b h
  none-coming ts (key_record k us ∷ bare) rest b h = absurd b

  passed : (n : ℕ) (bare : List Entry) (ts : List Thread) → IsBare bare → Simulates program text false d n (threads_in bare) ts
      → ReplacesSoundly program text a keys d ts bare
  passed n bare ts b s = record {
    spent = n;
    simulates = s;
    noted = subst (λ xs. AreRightKeyRecords program text a keys d [] xs) (append-nil bare) (none-noted program text a keys d [] [] bare [] b tt);
    coming = subst (λ xs. AreComing program text a keys d ts xs) (append-nil bare) (none-coming ts bare [] b tt);
  }

  made : (n : ℕ) (bare : List Entry) (ts : List Thread) (k : Key) → IsBare bare → Simulates program text false d n (threads_in bare) ts
      → KeyStandsFor program text a keys d k ts → keys.taken k ≤ n → ReplacesSoundly program text a keys d ts (bare ++ key_record k ts ∷ [])
  made n bare ts k b s is few =
      let same : threads_in (bare ++ key_record k ts ∷ []) ≡ threads_in bare = threads-joined bare (key_record k ts ∷ []) ∙ append-nil (threads_in bare) in
      record {
        spent = n;
        simulates = subst (λ vs. Simulates program text false d n vs ts) (sym same) s;
        noted = none-noted program text a keys d [] [] bare (key_record k ts ∷ []) b (
          record { is_of = is; simulates = simulates-fewer program text d (keys.taken k) n (threads_in bare) ts few s },
          tt,
        );
        coming = none-coming ts bare (key_record k ts ∷ []) b (
          record {
            others = [];
            spent = 0;
            comes = subst (λ vs. Simulates program text false d 0 vs ts) (sym (append-nil ts)) (simulates-same program text false d ts);
          },
          tt,
        );
      }

pub rows-rest : SearchesStaySound
rows-rest = record {
  rests = λ program text a keys acc are d. record {
    begins = begins program text a keys d;
    turned = turned program text a keys d;
    reached = reached program text a keys d acc are;
    shared = shared program text a keys d acc are;
  };
  puts = λ program text a keys d. record {
    given = λ memory ts entries g. record {
      spent = g.spent;
      simulates = g.simulates;
      noted = g.noted;
      coming = opened-coming program text a keys d memory ts entries g.opened;
    };
    dropped = λ k ts fails is. record { spent = 0; simulates = fails d ts is; noted = tt; coming = tt };
    passed = passed program text a keys d;
    made = made program text a keys d;
  };
}
