-- Threads that a bisimulation relates have searches that take equally many steps and end alike.
use Rattle.std.proofs.Common.{◌≡◌, ℕ, zero, suc, ◌+◌, List, [], ◌∷◌, ◌++◌, Option, Some, None, Bool, refl, ap, subst, arith}
use Rattle.regex_meaning.specs.Text.{Text, Direction}
use Rattle.regex_meaning.specs.CompilationRelation.{Program}
use Rattle.regress_machine.specs.Machine.{State, Thread, running, waiting, Next, goes, scans, ends, asks, stuck, Found, with_steps, after_lookaround, after_lookaround_search, search_after_effect}
use Rattle.regress_machine.specs.Machine.{act, search}
use Rattle.regress_memo.specs.ThreadBisimulation.{Relation, AlikeThreads, AlikeAnswers, AreAlikeLookaroundSearches, AlikeNext, IsBisimulation, AlikeThreadsEndAlike}

module _ (R : Relation) where
  pub alike-append : (ts us vs ws : List Thread) → AlikeThreads R ts us → AlikeThreads R vs ws → AlikeThreads R (ts ++ vs) (us ++ ws)
  alike-append [] [] vs ws h k = k
  alike-append (t ∷ ts) (u ∷ us) vs ws h k = (h.0, alike-append ts us vs ws h.1 k)
  alike-append [] (u ∷ us) vs ws h k = absurd h
  alike-append (t ∷ ts) [] vs ws h k = absurd h

  with_steps-alike : (m n : ℕ) → m ≡ n → (x y : Option Found) → AlikeAnswers R x y → AlikeAnswers R (with_steps m x) (with_steps n y)
  with_steps-alike m n e None None h = tt
  with_steps-alike m n e (Some f) (Some g) h = record { steps = let s = h.steps in omega (arith, s, e); ends = h.ends }
  with_steps-alike m n e None (Some g) h = absurd h
  with_steps-alike m n e (Some f) None h = absurd h

module _ {W : Type 0} (R : W → Direction → Relation) (program : Program) (text : Text) (kept : IsBisimulation R program text) where
  abbrev EndAlike : ℕ → Type 0
  EndAlike n = (w : W) (d : Direction) (ts us : List Thread) → AlikeThreads (R w d) ts us
      → AlikeAnswers (R w d) (search program text n d ts) (search program text n d us)

  asked-alike : (n : ℕ) → EndAlike n → (w : W) (d inner : Direction) (negate : Bool) (u s u' s' : State) (a : AreAlikeLookaroundSearches R w d inner negate u s u' s')
      → (ts us : List Thread) → AlikeThreads (R w d) ts us → (x y : Option Found) → AlikeAnswers (R a.world inner) x y
      → AlikeAnswers (R w d) (after_lookaround_search (λ vs. search program text n d vs) negate s ts x) (after_lookaround_search (λ vs. search program text n d vs) negate s' us y)
  asked-alike n later w d inner negate u s u' s' a ts us h None None k = tt
  asked-alike n later w d inner negate u s u' s' a ts us h (Some f) (Some g) k =
      with_steps-alike (R w d) (1 + f.steps) (1 + g.steps) (ap (λ n. 1 + n) k.steps) _ _
      (later w d (after_lookaround negate s f.end ++ ts) (after_lookaround negate s' g.end ++ us)
      (alike-append (R w d) (after_lookaround negate s f.end) (after_lookaround negate s' g.end) ts us (a.behind f.end g.end k.ends) h))
  asked-alike n later w d inner negate u s u' s' a ts us h None (Some g) k = absurd k
  asked-alike n later w d inner negate u s u' s' a ts us h (Some f) None k = absurd k

  after-alike : (n : ℕ) → EndAlike n → (w : W) (d : Direction) (x y : Next) → AlikeNext R w d x y → (ts us : List Thread) → AlikeThreads (R w d) ts us
      → AlikeAnswers (R w d) (search_after_effect (λ d vs. search program text n d vs) d x ts) (search_after_effect (λ d vs. search program text n d vs) d y us)
  after-alike n later w d (goes ss) (goes rs) k ts us h =
      with_steps-alike (R w d) 1 1 refl _ _ (later w d (ss ++ ts) (rs ++ us) (alike-append (R w d) ss rs ts us k h))
  after-alike n later w d (scans p ss) (scans q rs) k ts us h =
      with_steps-alike (R w d) (1 + p) (1 + q) (ap (λ n. 1 + n) k.0) _ _ (later w d (ss ++ ts) (rs ++ us) (alike-append (R w d) ss rs ts us k.1 h))
  after-alike n later w d (ends s) (ends t) k ts us h = record { steps = refl; ends = k }
  after-alike n later w d (asks inner negate u s) (asks inner' negate' u' s') k ts us h = by inner' negate' k.0 (k.1, k.2)
    where
      by : (i : Direction) (b : Bool) → inner ≡ i → (negate ≡ b) × AreAlikeLookaroundSearches R w d inner negate u s u' s'
          → AlikeAnswers (R w d) (search_after_effect (λ d vs. search program text n d vs) d (asks inner negate u s) ts) (search_after_effect (λ d vs. search program text n d vs) d (asks i b u' s') us)
      by i b e k =
          subst (λ i. AlikeAnswers (R w d) (search_after_effect (λ d vs. search program text n d vs) d (asks inner negate u s) ts) (search_after_effect (λ d vs. search program text n d vs) d (asks i b u' s') us)) e
          (subst (λ b. AlikeAnswers (R w d) (search_after_effect (λ d vs. search program text n d vs) d (asks inner negate u s) ts) (search_after_effect (λ d vs. search program text n d vs) d (asks inner b u' s') us)) k.0
          (asked-alike n later w d inner negate u s u' s' k.1 ts us h (search program text n inner (running u ∷ [])) (search program text n inner (running u' ∷ []))
          (later k.1.world inner (running u ∷ []) (running u' ∷ []) (k.1.contents, tt))))
  after-alike n later w d stuck stuck k ts us h = tt
  after-alike n later w d (goes ss) (scans q rs) k ts us h = absurd k
  after-alike n later w d (goes ss) (ends t) k ts us h = absurd k
  after-alike n later w d (goes ss) (asks i b u t) k ts us h = absurd k
  after-alike n later w d (goes ss) stuck k ts us h = absurd k
  after-alike n later w d (scans p ss) (goes rs) k ts us h = absurd k
  after-alike n later w d (scans p ss) (ends t) k ts us h = absurd k
  after-alike n later w d (scans p ss) (asks i b u t) k ts us h = absurd k
  after-alike n later w d (scans p ss) stuck k ts us h = absurd k
  after-alike n later w d (ends s) (goes rs) k ts us h = absurd k
  after-alike n later w d (ends s) (scans q rs) k ts us h = absurd k
  after-alike n later w d (ends s) (asks i b u t) k ts us h = absurd k
  after-alike n later w d (ends s) stuck k ts us h = absurd k
  after-alike n later w d (asks i b u s) (goes rs) k ts us h = absurd k
  after-alike n later w d (asks i b u s) (scans q rs) k ts us h = absurd k
  after-alike n later w d (asks i b u s) (ends t) k ts us h = absurd k
  after-alike n later w d (asks i b u s) stuck k ts us h = absurd k
  after-alike n later w d stuck (goes rs) k ts us h = absurd k
  after-alike n later w d stuck (scans q rs) k ts us h = absurd k
  after-alike n later w d stuck (ends t) k ts us h = absurd k
  after-alike n later w d stuck (asks i b u t) k ts us h = absurd k

  -- Threads that are related have searches that end alike, for each number of turns.
  pub end-alike : (n : ℕ) → EndAlike n
  unfolding search
  end-alike n w d [] [] h = record { steps = refl; ends = tt }
  end-alike n w d [] (u ∷ us) h = absurd h
  end-alike n w d (t ∷ ts) [] h = absurd h
  end-alike zero w d (t ∷ ts) (u ∷ us) h = tt
  end-alike (suc n) w d (waiting s ∷ ts) (waiting t ∷ us) h =
      with_steps-alike (R w d) 1 1 refl _ _ (end-alike n w d (running s ∷ ts) (running t ∷ us) (h.0, h.1))
  end-alike (suc n) w d (running s ∷ ts) (running t ∷ us) h =
      after-alike n (λ w d vs ws k. end-alike n w d vs ws k) w d (act program text d s) (act program text d t) (kept.kept w d s t h.0) ts us h.1
  end-alike (suc n) w d (waiting s ∷ ts) (running t ∷ us) h = absurd h.0
  end-alike (suc n) w d (running s ∷ ts) (waiting t ∷ us) h = absurd h.0

-- ---- The law

pub threads-end-alike : AlikeThreadsEndAlike
threads-end-alike W R program text kept w d turns ts us h = end-alike R program text kept turns w d ts us h
