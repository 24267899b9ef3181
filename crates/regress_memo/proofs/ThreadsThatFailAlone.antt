-- A thread that finds nothing alone finds nothing before other threads, and states that agree fail
-- alike.
use Rattle.std.proofs.Common.{◌≡◌, ℕ, zero, suc, ◌+◌, ◌≤◌, ◌<◌, List, [], ◌∷◌, ◌++◌, Option, Some, None, Bool, refl, ap, ◌∙◌, sym, subst, arith, append_assoc}
use Rattle.std.specs.Prelude.{IsSome}
use Rattle.regex_meaning.specs.Text.{Text, Direction}
use Rattle.regex_meaning.specs.CompilationRelation.{Program}
use Rattle.regex_meaning.specs.CodeUnitOffsets.{units}
use Rattle.regress_machine.specs.Machine.{State, Thread, running, waiting, Next, goes, scans, ends, asks, stuck, Found, result_without_threads, with_steps, after_lookaround, after_lookaround_search}
use Rattle.regress_machine.specs.Machine.{search_after_effect, act, search}
use Rattle.regress_machine.proofs.MachineSearchLemmas.{search_more}
use Rattle.regress_machine.specs.ThreadSimulation.{FindsNothing}
use Rattle.regress_machine.proofs.ThreadSimulationLemmas.{nothing-ends}
use Rattle.regress_memo.specs.ThreadBisimulation.{AlikeAnswers, AlikeEnds}
use Rattle.regress_memo.specs.Liveness.{Agree, outermost, LiveDataDecideFailure}
use Rattle.regress_memo.proofs.LivenessLemmas.{agreeing-alike}

-- The search of joined threads ends as that of the first ones, or else as that of the others.
pub record Split (x : Option Found) (y : Option Found) (f : Found) : Type 0 where
  pub alone : Found
  pub is : x ≡ Some alone
  pub few : alone.steps ≤ f.steps
  pub same_end : IsSome alone.end → f.end ≡ alone.end
  pub then_rest : alone.end ≡ None → (g : Found) × (y ≡ Some g) × (g.end ≡ f.end) × (alone.steps + g.steps ≡ f.steps)

steps-split : (k : ℕ) (x x' y : Option Found) (f : Found) → ((g : Found) → x ≡ Some g → Split x' y g) → with_steps k x ≡ Some f → Split (with_steps k x') y f
steps-split k x x' y f later e = by x refl e
  where
    by : (r : Option Found) → x ≡ r → with_steps k r ≡ Some f → Split (with_steps k x') y f
    by None q e = cc
    by (Some g) q e =
        let s = later g q in
        let is : record g { steps = k + g.steps } ≡ f = cc in
        let steps : k + g.steps ≡ f.steps = ap (λ (h : Found). h.steps) is in
        record {
          alone = record { steps = k + s.alone.steps; end = s.alone.end };
          is = ap (with_steps k) s.is;
          few = let few = s.few in omega (arith, few, steps);
          same_end = λ some. sym (ap (λ (h : Found). h.end) is) ∙ s.same_end some;
          then_rest = λ none. let r = s.then_rest none in let sum = r.3 in (r.0, r.1, r.2 ∙ ap (λ (h : Found). h.end) is, omega (arith, sum, steps));
        }

module _ (program : Program) (text : Text) (d : Direction) (vs : List Thread) where
  abbrev way : ℕ → Direction → List Thread → Option Found
  way n = λ d us. search program text n d us

  -- `Splits n` says that a search of `n` turns is split, if the threads behind have `all` turns.
  module _ (all : ℕ) where
    abbrev Splits : ℕ → Type 0
    Splits n = (ts : List Thread) (f : Found) → search program text n d (ts ++ vs) ≡ Some f → Split (search program text n d ts) (search program text all d vs) f

    asked-splits : (n : ℕ) → Splits n → (negate : Bool) (w : State) (ts : List Thread) (r : Option Found) (f : Found)
        → after_lookaround_search (search program text n d) negate w (ts ++ vs) r ≡ Some f → Split (after_lookaround_search (search program text n d) negate w ts r) (search program text all d vs) f
    asked-splits n later negate w ts None f e = cc
    asked-splits n later negate w ts (Some g) f e =
        let ss = after_lookaround negate w g.end in
        steps-split (1 + g.steps) (search program text n d (ss ++ (ts ++ vs))) (search program text n d (ss ++ ts)) _ f
        (λ h q. later (ss ++ ts) h (ap (search program text n d) (append_assoc ss ts vs) ∙ q)) e

    after-splits : (n : ℕ) → Splits n → (x : Next) (ts : List Thread) (f : Found) → search_after_effect (way n) d x (ts ++ vs) ≡ Some f → Split (search_after_effect (way n) d x ts) (search program text all d vs) f
    after-splits n later (goes ss) ts f e =
        steps-split 1 (search program text n d (ss ++ (ts ++ vs))) (search program text n d (ss ++ ts)) _ f
        (λ h q. later (ss ++ ts) h (ap (search program text n d) (append_assoc ss ts vs) ∙ q)) e
    after-splits n later (scans tries ss) ts f e =
        steps-split (1 + tries) (search program text n d (ss ++ (ts ++ vs))) (search program text n d (ss ++ ts)) _ f
        (λ h q. later (ss ++ ts) h (ap (search program text n d) (append_assoc ss ts vs) ∙ q)) e
    after-splits n later (ends s) ts f e = record {
      alone = f;
      is = e;
      few = omega arith;
      same_end = λ some. refl;
      then_rest = λ none. let some : Some s ≡ f.end = ended e in let wrong : Some s ≡ None = some ∙ none in cc;
    }
      where
        ended : Some (record { steps = 1; end = Some s }) ≡ Some f → Some s ≡ f.end
        ended e = let same : record { steps = 1; end = Some s } ≡ f = cc in ap (λ (h : Found). h.end) same
    after-splits n later (asks inner negate u w) ts f e = asked-splits n later negate w ts (search program text n inner (running u ∷ [])) f e
    after-splits n later stuck ts f e = cc

    pub splits : (n : ℕ) → n ≤ all → Splits n
    unfolding search
    splits n le [] f e = record {
      alone = result_without_threads;
      is = refl;
      few = omega arith;
      same_end = λ some. cc;
      then_rest = λ none. (f, search_more program text n all le d vs f e, refl, omega arith);
    }
    splits zero le (t ∷ ts) f e = cc
    splits (suc n) le (waiting s ∷ ts) f e =
        steps-split 1 (search program text n d (running s ∷ (ts ++ vs))) (search program text n d (running s ∷ ts)) _ f (λ h q. splits n (omega arith) (running s ∷ ts) h q) e
    splits (suc n) le (running s ∷ ts) f e = after-splits n (λ ts f e. splits n (omega arith) ts f e) (act program text d s) ts f e

module _ (program : Program) (text : Text) (d : Direction) where
  some-steps : (s : State) (n : ℕ) (f : Found) → search program text n d (running s ∷ []) ≡ Some f → 0 < f.steps
  unfolding search
  some-steps s zero f e = cc
  some-steps s (suc n) f e = go (act program text d s) e
    where
      by_with : (k : ℕ) (r : Option Found) → with_steps (1 + k) r ≡ Some f → 0 < f.steps
      by_with k None e = cc
      by_with k (Some g) e = let is : record g { steps = (1 + k) + g.steps } ≡ f = cc in let s = ap (λ (k : Found). k.steps) is in omega (arith, s)

      by_asked : (negate : Bool) (u : State) (r : Option Found) → after_lookaround_search (search program text n d) negate u [] r ≡ Some f → 0 < f.steps
      by_asked negate u None e = cc
      by_asked negate u (Some g) e = by_with g.steps (search program text n d (after_lookaround negate u g.end ++ [])) e

      go : (x : Next) → search_after_effect (λ d us. search program text n d us) d x [] ≡ Some f → 0 < f.steps
      go (goes ss) e = by_with 0 (search program text n d (ss ++ [])) e
      go (scans tries ss) e = by_with tries (search program text n d (ss ++ [])) e
      go (ends s) e = let is : record { steps = 1; end = Some s } ≡ f = cc in let s = ap (λ (k : Found). k.steps) is in omega (arith, s)
      go (asks inner negate u s) e = by_asked negate s (search program text n inner (running u ∷ [])) e
      go stuck e = cc

  -- A state whose searches alone have no end finds nothing.
  pub nothing-alone : (s : State) → ((turns : ℕ) (f : Found) → search program text turns d (running s ∷ []) ≡ Some f → f.end ≡ None) → FindsNothing program text d (running s)
  nothing-alone s h = record {
    within = λ turns vs f e.
        let x = splits program text d vs turns turns (omega arith) (running s ∷ []) f e in
        let r = x.then_rest (h turns x.alone x.is) in
        let sum = r.3 in
        let some = some-steps s turns x.alone x.is in
        record { found = r.0; searches = r.1; end = r.2; few = omega (arith, sum, some); counted = λ x. cc };
  }

pub failure-shared : LiveDataDecideFailure
failure-shared program text a acc d s t g none = nothing-alone program text d t (λ turns f e. by turns f e (search program text turns d (running s ∷ [])) refl (agreeing-alike program text a acc turns d s t g))
  where
    ends-none : (x y : Option State) → AlikeEnds (Agree a (units text) outermost d) x y → None ≡ x → y ≡ None
    ends-none None None h e = refl
    ends-none None (Some y) h e = absurd h
    ends-none (Some x) y h e = cc

    by : (turns : ℕ) (f : Found) → search program text turns d (running t ∷ []) ≡ Some f → (r : Option Found) → search program text turns d (running s ∷ []) ≡ r
        → AlikeAnswers (Agree a (units text) outermost d) (search program text turns d (running s ∷ [])) (search program text turns d (running t ∷ [])) → f.end ≡ None
    by turns f e (Some k) q h = found (subst (λ o. AlikeAnswers (Agree a (units text) outermost d) o (search program text turns d (running t ∷ []))) q h)
      where
        found : AlikeAnswers (Agree a (units text) outermost d) (Some k) (search program text turns d (running t ∷ [])) → f.end ≡ None
        found h = let both = subst (λ o. AlikeAnswers (Agree a (units text) outermost d) (Some k) o) e h in ends-none k.end f.end both.ends (nothing-ends program text turns d (running s) k none q)
    by turns f e None q h = absurd (subst (λ o. AlikeAnswers (Agree a (units text) outermost d) None o) e (subst (λ o. AlikeAnswers (Agree a (units text) outermost d) o (search program text turns d (running t ∷ []))) q h))
