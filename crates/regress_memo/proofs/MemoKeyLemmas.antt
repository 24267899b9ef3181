-- States with the same memo key share failure, and no state recurs while a record of it is pending.
use Rattle.std.proofs.Common.{◌≡◌, ℕ, min, ◌+◌, [], ◌∷◌, ◌++◌, Option, Some, None, Bool, true, false, ◌||◌, refl, ap, ◌∙◌, sym, subst, arith, slice_get}
use Rattle.regex_meaning.specs.Text.{Direction}
use Rattle.regex_meaning.specs.CodeUnitOffsets.{units}
use Rattle.regress_machine.specs.Machine.{LoopData, State, running, Found, search}
use Rattle.regress_machine.proofs.ThreadSimulationLemmas.{simulates-goes, simulates-scans, simulates-fewer, simulates-then, simulates-before}
use Rattle.regress_memo.specs.ThreadBisimulation.{AlikeAnswers}
use Rattle.regress_memo.specs.Liveness.{Liveness, outermost, IsSound, SimilarAt, Agree}
use Rattle.regress_memo.specs.MemoKeys.{IsSoundState, SameKey, NoGroupsAreLive, MemoKeysDecideFailure, PositionsDecideFailure, NoStateRecursWhilePending, RecordedFailuresAreRight}
use Rattle.regress_memo.proofs.LivenessLemmas.{BothThere, both-there, agreeing-alike}
use Rattle.regress_memo.proofs.ThreadsThatFailAlone.{splits, failure-shared}

module _ (a : Liveness) (top : ℕ) (d : Direction) (s t : State) (no_groups : NoGroupsAreLive a) (p : IsSoundState a top d s) (q : IsSoundState a top d t) (k : SameKey a s t) where
  right-sound : (l : ℕ) (y : LoopData) → a.inside s.ip l ≡ true → slice_get t.loops l ≡ Some y → IsSound a top d s.pos s.ip l y
  right-sound l y h e =
      subst (λ i. IsSound a top d s.pos i l y) (sym k.place.ip)
      (subst (λ o. IsSound a top d o t.ip l y) (sym k.place.pos) (q.loops l y (ap (λ i. a.inside i l) (sym k.place.ip) ∙ h) e))

  similar : (l : ℕ) → a.inside s.ip l ≡ true → (o r : Option LoopData) → slice_get s.loops l ≡ o → slice_get t.loops l ≡ r → BothThere o r → SimilarAt a top d s.pos s.ip l o r
  similar l h None None e f both = tt
  similar l h (Some x) (Some y) e f both = record {
    left = p.loops l x h e;
    right = right-sound l y h f;
    empty = λ z. k.empty l x y h z e f;
    count = k.count l x y h e f;
  }
  similar l h None (Some y) e f both = absurd both
  similar l h (Some x) None e f both = absurd both

  pub keys-agree : Agree a top outermost d s t
  keys-agree = record {
    ip = k.place.ip;
    pos = k.place.pos;
    within = p.within;
    as_many_groups = k.place.groups;
    groups = λ e. let off = no_groups.groups in cc;
    as_many_starts = k.place.starts;
    starts = λ id e. unasked id (a.start s.ip id) (no_groups.start s.ip id) e;
    as_many_loops = k.place.loops;
    loops = λ l h. similar l h (slice_get s.loops l) (slice_get t.loops l) refl refl (both-there s.loops t.loops l k.place.loops);
    kept = λ l e. cc;
  }
    where
      unasked : (id : ℕ) (b : Bool) → b ≡ false → (b || false) ≡ true → slice_get s.starts id ≡ slice_get t.starts id
      unasked id true e h = cc
      unasked id false e h = cc

-- A state that agrees with itself is sound.
pub sound-state : (a : Liveness) (top : ℕ) (d : Direction) (s : State) → Agree a top outermost d s s → IsSoundState a top d s
sound-state a top d s g = record {
  within = g.within;
  loops = λ l x h e. let y = subst (λ o. SimilarAt a top d s.pos s.ip l o o) e (g.loops l h) in y.left;
}

pub keys-decide : MemoKeysDecideFailure
keys-decide program text a acc no_groups d s t p q k none = failure-shared program text a acc d s t (keys-agree a (units text) d s t no_groups p q k) none

-- Any two counts agree up to zero.
pub unasked-count : (j k n : ℕ) → n ≡ 0 → min j n ≡ min k n
unasked-count j k n e = omega (arith, e)

pub places-decide : PositionsDecideFailure
places-decide program text a acc alone d s t p q place none =
    keys-decide program text a acc alone.no_groups d s t p q
    (record {
      place = place;
      empty = λ l x y h e f g. let off = alone.empty s.ip l in cc;
      count = λ l x y h e f. unasked-count x.iters y.iters (a.up_to l) (alone.up_to l);
    }) none

pub records-right : RecordedFailuresAreRight
records-right program text = record {
  made = λ d s ts e. record { simulates = simulates-goes program text false d s ts e };
  made_by_run = λ d s tries ts e. record { simulates = simulates-fewer program text d 1 (1 + tries) ts (running s ∷ []) (omega arith) (simulates-scans program text false d s tries ts e) };
  kept = λ d n us ts rest s simulates r. record {
    simulates =
        simulates-fewer program text d 1 (1 + n) (us ++ rest) (running s ∷ []) (omega arith)
        (simulates-then program text false d 1 n (running s ∷ []) (ts ++ rest) (us ++ rest) r.simulates (simulates-before program text false d n us ts rest simulates));
  };
  ended = λ d s r. r.simulates;
}

pub nothing-returns : NoStateRecursWhilePending
nothing-returns program text a acc d s t rest turns f g r e =
    let w = r.simulates.within turns [] f e in
    let x = splits program text d (rest ++ []) turns turns (omega arith) (running t ∷ []) w.found w.searches in
    let less = w.few in
    let few = x.few in
    let same = same-steps (search program text turns d (running s ∷ [])) (search program text turns d (running t ∷ [])) f x.alone (agreeing-alike program text a acc turns d s t g) e x.is in
    omega (arith, less, few, same)
  where
    same-steps : (o p : Option Found) (f h : Found) → AlikeAnswers (Agree a (units text) outermost d) o p → o ≡ Some f → p ≡ Some h → f.steps ≡ h.steps
    same-steps None p f h both e q = cc
    same-steps (Some x) None f h both e q = cc
    same-steps (Some x) (Some y) f h both e q = let i : x ≡ f = cc in let j : y ≡ h = cc in ap (λ (k : Found). k.steps) (sym i) ∙ both.steps ∙ ap (λ (k : Found). k.steps) j
