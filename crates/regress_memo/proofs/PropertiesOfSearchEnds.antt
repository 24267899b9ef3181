-- A property of states that all effects keep holds for the end of a search, if it holds for its first state.
use Rattle.std.proofs.Common.{◌≡◌, ℕ, List, [], ◌∷◌, Option, Some, None, Bool, true, false, refl, ap, subst}
use Rattle.regex_meaning.specs.Laws.{Each}
use Rattle.regex_meaning.specs.Text.{Text, Direction}
use Rattle.regex_meaning.specs.CompilationRelation.{Program}
use Rattle.regress_machine.specs.Machine.{State, Thread, running, waiting, Next, goes, scans, ends, asks, stuck, Found, after_lookaround, act, search}
use Rattle.regress_machine.proofs.StatesInEffects.{IsOfThread, IsOfNext}
use Rattle.regress_memo.specs.ThreadBisimulation.{AlikeThreads, AlikeEnds, AlikeAnswers, AlikeNext, IsBisimulation}
use Rattle.regress_memo.proofs.ThreadBisimulationLemmas.{threads-end-alike}

-- `resumed` says that the state after a lookaround has the property if the end of the contents and the state before
-- them have it.
module _ (Good : State → Type 0) (resumed : (s x : State) → Good s → Good x → Good (record x { ip = s.ip; pos = s.pos })) where
  -- `Same` relates a state with the property to itself.
  record Same (w : Bool) (d : Direction) (s t : State) : Type 0 where
    good : Good s
    is : s ≡ t

  threads-same : (w : Bool) (d : Direction) (ts : List Thread) → Each (IsOfThread Good) ts → AlikeThreads (Same w d) ts ts
  threads-same w d [] h = tt
  threads-same w d (running s ∷ ts) h = (record { good = h.0; is = refl }, threads-same w d ts h.1)
  threads-same w d (waiting s ∷ ts) h = (record { good = h.0; is = refl }, threads-same w d ts h.1)

  resumed-same : (w : Bool) (d inner : Direction) (negate : Bool) (s : State) → Good s → (x y : Option State) → AlikeEnds (Same w inner) x y → AlikeThreads (Same w d) (after_lookaround negate s x) (after_lookaround negate s y)
  resumed-same w d inner false s k None None h = tt
  resumed-same w d inner true s k None None h = (record { good = k; is = refl }, tt)
  resumed-same w d inner true s k (Some x) (Some y) h = tt
  resumed-same w d inner false s k (Some x) (Some y) h = (record { good = resumed s x k h.good; is = ap (λ (z : State). record z { ip = s.ip; pos = s.pos }) h.is }, tt)
  resumed-same w d inner negate s k None (Some y) h = absurd h
  resumed-same w d inner negate s k (Some x) None h = absurd h

  next-same : (w : Bool) (d : Direction) (x : Next) → IsOfNext Good x → AlikeNext Same w d x x
  next-same w d (goes ts) h = threads-same w d ts h
  next-same w d (scans n ts) h = (refl, threads-same w d ts h)
  next-same w d (ends s) h = record { good = h; is = refl }
  next-same w d (asks inner negate u s) h = (refl, refl, record { world = w; contents = record { good = h.0; is = refl }; behind = λ x y e. resumed-same w d inner negate s h.1 x y e })
  next-same w d stuck h = tt

  module _ (program : Program) (text : Text) (acts : (d : Direction) (s : State) → Good s → IsOfNext Good (act program text d s)) where
    same-kept : IsBisimulation Same program text
    same-kept = record {
      kept = λ w d s t r. subst (λ t. AlikeNext Same w d (act program text d s) (act program text d t)) r.is (next-same w d (act program text d s) (acts d s r.good));
    }

    pub good-end : (d : Direction) (turns : ℕ) (u e : State) (f : Found) → Good u → search program text turns d (running u ∷ []) ≡ Some f → f.end ≡ Some e → Good e
    good-end d turns u e f good searches ended =
        let both = threads-end-alike Bool Same program text same-kept true d turns (running u ∷ []) (running u ∷ []) (record { good = good; is = refl }, tt) in
        let found = subst (λ o. AlikeAnswers (Same true d) o o) searches both in
        (subst (λ o. AlikeEnds (Same true d) o o) ended found.ends).good
