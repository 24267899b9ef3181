-- Thread lists that find nothing alone may be dropped before any others, and lists that agree fail
-- alike.
use Rattle.std.proofs.Common.{◌≡◌, ℕ, List, [], ◌∷◌, Option, Some, None, false, refl, ap, ◌∙◌, sym, subst, arith, append-nil}
use Rattle.regex_meaning.specs.Text.{Text, Direction}
use Rattle.regex_meaning.specs.CompilationRelation.{Program}
use Rattle.regex_meaning.specs.CodeUnitOffsets.{units}
use Rattle.regress_machine.specs.Machine.{State, Thread, ends, Found, result_without_threads, search}
use Rattle.regress_machine.specs.ThreadSimulation.{Within, Simulates, AllFindNothing}
use Rattle.regress_machine.proofs.MachineSearchLemmas.{some-steps}
use Rattle.regress_memo.specs.ThreadBisimulation.{AlikeAnswers, AlikeEnds, AlikeThreads}
use Rattle.regress_memo.specs.Liveness.{Liveness, IsLivenessFor, Agree, outermost}
use Rattle.regress_memo.proofs.LivenessLemmas.{rows-alike}
use Rattle.regress_memo.proofs.ThreadsThatFailAlone.{splits}

module _ (program : Program) (text : Text) (d : Direction) where
  -- A search of threads that find nothing has no end.
  pub row-ends : (turns : ℕ) (ts : List Thread) (f : Found) → AllFindNothing program text d ts → search program text turns d ts ≡ Some f → f.end ≡ None
  unfolding search
  row-ends turns ts f none e = by turns refl (none.within turns [] f (ap (search program text turns d) (append-nil ts) ∙ e))
    where
      by : (n : ℕ) → turns ≡ n → Within program text false turns d 0 [] f → f.end ≡ None
      by n q w = let s : Some result_without_threads ≡ Some w.found = w.searches in let is : result_without_threads ≡ w.found = cc in sym (ap (λ (f : Found). f.end) is ∙ w.end)

  -- Threads whose searches alone have no end may be dropped before any others.
  pub row-alone : (ts : List Thread) → ((turns : ℕ) (f : Found) → search program text turns d ts ≡ Some f → f.end ≡ None) → AllFindNothing program text d ts
  row-alone ts h = record {
    within = λ turns vs f e.
        let x = splits program text d vs turns turns (omega arith) ts f e in
        let r = x.then_rest (h turns x.alone x.is) in
        let sum = r.3 in
        record { found = r.0; searches = r.1; end = r.2; few = omega (arith, sum); counted = λ x. cc };
  }

  -- Threads that find nothing, unless there are none, may be dropped with one step spent.
  pub row-takes : (t : Thread) (ts : List Thread) → AllFindNothing program text d (t ∷ ts) → Simulates program text false d 1 [] (t ∷ ts)
  row-takes t ts none = record {
    within = λ turns vs f e.
        let x = splits program text d vs turns turns (omega arith) (t ∷ ts) f e in
        let r = x.then_rest (row-ends turns (t ∷ ts) x.alone none x.is) in
        let sum = r.3 in
        let some = some-steps program text d t ts turns x.alone x.is in
        record { found = r.0; searches = r.1; end = r.2; few = omega (arith, sum, some); counted = λ x. cc };
  }

module _ (program : Program) (text : Text) (a : Liveness) (acc : IsLivenessFor program text a) (d : Direction) where
  -- Searches of threads that agree take equally many steps, and their ends agree.
  pub same-answers : (turns : ℕ) (ts us : List Thread) (f g : Found) → AlikeThreads (Agree a (units text) outermost d) ts us → search program text turns d ts ≡ Some f
      → search program text turns d us ≡ Some g → (f.steps ≡ g.steps) × AlikeEnds (Agree a (units text) outermost d) f.end g.end
  same-answers turns ts us f g h e q =
      let both = rows-alike program text a acc turns outermost d ts us h in
      let one = subst (λ o. AlikeAnswers (Agree a (units text) outermost d) o (search program text turns d us)) e both in
      let two = subst (λ o. AlikeAnswers (Agree a (units text) outermost d) (Some f) o) q one in
      (two.steps, two.ends)

  pub row-shared : (ts us : List Thread) → AlikeThreads (Agree a (units text) outermost d) ts us → AllFindNothing program text d ts → AllFindNothing program text d us
  row-shared ts us h none = row-alone program text d us (λ turns g q. by turns g q (search program text turns d ts) refl)
    where
      ends-none : (x y : Option State) → AlikeEnds (Agree a (units text) outermost d) x y → x ≡ None → y ≡ None
      ends-none None None h e = refl
      ends-none None (Some y) h e = absurd h
      ends-none (Some x) y h e = cc

      by : (turns : ℕ) (g : Found) → search program text turns d us ≡ Some g → (r : Option Found) → search program text turns d ts ≡ r → g.end ≡ None
      by turns g q (Some f) e = ends-none f.end g.end (same-answers turns ts us f g h e q).1 (row-ends program text d turns ts f none e)
      by turns g q None e =
          absurd
          (subst (λ o. AlikeAnswers (Agree a (units text) outermost d) None o) q
          (subst (λ o. AlikeAnswers (Agree a (units text) outermost d) o (search program text turns d us)) e (rows-alike program text a acc turns outermost d ts us h)))
