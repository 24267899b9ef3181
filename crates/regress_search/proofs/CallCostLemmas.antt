-- A call of an iterator within a work limit yields and costs what its search found and spent.
use Rattle.std.proofs.Common.{◌≡◌, ◌≤◌, ℕ, Bool, true, false, Option, Some, option_map, Result, Ok, Err, refl, subst, sym, ◌∙◌}
use Rattle.regex_meaning.specs.Tree.{Tree}
use Rattle.regex_meaning.specs.Text.{Text}
use Rattle.regress_search.specs.declared.exec.Match.{Match}
use Rattle.regress_search.specs.declared.exec.SearchError.{SearchError}
use Rattle.regress_search.specs.declared.exec.work_matches.WorkError.{WorkError}
use Rattle.regress_search.specs.declared.exec.work_matches.WorkError.TheVariants.{Memory, WorkLimit}
use Rattle.regress_search.specs.declared.exec.search_state.SearchState.{Ghosts}
use Rattle.regress_search.specs.RemainingAnswers.{NextYields, remaining_answers_from}
use Rattle.regress_search.specs.MatchesWithinWork.{CallKeepsWorkEnough, IsWorkLimitOrMemoryCause, is_work_enough}
use Rattle.regress_search.specs.CostsOfSearches.{CallSpendsExactCost, ContinuesAfterCall, Failures, LeavesWorkWithoutResult, WorkCosts}
use Rattle.regress_search.specs.CostsOfCalls.{NextCallCosts, NextYieldsAtCost, WorkMatchesView}

-- If the work limit was reached, the work left was not enough.
not-enough : (enough out : Bool) → (enough ≡ true → out ≡ false) → out ≡ true → enough ≡ false
not-enough true out e is = absurd (cc (sym (e refl) ∙ is))
not-enough false out e is = refl

module _ {P : Type 0} (costs : WorkCosts) (tree : P → Tree) (text : P → Text) (failures : P → Failures)
    (s t : WorkMatchesView P) (out : Bool) where
  -- `Called` is what the function that searches ensures of a result.
  pub record Called (r : Option (Result Match SearchError)) : Type 0 where
    pub yields : NextYields s.remaining r t.remaining
    pub enough : CallKeepsWorkEnough s.enough r t.enough out
    pub less : t.left ≤ s.left
    pub spends : CallSpendsExactCost (NextCallCosts costs tree text failures s) s.left r out t.left (failures t.producer)
    pub continues : ContinuesAfterCall (tree s.producer) (text s.producer) s.position r t.position
    pub same_tree : tree t.producer ≡ tree s.producer
    pub same_text : text t.producer ≡ text s.producer

  pub called-Ok : (m : Match) → Called (Some (Ok m)) → NextYieldsAtCost costs tree text failures s (Some (Ok m)) t
  called-Ok m c = (
    ((c.yields.0, c.yields.2, c.yields.3, c.yields.4, c.enough), c.less),
    c.spends,
    c.continues,
    c.same_tree,
    c.same_text,
  )

  -- An error of the search fulfills what a call ensures, by its cause.
  pub called-Err : (e : SearchError) (w : WorkError) → IsWorkLimitOrMemoryCause w out t.left → Called (Some (Err e))
      → NextYieldsAtCost costs tree text failures s (Some (Err w)) t
  called-Err e Memory is c = (((tt, c.yields.1, c.yields.2), c.less), c.less, c.continues, c.same_tree, c.same_text)
  called-Err e WorkLimit is c = (
    (((not-enough s.enough out c.enough is.0, is.1), c.yields.1, c.yields.2), c.less),
    (subst (λ b. LeavesWorkWithoutResult (NextCallCosts costs tree text failures s) s.left b t.left) is.0 c.spends, is.1),
    c.continues,
    c.same_tree,
    c.same_text,
  )

-- `view-of` shows an iterator by its producer and its position.
abbrev pub view-of : {E Q : Type 0} (e : Ghosts E) (offset : Q → ℕ) → E → Option Q → WorkMatchesView E
view-of e offset producer position = record {
  remaining = remaining_answers_from (e.tree producer) (e.text producer) (e.budget producer) (option_map offset position) (e.out_of_steps producer);
  left = e.left producer;
  enough = is_work_enough (e.enough producer) (e.ahead producer) (option_map offset position);
  producer = producer;
  position = option_map offset position;
}

module _ {E Q : Type 0} (e : Ghosts E) (offset : Q → ℕ) (producer : E) (position : Option Q) (producer' : E) (position' : Option Q) where
  abbrev pub CalledBy : Option (Result Match SearchError) → Type 0
  CalledBy = Called e.costs e.tree e.text e.failures (view-of e offset producer position) (view-of e offset producer' position') (e.out_of_work producer')

  abbrev pub Gives : Option (Result Match WorkError) → Type 0
  Gives result = NextYieldsAtCost e.costs e.tree e.text e.failures (view-of e offset producer position) result (view-of e offset producer' position')

  module _ (r : Option (Result Match SearchError)) (called : CalledBy r) (result : Option (Result Match WorkError)) where
    pub gives-Ok : (m : Match) → r ≡ Some (Ok m) → result ≡ Some (Ok m) → Gives result
    gives-Ok m is some = subst Gives (sym some) (called-Ok e.costs e.tree e.text e.failures _ _ (e.out_of_work producer') m (subst CalledBy is called))

    pub gives-Err : (x : SearchError) (w : WorkError) → r ≡ Some (Err x) → result ≡ Some (Err w) → IsWorkLimitOrMemoryCause w (e.out_of_work producer') (e.left producer') → Gives result
    gives-Err x w is some cause =
        subst Gives (sym some) (called-Err e.costs e.tree e.text e.failures _ _ (e.out_of_work producer') x w cause (subst CalledBy is called))
