-- Successive calls of `next` return the matches in order, and then `None` for good.
use Rattle.std.proofs.Common.{◌≡◌, List, [], ◌∷◌, true, false, refl, sym, ap, ◌∙◌, subst}
use Rattle.std.specs.Prelude.{Some, None, Ok, Err}
use Rattle.regress_search.specs.RemainingAnswers.{RemainingView}
use Rattle.regress_search.specs.declared.exec.SearchError.TheVariants.{Memory, StepLimit}
use Rattle.regress_match.specs.SearchResults.{NextResult, NextCallsYield, AreAllResultsNone, ResultsAreMatchesInOrder, SearchesReturnMatchesInOrder}

-- A search that has ended returns no more matches.
ended-AreAllResultsNone : (s t : RemainingView) (rs : List NextResult) → s.ended ≡ true → NextCallsYield s rs t → AreAllResultsNone rs
ended-AreAllResultsNone s t [] e h = tt
ended-AreAllResultsNone s t (None ∷ rs) e (u, h, k) = (refl, ended-AreAllResultsNone u t rs h.2.2 k)
ended-AreAllResultsNone s t (Some (Ok m) ∷ rs) e (u, h, k) = absurd (cc (sym e ∙ h.2))
ended-AreAllResultsNone s t (Some (Err x) ∷ rs) e (u, h, k) = absurd (cc (sym e ∙ h.1))

calls-ResultsAreMatchesInOrder : (s t : RemainingView) (rs : List NextResult) → s.limited ≡ false → NextCallsYield s rs t → ResultsAreMatchesInOrder s.answers rs
calls-ResultsAreMatchesInOrder s t [] e h = tt
calls-ResultsAreMatchesInOrder s t (None ∷ rs) e (u, h, k) = (h.0, ended-AreAllResultsNone u t rs h.2.2 k)
calls-ResultsAreMatchesInOrder s t (Some (Ok m) ∷ rs) e (u, h, k) = (u.answers, h.0, calls-ResultsAreMatchesInOrder u t rs (sym h.1 ∙ e) k)
calls-ResultsAreMatchesInOrder s t (Some (Err Memory) ∷ rs) e (u, h, k) = (refl, ended-AreAllResultsNone u t rs h.2.2 k)
calls-ResultsAreMatchesInOrder s t (Some (Err StepLimit) ∷ rs) e (u, h, k) = absurd (cc (sym e ∙ h.0.1))

pub searches-ResultsAreMatchesInOrder : SearchesReturnMatchesInOrder
searches-ResultsAreMatchesInOrder tree text start it t rs y k = subst (λ ms. ResultsAreMatchesInOrder ms rs) y.answers (calls-ResultsAreMatchesInOrder it t rs y.unlimited k)
