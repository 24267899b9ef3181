-- A search within a work budget finds the first match if the text and the start pass their checks.
use Rattle.std.proofs.Common.{◌≡◌, ◌≤◌, ◌<◌, ◌⊎◌, ◌∙◌, ℕ, List, true, false, inl, inr, ap, refl, sym, subst, nat_le}
use Rattle.std.specs.Prelude.{Option, Some, None, Result, Ok, Err, IsErrAnd, IsUtf8, slice_get}
use Rattle.std.specs.Borrow.{Bor}
use Rattle.std.specs.Option.{option_transpose}
use Rattle.std.proofs.lemmas.Bool.Decides.{leb_tells}
use Rattle.regress_search.specs.MatchesWithinWork.{NextYieldsWithinWork, RemainingAnswersAndWork}
use Rattle.regress_search.specs.declared.exec.Match.{Match}
use Rattle.regress_search.specs.declared.exec.work_matches.WorkError.{WorkError}
use Rattle.regress_search.specs.declared.exec.work_matches.WorkError.TheVariants as worked
use Rattle.regress_bounded.specs.declared.work_bound.Unbounded as unbounded
use Rattle.regress_match.specs.ProgramTreesAndAnswers.{bytes_as_utf8_text, tree_for_byte_units}
use Rattle.regress_match.specs.WorkBounds.{BoundedView, IsHigherOfProgramWorkBounds, IsPatternUnboundedBy, YieldsMatchesIfWorkSuffices, enough_work_for_text}
use Rattle.regress_match.specs.declared.api.regex.Regex.{Regex}
use Rattle.regress_c.specs.Codes.{refusal_of_work_error}
use Rattle.regress_c.specs.FirstMatchInWork.{IsFindResultWithinWork, IsFirstInWork, IsWorkBoundResult}
use Rattle.regress_c.specs.Searching.{IsTextWithValidStart, can_start_utf8}
use Rattle.regress_c.specs.declared.refusal.Refusal.{Refusal}
use Rattle.regress_c.specs.declared.refusal.Refusal.TheVariants.{Memory, Unbounded, WorkLimit}

module _ (re : Regex) (text : List ℕ) (start work left : ℕ) where
  pub started : (found : Result (Option Match) Refusal) → IsUtf8 text → can_start_utf8 text start → IsFirstInWork re text start work found left
      → IsFindResultWithinWork re text start work found left
  started (Ok m) is can first = (is, can, first)
  started (Err Memory) is can first = (is, can, first)
  started (Err (Unbounded reason)) is can first = (is, can, first)
  started (Err WorkLimit) is can first = (is, can, first)
  started (Err _) is can first = absurd first

-- A search by the bounded pattern is a search by its pattern in the text with these bytes.
pub found-by : (re : Regex) (bytes : List ℕ) (start work left : ℕ) (text : Bor (List ℕ)) (bounded : BoundedView) (found : Result (Option Match) Refusal)
    → IsTextWithValidStart bytes start (Ok text) → bounded.re ≡ re
    → IsFirstInWork bounded.re text.now start work found left → IsFindResultWithinWork re bytes start work found left
found-by re bytes start work left text bounded found starts of_re first =
    started re bytes start work left found starts.1 starts.2
    (subst (λ r. IsFirstInWork r bytes start work found left) of_re (subst (λ t. IsFirstInWork bounded.re t start work found left) starts.0 first))

-- The work per unit of a bounded pattern is a bound of its program.
pub enough-by : (re : Regex) (bounded : BoundedView) → bounded.re ≡ re → IsHigherOfProgramWorkBounds re bounded.per_unit
    → IsHigherOfProgramWorkBounds bounded.re bounded.per_unit
enough-by re bounded of_re each = subst (λ r. IsHigherOfProgramWorkBounds r bounded.per_unit) (sym of_re) each

-- A pattern without a bound is refused with the reason.
pub unbounded-by : (re : Regex) (bytes : List ℕ) (start work : ℕ) (text : Bor (List ℕ)) (reason : unbounded.Unbounded)
    → IsTextWithValidStart bytes start (Ok text) → IsPatternUnboundedBy re reason → IsFindResultWithinWork re bytes start work (Err (Unbounded reason)) work
unbounded-by re bytes start work text reason starts refused = (starts.1, starts.2, (refl, refused))

-- The work bound is that of the pattern that the handle holds.
pub work_bound_or_refusal-by : (held : Option Regex) (re at : Regex) (result : Result ℕ Refusal) → Some re ≡ held → at ≡ re → IsWorkBoundResult (Some at) result → IsWorkBoundResult held result
work_bound_or_refusal-by held re at result taken same is =
    subst (λ h. IsWorkBoundResult h result) taken (subst (λ r. IsWorkBoundResult (Some r) result) same is)

-- A property of an error holds for the result that hands the error on.
pub handed-on : {X : Type 0} (P : Result X Refusal → Type 0) (r : Result X Refusal) (e : Refusal) → IsErrAnd r (λ f. f ≡ e) → P (Err e) → P r
handed-on P (Ok x) e h p = absurd h
handed-on P (Err f) e h p = subst (λ f. P (Err f)) (sym h) p

-- The item that an iterator yields is turned into the result that the caller gets.
abbrev as_found : Result (Option Match) WorkError → Result (Option Match) Refusal
as_found (Ok m) = Ok m
as_found (Err e) = Err (refusal_of_work_error e)

module _ (re : Regex) (text : List ℕ) (start per_unit work : ℕ) (it behind : RemainingAnswersAndWork)
    (each : IsHigherOfProgramWorkBounds re per_unit) (yields : YieldsMatchesIfWorkSuffices (tree_for_byte_units re) (bytes_as_utf8_text re text) start per_unit work it) where
  no-more : (first : Option (Result Match WorkError)) → NextYieldsWithinWork it first behind → behind.left ≤ work
  no-more first gives = subst (λ l. behind.left ≤ l) yields.left gives.1

  pub too-little : it.enough ≡ false → work < enough_work_for_text per_unit (bytes_as_utf8_text re text)
  too-little e = by (leb_tells (enough_work_for_text per_unit (bytes_as_utf8_text re text)) work)
    where
      by : ((nat_le (enough_work_for_text per_unit (bytes_as_utf8_text re text)) work ≡ true) × (enough_work_for_text per_unit (bytes_as_utf8_text re text) ≤ work))
          ⊎ ((nat_le (enough_work_for_text per_unit (bytes_as_utf8_text re text)) work ≡ false) × (work < enough_work_for_text per_unit (bytes_as_utf8_text re text)))
          → work < enough_work_for_text per_unit (bytes_as_utf8_text re text)
      by (inl (t, l)) = let never : true ≡ false = sym (yields.enough l) ∙ e in absurd (cc)
      by (inr (t, l)) = l

  is-first : (first : Option (Result Match WorkError)) → NextYieldsWithinWork it first behind
      → IsFirstInWork re text start work (as_found (option_transpose first)) behind.left
  is-first None gives = (ap (λ ms. slice_get ms 0) (sym gives.0.0 ∙ yields.answers), no-more None gives)
  is-first (Some (Ok m)) gives = (ap (λ ms. slice_get ms 0) (sym gives.0.0 ∙ yields.answers), no-more (Some (Ok m)) gives)
  is-first (Some (Err worked.Memory)) gives = no-more (Some (Err worked.Memory)) gives
  is-first (Some (Err worked.WorkLimit)) gives = (gives.0.0.1, (per_unit, each, too-little gives.0.0.0))

  -- The first item and the work left after it are the result of the search.
  module _ (first : Option (Result Match WorkError)) (r : Result (Option Match) WorkError) (left : ℕ)
      (gives : NextYieldsWithinWork it first behind) (transposed : r ≡ option_transpose first) (left_is : left ≡ behind.left) where
    came : IsFirstInWork re text start work (as_found r) left
    came = subst (λ l. IsFirstInWork re text start work (as_found r) l) (sym left_is)
        (subst (λ r. IsFirstInWork re text start work (as_found r) behind.left) (sym transposed) (is-first first gives))

    pub refused-first : (e : WorkError) → r ≡ Err e → IsFirstInWork re text start work (Err (refusal_of_work_error e)) left
    refused-first e is = subst (λ r. IsFirstInWork re text start work (as_found r) left) is came
