-- A call of an iterator takes the first of the remaining matches, finds that none is left, or is
-- refused.
use Rattle.std.proofs.Common.{◌≡◌, ℕ, suc, ◌+◌, ◌<◌, ◌≤◌, [], ◌∷◌, length, Option, Some, None, Result, Ok, Err, Bool, true, false, not, refl, sym, ap, ap₂, ◌∙◌, arith, eq-eqb}
use Rattle.std.proofs.lemmas.Bool.{leb-false}
use Rattle.std.specs.Prelude.{◌==◌, if◌then◌else◌, nat_le, is_none, IsTrue}
use Rattle.std.specs.Option.{option_map_or}
use Rattle.regex_meaning.specs.Tree.{Tree}
use Rattle.regex_meaning.specs.Text.{Text}
use Rattle.regex_meaning.specs.CodeUnitOffsets.{HasRisingPlaceOffsets, IsBoundary, place_at, units}
use Rattle.regex_meaning.specs.MatchGroupsByNumberAndName.{Answer, answers_from}
use Rattle.regex_meaning.specs.SearchAnswers.{first_answer, next_start}
use Rattle.regex_meaning.specs.StepBudget.{budget_suffices, remaining_budget, need_from, answers_within, finishes_within, answers_within_from_next, finishes_from_next}
use Rattle.regex_meaning.specs.OutcomesWithStepTicks.{needs}
use Rattle.regex_meaning.proofs.StepBudgetLemmas.{within-some, within-none, beyond}
use Rattle.regex_meaning.proofs.CodeUnitOffsetsLemmas.{place_at-past}
use Rattle.regex_meaning.proofs.SearchAnswersLemmas.{next_start-ahead}
use Rattle.regress_search.specs.declared.exec.SearchError.{SearchError}
use Rattle.regress_search.specs.declared.exec.SearchError.TheVariants.{Memory, StepLimit}
use Rattle.regress_search.specs.SearchEffects.{SpendsNeedOrReachesLimit}
use Rattle.regress_search.specs.RemainingAnswers.{NextYields, EndsAtTextEnd, MayReturnError, RemainingView, remaining_answers_from, max_items_left}
use Rattle.regress_search.specs.declared.exec.Match.{Match}
use Rattle.regress_search.proofs.LastMatchLemmas.{ends-behind}

module _ (tree : Tree) (text : Text) (is : HasRisingPlaceOffsets text) where
  pub new-comes : (budget : Option ℕ) (start : ℕ) (position : Option ℕ) → position ≡ (if nat_le start (units text) then Some start else None)
      → (answers_within_from_next tree text budget position ≡ answers_within tree text budget start) × (finishes_from_next tree text budget position ≡ finishes_within tree text budget start)
  unfolding answers_from
  new-comes budget start position e = by (nat_le start (units text)) refl e
    where
      past-end : place_at text start ≡ None → (budget : Option ℕ)
          → ([] ≡ answers_within tree text budget start) × (true ≡ finishes_within tree text budget start)
      past-end q None = (rw q refl, refl)
      past-end q (Some steps) = (rw q refl, rw q refl)

      by : (b : Bool) → nat_le start (units text) ≡ b → position ≡ (if b then Some start else None)
          → (answers_within_from_next tree text budget position ≡ answers_within tree text budget start) × (finishes_from_next tree text budget position ≡ finishes_within tree text budget start)
      by true q e = (ap (answers_within_from_next tree text budget) e, ap (finishes_from_next tree text budget) e)
      by false q e =
          let none = past-end (place_at-past text start is (leb-false start (units text) q)) budget in
          (ap (answers_within_from_next tree text budget) e ∙ none.0, ap (finishes_from_next tree text budget) e ∙ none.1)

  module _ (s : RemainingView) (budget position : Option ℕ) (out : Bool) (at : ℕ) (was : remaining_answers_from tree text budget position out ≡ s) (here : position ≡ Some at) where
    answers-here : s.answers ≡ answers_within tree text budget at
    answers-here = ap (λ (s : RemainingView). s.answers) (sym was) ∙ ap (answers_within_from_next tree text budget) here

    limit-here : s.limited ≡ not (finishes_within tree text budget at)
    limit-here = ap (λ (s : RemainingView). s.limited) (sym was) ∙ ap (λ p. not (finishes_from_next tree text budget p)) here

    pub not-ended : s.ended ≡ false
    not-ended = ap (λ (s : RemainingView). s.ended) (sym was) ∙ ap is_none here

    end-is : units text ≡ s.text_end
    end-is = ap (λ (s : RemainingView). s.text_end) was

    -- If a call finds a match, that is the first remaining answer, and the others remain.
    pub call-some : (a : Answer) (tree' : Tree) (text' : Text) (after next : Option ℕ) → Some a ≡ first_answer tree.root text at → next ≡ next_start tree.root text at
        → tree' ≡ tree → text' ≡ text → IsTrue (budget_suffices budget (need_from tree text at)) → after ≡ remaining_budget budget (need_from tree text at)
        → (s.answers ≡ a ∷ answers_within_from_next tree' text' after next) × (s.limited ≡ not (finishes_from_next tree' text' after next)) × (s.ended ≡ false)
        × (units text' ≡ s.text_end) × (is_none next ≡ (a.range.0 == s.text_end))
    call-some a tree' text' after next found on r t within left =
        let w = within-some tree text is budget at a (sym found) within in (
          answers-here ∙ w.0 ∙ ap₂ (λ b n. a ∷ answers_within_from_next tree text b n) (sym left) (sym on) ∙ ap₂ (λ r t. a ∷ answers_within_from_next r t after next) (sym r) (sym t),
          limit-here ∙ ap not (w.1 ∙ ap₂ (finishes_from_next tree text) (sym left) (sym on)) ∙ ap₂ (λ r t. not (finishes_from_next r t after next)) (sym r) (sym t),
          not-ended,
          ap units t ∙ end-is,
          ap is_none on ∙ ends-behind tree.root text is at a (sym found) ∙ ap (λ n. a.range.0 == n) end-is,
        )

    -- If a call finds no match within the budget, no answer remains.
    pub call-none : None ≡ first_answer tree.root text at → IsTrue (budget_suffices budget (need_from tree text at)) → (s.answers ≡ []) × (s.limited ≡ false)
    call-none found within =
        let w = within-none tree text is budget at (sym found) within in
        (answers-here ∙ w.0, limit-here ∙ ap not w.1)

    -- If a call is refused, the iterator may return that error.
    pub call-refused : (X : Type 0) (e : SearchError) (after : Option ℕ) → SpendsNeedOrReachesLimit {X = X} (need_from tree text at) budget (Err e) after → MayReturnError e s
    call-refused X Memory after r = tt
    call-refused X StepLimit after r = let w = beyond tree text is budget at r.0 in (answers-here ∙ w.0, limit-here ∙ ap not w.1)

  pub next-boundary : (at next : ℕ) → Some next ≡ next_start tree.root text at → IsBoundary text next
  next-boundary at next e = (next_start-ahead tree.root text is at next (sym e)).1

pub fewer : (s t : RemainingView) (a : Answer) → s.answers ≡ a ∷ t.answers → s.ended ≡ false → max_items_left t < max_items_left s
fewer s t a e f =
    let now : max_items_left s ≡ length s.answers + 1 = ap (λ b. if b then 0 else length s.answers + 1) f in
    let more : length s.answers ≡ suc (length t.answers) = ap length e in
    let few = at_most_more t.ended (length t.answers) in
    omega arith
  where
    at_most_more : (b : Bool) (n : ℕ) → (if b then 0 else n + 1) ≤ n + 1
    at_most_more true n = omega arith
    at_most_more false n = omega arith

ended-none : (s t : RemainingView) (next : Option (Result Match SearchError)) → s.ended ≡ true → NextYields s next t → next ≡ None
ended-none s t None e g = refl
ended-none s t (Some (Ok m)) e g = absurd (cc (sym e ∙ g.2))
ended-none s t (Some (Err x)) e g = absurd (cc (sym e ∙ g.1))

pub last-ends : EndsAtTextEnd
last-ends s t u m next g at k =
    ended-none t u next (g.4 ∙ eq-eqb m.range.start s.text_end at) k
