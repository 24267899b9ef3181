-- A search that resumes from an offset finds the next match and takes exactly the steps that it needs.
use Rattle.std.proofs.Common.{◌≡◌, ℕ, ◌-◌, ◌^◌, ◌<◌, ◌⊎◌, inl, inr, [], ◌∷◌, ◌++◌, List, length, Option, Some, None, Result, Ok, Err, Bool, true, false, refl, sym, ap, ◌∙◌, subst, arith, IsTrue}
use Rattle.std.proofs.lemmas.Bool.{leb-false, lt-leb}
use Rattle.std.specs.Prelude.{nat_le, if◌then◌else◌, option_map, unwrap_or}
use Rattle.std.specs.Option.{option_map_or}
use Rattle.std.specs.Result.{IsErrAnd}
use Rattle.regex_meaning.specs.SearchAnswers.{first_answer, next_start, answer_then_list}
use Rattle.regex_meaning.specs.Laws.{Each, IsWellFormedAnswerFor}
use Rattle.regex_meaning.specs.MatchGroupsByNumberAndName.{Answer, answers_from}
use Rattle.regex_meaning.specs.CodeUnitOffsets.{IsBoundary, HasRisingPlaceOffsets, place_at, units, IsBoundaryOrPastEnd}
use Rattle.regex_meaning.specs.OutcomesWithStepTicks.{need}
use Rattle.regex_meaning.specs.StepBudget.{answers_within_from_next, answers_within, finishes_from_next, finishes_within, budget_suffices, remaining_budget, need_from}
use Rattle.regex_meaning.specs.Text.{Text}
use Rattle.regex_meaning.specs.Tree.{Tree, group_ids}
use Rattle.regex_meaning.proofs.SearchAnswersLemmas.{answers-go_on, next_start-ahead}
use Rattle.regex_meaning.proofs.MatchOrderLemmas.{answers-IsWellFormedAnswerFor}
use Rattle.regex_meaning.proofs.StepBudgetLemmas.{within-some, within-none, beyond}
use Rattle.regex_meaning.proofs.CodeUnitOffsetsLemmas.{place_at-past}
use Rattle.regress_search.specs.MatchesAsSpecAnswers.{answer_of}
use Rattle.regress_search.specs.CostsOfSearches.{AttemptsFail, Failures, IfWorkIsCounted, SearchCosts, TakesExactCost, finds_none, no_attempt, WorkCosts}
use Rattle.regress_search.specs.SearchEffects.{SpendsNeedOrReachesLimit}
use Rattle.regress_search.specs.declared.exec.Match.{Match}
use Rattle.regress_search.specs.declared.exec.SearchError.{SearchError}
use Rattle.regress_search.specs.declared.exec.SearchError.TheVariants.{Memory, StepLimit}
use Rattle.regress_search.proofs.SearchCostLemmas.{counted}
use Rattle.regress_search.proofs.StepBudgetLemmas.{handed}
use Rattle.regress_search.proofs.RemainingAnswerLemmas.{new-comes}
use Rattle.regress_match.specs.Resuming.{IsResultOfNextFrom, IsExhaustedFrom, AreFoundInOrder, FindsNext, offset_after_first_match, step_budget_after_first_match}
use Rattle.regress_match.specs.declared.api.searches_resumed_at_offsets.MatchAndNext.{MatchAndNext}

abbrev pub greatest : ℕ
greatest = 2 ^ 64 - 1

offset-is : (b : Bool) (at start : ℕ) → Some at ≡ (if b then Some start else None) → at ≡ start
offset-is true at start e = cc
offset-is false at start e = cc

-- The position found has the given offset, and no position is found past the end.
pub place-is : {P : Type 0} (offset : P → ℕ) (found : Option P) (p : P) (last start : ℕ) → found ≡ Some p
    → option_map offset found ≡ (if nat_le start last then Some start else None) → offset p ≡ start
place-is offset found p last start e at = offset-is (nat_le start last) (offset p) start (sym (ap (option_map offset) e) ∙ at)

pub place-none : {P : Type 0} (offset : P → ℕ) (found : Option P) (last start : ℕ) → found ≡ None
    → option_map offset found ≡ (if nat_le start last then Some start else None) → None ≡ (if nat_le start last then Some start else None)
place-none offset found last start e at = sym (ap (option_map offset) e) ∙ at

-- The list of matches continues at the next start, or past the end.
pub next-is : (tree : Tree) (text : Text) (at start n : ℕ) (next : Option ℕ) → n ≡ unwrap_or next greatest → next ≡ next_start tree.root text at → at ≡ start
    → n ≡ offset_after_first_match tree text start
next-is tree text at start n next e on here = e ∙ ap (λ p. unwrap_or p greatest) on ∙ ap (offset_after_first_match tree text) here

-- ---- Work

module _ (b : Bool) {P : Type 0} (offset : P → ℕ) (costs : WorkCosts)
    (tree : Tree) (text : Text) (before : Failures) (found : Option P) (first : Option ℕ) (at : option_map offset found ≡ first) where
  -- A search from a position costs what a search from its offset costs.
  pub costs-from : (pos : P) → found ≡ Some pos → (Spends : ((cost : ℕ) → (after : Option Failures) → Type 0) → Type 0)
      → IfWorkIsCounted b (Spends (SearchCosts costs tree text before (Some (offset pos)))) → IfWorkIsCounted b (Spends (SearchCosts costs tree text before first))
  costs-from pos was Spends h = subst (λ p. IfWorkIsCounted b (Spends (SearchCosts costs tree text before p))) (sym (ap (option_map offset) was) ∙ at) h

  -- A search past the end costs nothing.
  pub past-costs : (left : ℕ) → found ≡ None → IfWorkIsCounted b (TakesExactCost (SearchCosts costs tree text before first) left left before)
  past-costs left none =
      counted b (0, finds_none 0 before (subst (λ p. AttemptsFail costs tree text before first 0 before p) (sym at ∙ ap (option_map offset) none) no_attempt), omega arith)

-- ---- Steps

module _ (tree : Tree) (text : Text) (is : HasRisingPlaceOffsets text) where
  -- Past the end no step is taken.
  past-steps : (budget : Option ℕ) (start : ℕ) → None ≡ (if nat_le start (units text) then Some start else None) → budget ≡ step_budget_after_first_match tree text budget start
  past-steps budget start e = by (nat_le start (units text)) refl e
    where
      none-spent : (budget : Option ℕ) → budget ≡ remaining_budget budget 0
      none-spent None = refl
      none-spent (Some n) = let same : n ≡ n - 0 = omega arith in ap Some same

      by : (b : Bool) → nat_le start (units text) ≡ b → None ≡ (if b then Some start else None) → budget ≡ step_budget_after_first_match tree text budget start
      by true q e = absurd (cc e)
      by false q e =
          let zero : need_from tree text start ≡ 0 =
          ap (λ place. option_map_or (need tree text) place 0) (place_at-past text start is (leb-false start (units text) q)) in
          subst (λ n. budget ≡ remaining_budget budget n) (sym zero) (none-spent budget)

  -- Past the end no match is left and no step is taken.
  pub past-over : (budget : Option ℕ) (start : ℕ) → None ≡ (if nat_le start (units text) then Some start else None)
      → IsExhaustedFrom tree text budget start × (budget ≡ step_budget_after_first_match tree text budget start)
  past-over budget start e = let n = new-comes tree text is budget start None e in ((sym n.0, sym n.1), past-steps budget start e)

  pub none-over : {X : Type 0} (budget : Option ℕ) (start : ℕ) (x : X) (after : Option ℕ) → None ≡ first_answer tree.root text start
      → SpendsNeedOrReachesLimit (need_from tree text start) budget (Ok x) after → IsExhaustedFrom tree text budget start × (after ≡ step_budget_after_first_match tree text budget start)
  none-over budget start x after found (within, left) = (within-none tree text is budget start (sym found) within, left)

  -- The list of answers continues at the next start, or past the end.
  module _ (fits : units text < greatest) where
    comes-next : (budget next : Option ℕ)
        → (answers_within_from_next tree text budget next ≡ answers_within tree text budget (unwrap_or next greatest))
        × (finishes_from_next tree text budget next ≡ finishes_within tree text budget (unwrap_or next greatest))
    comes-next budget (Some q) = (refl, refl)
    comes-next budget None = new-comes tree text is budget greatest None (ap (λ b. if b then Some greatest else None) (sym (lt-leb greatest (units text) fits)))

    starts-next : (start : ℕ) (next : Option ℕ) → next ≡ next_start tree.root text start → IsBoundaryOrPastEnd text (unwrap_or next greatest)
    starts-next start (Some q) e = inl (next_start-ahead tree.root text is start q (sym e)).1
    starts-next start None e = inr fits

    answer-groups : (start : ℕ) (a : Answer) → Some a ≡ first_answer tree.root text start → length a.captures ≡ length (group_ids tree.root)
    answer-groups start a found =
        let list : answers_from tree.root text start ≡ answer_then_list tree.root text (Some a) (next_start tree.root text start) =
        answers-go_on tree.root text is start ∙ ap (λ m. answer_then_list tree.root text m (next_start tree.root text start)) (sym found) in
        (subst (λ ms. Each (IsWellFormedAnswerFor tree.root text) ms) list (answers-IsWellFormedAnswerFor tree.root text is start)).0.count

    pub steps-to : {X : Type 0} (budget : Option ℕ) (start : ℕ) (m : Match) (x : X) (next after : Option ℕ) (n : ℕ) → n ≡ unwrap_or next greatest
        → Some (answer_of m) ≡ first_answer tree.root text start → next ≡ next_start tree.root text start
        → SpendsNeedOrReachesLimit (need_from tree text start) budget (Ok x) after → FindsNext tree text budget start (answer_of m) n after
    steps-to budget start m x next after n e found on (within, left) =
        let w = within-some tree text is budget start (answer_of m) (sym found) within in
        let here = comes-next after next in
        let a : answers_within tree text budget start ≡ answer_of m ∷ answers_within tree text after n =
        w.0 ∙ ap (λ l. answer_of m ∷ answers_within_from_next tree text l (next_start tree.root text start)) (sym left)
        ∙ ap (λ p. answer_of m ∷ answers_within_from_next tree text after p) (sym on) ∙ ap (λ l. answer_of m ∷ l) here.0
        ∙ ap (λ k. answer_of m ∷ answers_within tree text after k) (sym e) in
        let l : finishes_within tree text budget start ≡ finishes_within tree text after n =
        w.1 ∙ ap (λ l. finishes_from_next tree text l (next_start tree.root text start)) (sym left)
        ∙ ap (λ p. finishes_from_next tree text after p) (sym on) ∙ here.1 ∙ ap (λ k. finishes_within tree text after k) (sym e) in
        record {
          answers = a;
          limit = l;
          starts = subst (λ k. IsBoundaryOrPastEnd text k) (sym e) (starts-next start next on);
          steps = left;
          groups = answer-groups start (answer_of m) found;
        }

  refusal-from : (budget : Option ℕ) (start : ℕ) (e : SearchError) (after : Option ℕ)
      → SpendsNeedOrReachesLimit {X = Option MatchAndNext} (need_from tree text start) budget (Err e) after → IsResultOfNextFrom tree text budget start (Err e) after
  refusal-from budget start Memory after s = s
  refusal-from budget start StepLimit after s = let b = beyond tree text is budget start s.0 in (b.0, b.1, s.1)

  pub refused-from : (X : Type 0) (budget : Option ℕ) (start : ℕ) (e : SearchError) (after : Option ℕ) (r : Result (Option MatchAndNext) SearchError) → IsErrAnd r (λ f. f ≡ e)
      → SpendsNeedOrReachesLimit {X = X} (need_from tree text start) budget (Err e) after → IsResultOfNextFrom tree text budget start r after
  refused-from X budget start e after (Ok y) h s = absurd h
  refused-from X budget start e after (Err f) h s =
      refusal-from budget start f after (handed X (Option MatchAndNext) (need_from tree text start) budget after e (Err f) h s)

-- Matches found in order extend the list by the next match.
pub turn-more : (tree : Tree) (text : Text) (budget : Option ℕ) (start : ℕ) (ms : List Answer) (m : Answer) (left left' : Option ℕ) (next next' : ℕ)
    → AreFoundInOrder tree text budget start ms left next → FindsNext tree text left next m next' left' → AreFoundInOrder tree text budget start (ms ++ m ∷ []) left' next'
turn-more tree text budget start [] m left left' next next' (e, f) s =
    let here : FindsNext tree text budget start m next' left' =
    subst (λ b. FindsNext tree text b start m next' left') e (subst (λ n. FindsNext tree text left n m next' left') f s) in
    (next', subst (λ l. FindsNext tree text budget start m next' l) here.steps here, (here.steps, refl))
turn-more tree text budget start (x ∷ ms) m left left' next next' (to, h, k) s =
    (to, h, turn-more tree text (step_budget_after_first_match tree text budget start) to ms m left left' next next' k s)
