-- The match at an offset is the one that an attempt there finds.
use Rattle.std.proofs.Common.{◌≡◌, ℕ, ◌-◌, ◌≤◌, Option, Some, None, Bool, true, false, refl, ap, sym, ◌∙◌, arith, le-leb}
use Rattle.std.proofs.lemmas.Bool.{leb-false}
use Rattle.std.specs.Prelude.{if◌then◌else◌, nat_le, option_map, option_and_then, IsTrue}
use Rattle.regex_meaning.specs.Tree.{Tree}
use Rattle.regex_meaning.specs.Text.{Text}
use Rattle.regex_meaning.specs.CodeUnitOffsets.{HasRisingPlaceOffsets, place_at, units}
use Rattle.regex_meaning.specs.Outcomes.{Groups, Outcome}
use Rattle.regex_meaning.specs.FirstAndAllMatches.{match_at}
use Rattle.regex_meaning.specs.MatchGroupsByNumberAndName.{Answer, answer, group_names_by_id}
use Rattle.regex_meaning.specs.SearchAnswers.{answer_at}
use Rattle.regex_meaning.specs.StepBudget.{budget_suffices, remaining_budget}
use Rattle.regex_meaning.specs.OutcomesWithStepTicks.{items_at, ticks_to_first}
use Rattle.std.specs.Option.{option_map_or}
use Rattle.regex_meaning.proofs.CodeUnitOffsetsLemmas.{offset-place_at, place_at-past}
use Rattle.regress_machine.specs.SearchFindsFirstOutcomeAtPlace.{end_in_offsets, first_outcome_among_ticks}
use Rattle.regress_search.specs.MatchesAsSpecAnswers.{answer_from_parts}
use Rattle.regress_search.specs.AttemptsAndStarts.{match_end_and_groups_at, end_with_groups, ticks_of_attempt_at}
use Rattle.regress_search.proofs.FirstMatchLemmas.{found_by, match-first, same-answer}

-- The position for an offset has that offset.
pub position-at : {P : Type 0} (offset : P → ℕ) (size at : ℕ) (o : Option P) (p : P) → option_map offset o ≡ (if nat_le at size then Some at else None) → o ≡ Some p → offset p ≡ at
position-at offset size at o p e is = by (nat_le at size) (sym (ap (option_map offset) is) ∙ e)
  where
    by : (b : Bool) → Some (offset p) ≡ (if b then Some at else None) → offset p ≡ at
    by true e = cc
    by false e = cc

module _ (tree : Tree) (text : Text) (is : HasRisingPlaceOffsets text) where
  -- `answer_with` makes an answer of an end and groups that an attempt found.
  abbrev pub answer_with : (at : ℕ) → ℕ × Groups → Answer
  answer_with at end = answer_from_parts at end.0 end.1 (group_names_by_id tree.root)

  at-place : (at : ℕ) (place : Option ℕ) → place_at text at ≡ place
      → option_map (answer tree.root text) (option_and_then (match_at tree.root text) place)
      ≡ option_map (answer_with at) (option_and_then (λ p. option_map (end_in_offsets text) (first_outcome_among_ticks (items_at tree text p))) place)
  at-place at None e = refl
  at-place at (Some p) e = ap (option_map (answer tree.root text)) (match-first tree text is p) ∙ by (first_outcome_among_ticks (items_at tree text p))
    where
      by : (o : Option Outcome)
          → option_map (answer tree.root text) (option_map (found_by p) o) ≡ option_map (answer_with at) (option_map (end_in_offsets text) o)
      by None = refl
      by (Some o) = ap Some (same-answer _ _ _ _ _ _ _ _ (offset-place_at text at p is e).0 refl refl refl)

  -- The match at an offset is what an attempt there finds.
  pub answer_at-end : (at : ℕ) → answer_at tree.root text at ≡ option_map (answer_with at) (match_end_and_groups_at tree text at)
  answer_at-end at = at-place at (place_at text at) refl

  pub answer_at-vain : {P : Type 0} (offset : P → ℕ) (groups : Groups) (at from : ℕ) (o : Option P) → from ≡ at → end_with_groups offset o groups ≡ match_end_and_groups_at tree text from → o ≡ None
      → None ≡ answer_at tree.root text at
  answer_at-vain offset groups at from o same ends none =
      sym (answer_at-end at ∙ ap (option_map (answer_with at)) (ap (match_end_and_groups_at tree text) (sym same) ∙ sym ends ∙ ap (λ o. end_with_groups offset o groups) none))

  pub answer_at-found : {P : Type 0} (offset : P → ℕ) (groups : Groups) (at from : ℕ) (o : Option P) (end : P) → from ≡ at → end_with_groups offset o groups ≡ match_end_and_groups_at tree text from → o ≡ Some end
      → Some (answer_from_parts from (offset end) groups (group_names_by_id tree.root)) ≡ answer_at tree.root text at
  answer_at-found offset groups at from o end same ends some =
      ap (λ n. Some (answer_from_parts n (offset end) groups (group_names_by_id tree.root))) same
      ∙ sym (answer_at-end at ∙ ap (option_map (answer_with at)) (ap (match_end_and_groups_at tree text) (sym same) ∙ sym ends ∙ ap (λ o. end_with_groups offset o groups) some))

  -- An offset without a position has no place.
  past : {P : Type 0} (offset : P → ℕ) (at : ℕ) (o : Option P) → option_map offset o ≡ (if nat_le at (units text) then Some at else None) → o ≡ None → place_at text at ≡ None
  past offset at o e none = by (nat_le at (units text)) refl (sym (ap (option_map offset) none) ∙ e)
    where
      by : (b : Bool) → nat_le at (units text) ≡ b → None ≡ (if b then Some at else None) → place_at text at ≡ None
      by true q e = absurd (cc e)
      by false q e = place_at-past text at is (leb-false at (units text) q)

  pub answer_at-past : {P : Type 0} (offset : P → ℕ) (at : ℕ) (o : Option P) → option_map offset o ≡ (if nat_le at (units text) then Some at else None) → o ≡ None
      → None ≡ answer_at tree.root text at
  answer_at-past offset at o e none =
      sym (ap (λ place. option_map (answer tree.root text) (option_and_then (match_at tree.root text) place)) (past offset at o e none))

  -- An attempt at an offset without a position takes no step.
  pub no-step : {P : Type 0} (offset : P → ℕ) (at : ℕ) (o : Option P) (budget : Option ℕ) → option_map offset o ≡ (if nat_le at (units text) then Some at else None) → o ≡ None
      → IsTrue (budget_suffices budget (ticks_of_attempt_at tree text at)) × (budget ≡ remaining_budget budget (ticks_of_attempt_at tree text at))
  no-step offset at o budget e none =
      let zero : ticks_of_attempt_at tree text at ≡ 0 = ap (λ place. option_map_or (λ p. ticks_to_first (items_at tree text p)) place 0) (past offset at o e none) in
      rw zero (by budget)
    where
      by : (budget : Option ℕ) → IsTrue (budget_suffices budget 0) × (budget ≡ remaining_budget budget 0)
      by None = (refl, refl)
      by (Some n) = (le-leb 0 n (omega arith), let same : n ≡ n - 0 = omega arith in ap Some same)
