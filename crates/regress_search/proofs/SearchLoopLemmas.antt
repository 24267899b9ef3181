-- An attempt at the next candidate start ends the search loop with a match, or the loop tries a
-- later one.
use Rattle.std.proofs.Common.{◌≡◌, ◌+◌, ◌<◌, ℕ, Option, Some, None, Err, ap, ap₂, sym, ◌∙◌, subst, option_map}
use Rattle.std.specs.Prelude.{IsTrue, is_some}
use Rattle.regex_meaning.specs.Tree.{Tree}
use Rattle.regex_meaning.specs.Text.{Text}
use Rattle.regex_meaning.specs.CodeUnitOffsets.{HasRisingPlaceOffsets, IsBoundary}
use Rattle.regex_meaning.specs.Outcomes.{Groups}
use Rattle.regex_meaning.specs.MatchGroupsByNumberAndName.{group_names_by_id}
use Rattle.regex_meaning.specs.SearchAnswers.{first_answer, next_start}
use Rattle.regex_meaning.specs.StepBudget.{budget_suffices, remaining_budget, need_from}
use Rattle.regress_search.specs.MatchesAsSpecAnswers.{answer_from_parts}
use Rattle.regress_search.specs.AttemptsAndStarts.{NextStartSkipsNoMatch, NoMatchAt, end_with_groups, match_end_and_groups_at, next_filtered_start, next_search_offset, ticks_of_attempt_at}
use Rattle.regress_search.specs.SearchEffects.{SpendsNeedOrReachesLimit}
use Rattle.regress_search.specs.declared.exec.SearchError.{SearchError}
use Rattle.regress_search.proofs.StepBudgetLemmas.{IsSpent, refused, spent-found, spent-goes, taken}
use Rattle.regress_search.proofs.FirstMatchLemmas.{found-first}
use Rattle.regress_search.proofs.SkippedStartLemmas.{Walks, untried, walk-goes}

-- The search goes on from `next`, and the budget has paid for the steps before it.
pub record Walk (tree : Tree) (text : Text) (first : ℕ) (at_first now : Option ℕ) (next : Option ℕ) : Type 0 where
  pub walks : Walks tree text first next
  pub spent : IsSpent tree text at_first now (need_from tree text first) next

-- An attempt at `at` has ended with `end` within the budget, and leaves `after`.
pub record Attempt (tree : Tree) (text : Text) (first : ℕ) (at_first now after : Option ℕ) (at : ℕ) (end : Option (ℕ × Groups)) : Type 0 where
  pub walk : Walk tree text first at_first now (Some at)
  pub ends : end ≡ match_end_and_groups_at tree text at
  pub took : IsTrue (budget_suffices now (ticks_of_attempt_at tree text at)) × (after ≡ remaining_budget now (ticks_of_attempt_at tree text at))

-- The match that was found is the first answer, and the list goes on behind it.
pub record Found (tree : Tree) (text : Text) (first : ℕ) (at_first after : Option ℕ) (at end : ℕ) (groups : Groups) : Type 0 where
  pub answer : Some (answer_from_parts at end groups (group_names_by_id tree.root)) ≡ first_answer tree.root text first
  pub behind : next_search_offset text at end ≡ next_start tree.root text first
  pub boundary : IsBoundary text end
  pub spends : IsTrue (budget_suffices at_first (need_from tree text first)) × (after ≡ remaining_budget at_first (need_from tree text first))

-- The search goes on from the next place, with less of the text untried.
pub record Goes (tree : Tree) (text : Text) (first : ℕ) (at_first after : Option ℕ) (at : ℕ) (next : Option ℕ) : Type 0 where
  pub walk : Walk tree text first at_first after next
  pub less : untried text next < untried text (Some at)

-- The lemmas take trees and texts that are equal to those of the search.
module _ {tree : Tree} {text : Text} {first : ℕ} {at_first now : Option ℕ} where
  pub walk-at : {P : Type 0} (offset : P → ℕ) {next : Option P} {at : P} → Walk tree text first at_first now (option_map offset next) → next ≡ Some at → Walk tree text first at_first now (Some (offset at))
  walk-at offset w is = subst (λ o. Walk tree text first at_first now (option_map offset o)) is w

  pub attempt-at : {tree' : Tree} {text' : Text} {after : Option ℕ} {at : ℕ} {end : Option (ℕ × Groups)} → Walk tree text first at_first now (Some at) → tree' ≡ tree → text' ≡ text
      → end ≡ match_end_and_groups_at tree' text' at → IsTrue (budget_suffices now (ticks_of_attempt_at tree' text' at)) × (after ≡ remaining_budget now (ticks_of_attempt_at tree' text' at))
      → Attempt tree text first at_first now after at end
  attempt-at {tree' = tree'} {text' = text'} {after = after} {at = at} w t x ends took = record {
    walk = w;
    ends = ends ∙ ap₂ (λ t x. match_end_and_groups_at t x at) t x;
    took = taken tree text tree' text' now after at t x took;
  }

  module _ {after : Option ℕ} {at : ℕ} where
    attempt-found : {P : Type 0} (offset : P → ℕ) (groups : Groups) {o : Option P} {end : P} → HasRisingPlaceOffsets text → o ≡ Some end
        → Attempt tree text first at_first now after at (end_with_groups offset o groups) → Found tree text first at_first after at (offset end) groups
    attempt-found offset groups {end = end} is some a =
        let here : match_end_and_groups_at tree text at ≡ Some (offset end, groups) = sym a.ends ∙ ap (λ o. end_with_groups offset o groups) some in
        let found = found-first tree text is first at (offset end) groups a.walk.walks here in
        record {
          answer = found.0;
          behind = found.1;
          boundary = found.2;
          spends = spent-found tree text is at_first now after (need_from tree text first) at (offset end, groups) a.walk.spent a.took.0 a.took.1 here;
        }

    attempt-vain : {P : Type 0} (offset : P → ℕ) (groups : Groups) {o : Option P} → o ≡ None → Attempt tree text first at_first now after at (end_with_groups offset o groups)
        → NoMatchAt tree text at
    attempt-vain offset groups none a = sym a.ends ∙ ap (λ o. end_with_groups offset o groups) none

    attempt-goes : {end : Option (ℕ × Groups)} {tree' : Tree} {text' : Text} {next : Option ℕ} → HasRisingPlaceOffsets text → Attempt tree text first at_first now after at end → NoMatchAt tree text at → tree' ≡ tree → text' ≡ text
        → NextStartSkipsNoMatch tree' text' (at + 1) next → (IsTrue (is_some after) → next ≡ next_filtered_start tree' text' at) → Goes tree text first at_first after at next
    attempt-goes {tree' = tree'} {text' = text'} {next = next} is a vain t x tries counted =
        let same = subst (λ t. NextStartSkipsNoMatch t text (at + 1) next) t (subst (λ x. NextStartSkipsNoMatch tree' x (at + 1) next) x tries) in
        let goes = walk-goes tree text is first at next a.walk.walks vain same in
        record {
          walk = record {
            walks = goes.0;
            spent =
                spent-goes tree text is at_first now after (need_from tree text first) at next a.walk.spent a.took.0 a.took.1 vain
                (λ some. counted some ∙ ap₂ (λ t x. next_filtered_start t x at) t x);
          };
          less = goes.1;
        }

  -- ---- Results of an attempt at the next place

  module _ {P : Type 0} (offset : P → ℕ) (groups : Groups) {tree' : Tree} {text' : Text} {after : Option ℕ} {next o : Option P} {at : P} (is : HasRisingPlaceOffsets text)
      (walk : Walk tree text first at_first now (option_map offset next)) (here : next ≡ Some at) (same_tree : tree' ≡ tree) (same_text : text' ≡ text)
      (ends : end_with_groups offset o groups ≡ match_end_and_groups_at tree' text' (offset at))
      (took : IsTrue (budget_suffices now (ticks_of_attempt_at tree' text' (offset at))) × (after ≡ remaining_budget now (ticks_of_attempt_at tree' text' (offset at)))) where
    pub found-there : {end : P} → o ≡ Some end → Found tree text first at_first after (offset at) (offset end) groups
    found-there some = attempt-found offset groups is some (attempt-at (walk-at offset walk here) same_tree same_text ends took)

    pub goes-there : {tree'' : Tree} {text'' : Text} {further : Option ℕ} → o ≡ None → tree'' ≡ tree' → text'' ≡ text' → NextStartSkipsNoMatch tree'' text'' (offset at + 1) further
        → (IsTrue (is_some after) → further ≡ next_filtered_start tree'' text'' (offset at)) → Goes tree text first at_first after (offset at) further
    goes-there none t x tries counted =
        let there : Attempt tree text first at_first now after (offset at) (end_with_groups offset o groups) = attempt-at (walk-at offset walk here) same_tree same_text ends took in
        attempt-goes is there (attempt-vain offset groups none there) (t ∙ same_tree) (x ∙ same_text) tries counted

  -- If an attempt is refused, the search is refused with the same error.
  pub attempt-refused : {tree' : Tree} {text' : Text} {at : ℕ} → HasRisingPlaceOffsets text → (X : Type 0) (after : Option ℕ) (e : SearchError) → Walk tree text first at_first now (Some at) → tree' ≡ tree → text' ≡ text
      → SpendsNeedOrReachesLimit {X = X} (ticks_of_attempt_at tree' text' at) now (Err e) after → SpendsNeedOrReachesLimit {X = X} (need_from tree text first) at_first (Err e) after
  attempt-refused {tree' = tree'} {text' = text'} {at = at} is X after e w t x spends =
      refused tree text is at_first now after (need_from tree text first) at X X e w.spent
      (subst (λ t. SpendsNeedOrReachesLimit {X = X} (ticks_of_attempt_at t text at) now (Err e) after) t (subst (λ x. SpendsNeedOrReachesLimit {X = X} (ticks_of_attempt_at tree' x at) now (Err e) after) x spends))
