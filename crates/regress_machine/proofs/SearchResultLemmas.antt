-- The result of a search from a position is the match there, and its steps are the ticks there.
use Rattle.std.proofs.Common.{◌≡◌, ℕ, ◌+◌, ◌≤◌, List, [], ◌∷◌, Option, Some, None, Bool, true, false, refl, ap, ◌∙◌, sym, arith}
use Rattle.std.specs.Prelude.{option_map, is_some, if◌then◌else◌}
use Rattle.regex_meaning.specs.Tree.{Tree}
use Rattle.regex_meaning.specs.Text.{Text, rightwards, last_place}
use Rattle.regex_meaning.specs.CodeUnitOffsets.{offset}
use Rattle.regex_meaning.specs.FirstAndAllMatches.{no_groups, first_outcome, match_at}
use Rattle.regex_meaning.specs.OutcomesWithStepTicks.{TickOrOutcome, tick, pair, outcomes_without_ticks, has_no_outcome, ticks_to_first, items_at, ticks_at}
use Rattle.regex_meaning.specs.CompilationRelation.{Program}
use Rattle.regex_meaning.proofs.OutcomeTicksLemmas.{pairs-ticked}
use Rattle.regress_machine.specs.Machine.{running, Found, search}
use Rattle.regress_machine.specs.SearchFindsFirstOutcomeAtPlace.{state_before_first_insn, end_and_groups_of_state, end_in_offsets, match_in_offsets, first_outcome_among_ticks, sufficient_turns_at}
use Rattle.regress_machine.specs.SearchFindsFirstOutcomeAtPlace.{TreeProgramCanSearchText}
use Rattle.regress_machine.proofs.MachineSearchLemmas.{search_more}
use Rattle.regress_machine.proofs.TreeCodeOutcomes.{searches-find}

first_of-pairs : (text : Text) (place : ℕ) (items : List TickOrOutcome)
    → option_map (match_in_offsets text) (first_outcome place (outcomes_without_ticks items)) ≡ option_map (end_in_offsets text) (first_outcome_among_ticks items)
first_of-pairs text place [] = refl
first_of-pairs text place (tick ∷ items) = first_of-pairs text place items
first_of-pairs text place (pair o ∷ items) = refl

is_empty-pairs : (items : List TickOrOutcome) → has_no_outcome (outcomes_without_ticks items) ≡ (if is_some (first_outcome_among_ticks items) then false else true)
is_empty-pairs [] = refl
is_empty-pairs (tick ∷ items) = is_empty-pairs items
is_empty-pairs (pair o ∷ items) = refl

same_some : {A B C : Type 0} (f : A → C) (g : B → C) (x : Option A) (y : Option B) → option_map f x ≡ option_map g y → is_some x ≡ is_some y
same_some f g None None e = refl
same_some f g None (Some y) e = cc
same_some f g (Some x) None e = cc
same_some f g (Some x) (Some y) e = refl

module _ (program : Program) (tree : Tree) (text : Text) (can : TreeProgramCanSearchText program tree text) (place : ℕ) (inside : place ≤ last_place text) where
  -- Whatever the number of turns, the result has the steps and the end of the tree's items.
  found_so : (turns : ℕ) (f : Found) → search program text turns rightwards (running (state_before_first_insn program (offset text place)) ∷ []) ≡ Some f
      → (f.steps ≡ ticks_to_first (items_at tree text place)) × (option_map end_and_groups_of_state f.end ≡ option_map (end_in_offsets text) (first_outcome_among_ticks (items_at tree text place)))
  found_so turns f e =
      let first = searches-find program tree text can place inside in
      let known = sufficient_turns_at tree text place in
      let threads = running (state_before_first_insn program (offset text place)) ∷ [] in
      let a = search_more program text turns (turns + known) (omega arith) rightwards threads f e in
      let b = search_more program text known (turns + known) (omega arith) rightwards threads first.found first.searches in
      let both : Some f ≡ Some first.found = sym a ∙ b in
      let same : f ≡ first.found = cc in
      (ap (λ (f : Found). f.steps) same ∙ first.steps, ap (λ (f : Found). option_map end_and_groups_of_state f.end) same ∙ first.end)

  pub finds-match : (turns : ℕ) (f : Found) → search program text turns rightwards (running (state_before_first_insn program (offset text place)) ∷ []) ≡ Some f
      → option_map end_and_groups_of_state f.end ≡ option_map (match_in_offsets text) (match_at tree.root text place)
  finds-match turns f e =
      let items = items_at tree text place in
      (found_so turns f e).1 ∙ sym (first_of-pairs text place items)
      ∙ ap (λ os. option_map (match_in_offsets text) (first_outcome place os)) (pairs-ticked text tree.root rightwards place (no_groups tree.root))

  pub ticks-steps : (places : List ℕ) (turns : ℕ) (f : Found) → search program text turns rightwards (running (state_before_first_insn program (offset text place)) ∷ []) ≡ Some f
      → ticks_at tree text (place ∷ places) ≡ f.steps + (if is_some f.end then 0 else ticks_at tree text places)
  ticks-steps places turns f e =
      let items = items_at tree text place in
      let later = ticks_at tree text places in
      let so = found_so turns f e in
      let some : is_some f.end ≡ is_some (first_outcome_among_ticks items) = same_some end_and_groups_of_state (end_in_offsets text) f.end (first_outcome_among_ticks items) so.1 in
      ap (λ b. ticks_to_first items + (if b then later else 0)) (is_empty-pairs items)
      ∙ ap (λ n. ticks_to_first items + n) (other_way (is_some (first_outcome_among_ticks items)) later)
      ∙ ap (λ n. n + (if is_some (first_outcome_among_ticks items) then 0 else later)) (sym so.0)
      ∙ ap (λ b. f.steps + (if b then 0 else later)) (sym some)
    where
      other_way : (b : Bool) (n : ℕ) → (if (if b then false else true) then n else 0) ≡ (if b then 0 else n)
      other_way true n = refl
      other_way false n = refl
