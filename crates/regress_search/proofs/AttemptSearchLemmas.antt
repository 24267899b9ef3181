-- The machine's search from the first state of an attempt ends with the tree's first outcome.
use Rattle.std.proofs.Common.{◌≡◌, ℕ, [], ◌∷◌, Option, Some, None, refl, ap, sym, ◌∙◌}
use Rattle.std.specs.Prelude.{option_map, option_and_then, is_some, IsTrue, IsSome}
use Rattle.std.specs.Option.{option_map_or}
use Rattle.regex_meaning.specs.Tree.{Tree}
use Rattle.regex_meaning.specs.Text.{Text, rightwards}
use Rattle.regex_meaning.specs.CodeUnitOffsets.{IsBoundary, place_at}
use Rattle.regex_meaning.specs.OutcomesWithStepTicks.{items_at}
use Rattle.regex_meaning.proofs.CodeUnitOffsetsLemmas.{offset-place_at}
use Rattle.regress_program.specs.CompilationOfTreesAsFunction.{compiled}
use Rattle.regress_machine.specs.Machine.{running, search}
use Rattle.regress_machine.specs.SearchFindsFirstOutcomeAtPlace.{state_before_first_insn, end_and_groups_of_state, first_outcome_among_ticks, end_in_offsets, TreeProgramCanSearchText}
use Rattle.regress_machine.specs.SearchFindsFirstOutcomeAtPlace.{sufficient_turns_at}
use Rattle.regress_machine.proofs.TreeCodeOutcomes.{searches-find}
use Rattle.regress_machine.specs.InsnEffects.{end_of_search}
use Rattle.regress_search.specs.AttemptsAndStarts.{match_end_and_groups_at, steps_for_attempt, search_from}

-- The search from the first state of an attempt ends as the attempt at that offset does.
pub record Begins (tree : Tree) (text : Text) (at : ℕ) : Type 0 where
  pub answers : IsSome (search_from tree text at rightwards (state_before_first_insn (compiled tree) at))
  pub end : option_map end_and_groups_of_state (end_of_search (search_from tree text at rightwards (state_before_first_insn (compiled tree) at))) ≡ match_end_and_groups_at tree text at

pub begins : (tree : Tree) (text : Text) (at : ℕ) → TreeProgramCanSearchText (compiled tree) tree text → IsBoundary text at → Begins tree text at
begins tree text at can on = by (place_at text at) refl on
  where
    by : (o : Option ℕ) → place_at text at ≡ o → IsTrue (is_some o) → Begins tree text at
    by None e on = cc
    by (Some p) e on =
        let place = offset-place_at text at p can.is_text e in
        let first = searches-find (compiled tree) tree text can p place.1 in
        let n : sufficient_turns_at tree text p ≡ steps_for_attempt tree text at = sym (ap (λ o. option_map_or (sufficient_turns_at tree text) o 0) e) in
        let searches : search_from tree text at rightwards (state_before_first_insn (compiled tree) at) ≡ Some first.found =
        ap (λ n. search (compiled tree) text n rightwards (running (state_before_first_insn (compiled tree) at) ∷ [])) (sym n)
        ∙ ap (λ at. search (compiled tree) text (sufficient_turns_at tree text p) rightwards (running (state_before_first_insn (compiled tree) at) ∷ [])) (sym place.0) ∙ first.searches in
        record {
          answers = ap is_some searches;
          end =
              ap (λ o. option_map end_and_groups_of_state (end_of_search o)) searches ∙ first.end
              ∙ sym (ap (λ o. option_and_then (λ place. option_map (end_in_offsets text) (first_outcome_among_ticks (items_at tree text place))) o) e);
        }
