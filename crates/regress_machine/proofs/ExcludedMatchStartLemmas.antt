-- No match begins at a position where the first thread finds nothing.
use Rattle.std.proofs.Common.{◌≡◌, ◌≤◌, ℕ, Option, Some, None, refl, ap, ◌∙◌}
use Rattle.std.specs.Prelude.{option_map}
use Rattle.regex_meaning.specs.Tree.{Tree}
use Rattle.regex_meaning.specs.Text.{Text, rightwards, last_place}
use Rattle.regex_meaning.specs.CodeUnitOffsets.{offset}
use Rattle.regex_meaning.specs.FirstAndAllMatches.{Found as Match, match_at}
use Rattle.regex_meaning.specs.CompilationRelation.{Program}
use Rattle.regress_machine.specs.Machine.{running}
use Rattle.regress_machine.specs.SearchFindsFirstOutcomeAtPlace.{TreeProgramCanSearchText, state_before_first_insn, end_and_groups_of_state, sufficient_turns_at, match_in_offsets}
use Rattle.regress_machine.proofs.TreeCodeOutcomes.{searches-find}
use Rattle.regress_machine.proofs.SearchResultLemmas.{finds-match}
use Rattle.regress_machine.specs.ThreadSimulation.{FindsNothing}
use Rattle.regress_machine.specs.MatchStartsExcludedByFirstSet.{FirstSetExcludesMatchStarts}
use Rattle.regress_machine.proofs.ThreadSimulationLemmas.{nothing-ends}
use Rattle.regress_machine.proofs.FirstSetTableLemmas.{covered-nothing}

no-match : (text : Text) (o : Option Match) → None ≡ option_map (match_in_offsets text) o → o ≡ None
no-match text None e = refl
no-match text (Some m) e = cc

-- If the first thread finds nothing at a place, no match begins there.
pub nothing-no-match : (program : Program) (tree : Tree) (text : Text) → TreeProgramCanSearchText program tree text → (place : ℕ) → place ≤ last_place text
    → FindsNothing program text rightwards (running (state_before_first_insn program (offset text place))) → match_at tree.root text place ≡ None
nothing-no-match program tree text can place inside nothing =
    let s = state_before_first_insn program (offset text place) in
    let first = searches-find program tree text can place inside in
    let none = nothing-ends program text (sufficient_turns_at tree text place) rightwards (running s) first.found nothing first.searches in
    no-match text (match_at tree.root text place)
    (ap (option_map end_and_groups_of_state) none ∙ finds-match program tree text can place inside (sufficient_turns_at tree text place) first.found first.searches)

pub starts-bar : FirstSetExcludesMatchStarts
starts-bar e key program tree text tables can units all place inside bar =
    nothing-no-match program tree text can place inside
    (covered-nothing e key program text tables units all (state_before_first_insn program (offset text place)) bar)
