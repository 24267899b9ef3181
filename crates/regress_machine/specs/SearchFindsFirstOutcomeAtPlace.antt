-- What a search of a tree's program finds.
use Rattle.std.specs.Prelude.{◌≡◌, ℕ, ◌+◌, ◌≤◌, List, [], ◌∷◌, map, replicate, Option, Some, None, option_map, is_some, if◌then◌else◌, IsTrue}
use Rattle.regex_meaning.specs.Tree.{Tree}
use Rattle.regex_meaning.specs.Text.{Text, rightwards, last_place}
use Rattle.regex_meaning.specs.CodeUnitOffsets.{HasRisingPlaceOffsets, offset}
use Rattle.regex_meaning.specs.Outcomes.{Groups, Outcome}
use Rattle.regex_meaning.specs.FirstAndAllMatches.{Found as Match, match_at}
use Rattle.regex_meaning.specs.OutcomesWithStepTicks.{TickOrOutcome, tick, pair, ticks_to_first, items_at, ticks_at}
use Rattle.regex_meaning.specs.WellFormedTrees.{IsWellFormed}
use Rattle.regex_meaning.specs.CompilationRelation.{Program, IsCodeOf}
use Rattle.regress_machine.specs.Machine.{State, running, Found, search}
use Rattle.regress_machine.specs.TextsForBytePrograms.{HasUtf8CharactersAndOffsets, tree_contains_byte_nodes}

-- The state before the first instruction, at an offset.
abbrev pub state_before_first_insn : Program → (at : ℕ) → State
state_before_first_insn program at = record {
  ip = 0;
  pos = at;
  groups = replicate program.groups None;
  starts = replicate program.groups at;
  loops = replicate program.loops (record { iters = 0; entry = at });
}

-- The first outcome of a list of ticks and outcomes.
abbrev pub first_outcome_among_ticks : List TickOrOutcome → Option Outcome
first_outcome_among_ticks [] = None
first_outcome_among_ticks (tick ∷ items) = first_outcome_among_ticks items
first_outcome_among_ticks (pair o ∷ items) = Some o

-- Groups with offsets instead of places.
abbrev pub groups_in_offsets : Text → Groups → Groups
groups_in_offsets text groups = map (option_map (λ (r : ℕ × ℕ). (offset text r.0, offset text r.1))) groups

-- The end and the groups of an outcome, as offsets.
abbrev pub end_in_offsets : Text → Outcome → ℕ × Groups
end_in_offsets text o = (offset text o.end, groups_in_offsets text o.groups)

-- The end and the groups of a state, as offsets.
abbrev pub end_and_groups_of_state : State → ℕ × Groups
end_and_groups_of_state s = (s.pos, s.groups)

-- The program is the code of the tree, which is well formed, and can search the text.
pub record TreeProgramCanSearchText (program : Program) (tree : Tree) (text : Text) : Type 0 where
  pub code : IsCodeOf program tree
  pub well_formed : IsWellFormed tree.root
  pub is_text : HasRisingPlaceOffsets text
  pub unicode : text.unicode ≡ tree.flags.unicode
  pub bytes : IsTrue (tree_contains_byte_nodes tree.root) → HasUtf8CharactersAndOffsets text

-- A number of operations that is enough at a place: one for each step up to the first outcome, and
-- one more.
abbrev pub sufficient_turns_at : Tree → Text → (place : ℕ) → ℕ
sufficient_turns_at tree text place = ticks_to_first (items_at tree text place) + 1

-- A search from a place takes one step for each tick of the tree's list up to the first outcome,
-- and ends with that outcome.
pub record FindsFirstOutcome (program : Program) (tree : Tree) (text : Text) (place : ℕ) : Type 0 where
  pub found : Found
  pub searches : search program text (sufficient_turns_at tree text place) rightwards
      (running (state_before_first_insn program (offset text place)) ∷ []) ≡ Some found
  pub steps : found.steps ≡ ticks_to_first (items_at tree text place)
  pub end : option_map end_and_groups_of_state found.end ≡ option_map (end_in_offsets text)
      (first_outcome_among_ticks (items_at tree text place))

-- Searches from all places of a text find the first outcome.
abbrev pub SearchesFindFirstOutcome : Type 0
SearchesFindFirstOutcome = (program : Program) (tree : Tree) (text : Text) → TreeProgramCanSearchText program tree text
    → (place : ℕ) → place ≤ last_place text → FindsFirstOutcome program tree text place

-- ---- Consequences

-- The end and the groups of a match, as offsets.
abbrev pub match_in_offsets : Text → Match → ℕ × Groups
match_in_offsets text m = (offset text m.end, groups_in_offsets text m.groups)

-- With any number of operations that is enough, a search from a place ends with the match there.
abbrev pub SearchResultIsMatchAtPlace : Type 0
SearchResultIsMatchAtPlace = (program : Program) (tree : Tree) (text : Text)
    → TreeProgramCanSearchText program tree text
    → (place : ℕ) → place ≤ last_place text → (turns : ℕ) (f : Found)
    → search program text turns rightwards (running (state_before_first_insn program (offset text place)) ∷ []) ≡ Some f
    → option_map end_and_groups_of_state f.end ≡ option_map (match_in_offsets text) (match_at tree.root text place)

-- The ticks of places that are tried one after another are the steps of the search from the first
-- one and, if it fails, the ticks of the others.
abbrev pub TicksAreSteps : Type 0
TicksAreSteps = (program : Program) (tree : Tree) (text : Text) → TreeProgramCanSearchText program tree text
    → (place : ℕ) (places : List ℕ) → place ≤ last_place text → (turns : ℕ) (f : Found)
    → search program text turns rightwards (running (state_before_first_insn program (offset text place)) ∷ []) ≡ Some f
    → ticks_at tree text (place ∷ places) ≡ f.steps + (if is_some f.end then 0 else ticks_at tree text places)
