-- The result of one attempt at an offset, and the order in which offsets are tried.
use Rattle.std.specs.Prelude.{◌≡◌, ◌<◌, ◌≤◌, ◌+◌, ℕ, Bool, List, [], ◌∷◌, Option, Some, None, option_map, option_and_then, nat_lt, if◌then◌else◌}
use Rattle.std.specs.Option.{option_map_or}
use Rattle.regex_meaning.specs.Tree.{Tree}
use Rattle.regex_meaning.specs.Text.{Text, Direction, rightwards}
use Rattle.regex_meaning.specs.CodeUnitOffsets.{IsBoundary, offset, place_at, read, units}
use Rattle.regex_meaning.specs.Outcomes.{Groups}
use Rattle.regex_meaning.specs.StartPredicate.{StartPredicate, start_anchored, start_predicate}
use Rattle.regex_meaning.specs.OutcomesWithStepTicks.{items_at, ticks_to_first, tried_places}
use Rattle.regress_program.specs.CompilationOfTreesAsFunction.{compiled}
use Rattle.regress_machine.specs.Machine.{State, running, Found, search}
use Rattle.regress_machine.specs.SearchFindsFirstOutcomeAtPlace.{first_outcome_among_ticks, end_in_offsets, sufficient_turns_at}

-- The end (an offset) and the groups of the first outcome at an offset. `None` if there is no
-- outcome.
abbrev pub match_end_and_groups_at : Tree → Text → (at : ℕ) → Option (ℕ × Groups)
match_end_and_groups_at tree text at =
    option_and_then (λ place. option_map (end_in_offsets text) (first_outcome_among_ticks (items_at tree text place)))
    (place_at text at)

-- The offset at which the list of matches continues after a match. It is the end of the match, or
-- one character further if the match is empty.
abbrev pub next_search_offset : Text → (start end : ℕ) → Option ℕ
next_search_offset text start end = if nat_lt start end then Some end
    else option_map (λ r. r.1) (read text rightwards end)

-- A number of machine steps that suffices for an attempt at an offset.
abbrev pub steps_for_attempt : Tree → Text → (at : ℕ) → ℕ
steps_for_attempt tree text at = option_map_or (sufficient_turns_at tree text) (place_at text at) 0

-- The search from a state in a direction, as part of the attempt at an offset.
abbrev pub search_from : Tree → Text → (at : ℕ) → Direction → State → Option Found
search_from tree text at direction s =
    search (compiled tree) text (steps_for_attempt tree text at) direction (running s ∷ [])

-- ---- The offsets to try

-- The next offset to try after an attempt without a match: one character further. `None` if matches
-- begin only at the left end of the text.
abbrev pub offset_after_failed_attempt : (anchored : Bool) → Text → (at : ℕ) → Option ℕ
offset_after_failed_attempt anchored text at = if anchored then None
    else option_map (λ r. r.1) (read text rightwards at)

-- An end as an offset, together with the groups. `None` if there is no end.
abbrev pub end_with_groups : {P : Type 0} → (offset : P → ℕ) → Option P → Groups → Option (ℕ × Groups)
end_with_groups offset end groups = option_map (λ e. (offset e, groups)) end

-- No match begins at an offset.
abbrev pub NoMatchAt : Tree → Text → (at : ℕ) → Type 0
NoMatchAt tree text at = match_end_and_groups_at tree text at ≡ None

-- No match begins at an offset that is `from` or more and less than `to`.
abbrev pub NoMatchStartsBetween : Tree → Text → (from to : ℕ) → Type 0
NoMatchStartsBetween tree text from to = (at : ℕ) → IsBoundary text at → from ≤ at → at < to → NoMatchAt tree text at

-- `next` is the next offset to try, at `from` or later, and no match begins between `from` and
-- `next`. If `next` is `None`, no match begins at `from` or later.
abbrev pub NextStartSkipsNoMatch : Tree → Text → (from : ℕ) → (next : Option ℕ) → Type 0
NextStartSkipsNoMatch tree text from None = NoMatchStartsBetween tree text from (units text + 1)
NextStartSkipsNoMatch tree text from (Some to) = IsBoundary text to × (from ≤ to)
    × NoMatchStartsBetween tree text from to

-- ---- Where steps are counted

-- The number of ticks that the attempt at an offset takes before its first outcome.
abbrev pub ticks_of_attempt_at : Tree → Text → (at : ℕ) → ℕ
ticks_of_attempt_at tree text at =
    option_map_or (λ place. ticks_to_first (items_at tree text place)) (place_at text at) 0

-- The offset of the first place in a list.
abbrev pub offset_of_first_place : Text → List ℕ → Option ℕ
offset_of_first_place text [] = None
offset_of_first_place text (place ∷ places) = Some (offset text place)

-- The first offset at `at` or later that a search with counted steps tries.
abbrev pub first_filtered_start : Tree → Text → (at : ℕ) → Option ℕ
first_filtered_start tree text at = option_and_then
    (λ place. offset_of_first_place text (tried_places tree text (start_predicate tree) place)) (place_at text at)

-- The next offset that a search with counted steps tries after an attempt without a match.
abbrev pub filtered_start_after : StartPredicate → Tree → Text → (at : ℕ) → Option ℕ
filtered_start_after start_anchored tree text at = None
filtered_start_after _ tree text at =
    option_and_then (λ r. first_filtered_start tree text r.1) (read text rightwards at)

-- `filtered_start_after` with the start predicate of the tree.
abbrev pub next_filtered_start : Tree → Text → (at : ℕ) → Option ℕ
next_filtered_start tree text at = filtered_start_after (start_predicate tree) tree text at
