-- The outcomes of a node with ticks among them. A tick is one step of a search that tries the
-- outcomes in order (a rule of this crate).
use Rattle.std.specs.Prelude.{ℕ, zero, suc, ◌+◌, ◌-◌, min, Bool, true, false, List, [], ◌∷◌, map, reverse, length, take, drop, replicate, Option, Some, None, if◌then◌else◌, nat_lt, nat_le, nat_eq}
use Rattle.std.specs.Prelude.{encode_utf8_all, filter, ◌++◌}
use Rattle.std.specs.List.{starts_with, prefix_len}
use Rattle.std.specs.Option.{option_map_or}
use Rattle.regex_meaning.specs.NumberListHelpers.{numbers_from}
use Rattle.regex_meaning.specs.Tree.{Quantifier, Node, empty, byte_sequence, cat, end_of_cat, alt, string_set, capture_group, lookaround, loop, loop_1_char_body, Tree}
use Rattle.regex_meaning.specs.Text.{Text, Direction, rightwards, leftwards, last_place, characters_ahead}
use Rattle.regex_meaning.specs.Outcomes.{Groups, Outcome, accepts, with_groups_cleared, captured, max_iterations, Repetition, repetition, passes_empty_check, is_case_variant, spelled}
use Rattle.regex_meaning.specs.Outcomes.{lookaround_outcomes, direction_of, outcomes}
use Rattle.regex_meaning.specs.StartPredicate.{StartPredicate, start_anchored, start_predicate, may_start}
use Rattle.regex_meaning.specs.FirstAndAllMatches.{no_groups, first_match, place_after_match}
use Rattle.regex_meaning.specs.CompilationRelation.{chunks}

-- An item of the list: a step, or an outcome.
pub data TickOrOutcome : Type 0 where
  tick : TickOrOutcome
  pair : Outcome → TickOrOutcome

-- ---- Lists of ticks and outcomes

-- n ticks
abbrev pub ticks : ℕ → List TickOrOutcome
ticks n = replicate n tick

-- Replaces each outcome by a list of items, and keeps the ticks.
abbrev pub outcomes_replaced_by_lists : List TickOrOutcome → (Outcome → List TickOrOutcome) → List TickOrOutcome
outcomes_replaced_by_lists [] next = []
outcomes_replaced_by_lists (tick ∷ items) next = tick ∷ outcomes_replaced_by_lists items next
outcomes_replaced_by_lists (pair o ∷ items) next = next o ++ outcomes_replaced_by_lists items next

-- Adds a tick before each outcome.
abbrev pub ticks_before_outcomes : List TickOrOutcome → List TickOrOutcome
ticks_before_outcomes items = outcomes_replaced_by_lists items (λ o. tick ∷ pair o ∷ [])

-- The number of ticks before the first outcome, or of all ticks if there is no outcome.
abbrev pub ticks_to_first : List TickOrOutcome → ℕ
ticks_to_first [] = 0
ticks_to_first (tick ∷ items) = ticks_to_first items + 1
ticks_to_first (pair o ∷ items) = 0

-- The outcomes without the ticks.
abbrev pub outcomes_without_ticks : List TickOrOutcome → List Outcome
outcomes_without_ticks [] = []
outcomes_without_ticks (tick ∷ items) = outcomes_without_ticks items
outcomes_without_ticks (pair o ∷ items) = o ∷ outcomes_without_ticks items

-- Whether there is no outcome.
abbrev pub has_no_outcome : List Outcome → Bool
has_no_outcome [] = true
has_no_outcome (o ∷ os) = false

-- The outcomes with a tick between neighbours.
abbrev pub with_ticks_between : List Outcome → List TickOrOutcome
with_ticks_between [] = []
with_ticks_between (o ∷ []) = pair o ∷ []
with_ticks_between (o ∷ p ∷ os) = pair o ∷ tick ∷ with_ticks_between (p ∷ os)

-- ---- Nodes of several instructions

-- An alternation: a tick at the beginning, a tick before each outcome of the left arm, and a tick
-- between the arms.
abbrev pub ticked_alt : (left right : List TickOrOutcome) → List TickOrOutcome
ticked_alt left right = tick ∷ (ticks_before_outcomes left ++ (tick ∷ right))

-- The two ways of a loop in order of priority, with a tick between them if both are allowed.
abbrev pub ticked_preferred : (may_again may_leave greedy : Bool) → (again leave : List TickOrOutcome)
    → List TickOrOutcome
ticked_preferred false false greedy again leave = []
ticked_preferred true false greedy again leave = again
ticked_preferred false true greedy again leave = leave
ticked_preferred true true true again leave = again ++ (tick ∷ leave)
ticked_preferred true true false again leave = leave ++ (tick ∷ again)

-- `bounded_repeat` with ticks: one before each outcome of the body, even if the outcome is dropped.
unfoldable pub ticked_bounded_repeat : Repetition TickOrOutcome → (turns k place : ℕ) → Groups → List TickOrOutcome
ticked_bounded_repeat r zero k place groups = []
ticked_bounded_repeat r (suc turns) k place groups =
    let again = outcomes_replaced_by_lists (r.body place groups) (λ o.
    let further = ticked_bounded_repeat r turns (k + 1) o.end o.groups in
    tick ∷ (if passes_empty_check r k place o then further else [])) in
    let leave = pair (record { end = place; groups = groups }) ∷ [] in
    ticked_preferred (nat_lt k r.most) (nat_le r.least k) r.greedy again leave

-- The number of elements of `cs` that are compared with `ds`, up to and including the first that
-- differs.
abbrev pub number_of_compared_elements : (ℕ → ℕ → Bool) → List ℕ → List ℕ → ℕ
number_of_compared_elements same [] ds = 0
number_of_compared_elements same (c ∷ cs) [] = 1
number_of_compared_elements same (c ∷ cs) (d ∷ ds) = if same c d then number_of_compared_elements same cs ds + 1 else 1

-- The number of consecutive chunks that are compared with the bytes, up to and including the first
-- that differs.
abbrev pub compared_chunks : List (List ℕ) → List ℕ → ℕ
compared_chunks [] bytes = 0
compared_chunks (chunk ∷ chunks) bytes =
    if starts_with nat_eq bytes chunk then compared_chunks chunks (drop (length chunk) bytes) + 1 else 1

module _ (text : Text) where
  -- The characters in the direction, the nearest first.
  abbrev pub nearest_first : Direction → ℕ → List ℕ
  nearest_first rightwards place = drop place text.characters
  nearest_first leftwards place = reverse (take place text.characters)

  -- The number of code points of a string that are compared.
  abbrev pub compared_code_point_count : (icase : Bool) → List ℕ → Direction → ℕ → ℕ
  compared_code_point_count icase string rightwards place =
      number_of_compared_elements (is_case_variant text icase) string (nearest_first rightwards place)
  compared_code_point_count icase string leftwards place =
      number_of_compared_elements (is_case_variant text icase) (reverse string) (nearest_first leftwards place)

  -- The number of chunks of a byte sequence that are compared.
  abbrev pub compared_chunk_count : List ℕ → Direction → ℕ → ℕ
  compared_chunk_count bytes rightwards place =
      compared_chunks (chunks bytes) (encode_utf8_all (drop place text.characters))
  compared_chunk_count bytes leftwards place =
      compared_chunks (map reverse (reverse (chunks bytes))) (reverse (encode_utf8_all (take place text.characters)))

  -- One string: a tick for each code point that is compared, and then its outcome if it has one.
  abbrev pub ticked_string : (icase : Bool) → List ℕ → Direction → ℕ → Groups → List TickOrOutcome
  ticked_string icase string direction place groups =
      ticks (compared_code_point_count icase string direction place) ++ map pair
      (spelled text (is_case_variant text icase) string direction place groups)

  -- A string set: alternatives nested to the right. An empty list of strings takes one tick.
  abbrev pub ticked_strings : (icase : Bool) → List (List ℕ) → Direction → ℕ → Groups → List TickOrOutcome
  ticked_strings icase [] direction place groups = tick ∷ []
  ticked_strings icase (s ∷ []) direction place groups = ticked_string icase s direction place groups
  ticked_strings icase (s ∷ t ∷ more) direction place groups =
      ticked_alt (ticked_string icase s direction place groups) (ticked_strings icase (t ∷ more) direction place groups)

  -- The number of times that a loop over one character tries its body.
  abbrev pub body_attempts : Quantifier → Node → Direction → ℕ → ℕ
  body_attempts q loopee direction place =
      min (max_iterations q) (prefix_len (accepts loopee) (nearest_first direction place) + 1)

  -- `repeat` with ticks
  abbrev pub ticked_repeat : Repetition TickOrOutcome → Direction → (k place : ℕ) → Groups → List TickOrOutcome
  ticked_repeat r direction k place groups =
      ticked_bounded_repeat r (r.least - k + characters_ahead text direction place + 1) k place groups

  -- The outcomes of a node with ticks among them.
  unfoldable pub ticked : Node → Direction → ℕ → Groups → List TickOrOutcome
  ticked empty direction place groups = map pair (outcomes text empty direction place groups)
  ticked end_of_cat direction place groups = map pair (outcomes text end_of_cat direction place groups)
  ticked (byte_sequence bytes) direction place groups =
      ticks (compared_chunk_count bytes direction place) ++ map pair
      (outcomes text (byte_sequence bytes) direction place groups)
  ticked (string_set strings icase) direction place groups = ticked_strings icase strings direction place groups
  ticked (cat first rest) direction place groups =
      outcomes_replaced_by_lists (ticked first direction place groups) (λ o. ticked rest direction o.end o.groups)
  ticked (alt left right) direction place groups =
      ticked_alt (ticked left direction place groups) (ticked right direction place groups)
  ticked (capture_group id name contents) direction place groups =
      tick ∷ outcomes_replaced_by_lists (ticked contents direction place (with_groups_cleared id 1 groups))
      (λ o. tick ∷ pair (captured id place o) ∷ [])
  ticked (lookaround l contents) direction place groups =
      let inside = ticks_before_outcomes (ticked contents (direction_of l) place groups) in
      tick ∷ (ticks (ticks_to_first inside) ++ map pair
      (lookaround_outcomes l.negate (outcomes_without_ticks inside) place groups))
  ticked (loop q start_group end_group loopee) direction place groups =
      tick ∷ ticked_repeat (repetition q (λ p g.
      ticks (end_group - start_group) ++ ticked loopee direction p
      (with_groups_cleared start_group (end_group - start_group) g)))
      direction 0 place groups
  ticked (loop_1_char_body q loopee) direction place groups =
      tick ∷ (ticks (body_attempts q loopee direction place)
      ++ with_ticks_between (outcomes text (loop_1_char_body q loopee) direction place groups))
  -- Nodes of one instruction take one tick.
  ticked node direction place groups = tick ∷ map pair (outcomes text node direction place groups)

-- ---- Need

module _ (tree : Tree) (text : Text) where
  -- The ticks and outcomes of the tree's root at a place.
  abbrev pub items_at : ℕ → List TickOrOutcome
  items_at place = ticked text tree.root rightwards place (no_groups tree.root)

  -- The places from this one on that a search tries if none has a match: those that the start
  -- predicate allows. With `start_anchored`, the given place is the only one.
  abbrev pub tried_places : StartPredicate → ℕ → List ℕ
  tried_places start_anchored place = if nat_le place (last_place text) then place ∷ [] else []
  tried_places p place = filter (may_start p text) (numbers_from place (last_place text + 1 - place))

  -- The number of ticks at these places in order, up to the first outcome.
  abbrev pub ticks_at : List ℕ → ℕ
  ticks_at [] = 0
  ticks_at (place ∷ places) =
      let items = items_at place in
      let later = ticks_at places in
      ticks_to_first items + (if has_no_outcome (outcomes_without_ticks items) then later else 0)

  -- The number of steps to find the first match from a place on, or to find that there is none.
  unfoldable pub need : ℕ → ℕ
  need place = ticks_at (tried_places (start_predicate tree) place)

  -- The need of each match in order, and then of the end of the list. Each includes the needs
  -- before it and `spent`. The list is limited to `count` matches.
  abbrev pub needs_from : (count spent : ℕ) → Option ℕ → List ℕ
  needs_from zero spent start = spent ∷ []
  needs_from (suc count) spent None = spent ∷ []
  needs_from (suc count) spent (Some place) =
      let next = first_match tree.root text place in
      (spent + need place) ∷ option_map_or (λ m. needs_from count (spent + need place)
      (place_after_match tree.root text m)) next []

  -- The needs of all matches from a place on, and of the end of the list.
  unfoldable pub needs : ℕ → List ℕ
  needs place = needs_from (last_place text + 1) 0 (Some place)
