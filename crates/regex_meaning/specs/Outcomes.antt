-- The outcomes of a node at a place, in order of priority (ECMA-262, 21.2.2).
use Rattle.std.specs.Prelude.{ℕ, zero, suc, ◌+◌, ◌-◌, ◌^◌, min, max, Bool, true, false, not, ◌&&◌, ◌||◌, List, [], ◌∷◌, length, Option, Some, None, if◌then◌else◌, nat_lt, nat_le, nat_eq, ◌==◌}
use Rattle.std.specs.Prelude.{slice_get, slice_set, slice_range, chars, unwrap_or, ◌++◌, filter, flat_map, map}
use Rattle.std.specs.List.{list_any}
use Rattle.std.specs.Option.{option_map_or}
use lib.Pointwise.{pointwise}
use Rattle.regex_meaning.specs.NumberListHelpers.{contains}
use Rattle.regex_meaning.specs.Tree.{Intervals, AnchorType, start_of_line, end_of_line, Quantifier, Lookaround, Node, empty, goal, char, char_set, byte_set, byte_sequence, cat, end_of_cat, alt}
use Rattle.regex_meaning.specs.Tree.{bracket, string_set, match_any, match_any_except_line_terminator, Sameness, exact, folded, alike}
use Rattle.regex_meaning.specs.Tree.{anchor, word_boundary, capture_group, back_ref, lookaround, loop, loop_1_char_body}
use Rattle.regex_meaning.specs.Canonical.{canonicalize}
use Rattle.regex_meaning.specs.Text.{Text, Direction, rightwards, leftwards, is_line_terminator, is_word_char, expand_code_point, character_before, character_after, next_character, characters_ahead}
use Rattle.regex_meaning.specs.Text.{moved, next_characters}
use Rattle.std.specs.Int.{is_in_range}

-- An entry for each capturing group by id: `None`, or its start and end places in order (21.2.2.1,
-- *captures* of a *State*).
abbrev pub Groups : Type 0
Groups = List (Option (ℕ × ℕ))

-- A way in which a node can match: the place where the match ends, and the groups at that point
-- (21.2.2.1, *State*).
pub record Outcome : Type 0 where
  pub end : ℕ
  pub groups : Groups

-- ---- Groups

-- The range of a group. `None` if the group has no range, or if there is no such group.
abbrev pub group_range : Groups → ℕ → Option (ℕ × ℕ)
group_range groups id = unwrap_or (slice_get groups id) None

-- The groups, with the entries of `count` groups from `id` on set to `None`.
abbrev pub with_groups_cleared : (id count : ℕ) → Groups → Groups
with_groups_cleared id zero groups = groups
with_groups_cleared id (suc count) groups = with_groups_cleared (id + 1) count (slice_set groups id None)

-- Sets the group to the range between the place and the end of the outcome, with the lesser place
-- first.
abbrev pub captured : (id place : ℕ) → Outcome → Outcome
captured id place o = record o { groups = slice_set o.groups id (Some (min place o.end, max place o.end)) }

-- ---- Characters

-- Whether c is in one of the intervals.
abbrev pub in_intervals : Intervals → ℕ → Bool
in_intervals intervals c = list_any (λ i. is_in_range i.0 i.1 c) intervals

-- Exclusive or.
abbrev pub exclusive_or : Bool → Bool → Bool
exclusive_or a b = if a then not b else b

-- Whether a one-character node, or a byte sequence of one character, accepts the character d.
abbrev pub accepts : Node → ℕ → Bool
accepts (char c) d = c == d
accepts (char_set members) d = contains members d
accepts (byte_set members) d = contains members d
accepts (bracket contents) d = exclusive_or contents.invert (in_intervals contents.intervals d)
accepts (byte_sequence bytes) d = pointwise nat_eq (chars bytes) (d ∷ [])
accepts match_any d = true
accepts match_any_except_line_terminator d = not (is_line_terminator d)
accepts _ d = false

-- Whether there is a character and it passes the test.
abbrev pub is_some_and : Option ℕ → (ℕ → Bool) → Bool
is_some_and o test = option_map_or test o false

-- ---- Loops

-- A loop: its bounds, its greediness, and `body`, the outcomes of one iteration. `most` is a number
-- even if the quantifier has no maximum.
pub record Repetition (A : Type 0) : Type 0 where
  pub least : ℕ
  pub most : ℕ
  pub greedy : Bool
  pub body : ℕ → Groups → List A

-- The maximum of a quantifier, or `usize::MAX` (2^64 - 1) if it has none.
abbrev pub max_iterations : Quantifier → ℕ
max_iterations q = unwrap_or q.max (2 ^ 64 - 1)

-- The loop of a quantifier over a body.
abbrev pub repetition : {A : Type 0} → Quantifier → (body : ℕ → Groups → List A) → Repetition A
repetition q body = record { least = q.min; most = max_iterations q; greedy = q.greedy; body = body }

-- Whether an outcome of the iteration after k others is kept. It is dropped if the iteration
-- consumed nothing and the minimum was reached before it (21.2.2.5.1, the first test of the
-- continuation).
abbrev pub passes_empty_check : {A : Type 0} → Repetition A → (k place : ℕ) → Outcome → Bool
passes_empty_check r k place o = not (o.end == place && nat_lt r.least (k + 1))

-- The two kinds of outcomes in order of priority: a greedy loop tries another iteration first.
abbrev pub preferred : (greedy : Bool) → (again leave : List Outcome) → List Outcome
preferred true again leave = again ++ leave
preferred false again leave = leave ++ again

-- The outcomes of a loop after k iterations, limited to `turns` levels of recursion. `repeat` gives
-- enough levels.
unfoldable pub bounded_repeat : Repetition Outcome → (turns k place : ℕ) → Groups → List Outcome
bounded_repeat r zero k place groups = []
bounded_repeat r (suc turns) k place groups =
    let again = flat_map (λ o. bounded_repeat r turns (k + 1) o.end o.groups)
    (filter (passes_empty_check r k place) (r.body place groups)) in
    let leave = record { end = place; groups = groups } ∷ [] in
    preferred r.greedy (if nat_lt k r.most then again else []) (if nat_le r.least k then leave else [])

-- ---- Nodes that match the empty text

-- One outcome at the place itself if `holds` is true, and no outcome otherwise.
abbrev pub empty_match_if : Bool → ℕ → Groups → List Outcome
empty_match_if holds place groups = if holds then record { end = place; groups = groups } ∷ [] else []

-- Whether a place with this neighbouring character is a line boundary: it is at an end of the text
-- or, with `multiline`, beside a line terminator.
abbrev pub is_line_boundary : Option ℕ → (multiline : Bool) → Bool
is_line_boundary None multiline = true
is_line_boundary (Some c) multiline = multiline && is_line_terminator c

-- The outcomes of a lookaround, given those of its contents. A positive lookaround has one outcome
-- if its contents have any: the place itself with the groups of the first. A negative one has one
-- outcome if its contents have none: the place itself with the groups unchanged.
abbrev pub lookaround_outcomes : (negate : Bool) → List Outcome → ℕ → Groups → List Outcome
lookaround_outcomes false [] place groups = []
lookaround_outcomes false (o ∷ os) place groups = record { end = place; groups = o.groups } ∷ []
lookaround_outcomes true [] place groups = record { end = place; groups = groups } ∷ []
lookaround_outcomes true (o ∷ os) place groups = []

-- The direction in which the contents of a lookaround are matched.
abbrev pub direction_of : Lookaround → Direction
direction_of l = if l.backwards then leftwards else rightwards

-- ---- The outcomes of a node

module _ (text : Text) where
  -- One outcome after the next character in the direction, if there is one and it passes the test.
  abbrev pub one_character : (ℕ → Bool) → Direction → ℕ → Groups → List Outcome
  one_character test direction place groups =
      if is_some_and (next_character text direction place) test
      then record { end = moved text direction 1 place; groups = groups } ∷ [] else []

  -- One outcome after the next `length cs` characters, if there are that many and they are the same
  -- as `cs`, read from left to right.
  abbrev pub spelled : (ℕ → ℕ → Bool) → List ℕ → Direction → ℕ → Groups → List Outcome
  spelled same cs direction place groups =
      let n = length cs in
      if nat_le n (characters_ahead text direction place) && pointwise same cs (next_characters text direction n place)
      then record { end = moved text direction n place; groups = groups } ∷ [] else []

  -- Whether d is a case variant of the code point c of a string.
  abbrev pub is_case_variant : (icase : Bool) → (c d : ℕ) → Bool
  is_case_variant icase c d = contains (expand_code_point c icase text.unicode) d

  -- Whether a backreference treats the two characters as the same.
  abbrev pub is_same : Sameness → (c d : ℕ) → Bool
  is_same exact c d = c == d
  is_same folded c d = c == d || text.fold c == text.fold d
  is_same (alike unicode) c d = canonicalize unicode c == canonicalize unicode d

  -- The outcomes of a backreference: the group's characters must occur again. If the group is
  -- `None`, the backreference matches the empty text.
  abbrev pub backref_outcomes : Sameness → Option (ℕ × ℕ) → Direction → ℕ → Groups → List Outcome
  backref_outcomes same None direction place groups = record { end = place; groups = groups } ∷ []
  backref_outcomes same (Some range) direction place groups =
      spelled (is_same same) (slice_range text.characters range.0 range.1) direction place groups

  -- Whether the anchor holds at the place.
  abbrev pub anchor_holds : AnchorType → (multiline : Bool) → ℕ → Bool
  anchor_holds start_of_line multiline place = is_line_boundary (character_before text place) multiline
  anchor_holds end_of_line multiline place = is_line_boundary (character_after text place) multiline

  -- Whether exactly one of the two neighbouring characters is a word character.
  abbrev pub is_at_word_boundary : (unicode_icase : Bool) → ℕ → Bool
  is_at_word_boundary unicode_icase place =
      exclusive_or (is_some_and (character_before text place) (is_word_char unicode_icase))
      (is_some_and (character_after text place) (is_word_char unicode_icase))

  -- The outcomes of a loop after k iterations. Iterations up to the minimum always count, and later
  -- ones only if they consume a character, so this bound on the recursion is sufficient.
  abbrev pub repeat : Repetition Outcome → Direction → (k place : ℕ) → Groups → List Outcome
  repeat r direction k place groups =
      bounded_repeat r (r.least - k + characters_ahead text direction place + 1) k place groups

  -- The outcomes of a node at a place. Each case names the clause of ECMA-262, 9th edition, that
  -- defines its matcher.
  unfoldable pub outcomes : Node → Direction → ℕ → Groups → List Outcome
  -- 21.2.2.4, the empty alternative
  outcomes empty direction place groups = record { end = place; groups = groups } ∷ []
  -- 21.2.2.2, the continuation at the end of the pattern
  outcomes goal direction place groups = record { end = place; groups = groups } ∷ []
  -- 21.2.2.8 and 21.2.2.8.1, one character of a set; 21.2.2.13 for a class
  outcomes (char c) direction place groups = one_character (accepts (char c)) direction place groups
  outcomes (char_set members) direction place groups = one_character (accepts (char_set members)) direction place groups
  outcomes (bracket contents) direction place groups = one_character (accepts (bracket contents)) direction place groups
  outcomes match_any direction place groups = one_character (accepts match_any) direction place groups
  outcomes match_any_except_line_terminator direction place groups =
      one_character (accepts match_any_except_line_terminator) direction place groups
  -- Rules of this crate: a byte node matches the characters that its bytes encode, and a string set
  -- tries its strings in order.
  outcomes (byte_set members) direction place groups = one_character (accepts (byte_set members)) direction place groups
  outcomes (byte_sequence bytes) direction place groups = spelled nat_eq (chars bytes) direction place groups
  outcomes (string_set strings icase) direction place groups =
      flat_map (λ s. spelled (is_case_variant icase) s direction place groups) strings
  -- 21.2.2.4: for each outcome of the first child in order, the outcomes of the rest from its end
  outcomes end_of_cat direction place groups = record { end = place; groups = groups } ∷ []
  outcomes (cat first rest) direction place groups =
      flat_map (λ o. outcomes rest direction o.end o.groups) (outcomes first direction place groups)
  -- 21.2.2.3, the left arm first
  outcomes (alt left right) direction place groups =
      outcomes left direction place groups ++ outcomes right direction place groups
  -- 21.2.2.8. The range is in order in both directions. Inside its own contents, the group is
  -- `None`.
  outcomes (capture_group id name contents) direction place groups =
      map (captured id place) (outcomes contents direction place (with_groups_cleared id 1 groups))
  -- 21.2.2.9 and 21.2.2.9.1. The tree numbers groups from 1.
  outcomes (back_ref group same) direction place groups =
      backref_outcomes same (group_range groups (group - 1)) direction place groups
  -- 21.2.2.6
  outcomes (anchor type multiline) direction place groups =
      empty_match_if (anchor_holds type multiline place) place groups
  outcomes (word_boundary invert unicode_icase) direction place groups =
      empty_match_if (exclusive_or invert (is_at_word_boundary unicode_icase place)) place groups
  outcomes (lookaround l contents) direction place groups =
      lookaround_outcomes l.negate (outcomes contents (direction_of l) place groups) place groups
  -- 21.2.2.5, 21.2.2.5.1 and 21.2.2.7. Each iteration first clears the groups inside the loop.
  outcomes (loop q start_group end_group loopee) direction place groups =
      repeat (repetition q (λ p g. outcomes loopee direction p
      (with_groups_cleared start_group (end_group - start_group) g)))
      direction 0 place groups
  outcomes (loop_1_char_body q loopee) direction place groups =
      repeat (repetition q (outcomes loopee direction)) direction 0 place groups
