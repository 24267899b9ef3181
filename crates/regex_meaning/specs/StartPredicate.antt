-- The bytes with which a text must begin at a place where a tree has an outcome (a rule of this
-- crate).
use Rattle.std.specs.Prelude.{◌≢◌, ℕ, ◌+◌, ◌*◌, ◌-◌, ◌≤◌, Bool, true, false, ◌&&◌, ◌||◌, not, List, [], ◌∷◌, take, drop, filter, map, flat_map, min, max, ◌++◌, if◌then◌else◌, nat_lt, nat_le, nat_eq}
use Rattle.std.specs.Prelude.{◌==◌, encode_utf8_all, IsTrue}
use Rattle.std.specs.List.{list_any, list_all, starts_with}
use Rattle.std.specs.Int.{is_in_range}
use Rattle.regex_meaning.specs.NumberListHelpers.{contains, numbers_from}
use Rattle.regex_meaning.specs.Tree.{Intervals, BracketContents, start_of_line, Node, char_set, byte_set, byte_sequence, cat, end_of_cat, alt, bracket, anchor, capture_group, lookaround, loop}
use Rattle.regex_meaning.specs.Tree.{loop_1_char_body, Tree}
use Rattle.regex_meaning.specs.Text.{Text, rightwards, last_place, is_scalar}
use Rattle.regex_meaning.specs.Outcomes.{outcomes}
use Rattle.regex_meaning.specs.FirstAndAllMatches.{no_groups}

-- ---- Sets of bytes, as increasing lists

-- The bytes that pass the test.
unfoldable pub bytes_that_pass : (ℕ → Bool) → List ℕ
bytes_that_pass test = filter test (numbers_from 0 256)

-- The code points whose UTF-8 begins with this byte.
abbrev pub chars_with_first_byte : (byte : ℕ) → Intervals
chars_with_first_byte b =
    if nat_lt b 0x80 then (b, b) ∷ []
    else if is_in_range 0xC2 0xDF b then ((b - 0xC0) * 0x40, (b - 0xC0) * 0x40 + 0x3F) ∷ []
    else if b == 0xE0 then (0x800, 0xFFF) ∷ []
    else if is_in_range 0xE1 0xEF b then ((b - 0xE0) * 0x1000, (b - 0xE0) * 0x1000 + 0xFFF) ∷ []
    else if b == 0xF0 then (0x1_0000, 0x3_FFFF) ∷ []
    else if is_in_range 0xF1 0xF3 b then ((b - 0xF0) * 0x4_0000, (b - 0xF0) * 0x4_0000 + 0x3_FFFF) ∷ []
    else if b == 0xF4 then (0x10_0000, 0x10_FFFF) ∷ [] else []

-- Whether two lists of intervals have a number in common.
abbrev pub intersects : Intervals → Intervals → Bool
intersects xs ys =
    list_any (λ x. list_any (λ y. nat_le x.0 x.1 && nat_le y.0 y.1 && nat_le x.0 y.1 && nat_le y.0 x.1) ys) xs

-- The first UTF-8 bytes of these code points, up to U+10FFFF.
abbrev pub first_bytes : Intervals → List ℕ
first_bytes intervals = bytes_that_pass (λ b. intersects (chars_with_first_byte b) intervals)

-- The parts of the interval `this` outside the interval `other`.
abbrev pub interval_minus : (other this : ℕ × ℕ) → Intervals
interval_minus other this =
    if nat_lt other.1 other.0 then this ∷ []
    else (if nat_lt this.0 other.0 then (this.0, min this.1 (other.0 - 1)) ∷ [] else [])
    ++ (if nat_lt other.1 this.1 then (max this.0 (other.1 + 1), this.1) ∷ [] else [])

-- The intervals of the first list without the numbers of the second.
abbrev pub intervals_minus : Intervals → Intervals → Intervals
intervals_minus these [] = these
intervals_minus these (other ∷ others) = intervals_minus (flat_map (interval_minus other) these) others

-- The code points that a class accepts.
abbrev pub code_points_of_class : BracketContents → Intervals
code_points_of_class contents = if contents.invert then intervals_minus ((0, 0x10_FFFF) ∷ []) contents.intervals
    else contents.intervals

-- ---- The predicate of a node

-- What the text must begin with where the node matches: anything (`arbitrary`), a sequence of
-- bytes, or one of some bytes.
pub data AbstractStartPredicate : Type 0 where
  -- The node consumes nothing, so the predicate of what follows it applies.
  open_ended : AbstractStartPredicate
  arbitrary : AbstractStartPredicate
  sequence : (bytes : List ℕ) → AbstractStartPredicate
  one_of : (bytes : List ℕ) → AbstractStartPredicate

-- A sequence of bytes. If it is empty, nothing is known.
abbrev pub byte_sequence_predicate : List ℕ → AbstractStartPredicate
byte_sequence_predicate [] = arbitrary
byte_sequence_predicate (b ∷ bs) = sequence (b ∷ bs)

-- The predicate of the first child or, if that is open-ended, the predicate of the rest.
abbrev pub first_not_open_ended : AbstractStartPredicate → AbstractStartPredicate → AbstractStartPredicate
first_not_open_ended open_ended rest = rest
first_not_open_ended first rest = first

-- The longest common prefix of two lists.
abbrev pub common_prefix : List ℕ → List ℕ → List ℕ
common_prefix [] ys = []
common_prefix (x ∷ xs) [] = []
common_prefix (x ∷ xs) (y ∷ ys) = if x == y then x ∷ common_prefix xs ys else []

-- The first byte of a sequence, as a set.
abbrev pub first_byte_as_set : List ℕ → List ℕ
first_byte_as_set bytes = take 1 bytes

-- The union of two sets of bytes.
abbrev pub union_of_byte_sets : List ℕ → List ℕ → List ℕ
union_of_byte_sets xs ys = bytes_that_pass (λ b. contains xs b || contains ys b)

-- The common prefix, or the set of first bytes if the prefix is empty.
abbrev pub common_prefix_or_first_bytes : (front first_bytes : List ℕ) → AbstractStartPredicate
common_prefix_or_first_bytes [] first_bytes = one_of first_bytes
common_prefix_or_first_bytes (b ∷ bs) first_bytes = sequence (b ∷ bs)

-- The predicate of two alternatives.
abbrev pub join : AbstractStartPredicate → AbstractStartPredicate → AbstractStartPredicate
join (sequence xs) (sequence ys) = common_prefix_or_first_bytes (common_prefix xs ys)
    (union_of_byte_sets (first_byte_as_set xs) (first_byte_as_set ys))
join (sequence xs) (one_of ys) = one_of (union_of_byte_sets (first_byte_as_set xs) ys)
join (one_of xs) (sequence ys) = one_of (union_of_byte_sets xs (first_byte_as_set ys))
join (one_of xs) (one_of ys) = one_of (union_of_byte_sets xs ys)
join _ _ = arbitrary

-- The predicate of a node.
unfoldable pub abstract_start_predicate : Node → AbstractStartPredicate
abstract_start_predicate (byte_sequence bytes) = byte_sequence_predicate bytes
abstract_start_predicate (byte_set members) = one_of (bytes_that_pass (contains members))
abstract_start_predicate (char_set members) = one_of (first_bytes (map (λ c. (c, c)) members))
abstract_start_predicate (bracket contents) = one_of (first_bytes (code_points_of_class contents))
abstract_start_predicate (cat first rest) =
    first_not_open_ended (abstract_start_predicate first) (abstract_start_predicate rest)
abstract_start_predicate end_of_cat = open_ended
abstract_start_predicate (capture_group id name contents) = abstract_start_predicate contents
abstract_start_predicate (loop q start_group end_group loopee) = if nat_lt 0 q.min then abstract_start_predicate loopee
    else arbitrary
abstract_start_predicate (loop_1_char_body q loopee) = if nat_lt 0 q.min then abstract_start_predicate loopee
    else arbitrary
abstract_start_predicate (alt left right) = join (abstract_start_predicate left) (abstract_start_predicate right)
abstract_start_predicate (lookaround l contents) = open_ended
abstract_start_predicate _ = arbitrary

-- Whether each alternative of the node begins with a `^` that is not multiline, so that the node
-- matches only at the left end of the text.
abbrev pub is_anchored : Node → Bool
is_anchored (anchor start_of_line multiline) = not multiline
is_anchored (cat first rest) = is_anchored first
is_anchored (capture_group id name contents) = is_anchored contents
is_anchored (alt left right) = is_anchored left && is_anchored right
is_anchored _ = false

-- ---- The predicate of a tree

-- Where a match may start: anywhere, where a byte of a set or a sequence of bytes follows, or only
-- at the left end.
pub data StartPredicate : Type 0 where
  start_arbitrary : StartPredicate
  -- At least one byte.
  start_byte_set : (bytes : List ℕ) → StartPredicate
  -- At least two bytes.
  start_byte_sequence : (bytes : List ℕ) → StartPredicate
  start_anchored : StartPredicate

-- The start predicate of a tree, given the predicate of its root. An empty set or an open end tells
-- nothing about the text.
abbrev pub resolved_start_predicate : AbstractStartPredicate → StartPredicate
resolved_start_predicate (sequence (b ∷ [])) = start_byte_set (b ∷ [])
resolved_start_predicate (sequence (b ∷ c ∷ bs)) = start_byte_sequence (b ∷ c ∷ bs)
resolved_start_predicate (one_of (b ∷ bs)) = start_byte_set (b ∷ bs)
resolved_start_predicate _ = start_arbitrary

-- The start predicate of a tree.
unfoldable pub start_predicate : Tree → StartPredicate
start_predicate tree =
    if not tree.flags.multiline && is_anchored tree.root then start_anchored
    else resolved_start_predicate (abstract_start_predicate tree.root)

-- ---- Meaning of the predicate

-- The bytes of the text from a place on.
abbrev pub utf8_bytes_of_text_from_place : Text → ℕ → List ℕ
utf8_bytes_of_text_from_place text place = encode_utf8_all (drop place text.characters)

-- Whether the bytes begin with one of these members.
abbrev pub first_byte_is_one_of : List ℕ → List ℕ → Bool
first_byte_is_one_of members [] = false
first_byte_is_one_of members (b ∷ bs) = contains members b

-- Whether the predicate allows a match to start at the place.
unfoldable pub may_start : StartPredicate → Text → ℕ → Bool
may_start start_arbitrary text place = true
may_start (start_byte_set members) text place = first_byte_is_one_of members (utf8_bytes_of_text_from_place text place)
may_start (start_byte_sequence bytes) text place = starts_with nat_eq (utf8_bytes_of_text_from_place text place) bytes
may_start start_anchored text place = place == 0

-- Whether no byte of the set, and not the first byte of the sequence, is a UTF-8 continuation byte.
abbrev pub begins_characters : StartPredicate → Bool
begins_characters (start_byte_set members) = list_all (λ b. not (is_in_range 0x80 0xBF b)) members
begins_characters (start_byte_sequence bytes) = list_all (λ b. not (is_in_range 0x80 0xBF b)) (take 1 bytes)
begins_characters _ = true

-- Whether the set or the sequence of the predicate is not empty.
abbrev pub has_nonempty_bytes : StartPredicate → Bool
has_nonempty_bytes (start_byte_set []) = false
has_nonempty_bytes (start_byte_sequence []) = false
has_nonempty_bytes _ = true

-- The predicate allows every place at which the tree has an outcome. Its bytes begin characters,
-- and its set or sequence is not empty.
pub record IsSoundStartPredicateOf (p : StartPredicate) (root : Node) : Type 0 where
  pub holds : (text : Text) (place : ℕ) → IsTrue (list_all is_scalar text.characters) → place ≤ last_place text
      → outcomes text root rightwards place (no_groups root) ≢ [] → IsTrue (may_start p text place)
  pub bytes_begin_characters : IsTrue (begins_characters p)
  pub filled : IsTrue (has_nonempty_bytes p)
