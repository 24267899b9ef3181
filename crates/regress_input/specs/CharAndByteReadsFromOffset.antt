-- What is read from a text at an offset.
use Rattle.std.specs.Prelude.{◌≡◌, ℕ, zero, suc, ◌+◌, ◌-◌, Bool, true, false, ◌&&◌, ◌||◌, List, length, map, Option, Some, None, option_map, option_and_then, unwrap_or, if◌then◌else◌, nat_le, nat_eq}
use Rattle.std.specs.Prelude.{◌==◌, slice_get, slice_range, encode_utf8_all, drop, IsTrue, IsUtf8}
use Rattle.std.proofs.Common.{sym, true≢false}
use lib.Pointwise.{pointwise}
use Rattle.std.specs.Char.{len_utf8}
use Rattle.regex_pattern_front.specs.FirstPassingIndex.{FindsFirstPassingIndex}
use Rattle.regex_meaning.specs.Text.{Text, Direction, rightwards, leftwards, offsets_from, characters_ahead, next_characters, moved}
use Rattle.regex_meaning.specs.CodeUnitOffsets.{offset, place_at, read}
use Rattle.regex_meaning.specs.Tree.{Sameness}
use Rattle.regex_meaning.specs.Outcomes.{is_same}
use Rattle.regex_meaning.specs.CodeUnits.{Encoding, utf8, utf16, ucs2}

-- The reading direction for a value of `FORWARD`.
abbrev pub direction_of_forward_flag : (forward : Bool) → Direction
direction_of_forward_flag true = rightwards
direction_of_forward_flag false = leftwards

-- The result of a matcher as one value: the offset at which it ends, or `None` if it does not
-- match.
abbrev pub end_if_matched : (matches : Bool) → (at : ℕ) → Option ℕ
end_if_matched matches at = if matches then Some at else None

-- Whether two characters are equal or have equal folds.
abbrev pub same_fold : (ℕ → ℕ) → ℕ → ℕ → Bool
same_fold fold c d = c == d || fold c == fold d

module _ (text : Text) where
  -- The next character in the direction.
  abbrev pub character : Direction → (at : ℕ) → Option ℕ
  character direction at = option_map (λ r. r.0) (read text direction at)

  -- The offset past the next character in the direction.
  abbrev pub past : Direction → (at : ℕ) → Option ℕ
  past direction at = option_map (λ r. r.1) (read text direction at)

  -- The offset past the next character in the direction if that character passes the test.
  abbrev pub past_if : (test : ℕ → Bool) → Direction → (at : ℕ) → Option ℕ
  past_if test direction at = option_and_then (λ r. if test r.0 then Some r.1 else None) (read text direction at)

  -- A read in one direction and then in the other one yields the same character, and the offset at
  -- which the first read began.
  abbrev pub ReadsAreInverse : (there back : Direction) → Type 0
  ReadsAreInverse there back = (at c to : ℕ) → read text there at ≡ Some (c, to) → read text back to ≡ Some (c, at)

  -- The place (number of characters from the left) of a boundary.
  abbrev pub place : (at : ℕ) → ℕ
  place at = unwrap_or (place_at text at) 0

  -- The characters between two boundaries.
  abbrev pub characters_between : (from to : ℕ) → List ℕ
  characters_between from to = slice_range text.characters (place from) (place to)

  -- The offset past these characters if they occur next to `at` in the direction, read left to
  -- right.
  abbrev pub past_spelled_if_next : (same : ℕ → ℕ → Bool) → List ℕ → Direction → (at : ℕ) → Option ℕ
  past_spelled_if_next same cs direction at =
      let n = length cs in
      if nat_le n (characters_ahead text direction (place at)) && pointwise same cs
      (next_characters text direction n (place at))
      then Some (offset text (moved text direction n (place at))) else None

  -- The offset past the characters between two boundaries if they occur again next to `at`.
  abbrev pub past_repeated_range_if_next : (from to : ℕ) → Direction → (at : ℕ) → Option ℕ
  past_repeated_range_if_next from to = past_spelled_if_next nat_eq (characters_between from to)

  -- Like `past_repeated_range_if_next`, but characters are also equal if their folds are equal.
  abbrev pub past_folded_range_if_next : (from to : ℕ) → Direction → (at : ℕ) → Option ℕ
  past_folded_range_if_next from to = past_spelled_if_next (same_fold text.fold) (characters_between from to)

  -- Like `past_repeated_range_if_next`, but characters are compared by this sameness.
  abbrev pub past_same_range_if_next : Sameness → (from to : ℕ) → Direction → (at : ℕ) → Option ℕ
  past_same_range_if_next same from to = past_spelled_if_next (is_same text same) (characters_between from to)

  -- The text between two boundaries, with offsets counted from 0.
  abbrev pub part : (from to : ℕ) → Text
  part from to = record {
    characters = characters_between from to;
    offsets = map (λ at. at - from) (slice_range text.offsets (place from) (place to + 1));
    unicode = text.unicode;
    fold = text.fold;
  }

  -- ---- Texts whose code units are bytes

  -- The bytes of the text in UTF-8.
  abbrev pub bytes_of : List ℕ
  bytes_of = encode_utf8_all text.characters

-- Whether the code units of an encoding are bytes.
abbrev pub is_byte_encoding : Encoding → Bool
is_byte_encoding utf8 = true
is_byte_encoding utf16 = false
is_byte_encoding ucs2 = false

-- The bytes of the text if its code units are bytes, and `None` otherwise.
abbrev pub bytes_if_byte_units : (are_bytes : Bool) → Text → Option (List ℕ)
bytes_if_byte_units are_bytes text = if are_bytes then Some (bytes_of text) else None

-- The text is encoded in UTF-8: its offsets are those of the bytes of its characters.
pub record IsEncodedInUtf8 (text : Text) : Type 0 where
  pub bytes : IsUtf8 (bytes_of text)
  pub offsets : text.offsets ≡ offsets_from 0 (map len_utf8 text.characters)

-- 16-bit code units are not bytes, so nothing has to be shown in that case.
pub vacuous_without_byte_units : {A : Type 0} → IsTrue false → A
vacuous_without_byte_units h = absurd (true≢false (sym h))

-- The next byte in the direction, `None` at the end.
abbrev pub adjacent_byte : (bytes : List ℕ) → Direction → (at : ℕ) → Option ℕ
adjacent_byte bytes rightwards at = slice_get bytes at
adjacent_byte bytes leftwards zero = None
adjacent_byte bytes leftwards (suc at) = slice_get bytes at

-- The offset `n` units further in the direction from any offset, `None` if it is past an end.
abbrev pub moved_by_units : (all : ℕ) → Direction → (n at : ℕ) → Option ℕ
moved_by_units all rightwards n at = if nat_le (at + n) all then Some (at + n) else None
moved_by_units all leftwards n at = if nat_le n at && nat_le (at - n) all then Some (at - n) else None

-- The offset past the units `these` if they occur next to `at` in the direction, and `None`
-- otherwise.
abbrev pub past_units_if_next : {Unit : Type 0} → (same : Unit → Unit → Bool) → (all : List Unit) → (these : List Unit)
    → Direction → (at : ℕ) → Option ℕ
past_units_if_next same all these rightwards at =
    let to = at + length these in
    if nat_le to (length all) && pointwise same (slice_range all at to) these then Some to else None
past_units_if_next same all these leftwards at =
    let to = at - length these in
    if nat_le (length these) at && pointwise same (slice_range all to at) these then Some to else None

-- `past_units_if_next` for units that are numbers.
abbrev pub past_numbers_if_next : (all : List ℕ) → (bytes : List ℕ) → Direction → (at : ℕ) → Option ℕ
past_numbers_if_next = past_units_if_next nat_eq

-- What is read in bytes if code units are bytes, and `None` otherwise.
abbrev pub read_if_units_are_bytes : (are_bytes : Bool) → Option ℕ → Option ℕ
read_if_units_are_bytes true read = read
read_if_units_are_bytes false read = None

-- The result is the first offset from `at` on at which the searched bytes occur in the remaining
-- bytes. It is `None` if there is none or if code units are not bytes.
abbrev pub IsFirstOccurrenceFrom : (are_bytes : Bool) → (stands_at : List ℕ → ℕ → Bool) → (all : List ℕ) → (at : ℕ)
    → Option ℕ → Type 0
IsFirstOccurrenceFrom false stands_at all at found = found ≡ None
IsFirstOccurrenceFrom true stands_at all at found =
    (index : Option ℕ) × FindsFirstPassingIndex (stands_at (drop at all)) (length (drop at all)) index
    × (found ≡ option_map (λ i. at + i) index)

-- The offset one unit further in the direction.
abbrev pub offset_after_one_unit : Direction → (at : ℕ) → ℕ
offset_after_one_unit rightwards at = at + 1
offset_after_one_unit leftwards at = at - 1
