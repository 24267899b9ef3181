-- Offsets in code units, and the characters that are read at them (a rule of this crate).
use Rattle.std.specs.Prelude.{◌≡◌, ℕ, ◌+◌, ◌<◌, ◌⊎◌, if◌then◌else◌, Bool, IsTrue, List, [], ◌∷◌, length, nat_eq, nat_le, not, position, slice_index, Option, Some, None, is_some, option_and_then}
use Rattle.std.specs.Prelude.{option_map}
use Rattle.regex_meaning.specs.Text.{Text, Direction, next_character, moved, last_place}

-- Each number is less than the next.
abbrev pub IsStrictlyIncreasing : List ℕ → Type 0
IsStrictlyIncreasing [] = Unit {0}
IsStrictlyIncreasing (x ∷ []) = Unit {0}
IsStrictlyIncreasing (x ∷ y ∷ more) = (x < y) × IsStrictlyIncreasing (y ∷ more)

-- The start is past the end.
abbrev pub is_past : (start end : ℕ) → Bool
is_past start end = not (nat_le start end)

-- The offsets of a text begin with 0 and increase, and each place has one.
pub record HasRisingPlaceOffsets (text : Text) : Type 0 where
  pub from_zero : slice_index text.offsets 0 ≡ 0
  pub rises : IsStrictlyIncreasing text.offsets
  pub one_offset_per_place : length text.offsets ≡ length text.characters + 1

module _ (text : Text) where
  -- The offset of a place, in code units.
  abbrev pub offset : (place : ℕ) → ℕ
  offset place = slice_index text.offsets place

  -- The length in code units.
  abbrev pub units : ℕ
  units = offset (last_place text)

  -- The place with this offset. `None` if the offset is inside a character or past the end.
  abbrev pub place_at : (at : ℕ) → Option ℕ
  place_at at = position (nat_eq at) text.offsets

  -- The offset is that of a place: it is neither inside a character nor past the end.
  abbrev pub IsBoundary : (at : ℕ) → Type 0
  IsBoundary at = IsTrue (is_some (place_at at))

  -- The offset is that of a place, or past the end.
  abbrev pub IsBoundaryOrPastEnd : (start : ℕ) → Type 0
  IsBoundaryOrPastEnd start = IsBoundary start ⊎ (units < start)

  -- The offset, or `None` if it is past the end.
  abbrev pub offset_within : (start : ℕ) → Option ℕ
  offset_within start = if nat_le start units then Some start else None

  -- The next character in the direction, and the offset that is reached by reading it.
  abbrev pub read_at : Direction → (place : ℕ) → Option (ℕ × ℕ)
  read_at direction place =
      option_map (λ c. (c, offset (moved text direction 1 place))) (next_character text direction place)

  -- The next character from an offset, and the offset that is reached by reading it. `None` if
  -- there is no such character, or if the offset is not a boundary.
  abbrev pub read : Direction → (at : ℕ) → Option (ℕ × ℕ)
  read direction at = option_and_then (read_at direction) (place_at at)
