-- Texts and the code units that store them.
use Rattle.std.specs.Prelude.{◌≡◌, ℕ, ◌+◌, ◌<◌, ◌≤◌, ◌==◌, bit_and, slice_index, List, slice_range, Bool, Option, Some, None, map, if◌then◌else◌}
use Rattle.std.specs.Int.{bit_at}
use Rattle.regex_meaning.specs.Text.{Text, Direction}
use Rattle.regex_meaning.specs.CodeUnitOffsets.{IsBoundary}
use Rattle.regex_meaning.specs.CodeUnits.{Encoding, utf8, utf16, ucs2}
use Rattle.regress_input.specs.CharAndByteReadsFromOffset.{past_numbers_if_next, past_repeated_range_if_next}
use Rattle.regress_input.specs.Utf16CharactersAtOffsets.{if_utf16_boundary}

-- The offset past units that encode characters. In UTF-16 it is `None` if the offset splits a
-- surrogate pair.
abbrev pub unless_splitting_pair : Encoding → List ℕ → Option ℕ → Option ℕ
unless_splitting_pair utf8 us to = to
unless_splitting_pair utf16 us to = if_utf16_boundary us to
unless_splitting_pair ucs2 us to = to

-- The units of a range occur next to a boundary exactly where its characters do.
abbrev pub UnitsOccurWhereCharactersDo : Encoding → (us : List ℕ) → Text → Type 0
UnitsOccurWhereCharactersDo e us text = (d : Direction) (at a b : ℕ) → IsBoundary text at → IsBoundary text a
    → IsBoundary text b → a ≤ b
    → unless_splitting_pair e us (past_numbers_if_next us (slice_range us a b) d at) ≡ past_repeated_range_if_next text
    a b d at

-- The units as bytes if they are bytes, and `None` otherwise.
abbrev pub as_bytes : {Unit : Type 0} → (are_bytes : Bool) → (number : Unit → ℕ) → List Unit → Option (List ℕ)
as_bytes are_bytes number us = if are_bytes then Some (map number us) else None

-- Whether exactly the bits in `bits`, among the bits in `mask`, are set in a unit.
abbrev pub has_bits : (mask bits unit : ℕ) → Bool
has_bits mask bits unit = bit_and unit mask == bits

-- For the 32 units from `at` on, bit `i` of `marks` is set if unit `at + i` has these bits. No
-- other bit is set.
pub record MarksUnitsWithBits (us : List ℕ) (at mask bits marks : ℕ) : Type 0 where
  pub each : (i : ℕ) → i < 32 → has_bits mask bits (slice_index us (at + i)) ≡ (bit_at marks i == 1)
  pub within : (i : ℕ) → bit_at marks i ≡ 1 → i < 32
