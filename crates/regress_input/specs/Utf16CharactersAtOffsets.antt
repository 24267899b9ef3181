-- Characters in UTF-16.
use Rattle.std.specs.Prelude.{ℕ, ◌+◌, ◌-◌, Bool, ◌&&◌, List, slice_index, nat_le, if◌then◌else◌, Option, Some, None, option_and_then}
use Rattle.regex_meaning.specs.Text.{is_high_surrogate, is_low_surrogate, decode_surrogate_pair, is_unit_boundary}

-- Whether a surrogate pair is at the offset.
abbrev pub is_surrogate_pair_at : List ℕ → (at : ℕ) → Bool
is_surrogate_pair_at units at =
    is_high_surrogate (slice_index units at) && is_low_surrogate (slice_index units (at + 1))

-- The character that the surrogate pair at the offset encodes.
abbrev pub char_of_surrogate_pair_at : List ℕ → (at : ℕ) → ℕ
char_of_surrogate_pair_at units at = decode_surrogate_pair (slice_index units at) (slice_index units (at + 1))

-- The character that begins at a boundary, and the offset at which it ends.
abbrev pub character_starting_at : List ℕ → (at : ℕ) → ℕ × ℕ
character_starting_at units at = if is_surrogate_pair_at units at then (char_of_surrogate_pair_at units at, at + 2)
    else (slice_index units at, at + 1)

-- The character that ends at a boundary, and the offset at which it begins.
abbrev pub character_before : List ℕ → (at : ℕ) → ℕ × ℕ
character_before units at =
    if nat_le 2 at && is_surrogate_pair_at units (at - 2) then (char_of_surrogate_pair_at units (at - 2), at - 2)
    else (slice_index units (at - 1), at - 1)

-- The offset if it is a boundary, and `None` otherwise.
abbrev pub if_utf16_boundary : List ℕ → Option ℕ → Option ℕ
if_utf16_boundary units at = option_and_then (λ to. if is_unit_boundary units to then Some to else None) at
