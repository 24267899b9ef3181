-- Ranges of positions as ranges of offsets.
use Rattle.std.specs.Prelude.{ℕ}

-- The offsets of a pair of positions.
abbrev pub offset_range_of_positions : {P : Type 0} → (offset : P → ℕ) → P × P → ℕ × ℕ
offset_range_of_positions offset range = (offset range.0, offset range.1)
