-- A bit set stored in 64-bit words.
use Rattle.std.specs.Prelude.{ℕ, ◌/◌, ◌%◌, Bool, ◌==◌, List, slice_index}
use Rattle.std.specs.Int.{bit_at}

-- Whether bit `n` is set. Bit `n` is bit `n % 64` of word `n / 64`, where bit 0 is the lowest. Bits
-- past the last word are clear.
abbrev pub is_set : (words : List ℕ) → ℕ → Bool
is_set words n = bit_at (slice_index words (n / 64)) (n % 64) == 1
