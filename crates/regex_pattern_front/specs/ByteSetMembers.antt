-- The members of sets of bytes, as lists.
use Rattle.std.specs.Prelude.{ℕ, ◌/◌, ◌%◌, Bool, ◌&&◌, false, List, nat_lt, ◌==◌, slice_index, slice_index_or}
use Rattle.std.specs.Int.{bit_at}
use Rattle.regex_meaning.specs.StartPredicate.{bytes_that_pass}
use Rattle.regex_pattern_front.specs.declared.bytesearch.AsciiBitmap.{AsciiBitmap}
use Rattle.regex_pattern_front.specs.declared.bytesearch.ByteBitmap.{ByteBitmap}

-- Whether the bit of a byte is set. A word holds the bits of 64 bytes, the lowest bit first.
abbrev pub is_ascii_bit_set : List ℕ → ℕ → Bool
is_ascii_bit_set bits byte = nat_lt byte 128 && bit_at (slice_index bits (byte / 64)) (byte % 64) == 1

-- The bytes of the set, in increasing order.
abbrev pub member_bytes_of_ascii_bitmap : AsciiBitmap → List ℕ
member_bytes_of_ascii_bitmap bitmap = bytes_that_pass (is_ascii_bit_set bitmap.bits)

-- The bytes of the set, in increasing order.
abbrev pub member_bytes_of_byte_bitmap : ByteBitmap → List ℕ
member_bytes_of_byte_bitmap bitmap = bytes_that_pass (λ b. slice_index_or bitmap.table b false)
