-- Coercions of numbers (7.1.15, ToLength, and 7.1.6, ToUint32).
use Rattle.std.specs.Prelude.{ℕ, Bool, ◌-◌, ◌*◌, ◌/◌, ◌%◌, ◌^◌, min, if◌then◌else◌}
use Rattle.std.specs.Float.{Float, nan, inf, fin}
use Rattle.std.specs.Float.Ieee.{up, down}

-- The whole part of m * 2 ^ e, limited to 2 ^ 53 - 1. 0 for a negative number.
abbrev pub length_of : Float → ℕ
length_of nan = 0
length_of (inf negative) = if negative then 0 else 2 ^ 53 - 1
length_of (fin negative m e) = if negative then 0 else min (m * up e / down e) (2 ^ 53 - 1)

-- The whole part of the absolute value m * 2 ^ e, modulo 2 ^ 32.
abbrev pub size_modulo_2_32 : Float → ℕ
size_modulo_2_32 nan = 0
size_modulo_2_32 (inf negative) = 0
size_modulo_2_32 (fin negative m e) = m * up e / down e % 2 ^ 32

-- The number with this sign and absolute value, modulo 2 ^ 32.
abbrev pub with_sign_modulo_2_32 : (negative : Bool) → (size : ℕ) → ℕ
with_sign_modulo_2_32 negative size = if negative then (2 ^ 32 - size) % 2 ^ 32 else size

-- The whole part of a number, modulo 2 ^ 32.
abbrev pub uint32_from_number : Float → ℕ
uint32_from_number nan = 0
uint32_from_number (inf negative) = 0
uint32_from_number (fin negative m e) = with_sign_modulo_2_32 negative (size_modulo_2_32 (fin negative m e))
