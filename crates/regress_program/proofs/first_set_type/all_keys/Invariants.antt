use Rattle.std.proofs.Common.{◌≡◌, ℕ, ◌<◌, true, false, ◌||◌, None, length, get_or}
use Rattle.regress_program.specs.TableKeysOfUnits.{is_16_bit_width, begins_utf8_character, KeyCharsLieInRangeOrPairs}
use Rattle.regress_program.proofs.first_set_type.all_keys.Given as goal

abbrev pub invariant-loop-key : goal.invariant-loop-key
invariant-loop-key l =
    (length l.keys ≡ 256)
    × ((k : ℕ) → k < l.key → get_or l.keys k true ≡ false → KeyCharsLieInRangeOrPairs (is_16_bit_width l.units) k None)
    × ((k : ℕ) → k < l.key → get_or l.keys k true ≡ true → (is_16_bit_width l.units || begins_utf8_character k) ≡ true)
