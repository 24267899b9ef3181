-- Sets of 16-bit units that can be recognized by some of their bits.
use Rattle.std.specs.Prelude.{◌≡◌, ◌<◌, ◌==◌, ◌&&◌, ◌||◌, not, ℕ, Bool, true, false, slice_index_or}
use Rattle.regex_meaning.specs.Outcomes.{is_some_and}
use Rattle.regress_input.specs.TextCodeUnits.{has_bits}
use Rattle.regress_program.specs.ListedUnits.{is_listed}
use Rattle.regress_program.specs.declared.char_class_tables.Class.{Class}
use Rattle.regress_program.specs.declared.up_to_three_units.UpToThreeUnits.{UpToThreeUnits}
use Rattle.regress_program.specs.TableKeysOfUnits.{key, may_begin_surrogate_pair}
use Rattle.regress_search.specs.declared.few_wide_units.UnitBits.{UnitBits}
use Rattle.regress_search.specs.TreePlanAndText.{SearchInput}
use Rattle.regress_search.specs.ReadsAtOffset.{input_unit_at}

-- A 16-bit unit has these bits exactly if it has the key `k`.
abbrev pub BitsIdentifyUnitsOfKey : UnitBits → (k : ℕ) → Type 0
BitsIdentifyUnitsOfKey kind k = (unit : ℕ) → unit < 0x1_0000 → has_bits kind.mask kind.bits unit ≡ (key true unit == k)

-- Whether some bits identify the units with the key `k`, and none of these units ends a surrogate
-- pair.
abbrev pub bits_identify_key : (k : ℕ) → Bool
bits_identify_key k = not (k == 128 || k == 238 || k == 239)

-- The class accepts no 16-bit unit that is a trail surrogate. Such a unit has the key 238 or 239.
abbrev pub AcceptsNoTrailSurrogate : Class → Type 0
AcceptsNoTrailSurrogate class = (slice_index_or class.steps 238 0 ≡ 0) × (slice_index_or class.steps 239 0 ≡ 0)

-- Whether the key of the unit at an offset is one of up to three. If `pairs` is set, units that may
-- begin a surrogate pair count too.
abbrev pub unit_has_listed_key : (pairs : Bool) → UpToThreeUnits → SearchInput → (at : ℕ) → Bool
unit_has_listed_key pairs few w at =
    is_some_and (input_unit_at w at) (λ unit. (pairs && may_begin_surrogate_pair (key true unit))
    || is_listed few (key true unit))

-- The keys do not include 128, whose units no bits identify.
abbrev pub BitsIdentifyListedKeys : UpToThreeUnits → Type 0
BitsIdentifyListedKeys few = is_listed few 128 ≡ false
