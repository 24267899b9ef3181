-- Offsets that pass a test, and masks of 32 bits that mark such offsets.
use Rattle.std.specs.Prelude.{◌≡◌, ◌≤◌, ◌<◌, ℕ, ◌+◌, Bool, true, false, Option, Some, None}
use Rattle.std.specs.Int.{bit_at}

-- The test fails at each offset that is `from` or more and less than `to`.
abbrev pub TestFailsThroughoutRange : (test : ℕ → Bool) → (from to : ℕ) → Type 0
TestFailsThroughoutRange test from to = (at : ℕ) → from ≤ at → at < to → test at ≡ false

-- The first offset in `from..to` at which the test passes. `None` if there is none.
abbrev pub IsFirstPassingOffset : (test : ℕ → Bool) → (from to : ℕ) → Option ℕ → Type 0
IsFirstPassingOffset test from to None = TestFailsThroughoutRange test from to
IsFirstPassingOffset test from to (Some at) = (from ≤ at) × (at < to) × (test at ≡ true)
    × TestFailsThroughoutRange test from at

-- Bit `i` of `marks` stands for offset `at + i`, for `i` below 32. It is set wherever the test
-- passes, and may also be set elsewhere. No higher bit is set.
pub record MarksAllPassing (test : ℕ → Bool) (at marks : ℕ) : Type 0 where
  pub each : (i : ℕ) → i < 32 → test (at + i) ≡ true → bit_at marks i ≡ 1
  pub within : (i : ℕ) → bit_at marks i ≡ 1 → i < 32
