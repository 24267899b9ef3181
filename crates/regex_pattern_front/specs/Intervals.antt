-- Intervals of code points.
use Rattle.std.specs.Prelude.{ℕ, ◌+◌, ◌-◌, ◌<◌, ◌≤◌, Bool, List, [], ◌∷◌, ◌++◌, Option, None, Some, min, max, nat_lt, nat_le, if◌then◌else◌}
use Rattle.regex_pattern_front.specs.declared.codepointset.Interval.{Interval}

-- An interval as the pair of its ends.
abbrev pub interval_of : Interval → ℕ × ℕ
interval_of i = (i.first, i.last)

-- No interval is empty, and each begins after the end of the one before.
abbrev pub IntervalsAreInOrder : List (ℕ × ℕ) → Type 0
IntervalsAreInOrder [] = Unit {0}
IntervalsAreInOrder (i ∷ []) = i.0 ≤ i.1
IntervalsAreInOrder (i ∷ j ∷ more) = (i.0 ≤ i.1) × (i.1 < j.0) × IntervalsAreInOrder (j ∷ more)

-- The interval as a list of one, or the empty list.
abbrev pub optional_interval_as_list : Option Interval → List (ℕ × ℕ)
optional_interval_as_list None = []
optional_interval_as_list (Some i) = interval_of i ∷ []

-- Whether the interval has a member.
abbrev pub is_interval_nonempty : Interval → Bool
is_interval_nonempty i = nat_le i.first i.last

-- The intervals, with those that overlap or touch merged. Each must begin at or after the beginning
-- of the one before it.
abbrev pub merged_intervals : Interval → List Interval → List Interval
merged_intervals current [] = current ∷ []
merged_intervals current (next ∷ others) =
    if nat_le (next.first - 1) current.last then merged_intervals (record current {
      last =
          max current.last next.last;
    }) others
    else current ∷ merged_intervals next others

-- The gaps between these intervals, from the number `next` on and up to U+10FFFF.
abbrev pub gaps_between_intervals : (next : ℕ) → List Interval → List Interval
gaps_between_intervals next [] = record { first = next; last = 0x10_FFFF } ∷ []
gaps_between_intervals next (i ∷ others) =
    (if nat_lt next i.first then record { first = next; last = min 0x10_FFFF (i.first - 1) } ∷ [] else [])
    ++ (if nat_le 0x10_FFFF i.last then [] else gaps_between_intervals (i.last + 1) others)
