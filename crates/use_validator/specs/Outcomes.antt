-- The outcome of a keyword that counts how many schemas (or items) hold.
use Rattle.std.specs.Prelude.{◌≤◌, ◌<◌, ◌⊎◌, ℕ}
use Rattle.use_validator.specs.declared.report.Outcome.{Outcome}
use Rattle.use_validator.specs.declared.report.Outcome.TheVariants.{Holds, Fails, Undecided}

-- `count` is a possible number of schemas that hold. `holding` of them hold for certain. `possible`
-- of them hold if all undecided ones do.
abbrev pub IsPossibleCount : (holding possible count : ℕ) → Type 0
IsPossibleCount holding possible count = (holding ≤ count) × (count ≤ possible)

-- The outcome for the limits `least` and `most`. `Holds`: each possible count is within the limits.
-- `Fails`: no possible count is. `Undecided`: neither is known.
abbrev pub FollowsFromCounts : (least most holding possible : ℕ) → Outcome → Type 0
FollowsFromCounts least most holding possible Holds =
    (count : ℕ) → IsPossibleCount holding possible count → (least ≤ count) × (count ≤ most)
FollowsFromCounts least most holding possible Fails =
    (count : ℕ) → IsPossibleCount holding possible count → ¬ ((least ≤ count) × (count ≤ most))
FollowsFromCounts least most holding possible Undecided =
    (least ≤ possible) × (holding ≤ most) × ((holding < least) ⊎ (most < possible))
