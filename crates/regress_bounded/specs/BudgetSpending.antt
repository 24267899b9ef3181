-- How work is taken from the budget.
use Rattle.std.specs.Prelude.{◌≡◌, ◌<◌, ◌⊎◌, ℕ, ◌+◌}

-- The budget is lowered by `work`.
abbrev pub LowersBudgetByWork : (work old new : ℕ) → Type 0
LowersBudgetByWork work old new = old ≡ work + new

-- The budget is less than `work`, so it is lowered to 0.
abbrev pub WorkExceedsBudget : (work old new : ℕ) → Type 0
WorkExceedsBudget work old new = (old < work) × (new ≡ 0)

-- `number` is the work, or both `number` and the work are more than the work left.
abbrev pub IsWorkOrMoreThanLeft : (left work number : ℕ) → Type 0
IsWorkOrMoreThanLeft left work number = (number ≡ work) ⊎ ((left < number) × (left < work))
