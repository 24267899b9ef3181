-- Auxiliary functions on lists of numbers.
use Rattle.std.specs.Prelude.{ℕ, zero, suc, ◌+◌, nat_eq, Bool, List, [], ◌∷◌}
use Rattle.std.specs.List.{list_any}

-- Whether the number is in the list.
abbrev pub contains : List ℕ → ℕ → Bool
contains members n = list_any (nat_eq n) members

-- `count` consecutive numbers, beginning with `first`.
abbrev pub numbers_from : (first count : ℕ) → List ℕ
numbers_from first zero = []
numbers_from first (suc count) = first ∷ numbers_from (first + 1) count
