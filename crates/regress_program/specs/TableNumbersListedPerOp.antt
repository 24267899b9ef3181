-- Tables with entries for some operations: a list of numbers, one for each operation, gives the
-- index of the entry.
use Rattle.std.specs.Prelude.{◌≡◌, ℕ, List, Some, slice_get}

-- The operation `ip` has a number, and the entry with that number is `row`.
pub record IsEntryAtNumberOfOp {A : Type 0} (numbers : List ℕ) (rows : List A) (ip : ℕ) (row : A) : Type 0 where
  pub number : ℕ
  pub has : slice_get numbers ip ≡ Some number
  pub there : slice_get rows number ≡ Some row
