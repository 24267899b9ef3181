-- Which lines are printed with context, by their numbers.
use Rattle.std.specs.Prelude.{ℕ, ◌+◌, ◌≤◌, List, [], ◌∷◌, Bool, false, ◌&&◌, ◌||◌, nat_le, filter, ⊤}
use Rattle.std.specs.List.{range_with_len}

-- Line `n` is between `before` lines before line `s` and `after` lines after it.
abbrev pub is_line_in_context_of : (before after s n : ℕ) → Bool
is_line_in_context_of before after s n = nat_le s (n + before) && nat_le n (s + after)

-- Line `n` is near one of the selected lines.
abbrev pub is_near : (before after : ℕ) → (selected : List ℕ) → (n : ℕ) → Bool
is_near before after [] n = false
is_near before after (s ∷ selected) n = is_line_in_context_of before after s n || is_near before after selected n

-- The numbers of the lines that are printed, among `count` lines from line `first` on.
abbrev pub near : (before after : ℕ) → (selected : List ℕ) → (first count : ℕ) → List ℕ
near before after selected first count = filter (is_near before after selected) (range_with_len first count)

-- The numbers are in ascending order (equal numbers are allowed), and the first is at least `low`.
abbrev pub IsIncreasingFrom : (low : ℕ) → List ℕ → Type 0
IsIncreasingFrom low [] = ⊤
IsIncreasingFrom low (x ∷ xs) = (low ≤ x) × IsIncreasingFrom x xs

-- The numbers are in ascending order. Equal numbers are allowed.
abbrev pub IsIncreasing : List ℕ → Type 0
IsIncreasing xs = IsIncreasingFrom 0 xs

-- Line `n` is at most `after` lines after the first of these lines.
abbrev pub IsWithinReachOfFirst : (n after : ℕ) → List ℕ → Type 0
IsWithinReachOfFirst n after [] = ⊤
IsWithinReachOfFirst n after (x ∷ xs) = n ≤ x + after
