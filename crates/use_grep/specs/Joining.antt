-- How several patterns are joined into one.
use Rattle.std.specs.Prelude.{ℕ, List, [], ◌∷◌, ◌++◌, codes}

-- The pattern as an alternative in a group, followed by `|`.
abbrev pub alternative : (pattern : List ℕ) → List ℕ
alternative pattern = codes "(?:" ++ (pattern ++ codes ")|")

-- All patterns as alternatives. The last alternative is a class that matches nothing.
abbrev pub alternatives : (patterns : List (List ℕ)) → List ℕ
alternatives [] = codes "[]"
alternatives (pattern ∷ patterns) = alternative pattern ++ alternatives patterns

-- The joined pattern. A single pattern is unchanged. Without patterns, the result matches nothing.
abbrev pub joined : (patterns : List (List ℕ)) → List ℕ
joined (pattern ∷ []) = pattern
joined patterns = alternatives patterns
