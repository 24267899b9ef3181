-- What the iterators over the groups of a match still have to yield.
use Rattle.std.specs.Prelude.{ℕ, Bool, false, not, List, [], ◌∷◌, map, take, drop, Option, Some, bytes_eq}
use Rattle.std.specs.List.{list_any}
use Rattle.regex_meaning.specs.MatchGroupsByNumberAndName.{Answer, first_appearances, first_range, ids_named}

-- The ranges of all groups by number. The first one is the whole match.
abbrev pub all_groups : Answer → List (Option (ℕ × ℕ))
all_groups m = Some m.range ∷ m.captures

-- The name is not empty and does not occur in the list `before`.
abbrev pub is_new_group_name : (name : List ℕ) (before : List (List ℕ)) → Bool
is_new_group_name [] before = false
is_new_group_name (c ∷ name) before = not (list_any (bytes_eq (c ∷ name)) before)

-- The names at id `from` or later that do not occur at an earlier id.
abbrev pub distinct_names_from : List (List ℕ) → (from : ℕ) → List (List ℕ)
distinct_names_from names from = first_appearances (take from names) (drop from names)

-- Each name of `distinct_names_from`, with the range of its first group that matched.
abbrev pub named_groups_from : Answer → (from : ℕ) → List (List ℕ × Option (ℕ × ℕ))
named_groups_from m from = map (λ name. (name, first_range m (ids_named m name))) (distinct_names_from m.names from)
