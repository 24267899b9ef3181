-- Names of files, and renamings.
use Rattle.std.specs.Prelude.{◌≡◌, ◌≢◌, ◌⊎◌, ℕ, List, [], ◌∷◌, ◌++◌, Bool, true, not, ◌&&◌, ◌||◌, IsTrue, Option, Some, None, String, All, AllPairs, Contains, map, flat_map, filter, find, is_none}
use Rattle.std.specs.Prelude.{codes, bytes_eq, length, nat_eq, nat_le, slice_get, slice_range, string_bytes}
use Rattle.std.specs.List.{list_any}
use Rattle.std.specs.Option.{option_map_or}
use Rattle.regex_meaning.specs.MatchGroupsByNumberAndName.{Answer, named_groups}
use Rattle.regex_meaning.specs.Replace.{replaced}
use Rattle.regress_match.specs.ProgramTreesAndAnswers.{utf8_answers}
use Rattle.regress_match.specs.ExpansionsAndMatchRanges.{matches_with_expansions}
use Rattle.regress_match.specs.declared.api.regex.Regex.{Regex}
use Rattle.use_renamer.specs.declared.plan.Refusal.{Refusal}
use Rattle.use_renamer.specs.declared.plan.Refusal.TheVariants.{Memory}
use Rattle.use_renamer.specs.declared.plan.Rename.{Rename}

-- Whether a name is a valid file name. It has 1 to 255 bytes, is neither `.` nor `..`, and has no
-- slash and no NUL.
abbrev pub is_file_name : (name : List ℕ) → Bool
is_file_name name = not (bytes_eq name []) && not (bytes_eq name (codes ".")) && not (bytes_eq name (codes ".."))
    && nat_le (length name) 255 && not (list_any (λ b. nat_eq b 47 || nat_eq b 0) name)

-- The name with each match replaced by the expansion of the template.
abbrev pub new_name : Regex → (template name : List ℕ) → List ℕ
new_name re template name = replaced name 0 (matches_with_expansions name template (utf8_answers re name 0))

-- The pairs whose two names differ.
abbrev pub pairs_of_different_names : List (List ℕ × List ℕ) → List (List ℕ × List ℕ)
pairs_of_different_names moves = filter (λ m. not (bytes_eq m.0 m.1)) moves

-- The names that change, each with its new name, in order.
abbrev pub changes : Regex → (template : List ℕ) → (names : List (List ℕ)) → List (List ℕ × List ℕ)
changes re template names = pairs_of_different_names (map (λ name. (name, new_name re template name)) names)

-- No two of these names are equal.
abbrev pub AllDiffer : List (List ℕ) → Type 0
AllDiffer names = AllPairs (λ a b. a ≢ b) names

-- Whether one of the items has this name.
abbrev pub is_among : {X : Type 0} → (name_of : X → List ℕ) → (name : List ℕ) → List X → Bool
is_among name_of name xs = list_any (λ x. bytes_eq name (name_of x)) xs

-- Whether all items have different names.
abbrev pub all_differ : {X : Type 0} → (name_of : X → List ℕ) → List X → Bool
all_differ name_of [] = true
all_differ name_of (x ∷ xs) = is_none (find (λ y. bytes_eq (name_of x) (name_of y)) xs) && all_differ name_of xs

-- The renamings in a folder lose no file, in any order, and also if only some of them are done:
-- each new name is a valid file name, all new names differ, and nothing in the folder has a new
-- name.
pub record AreRenamingsSafe (folder : List (List ℕ)) (moves : List (List ℕ × List ℕ)) : Type 0 where
  pub stay : All (λ m. IsTrue (is_file_name m.1)) moves
  pub distinct : AllDiffer (map (λ m. m.1) moves)
  pub free : All (λ m. ¬ Contains folder m.1) moves

-- When renamings are refused: an allocation failed, or they are not safe.
abbrev pub IsReasonToRefuse : (folder : List (List ℕ)) → (moves : List (List ℕ × List ℕ)) → Refusal → Type 0
IsReasonToRefuse folder moves e = (e ≡ Memory) ⊎ ¬ AreRenamingsSafe folder moves

-- The names as bytes.
abbrev pub texts : {A : Type 0} → List (String A) → List (List ℕ)
texts names = map string_bytes names

-- A renaming as the pair of the old and the new name.
abbrev pub move_of : Rename → List ℕ × List ℕ
move_of r = (string_bytes r.from, string_bytes r.to)

-- The renamings as pairs of the old and the new name.
abbrev pub moves_of : List Rename → List (List ℕ × List ℕ)
moves_of renames = map move_of renames

-- The name of a group and the text that it matched. Empty if it did not match.
abbrev pub group_name_and_text : (text : List ℕ) → List ℕ × Option (ℕ × ℕ) → List ℕ
group_name_and_text text (name, None) = []
group_name_and_text text (name, Some range) = codes " " ++ (name ++ (codes "=" ++ slice_range text range.0 range.1))

-- All named groups of a match.
abbrev pub groups_shown : (text : List ℕ) → Answer → List ℕ
groups_shown text m = flat_map (group_name_and_text text) (named_groups m)

-- All named groups of the first match. Empty if there is no match.
abbrev pub shown_groups_of_first_match : Regex → (name : List ℕ) → List ℕ
shown_groups_of_first_match re name = option_map_or (groups_shown name) (slice_get (utf8_answers re name 0) 0) []
