-- What a search yields: a match in offsets (`Answer`), the list of them from an offset on (`answers_from`), and
-- groups by number and by name.
use Rattle.std.specs.Prelude.{ℕ, zero, suc, ◌+◌, Bool, List, [], ◌∷◌, length, map, ◌++◌, ◌==◌, option_map, Option, Some, None, if◌then◌else◌, bytes_eq}
use Rattle.std.specs.List.{list_any, list_all}
use Rattle.std.specs.Option.{option_or, option_map_or}
use Rattle.regex_meaning.specs.NumberListHelpers.{numbers_from}
use Rattle.regex_meaning.specs.Tree.{Node, capture_group, fold_nodes}
use Rattle.regex_meaning.specs.Text.{Text}
use Rattle.regex_meaning.specs.FirstAndAllMatches.{Found, match_list}
use Rattle.regex_meaning.specs.CodeUnitOffsets.{offset, place_at}
use Rattle.regex_meaning.specs.Outcomes.{Groups, group_range}

-- A match in offsets: its range, the range of each group by id, and the name of each group by id
-- (empty if the group has none).
pub record Answer : Type 0 where
  pub range : ℕ × ℕ
  pub captures : Groups
  pub names : List (List ℕ)

-- The id and the name of a node that is a capturing group. Empty for any other node.
abbrev pub id_and_name_if_capture_group : Node → List (ℕ × List ℕ)
id_and_name_if_capture_group (capture_group id name contents) = (id, name) ∷ []
id_and_name_if_capture_group _ = []

-- The id and name of each capturing group, in the order of the tree.
abbrev pub capturing_group_ids_and_names : Node → List (ℕ × List ℕ)
capturing_group_ids_and_names root = fold_nodes ◌++◌ id_and_name_if_capture_group root

-- The name that a list of ids and names has for an id. Empty if the id is not listed.
abbrev pub group_name_of_id : List (ℕ × List ℕ) → ℕ → List ℕ
group_name_of_id [] id = []
group_name_of_id (named ∷ others) id = if named.0 == id then named.1 else group_name_of_id others id

-- The name of each group by id, empty if the group has none. The list is empty if no group has a
-- name.
abbrev pub group_names_by_id : Node → List (List ℕ)
group_names_by_id root =
    let named = capturing_group_ids_and_names root in
    if list_all (λ p. length p.1 == 0) named then [] else map (group_name_of_id named) (numbers_from 0 (length named))

module _ (root : Node) (text : Text) where
  -- A match as an answer: its places as offsets, its groups by id, and the names by id.
  abbrev pub answer : Found → Answer
  answer m = record {
    range = (offset text m.start, offset text m.end);
    captures = map (option_map (λ r. (offset text r.0, offset text r.1))) m.groups;
    names = group_names_by_id root;
  }

  -- All answers from an offset on. Empty if the offset is not a boundary or is past the end.
  unfoldable pub answers_from : (start : ℕ) → List Answer
  answers_from start = option_map_or (λ place. map answer (match_list root text place)) (place_at text start) []

-- The range of a group by number: 0 is the whole match, and n + 1 is the group with id n.
abbrev pub group : Answer → ℕ → Option (ℕ × ℕ)
group m zero = Some m.range
group m (suc id) = group_range m.captures id

-- The positions of the names that pass the test, counted from `id`.
abbrev pub ids_where : (List ℕ → Bool) → (id : ℕ) → List (List ℕ) → List ℕ
ids_where test id [] = []
ids_where test id (name ∷ names) = if test name then id ∷ ids_where test (id + 1) names
    else ids_where test (id + 1) names

-- The ids of the groups with this name, in increasing order.
abbrev pub ids_named : Answer → List ℕ → List ℕ
ids_named m name = ids_where (bytes_eq name) 0 m.names

-- The range of the first group in the list that has one.
abbrev pub first_range : Answer → List ℕ → Option (ℕ × ℕ)
first_range m [] = None
first_range m (id ∷ ids) = option_or (group_range m.captures id) (first_range m ids)

-- The range of the first group with this name, by id, that has a range. `None` for the empty name.
abbrev pub named_group : Answer → List ℕ → Option (ℕ × ℕ)
named_group m [] = None
named_group m (c ∷ name) = first_range m (ids_named m (c ∷ name))

-- The nonempty names, each once, in the order of their first occurrence, without those in `before`.
abbrev pub first_appearances : (before : List (List ℕ)) → List (List ℕ) → List (List ℕ)
first_appearances before [] = []
first_appearances before ([] ∷ names) = first_appearances before names
first_appearances before ((c ∷ name) ∷ names) =
    if list_any (bytes_eq (c ∷ name)) before then first_appearances before names
    else (c ∷ name) ∷ first_appearances ((c ∷ name) ∷ before) names

-- Each nonempty name once, with the range of the first group of that name that has one.
abbrev pub named_groups : Answer → List (List ℕ × Option (ℕ × ℕ))
named_groups m = map (λ name. (name, first_range m (ids_named m name))) (first_appearances [] m.names)
