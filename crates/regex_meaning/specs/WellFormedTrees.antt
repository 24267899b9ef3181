-- Well-formed trees: the trees that can be compiled (a rule of this crate).
use Rattle.std.specs.Prelude.{ℕ, ◌+◌, ◌-◌, Bool, true, false, ◌&&◌, length, chars, count_by, if◌then◌else◌, nat_lt, nat_le, nat_eq, ◌==◌, IsTrue}
use Rattle.std.specs.List.{list_all}
use Rattle.std.specs.Option.{option_map_or}
use Rattle.std.specs.Str.{is_utf8}
use Rattle.regex_meaning.specs.NumberListHelpers.{contains, numbers_from}
use Rattle.regex_meaning.specs.Tree.{Quantifier, Node, goal, char, char_set, byte_set, byte_sequence, cat, end_of_cat, bracket, string_set, match_any, match_any_except_line_terminator, back_ref}
use Rattle.regex_meaning.specs.Tree.{lookaround, loop, loop_1_char_body, fold_nodes, group_ids, every_node_passes}

-- 1 for `Goal`, 0 for any other node
abbrev pub one_if_goal_node : Node → ℕ
one_if_goal_node goal = 1
one_if_goal_node _ = 0

-- The number of `Goal` nodes in the tree.
abbrev pub number_of_goal_nodes : Node → ℕ
number_of_goal_nodes root = fold_nodes ◌+◌ one_if_goal_node root

-- The node is the end of a `Cat`.
abbrev pub is_end_of_cat : Node → Bool
is_end_of_cat end_of_cat = true
is_end_of_cat _ = false

-- The node is `Goal`, or a `Cat` whose last child ends in `Goal`.
abbrev pub ends_in_goal : Node → Bool
ends_in_goal goal = true
ends_in_goal (cat first rest) = if is_end_of_cat rest then ends_in_goal first else ends_in_goal rest
ends_in_goal _ = false

-- There is exactly one `Goal`, and it is last.
abbrev pub only_goal_node_is_last : Node → Bool
only_goal_node_is_last root = number_of_goal_nodes root == 1 && ends_in_goal root

-- Each number below the number of groups is the id of exactly one group.
abbrev pub each_id_stands_once : Node → Bool
each_id_stands_once root =
    let ids = group_ids root in
    list_all (λ id. count_by (nat_eq id) ids == 1) (numbers_from 0 (length ids))

-- The ids from `start_group` up to `end_group`, exclusive, are exactly those of the groups inside.
abbrev pub range_is_ids_of_enclosed_groups : (start_group end_group : ℕ) → (contents : Node) → Bool
range_is_ids_of_enclosed_groups start_group end_group contents =
    let ids = group_ids contents in
    let named = numbers_from start_group (end_group - start_group) in
    nat_le start_group end_group && list_all (contains named) ids && list_all (contains ids) named

-- The range of group ids of a loop or a lookaround contains exactly the groups inside it.
abbrev pub has_exact_group_range : Node → Bool
has_exact_group_range (lookaround l contents) = range_is_ids_of_enclosed_groups l.start_group l.end_group contents
has_exact_group_range (loop q start_group end_group loopee) =
    range_is_ids_of_enclosed_groups start_group end_group loopee
has_exact_group_range _ = true

-- A backreference refers to one of n groups, which are numbered from 1.
abbrev pub refers_to_a_group : (n : ℕ) → Node → Bool
refers_to_a_group n (back_ref group same) = nat_le 1 group && nat_le group n
refers_to_a_group n _ = true

-- The minimum is at most the maximum, if there is a maximum.
abbrev pub is_min_at_most_max : Quantifier → Bool
is_min_at_most_max q = option_map_or (nat_le q.min) q.max true

-- The minimum of a loop is at most its maximum.
abbrev pub has_order_in_quantifier : Node → Bool
has_order_in_quantifier (loop q start_group end_group loopee) = is_min_at_most_max q
has_order_in_quantifier (loop_1_char_body q loopee) = is_min_at_most_max q
has_order_in_quantifier _ = true

-- The node matches exactly one character.
abbrev pub is_one_character : Node → Bool
is_one_character (char c) = true
is_one_character (char_set members) = true
is_one_character (byte_set members) = true
is_one_character (bracket contents) = true
is_one_character match_any = true
is_one_character match_any_except_line_terminator = true
is_one_character (byte_sequence bytes) = length (chars bytes) == 1
is_one_character _ = false

-- The body of a loop over one character is a one-character node.
abbrev pub has_one_character_body : Node → Bool
has_one_character_body (loop_1_char_body q loopee) = is_one_character loopee
has_one_character_body _ = true

-- A byte sequence is the UTF-8 of at least one character.
abbrev pub has_text_in_sequence : Node → Bool
has_text_in_sequence (byte_sequence bytes) = nat_lt 0 (length bytes) && is_utf8 bytes
has_text_in_sequence _ = true

-- Sets have at most four members, byte sets contain only ASCII, and code points of strings are at
-- most U+10FFFF.
abbrev pub set_sizes_and_characters_fit_instructions : Node → Bool
set_sizes_and_characters_fit_instructions (byte_set members) =
    nat_le (length members) 4 && list_all (λ b. nat_lt b 128) members
set_sizes_and_characters_fit_instructions (char_set members) = nat_le (length members) 4
set_sizes_and_characters_fit_instructions (string_set strings icase) =
    list_all (list_all (λ c. nat_le c 0x10_FFFF)) strings
set_sizes_and_characters_fit_instructions _ = true

-- The tree satisfies all of these conditions.
unfoldable pub is_well_formed : Node → Bool
is_well_formed root =
    only_goal_node_is_last root
    && each_id_stands_once root
    && every_node_passes has_exact_group_range root
    && every_node_passes (refers_to_a_group (length (group_ids root))) root
    && every_node_passes has_order_in_quantifier root
    && every_node_passes has_one_character_body root
    && every_node_passes has_text_in_sequence root
    && every_node_passes set_sizes_and_characters_fit_instructions root

-- `is_well_formed` as a proposition
abbrev pub IsWellFormed : Node → Type 0
IsWellFormed root = IsTrue (is_well_formed root)
