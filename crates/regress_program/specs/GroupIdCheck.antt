-- Group ids, as the check of trees sees them.
use Rattle.std.specs.Prelude.{◌≡◌, ℕ, ◌+◌, ◌-◌, ◌^◌, ◌/◌, ◌%◌, Bool, true, not, ◌&&◌, ◌||◌, List, [], ◌∷◌, length, min, max, ◌==◌, nat_le, slice_index}
use Rattle.std.specs.Int.{bit_at}
use Rattle.regex_meaning.specs.NumberListHelpers.{contains}
use Rattle.regex_meaning.specs.Tree.{Node, group_ids, every_node_passes}
use Rattle.regex_meaning.specs.WellFormedTrees.{has_exact_group_range, range_is_ids_of_enclosed_groups, refers_to_a_group, has_order_in_quantifier, has_one_character_body, has_text_in_sequence}
use Rattle.regex_meaning.specs.WellFormedTrees.{set_sizes_and_characters_fit_instructions}

-- The bitmap has no bit for the id. A bitmap of 1,024 words has a bit for each possible id.
abbrev pub is_outside_bitmap : (words : ℕ) → ℕ → Bool
is_outside_bitmap words id = not (words == 1024) && nat_le words (id / 64)

-- The bit of the id is set, or the bitmap has no bit for it. A word holds 64 ids, the lowest bit
-- first.
abbrev pub is_group_id_seen : List ℕ → ℕ → Bool
is_group_id_seen bits id = is_outside_bitmap (length bits) id || bit_at (slice_index bits (id / 64)) (id % 64) == 1

-- Exactly these ids are added to those that are seen.
abbrev pub MarksGroupIdsSeen : List ℕ → (before after : List ℕ) → Type 0
MarksGroupIdsSeen ids before after = (k : ℕ) → is_group_id_seen after k ≡ (is_group_id_seen before k || contains ids k)

-- None of the ids is seen, and none occurs twice.
unfoldable pub are_distinct_unseen : (seen : ℕ → Bool) → List ℕ → Bool
are_distinct_unseen seen [] = true
are_distinct_unseen seen (id ∷ ids) = not (seen id) && are_distinct_unseen (λ k. seen k || k == id) ids

-- The least id, or 2^16 if there is none.
unfoldable pub least_group_id : List ℕ → ℕ
least_group_id [] = 2 ^ 16
least_group_id (id ∷ ids) = min id (least_group_id ids)

-- One more than the greatest id, or 0 if there is none.
unfoldable pub end_of_group_ids : List ℕ → ℕ
end_of_group_ids [] = 0
end_of_group_ids (id ∷ ids) = max (id + 1) (end_of_group_ids ids)

-- Each id inside the node is unseen and occurs once, and the ranges of loops and lookarounds
-- contain exactly the groups inside them.
abbrev pub has_exact_group_ids : (seen : ℕ → Bool) → Node → Bool
has_exact_group_ids seen node =
    are_distinct_unseen seen (group_ids node) && every_node_passes has_exact_group_range node

-- `has_exact_group_ids` for a node inside a loop or a lookaround whose range is from `start` up to
-- `end`, exclusive.
abbrev pub node_fills_id_range : (seen : ℕ → Bool) (start end : ℕ) → Node → Bool
node_fills_id_range seen start end node = are_distinct_unseen seen
    (group_ids node) && (range_is_ids_of_enclosed_groups start end node && every_node_passes has_exact_group_range node)

-- The number of ids, the least of them, and one more than the greatest.
pub record GroupIdCountAndSpanNumbers : Type 0 where
  pub count : ℕ
  pub low : ℕ
  pub high : ℕ

-- The number of ids, limited to 2^64 - 1, the least of them, and one more than the greatest.
abbrev pub count_and_span_of_group_ids : List ℕ → GroupIdCountAndSpanNumbers
count_and_span_of_group_ids ids =
    record { count = min (length ids) (2 ^ 64 - 1); low = least_group_id ids; high = end_of_group_ids ids }

-- The span of the ids of both spans.
abbrev pub joined : GroupIdCountAndSpanNumbers → GroupIdCountAndSpanNumbers → GroupIdCountAndSpanNumbers
joined a b = record { count = min (a.count + b.count) (2 ^ 64 - 1); low = min a.low b.low; high = max a.high b.high }

-- The conditions on a node by itself, in a tree with `groups` groups.
abbrev pub is_well_formed_node : (groups : ℕ) → Node → Bool
is_well_formed_node groups node =
    refers_to_a_group groups node && has_order_in_quantifier node && has_one_character_body node && has_text_in_sequence
    node && set_sizes_and_characters_fit_instructions node
