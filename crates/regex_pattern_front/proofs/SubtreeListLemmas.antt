-- Subtrees keep their invariant when the parser combines several of them into one node.
use Rattle.std.proofs.Common.{◌≡◌, ℕ, suc, ◌+◌, ◌≤◌, Bool, true, List, [], ◌∷◌, ◌++◌, length, sum_by, refl, sym, ap, ◌∙◌, arith, length-append, append_assoc, get_or, Option, Some, None}
use Rattle.std.specs.Prelude.{IsTrue, nat_eq}
use Rattle.std.specs.List.{All}
use Rattle.std.specs.Option.{ForSome}
use Rattle.std.specs.List.Sorted.{IsPermutation}
use Rattle.std.proofs.lemmas.Bool.{le-leb, and_from}
use Rattle.std.proofs.lemmas.List.Sums.{sum_by-append}
use Rattle.std.proofs.lemmas.List.Sorted.{sum_by-IsPermutation, All-permutation}
use Rattle.std.proofs.lemmas.List.Elements.{All-cons, All-append}
use Rattle.regex_meaning.specs.Tree as tree
use Rattle.regex_meaning.specs.Tree.{group_ids, every_node_passes, empty, goal, char, char_set, byte_set, byte_sequence, cat, end_of_cat, alt, bracket, string_set, match_any}
use Rattle.regex_meaning.specs.Tree.{match_any_except_line_terminator, anchor, word_boundary, capture_group, back_ref}
use Rattle.regex_meaning.specs.Tree.{lookaround, loop, loop_1_char_body, Lookaround, Quantifier}
use Rattle.regex_meaning.specs.WellFormedTrees.{number_of_goal_nodes, is_min_at_most_max}
use Rattle.regex_pattern_front.specs.declared.ir.Node.{Node}
use Rattle.regex_pattern_front.specs.AstToSpecTree.{spec_node_of, spec_cat_of_children}
use Rattle.regex_pattern_front.specs.SubtreeListInvariants.{is_well_formed_in_pattern, occurrences_of_id, IsSoundSubtreeWithGroupIds, AreSoundSubtrees, CombinesGroupsAndGoalsOfNodes}
use Rattle.regex_pattern_front.specs.SubtreeListInvariants.{KeepsSubtreeInvariant}
use Rattle.regex_meaning.proofs.SubtreeInvariantsLemmas.{every-more, within-none, within-join, sum_by-cons, count_by-append}
pub use Rattle.regex_meaning.proofs.SubtreeInvariantsLemmas.{part-leaf, part-group, part-lookaround, part-loop, whole, whole-plain, whole-reads_none}

-- ---- Lists

pub parts-none : (first greatest : ℕ) → AreSoundSubtrees first first greatest []
parts-none first greatest = record { goals = refl; count = omega arith; ids = λ id. sym (within-none first id); sound = λ k d h. absurd (omega arith) }

All-more : (greatest more : ℕ) (xs : List Node) → greatest ≤ more → All (λ n. IsTrue (every_node_passes (is_well_formed_in_pattern greatest) (spec_node_of n))) xs → All (λ n. IsTrue (every_node_passes (is_well_formed_in_pattern more) (spec_node_of n))) xs
All-more greatest more xs h all = λ k d l. every-more greatest more (spec_node_of (get_or xs k d)) h (all k d l)

pub parts-more : (first end greatest more : ℕ) (xs : List Node) → greatest ≤ more → AreSoundSubtrees first end greatest xs → AreSoundSubtrees first end more xs
parts-more first end greatest more xs h a = record { goals = a.goals; count = a.count; ids = a.ids; sound = All-more greatest more xs h a.sound }

pub parts-push : (first middle end greatest more : ℕ) (xs : List Node) (n : Node) → greatest ≤ more
    → AreSoundSubtrees first middle greatest xs → IsSoundSubtreeWithGroupIds middle end more (spec_node_of n) → AreSoundSubtrees first end more (xs ++ n ∷ [])
parts-push first middle end greatest more xs n h a p = record {
  goals = sum_by-append (λ n. number_of_goal_nodes (spec_node_of n)) xs (n ∷ []) ∙ (let g = p.goals in let s = a.goals in omega arith);
  count = rw (sum_by-append (λ n. length (group_ids (spec_node_of n))) xs (n ∷ [])) (let g = p.count in let s = a.count in omega arith);
  ids = λ id.
      let g = p.ids id in
      let s = a.ids id in
      let low : first ≤ middle = omega (arith, a.count) in
      let high : middle ≤ end = omega (arith, p.count) in
      let j = within-join first middle end id low high in
      sum_by-append (λ n. occurrences_of_id id (spec_node_of n)) xs (n ∷ []) ∙ omega arith;
  sound = All-append (λ n. IsTrue (every_node_passes (is_well_formed_in_pattern more) (spec_node_of n))) xs (n ∷ []) (All-more greatest more xs h a.sound)
      (All-cons (λ n. IsTrue (every_node_passes (is_well_formed_in_pattern more) (spec_node_of n))) n [] p.sound (λ k d h. absurd (omega arith)));
}

All-split : (P : Node → Type 0) (xs ys : List Node) → All P (xs ++ ys) → All P xs × All P ys
All-split P [] ys all = ((λ k d h. absurd (omega arith)), all)
All-split P (x ∷ xs) ys all =
    let r = All-split P xs ys (λ k d h. all (suc k) d (omega arith)) in
    (All-cons P x xs (all 0 x (omega arith)) r.0, r.1)

pub parts-one : (first end greatest : ℕ) (n : Node) → AreSoundSubtrees first end greatest (n ∷ []) → IsSoundSubtreeWithGroupIds first end greatest (spec_node_of n)
parts-one first end greatest n a = record {
  goals = let g = a.goals in omega arith;
  count = let g = a.count in omega arith;
  ids = λ id. let g = a.ids id in omega arith;
  sound = a.sound 0 n (omega arith);
}

-- ---- Combining several nodes

pub part-made : (first end greatest : ℕ) (xs : List Node) (n : tree.Node) → CombinesGroupsAndGoalsOfNodes xs n → AreSoundSubtrees first end greatest xs → IsSoundSubtreeWithGroupIds first end greatest n
part-made first end greatest xs n m a = record {
  goals = m.goals ∙ a.goals;
  count = rw m.count a.count;
  ids = λ id. m.ids id ∙ a.ids id;
  sound = m.sound greatest a.sound;
}

pub parts-made : (xs ys : List Node) (n : Node) → CombinesGroupsAndGoalsOfNodes ys (spec_node_of n) → KeepsSubtreeInvariant (xs ++ ys) (xs ++ n ∷ [])
parts-made xs ys n m = λ first end greatest a. record {
  goals = same (λ m. number_of_goal_nodes m) m.goals ∙ a.goals;
  count = rw (same (λ m. length (group_ids m)) m.count) a.count;
  ids = λ id. same (λ m. occurrences_of_id id m) (m.ids id) ∙ a.ids id;
  sound =
      let parts = All-split (λ m. IsTrue (every_node_passes (is_well_formed_in_pattern greatest) (spec_node_of m))) xs ys a.sound in
      All-append (λ m. IsTrue (every_node_passes (is_well_formed_in_pattern greatest) (spec_node_of m))) xs (n ∷ []) parts.0
      (All-cons (λ m. IsTrue (every_node_passes (is_well_formed_in_pattern greatest) (spec_node_of m))) n [] (m.sound greatest parts.1) (λ k d h. absurd (omega arith)));
}
  where
    same : (f : tree.Node → ℕ) → f (spec_node_of n) ≡ sum_by (λ m. f (spec_node_of m)) ys
        → sum_by (λ m. f (spec_node_of m)) (xs ++ n ∷ []) ≡ sum_by (λ m. f (spec_node_of m)) (xs ++ ys)
    same f h =
        let e = sum_by-append (λ m. f (spec_node_of m)) xs (n ∷ []) in
        let e1 = sum_by-append (λ m. f (spec_node_of m)) xs ys in
        omega arith

pub made-permuted : (xs ys : List Node) (n : tree.Node) → IsPermutation xs ys → CombinesGroupsAndGoalsOfNodes ys n → CombinesGroupsAndGoalsOfNodes xs n
made-permuted xs ys n h m = record {
  goals = m.goals ∙ sum_by-IsPermutation (λ n. number_of_goal_nodes (spec_node_of n)) xs ys h;
  count = m.count ∙ sum_by-IsPermutation (λ n. length (group_ids (spec_node_of n))) xs ys h;
  ids = λ id. m.ids id ∙ sum_by-IsPermutation (λ n. occurrences_of_id id (spec_node_of n)) xs ys h;
  sound = λ greatest all. m.sound greatest (All-permutation (λ n. IsTrue (every_node_passes (is_well_formed_in_pattern greatest) (spec_node_of n))) xs ys h all);
}

pub made-alt : (l r : Node) → CombinesGroupsAndGoalsOfNodes (l ∷ r ∷ []) (alt (spec_node_of l) (spec_node_of r))
made-alt l r = record {
  goals = omega arith;
  count = let e = length-append (group_ids (spec_node_of l)) (group_ids (spec_node_of r)) in omega arith;
  ids = λ id. let e = count_by-append (nat_eq id) (group_ids (spec_node_of l)) (group_ids (spec_node_of r)) in omega arith;
  sound = λ greatest all. and_from _ _ (and_from _ _ refl (all 0 l (omega arith))) (all 1 l (omega arith));
}

-- The invariant is kept if the last two nodes become one node with two alternatives.
pub parts-alt : (xs : List Node) (l r n : Node) → spec_node_of n ≡ alt (spec_node_of l) (spec_node_of r) → KeepsSubtreeInvariant ((xs ++ l ∷ []) ++ r ∷ []) (xs ++ n ∷ [])
parts-alt xs l r n is = λ first end greatest a.
    parts-made xs (l ∷ r ∷ []) n (rw is (made-alt l r)) first end greatest (rw (append_assoc xs (l ∷ []) (r ∷ [])) at a)

-- ---- Nodes around subtrees

cat-goals : (xs : List Node) → number_of_goal_nodes (spec_cat_of_children xs) ≡ sum_by (λ n. number_of_goal_nodes (spec_node_of n)) xs
cat-goals [] = refl
cat-goals (x ∷ xs) = omega (arith, cat-goals xs, sum_by-cons (λ n. number_of_goal_nodes (spec_node_of n)) x xs)

cat-count : (xs : List Node) → length (group_ids (spec_cat_of_children xs)) ≡ sum_by (λ n. length (group_ids (spec_node_of n))) xs
cat-count [] = refl
cat-count (x ∷ xs) = length-append (group_ids (spec_node_of x)) (group_ids (spec_cat_of_children xs)) ∙ ap (λ m. length (group_ids (spec_node_of x)) + m) (cat-count xs)
    ∙ sym (sum_by-cons (λ n. length (group_ids (spec_node_of n))) x xs)

cat-ids : (id : ℕ) (xs : List Node) → occurrences_of_id id (spec_cat_of_children xs) ≡ sum_by (λ n. occurrences_of_id id (spec_node_of n)) xs
cat-ids id [] = refl
cat-ids id (x ∷ xs) = count_by-append (nat_eq id) (group_ids (spec_node_of x)) (group_ids (spec_cat_of_children xs)) ∙ ap (λ m. occurrences_of_id id (spec_node_of x) + m) (cat-ids id xs)
    ∙ sym (sum_by-cons (λ n. occurrences_of_id id (spec_node_of n)) x xs)

cat-sound : (greatest : ℕ) (xs : List Node) → All (λ n. IsTrue (every_node_passes (is_well_formed_in_pattern greatest) (spec_node_of n))) xs → every_node_passes (is_well_formed_in_pattern greatest) (spec_cat_of_children xs) ≡ true
cat-sound greatest [] all = refl
cat-sound greatest (x ∷ xs) all =
    and_from _ _ (and_from _ _ refl (all 0 x (omega arith))) (cat-sound greatest xs (λ k d h. all (suc k) d (omega arith)))

pub made-cat : (xs : List Node) → CombinesGroupsAndGoalsOfNodes xs (spec_cat_of_children xs)
made-cat xs = record { goals = cat-goals xs; count = cat-count xs; ids = λ id. cat-ids id xs; sound = λ greatest all. cat-sound greatest xs all }

-- ---- Empty lists and counts

-- If the counts of a quantifier are in order, they are in order in the tree.
pub order-from : (min : ℕ) (max : Option ℕ) (greedy : Bool) → ForSome max (λ m. min ≤ m) → is_min_at_most_max (record { min = min; max = max; greedy = greedy }) ≡ true
order-from min None greedy h = refl
order-from min (Some m) greedy h = le-leb min m (h m refl)
