-- The invariants of subtrees hold of combined nodes and make the tree of the pattern well formed.
use Rattle.std.proofs.Common.{◌≡◌, ℕ, zero, suc, ◌+◌, ◌-◌, ◌<◌, ◌≤◌, Bool, true, false, ◌&&◌, ◌||◌, List, [], ◌∷◌, ◌++◌, length, count_by, sum_by, refl, ap, ◌∙◌, arith, inl, inr, length-append}
use Rattle.std.proofs.Common.{append-nil}
use Rattle.std.specs.Prelude.{if◌then◌else◌, IsTrue, nat_eq, nat_le, ◌==◌}
use Rattle.std.proofs.lemmas.Bool.{cases_lt, cases_eq, lt-ltb, le-ltb, lt-leb, le-leb, leb-true, eq-eqb, ne_eqb, and_parts, and_from, or_from}
use Rattle.std.proofs.lemmas.List.Sums.{sum_by-append}
use Rattle.regex_meaning.specs.NumberListHelpers.{contains, numbers_from}
use Rattle.regex_meaning.specs.Tree.{Node, group_ids, every_node_passes, empty, goal, char, char_set, byte_set, byte_sequence, cat, end_of_cat, alt, bracket, string_set, match_any}
use Rattle.regex_meaning.specs.Tree.{match_any_except_line_terminator, anchor, word_boundary, capture_group, back_ref}
use Rattle.regex_meaning.specs.Tree.{lookaround, loop, loop_1_char_body, Quantifier}
use Rattle.regex_meaning.specs.WellFormedTrees.{number_of_goal_nodes, range_is_ids_of_enclosed_groups, is_min_at_most_max, has_exact_group_range, refers_to_a_group, has_order_in_quantifier}
use Rattle.regex_meaning.specs.WellFormedTrees.{has_one_character_body, has_text_in_sequence, set_sizes_and_characters_fit_instructions, is_well_formed}
use Rattle.regex_meaning.specs.CompilationRelation.{tree_contains_byte_nodes}
use Rattle.regex_meaning.proofs.WellFormedTreesLemmas.{by_clauses}
use Rattle.regex_meaning.proofs.BoolLemmas.{and-left, and-right}
use Rattle.regex_meaning.proofs.ListLemmas.{list_all-members}
use Rattle.regex_meaning.specs.SubtreeInvariants.{can_stand_in_pattern, is_well_formed_in_pattern, occurrences_of_id, one_if_id_within, IsSoundSubtreeWithGroupIds, IsWellFormedGrouplessSubtree}
use Rattle.regex_meaning.specs.TreesWithoutCharLoops.{is_not_char_loop, has_no_char_loops}

-- ---- Tests

-- If a test implies another, it does so for all nodes of a subtree.
module _ (test other : Node → Bool) (weaker : (n : Node) → test n ≡ true → other n ≡ true) where
  pub every-weaker : (n : Node) → every_node_passes test n ≡ true → every_node_passes other n ≡ true
  every-weaker (cat first rest) h =
      and_from _ _ (and_from _ _ (weaker _ (and-left (test (cat first rest)) _ (and-left _ (every_node_passes test rest) h))) (every-weaker first (and-right (test (cat first rest)) _ (and-left _ (every_node_passes test rest) h))))
      (every-weaker rest (and-right _ (every_node_passes test rest) h))
  every-weaker (alt first rest) h =
      and_from _ _ (and_from _ _ (weaker _ (and-left (test (alt first rest)) _ (and-left _ (every_node_passes test rest) h))) (every-weaker first (and-right (test (alt first rest)) _ (and-left _ (every_node_passes test rest) h))))
      (every-weaker rest (and-right _ (every_node_passes test rest) h))
  every-weaker (capture_group id name contents) h = and_from _ _ (weaker _ (and-left _ (every_node_passes test contents) h)) (every-weaker contents (and-right _ (every_node_passes test contents) h))
  every-weaker (lookaround l contents) h = and_from _ _ (weaker _ (and-left _ (every_node_passes test contents) h)) (every-weaker contents (and-right _ (every_node_passes test contents) h))
  every-weaker (loop q s e loopee) h = and_from _ _ (weaker _ (and-left _ (every_node_passes test loopee) h)) (every-weaker loopee (and-right _ (every_node_passes test loopee) h))
  every-weaker (loop_1_char_body q loopee) h = and_from _ _ (weaker _ (and-left _ (every_node_passes test loopee) h)) (every-weaker loopee (and-right _ (every_node_passes test loopee) h))
  every-weaker empty h = weaker _ h
  every-weaker goal h = weaker _ h
  every-weaker (char c) h = weaker _ h
  every-weaker (char_set members) h = weaker _ h
  every-weaker (byte_set members) h = weaker _ h
  every-weaker (byte_sequence bytes) h = weaker _ h
  every-weaker end_of_cat h = weaker _ h
  every-weaker (bracket contents) h = weaker _ h
  every-weaker (string_set strings icase) h = weaker _ h
  every-weaker match_any h = weaker _ h
  every-weaker match_any_except_line_terminator h = weaker _ h
  every-weaker (anchor type multiline) h = weaker _ h
  every-weaker (word_boundary invert unicode_icase) h = weaker _ h
  every-weaker (back_ref group icase) h = weaker _ h

-- A sound node passes these six tests.
pub record Sound (greatest : ℕ) (n : Node) : Type 0 where
  pub names : has_exact_group_range n ≡ true
  pub refers : refers_to_a_group greatest n ≡ true
  pub order : has_order_in_quantifier n ≡ true
  pub body : has_one_character_body n ≡ true
  pub characters : can_stand_in_pattern n ≡ true
  pub fits : set_sizes_and_characters_fit_instructions n ≡ true

six : (a b c d e f : Bool) → (a && b && c && d && e && f) ≡ true
    → (a ≡ true) × (b ≡ true) × (c ≡ true) × (d ≡ true) × (e ≡ true) × (f ≡ true)
six a b c d e f h =
    let to_e = and-left (a && b && c && d && e) f h in
    let to_d = and-left (a && b && c && d) e to_e in
    let to_c = and-left (a && b && c) d to_d in
    let to_b = and-left (a && b) c to_c in
    (and-left a b to_b, and-right a b to_b, and-right (a && b) c to_c, and-right (a && b && c) d to_d, and-right (a && b && c && d) e to_e, and-right (a && b && c && d && e) f h)

pub Sound-from : (greatest : ℕ) (n : Node) → is_well_formed_in_pattern greatest n ≡ true → Sound greatest n
Sound-from greatest n h =
    let p = six _ _ _ _ _ _ h in
    record { names = p.0; refers = p.1; order = p.2; body = p.3; characters = p.4; fits = p.5 }

pub sound-from : (greatest : ℕ) (n : Node) → Sound greatest n → is_well_formed_in_pattern greatest n ≡ true
sound-from greatest n s = and_from _ _ (and_from _ _ (and_from _ _ (and_from _ _ (and_from _ _ s.names s.refers) s.order) s.body) s.characters) s.fits

refers-more : (greatest more : ℕ) (n : Node) → greatest ≤ more → refers_to_a_group greatest n ≡ true → refers_to_a_group more n ≡ true
refers-more greatest more (back_ref group icase) h k =
    let p = and_parts (nat_le 1 group) (nat_le group greatest) k in
    let low : group ≤ greatest = leb-true _ _ p.1 in
    and_from _ _ p.0 (le-leb group more (omega arith))
refers-more greatest more _ h k = refl

sound-more : (greatest more : ℕ) (n : Node) → greatest ≤ more → is_well_formed_in_pattern greatest n ≡ true → is_well_formed_in_pattern more n ≡ true
sound-more greatest more n h k =
    let s = Sound-from greatest n k in
    sound-from more n (record { names = s.names; refers = refers-more greatest more n h s.refers; order = s.order; body = s.body; characters = s.characters; fits = s.fits })

pub every-more : (greatest more : ℕ) (n : Node) → greatest ≤ more → every_node_passes (is_well_formed_in_pattern greatest) n ≡ true → every_node_passes (is_well_formed_in_pattern more) n ≡ true
every-more greatest more n h k = every-weaker (is_well_formed_in_pattern greatest) (is_well_formed_in_pattern more) (λ m. sound-more greatest more m h) n k

-- ---- Ids

pub within-none : (first id : ℕ) → one_if_id_within first first id ≡ 0
within-none first id =
    elim (cases_lt id first) [
      | inl below ↦ rw (lt-leb first id below)
      | inr above ↦ rw (le-leb first id above, le-ltb id first above)
    ]

pub within-join : (first middle end id : ℕ) → first ≤ middle → middle ≤ end
    → one_if_id_within first middle id + one_if_id_within middle end id ≡ one_if_id_within first end id
within-join first middle end id h k =
    elim (cases_lt id first) [
      | inl below ↦ rw (lt-leb first id below, lt-leb middle id (omega arith))
      | inr above ↦ rw (le-leb first id above)
          (elim (cases_lt id middle) [
            | inl before ↦ rw (lt-ltb id middle before, lt-leb middle id before, lt-ltb id end (omega arith))
            | inr behind ↦ rw (le-ltb id middle behind, le-leb middle id behind) (omega arith)
          ])
    ]

within-first : (first end id : ℕ) → first + 1 ≤ end
    → (if nat_eq id first then 1 else 0) + one_if_id_within (first + 1) end id ≡ one_if_id_within first end id
within-first first end id h =
    elim (cases_eq id first) [
      | inl same ↦ rw (same, eq-eqb first first refl, lt-leb (first + 1) first (omega arith), le-leb first first (omega arith), lt-ltb first end (omega arith))
      | inr ne ↦ rw (ne_eqb id first ne)
          (elim (cases_lt id first) [
            | inl below ↦ rw (lt-leb first id below, lt-leb (first + 1) id (omega arith))
            | inr above ↦ rw (le-leb first id above, le-leb (first + 1) id (omega arith)) (omega arith)
          ])
    ]

pub sum_by-cons : {X : Type 0} (f : X → ℕ) (x : X) (xs : List X) → sum_by f (x ∷ xs) ≡ f x + sum_by f xs
sum_by-cons f x xs = let e = sum_by-append f (x ∷ []) xs in omega (arith, e)

count_by-cons : (p : ℕ → Bool) (x : ℕ) (xs : List ℕ) → count_by p (x ∷ xs) ≡ (if p x then 1 else 0) + count_by p xs
count_by-cons p x xs = sum_by-cons (λ y. if p y then 1 else 0) x xs

pub count_by-append : (p : ℕ → Bool) (xs ys : List ℕ) → count_by p (xs ++ ys) ≡ count_by p xs + count_by p ys
count_by-append p xs ys = sum_by-append (λ y. if p y then 1 else 0) xs ys

-- ---- Leaves

pub part-leaf : (first greatest : ℕ) (n : Node) → IsWellFormedGrouplessSubtree greatest n → IsSoundSubtreeWithGroupIds first first greatest n
part-leaf first greatest n l = record {
  goals = l.goals;
  count = rw l.ids (omega arith);
  ids = λ id. rw (l.ids, within-none first id);
  sound = l.sound;
}

-- ---- Joined nodes

-- A joined node has what two nodes have together.
pub record IsJoined (n x y : Node) : Type 0 where
  pub goals : number_of_goal_nodes n ≡ number_of_goal_nodes x + number_of_goal_nodes y
  pub count : length (group_ids n) ≡ length (group_ids x) + length (group_ids y)
  pub ids : (id : ℕ) → occurrences_of_id id n ≡ occurrences_of_id id x + occurrences_of_id id y
  pub sound : (greatest : ℕ) → IsTrue (every_node_passes (is_well_formed_in_pattern greatest) x) → IsTrue (every_node_passes (is_well_formed_in_pattern greatest) y) → IsTrue (every_node_passes (is_well_formed_in_pattern greatest) n)

pub part-joined : (first middle end greatest : ℕ) (n x y : Node) → IsJoined n x y → IsSoundSubtreeWithGroupIds first middle greatest x → IsSoundSubtreeWithGroupIds middle end greatest y → IsSoundSubtreeWithGroupIds first end greatest n
part-joined first middle end greatest n x y j p q = record {
  goals = j.goals ∙ omega (arith, p.goals, q.goals);
  count = rw j.count (omega (arith, p.count, q.count));
  ids = λ id.
      let a = p.ids id in
      let b = q.ids id in
      j.ids id ∙ omega (arith, a, b) ∙ within-join first middle end id (omega (arith, p.count)) (omega (arith, q.count));
  sound = j.sound greatest p.sound q.sound;
}

joined-by : (n x y : Node) → number_of_goal_nodes n ≡ number_of_goal_nodes x + number_of_goal_nodes y → group_ids n ≡ group_ids x ++ group_ids y
    → ((greatest : ℕ) → IsTrue (every_node_passes (is_well_formed_in_pattern greatest) x) → IsTrue (every_node_passes (is_well_formed_in_pattern greatest) y) → IsTrue (every_node_passes (is_well_formed_in_pattern greatest) n))
    → IsJoined n x y
joined-by n x y goals ids sound = record {
  goals = goals;
  count = rw ids (length-append (group_ids x) (group_ids y));
  ids = λ id. rw ids (count_by-append (nat_eq id) (group_ids x) (group_ids y));
  sound = sound;
}

pub joined-cat : (x y : Node) → IsJoined (cat x y) x y
joined-cat x y = joined-by (cat x y) x y (omega arith) refl (λ greatest h k. and_from _ _ (and_from _ _ refl h) k)

pub joined-alt : (x y : Node) → IsJoined (alt x y) x y
joined-alt x y = joined-by (alt x y) x y (omega arith) refl (λ greatest h k. and_from _ _ (and_from _ _ refl h) k)

-- ---- Nodes around a subtree

pub part-group : (first end greatest : ℕ) (name : List ℕ) (n : Node) → IsSoundSubtreeWithGroupIds (first + 1) end greatest n → IsSoundSubtreeWithGroupIds first end greatest (capture_group first name n)
part-group first end greatest name n p = record {
  goals = omega (arith, p.goals);
  count = let g = p.count in omega arith;
  ids = λ id. count_by-cons (nat_eq id) first (group_ids n) ∙ ap (λ m. (if nat_eq id first then 1 else 0) + m) (p.ids id) ∙ within-first first end id (omega (arith, p.count));
  sound = and_from _ _ refl p.sound;
}

-- ---- The groups inside

pub contains-numbers_from : (b first count : ℕ) → first ≤ b → b < first + count → contains (numbers_from first count) b ≡ true
contains-numbers_from b first zero h k = absurd (omega arith)
contains-numbers_from b first (suc count) h k =
    elim (cases_eq b first) [
      | inl e ↦ rw (eq-eqb b first e)
      | inr ne ↦ rw (ne_eqb b first ne) (contains-numbers_from b (first + 1) count (omega arith) (omega arith))
    ]

counted_more : (t : Bool) (n : ℕ) (r : Bool) → 0 < (if t then 1 else 0) + n → (0 < n → r ≡ true) → (t || r) ≡ true
counted_more true n r h k = refl
counted_more false n r h k = k (omega arith)

pub contains-counted : (xs : List ℕ) (id : ℕ) → 0 < count_by (nat_eq id) xs → contains xs id ≡ true
contains-counted [] id h = absurd (omega arith)
contains-counted (x ∷ xs) id h = counted_more (nat_eq id x) (count_by (nat_eq id) xs) (contains xs id) (rw (count_by-cons (nat_eq id) x xs) at h) (λ k. contains-counted xs id k)

contained_more : (t : Bool) (n : ℕ) (r : Bool) → (t || r) ≡ true → (r ≡ true → 0 < n) → 0 < (if t then 1 else 0) + n
contained_more true n r h k = omega arith
contained_more false n r h k = let some : 0 < n = k h in omega arith

counted-contained : (xs : List ℕ) (id : ℕ) → contains xs id ≡ true → 0 < count_by (nat_eq id) xs
counted-contained [] id h = grind arith
counted-contained (x ∷ xs) id h = rw (count_by-cons (nat_eq id) x xs) (contained_more (nat_eq id x) (count_by (nat_eq id) xs) (contains xs id) h (λ k. counted-contained xs id k))

numbers-within : (x first count : ℕ) → contains (numbers_from first count) x ≡ true → (first ≤ x) × (x < first + count)
numbers-within x first zero h = grind arith
numbers-within x first (suc count) h =
    elim (cases_eq x first) [
      | inl same ↦ (omega arith, omega arith)
      | inr ne ↦ let r = numbers-within x (first + 1) count (rw (ne_eqb x first ne) at h) in (omega arith, omega arith)
    ]

pub once-inside : (first end id : ℕ) → first ≤ id → id < end → one_if_id_within first end id ≡ 1
once-inside first end id h k = rw (le-leb first id h, lt-ltb id end k)

inside-once : (first end id : ℕ) → 0 < one_if_id_within first end id → (first ≤ id) × (id < end)
inside-once first end id h =
    elim (cases_lt id first) [
      | inl below ↦ absurd (let k : 0 < 0 = rw (lt-leb first id below) at h in omega arith)
      | inr above ↦
          elim (cases_lt id end) [
            | inl before ↦ (above, before)
            | inr behind ↦ absurd (let k : 0 < 0 = rw (le-leb first id above, le-ltb id end behind) at h in omega arith)
          ]
    ]

part-range_is_ids_of_enclosed_groups : (first end greatest : ℕ) (n : Node) → IsSoundSubtreeWithGroupIds first end greatest n → range_is_ids_of_enclosed_groups first end n ≡ true
part-range_is_ids_of_enclosed_groups first end greatest n p =
    let length_is : first + (end - first) ≡ end = omega (arith, p.count) in
    and_from _ _ (and_from _ _ (le-leb first end (omega (arith, p.count)))
    (list_all-members (contains (numbers_from first (end - first))) (group_ids n) (λ id k.
    let c : 0 < one_if_id_within first end id = rw (← p.ids id) (counted-contained (group_ids n) id k) in
    let r = inside-once first end id c in
    contains-numbers_from id first (end - first) r.0 (omega arith))))
    (list_all-members (contains (group_ids n)) (numbers_from first (end - first)) (λ id k.
    let r = numbers-within id first (end - first) k in
    let o = once-inside first end id r.0 (omega arith) in
    contains-counted (group_ids n) id (rw (p.ids id, o) (omega arith))))

pub part-lookaround : (first end greatest : ℕ) (negate backwards : Bool) (n : Node) → IsSoundSubtreeWithGroupIds first end greatest n
    → IsSoundSubtreeWithGroupIds first end greatest (lookaround (record { negate = negate; backwards = backwards; start_group = first; end_group = end }) n)
part-lookaround first end greatest negate backwards n p = record {
  goals = omega (arith, p.goals);
  count = p.count;
  ids = p.ids;
  sound = and_from _ _ (sound-from greatest (lookaround (record { negate = negate; backwards = backwards; start_group = first; end_group = end }) n) (record { names = part-range_is_ids_of_enclosed_groups first end greatest n p; refers = refl; order = refl; body = refl; characters = refl; fits = refl })) p.sound;
}

pub part-loop : (first end greatest : ℕ) (q : Quantifier) (n : Node) → is_min_at_most_max q ≡ true → IsSoundSubtreeWithGroupIds first end greatest n
    → IsSoundSubtreeWithGroupIds first end greatest (loop q first end n)
part-loop first end greatest q n order p = record {
  goals = omega (arith, p.goals);
  count = p.count;
  ids = p.ids;
  sound = and_from _ _ (sound-from greatest (loop q first end n) (record { names = part-range_is_ids_of_enclosed_groups first end greatest n p; refers = refl; order = order; body = refl; characters = refl; fits = refl })) p.sound;
}

-- ---- Characters

text-from : (n : Node) → can_stand_in_pattern n ≡ true → has_text_in_sequence n ≡ true
text-from (byte_sequence bytes) h = grind arith
text-from _ h = refl

reads-none : (n : Node) → every_node_passes can_stand_in_pattern n ≡ true → tree_contains_byte_nodes n ≡ false
reads-none (byte_set members) h = grind arith
reads-none (byte_sequence bytes) h = grind arith
reads-none (cat first rest) h = or_from _ _ (reads-none first (and-left _ (every_node_passes can_stand_in_pattern rest) h)) (reads-none rest (and-right (every_node_passes can_stand_in_pattern first) _ h))
reads-none (alt first rest) h = or_from _ _ (reads-none first (and-left _ (every_node_passes can_stand_in_pattern rest) h)) (reads-none rest (and-right (every_node_passes can_stand_in_pattern first) _ h))
reads-none (capture_group id name contents) h = reads-none contents h
reads-none (lookaround l contents) h = reads-none contents h
reads-none (loop q s e loopee) h = reads-none loopee h
reads-none (loop_1_char_body q loopee) h = grind arith
reads-none _ h = refl

-- ---- The whole pattern

whole-goals : (n : Node) → number_of_goal_nodes n ≡ 0 → (number_of_goal_nodes (cat n (cat goal end_of_cat)) == 1) ≡ true
whole-goals n h = rw h

whole-every : (greatest : ℕ) (n : Node) (test : Node → Bool) → ((m : Node) → is_well_formed_in_pattern greatest m ≡ true → test m ≡ true)
    → every_node_passes (is_well_formed_in_pattern greatest) n ≡ true → every_node_passes test (cat n (cat goal end_of_cat)) ≡ true
whole-every greatest n test weaker h =
    every-weaker (is_well_formed_in_pattern greatest) test weaker (cat n (cat goal end_of_cat)) (and_from _ _ (and_from _ _ refl h) refl)

pub whole-reads_none : (greatest : ℕ) (n : Node) → every_node_passes (is_well_formed_in_pattern greatest) n ≡ true → tree_contains_byte_nodes (cat n (cat goal end_of_cat)) ≡ false
whole-reads_none greatest n h = reads-none (cat n (cat goal end_of_cat)) (whole-every greatest n can_stand_in_pattern (λ m k. (Sound-from greatest m k).characters) h)

plain-node : (n : Node) → can_stand_in_pattern n ≡ true → is_not_char_loop n ≡ true
plain-node (loop_1_char_body q loopee) h = h
plain-node _ h = refl

pub whole-plain : (greatest : ℕ) (n : Node) → every_node_passes (is_well_formed_in_pattern greatest) n ≡ true → IsTrue (has_no_char_loops (cat n (cat goal end_of_cat)))
whole-plain greatest n h = whole-every greatest n is_not_char_loop (λ m k. plain-node m (Sound-from greatest m k).characters) h

pub whole : (groups greatest : ℕ) (n : Node) → greatest ≤ groups → IsSoundSubtreeWithGroupIds 0 groups greatest n → IsTrue (is_well_formed (cat n (cat goal end_of_cat)))
whole groups greatest n within p =
    let ids_are : group_ids (cat n (cat goal end_of_cat)) ≡ group_ids n = append-nil (group_ids n) in
    let count_is : length (group_ids n) ≡ groups = omega (arith, p.count) in
    let root_count : length (group_ids (cat n (cat goal end_of_cat))) ≡ groups = ap length ids_are ∙ count_is in
    by_clauses (cat n (cat goal end_of_cat)) (record {
      goal_last = and_from _ _ (whole-goals n p.goals) refl;
      ids = rw ids_are (list_all-members _ (numbers_from 0 (length (group_ids n))) (λ id k.
          let r = numbers-within id 0 (length (group_ids n)) k in
          rw (p.ids id, once-inside 0 groups id (omega arith) (omega arith))));
      enclosed = whole-every greatest n has_exact_group_range (λ m k. (Sound-from greatest m k).names) p.sound;
      references = whole-every greatest n (refers_to_a_group (length (group_ids (cat n (cat goal end_of_cat)))))
          (λ m k. refers-more greatest (length (group_ids (cat n (cat goal end_of_cat)))) m (omega (arith, root_count)) (Sound-from greatest m k).refers) p.sound;
      quantifiers = whole-every greatest n has_order_in_quantifier (λ m k. (Sound-from greatest m k).order) p.sound;
      bodies = whole-every greatest n has_one_character_body (λ m k. (Sound-from greatest m k).body) p.sound;
      sequences = whole-every greatest n has_text_in_sequence (λ m k. text-from m (Sound-from greatest m k).characters) p.sound;
      sets = whole-every greatest n set_sizes_and_characters_fit_instructions (λ m k. (Sound-from greatest m k).fits) p.sound;
    })
