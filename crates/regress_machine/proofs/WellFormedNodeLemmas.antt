-- Each node of a well-formed tree has the properties that the proof of its code requires.
use Rattle.std.proofs.Common.{◌≡◌, ℕ, zero, suc, ◌+◌, ◌-◌, ◌<◌, ◌≤◌, List, [], ◌∷◌, ◌++◌, length, Bool, true, false, cond, refl, ap, ◌∙◌, sym, subst, arith, nat_eq, nat_lt, nat_le, ltb→lt, nltb→le}
use Rattle.std.proofs.Common.{eqb-true, eq-eqb}
use Rattle.std.proofs.lemmas.Bool.{eqb-false, le-ltb, or_left, or_right, leb-true}
use Rattle.std.proofs.lemmas.List.Sums.{sum_by-cons, count_by-le-length}
use Rattle.std.proofs.lemmas.List.Folds.{list_any-append}
use Rattle.std.specs.Prelude.{count_by, ◌&&◌, ◌||◌, ◌==◌, if◌then◌else◌, IsTrue}
use Rattle.std.specs.List.{list_all}
use Rattle.regex_meaning.specs.NumberListHelpers.{contains, numbers_from}
use Rattle.regex_meaning.specs.Tree.{Node, char, char_set, byte_set, byte_sequence, cat, alt, bracket, match_any, match_any_except_line_terminator, capture_group, back_ref, lookaround, loop}
use Rattle.regex_meaning.specs.Tree.{loop_1_char_body, group_ids, every_node_passes}
use Rattle.regex_meaning.specs.Text.{Text}
use Rattle.regex_meaning.specs.WellFormedTrees.{IsWellFormed, range_is_ids_of_enclosed_groups, has_exact_group_range, refers_to_a_group, is_one_character, has_one_character_body}
use Rattle.regex_meaning.specs.WellFormedTrees.{has_text_in_sequence, set_sizes_and_characters_fit_instructions}
use Rattle.regex_meaning.proofs.WellFormedTreesLemmas.{clauses}
use Rattle.regress_machine.specs.TextsForBytePrograms.{HasUtf8CharactersAndOffsets, tree_contains_byte_nodes}
use Rattle.regress_machine.proofs.LoopOutcomes.{AreBelow}
use Rattle.regex_meaning.proofs.BoolLemmas.{or-false-left, or-false-right, and-left, and-right}

-- These are the properties of a node that the proof of its code requires, with `n` groups.
abbrev pub Ready : Text → (n : ℕ) → Node → Type 0
Ready text n (byte_set members) = HasUtf8CharactersAndOffsets text × (set_sizes_and_characters_fit_instructions (byte_set members) ≡ true)
Ready text n (byte_sequence bytes) = HasUtf8CharactersAndOffsets text × (has_text_in_sequence (byte_sequence bytes) ≡ true)
Ready text n (cat first rest) = Ready text n first × Ready text n rest
Ready text n (alt left right) = Ready text n left × Ready text n right
Ready text n (capture_group id name contents) = (id < n) × (contains (group_ids contents) id ≡ false) × Ready text n contents
Ready text n (back_ref group icase) = group - 1 < n
Ready text n (lookaround l contents) = Ready text n contents
Ready text n (loop q first end loopee) = AreBelow first (end - first) n × Ready text n loopee
Ready text n (loop_1_char_body q loopee) =
    (is_one_character loopee ≡ true) × (has_text_in_sequence loopee ≡ true) × (set_sizes_and_characters_fit_instructions loopee ≡ true)
    × (tree_contains_byte_nodes loopee ≡ true → HasUtf8CharactersAndOffsets text) × Ready text n loopee
Ready text n _ = Unit {0}

-- ---- Ids

abbrev pub AllBelow : ℕ → List ℕ → Type 0
AllBelow n ids = (id : ℕ) → contains ids id ≡ true → id < n

abbrev pub Distinct : List ℕ → Type 0
Distinct [] = Unit {0}
Distinct (x ∷ xs) = (contains xs x ≡ false) × Distinct xs

pub contains-left : (xs ys : List ℕ) (i : ℕ) → contains xs i ≡ true → contains (xs ++ ys) i ≡ true
contains-left xs ys i h = list_any-append (nat_eq i) xs ys ∙ or_left (contains xs i) (contains ys i) h

contains-right : (xs ys : List ℕ) (i : ℕ) → contains ys i ≡ true → contains (xs ++ ys) i ≡ true
contains-right xs ys i h = list_any-append (nat_eq i) xs ys ∙ or_right (contains xs i) (contains ys i) h

distinct-left : (xs ys : List ℕ) → Distinct (xs ++ ys) → Distinct xs
distinct-left [] ys d = tt
distinct-left (x ∷ xs) ys d =
    (or-false-left (contains xs x) (contains ys x) (sym (list_any-append (nat_eq x) xs ys) ∙ d.0), distinct-left xs ys d.1)

distinct-right : (xs ys : List ℕ) → Distinct (xs ++ ys) → Distinct ys
distinct-right [] ys d = d
distinct-right (x ∷ xs) ys d = distinct-right xs ys d.1

-- ---- Each id once

abbrev count : ℕ → List ℕ → ℕ
count id ids = count_by (nat_eq id) ids

abbrev pub one_if : Bool → ℕ
one_if b = if b then 1 else 0

count-one : (p : ℕ → Bool) (x : ℕ) (xs : List ℕ) → count_by p (x ∷ xs) ≡ one_if (p x) + count_by p xs
count-one p x xs = sum_by-cons (λ y. cond (p y) 1 0) x xs

below-next : (n x : ℕ) → one_if (nat_lt x (n + 1)) ≡ one_if (nat_lt x n) + one_if (nat_eq n x)
below-next n x = by (nat_lt x (n + 1)) (nat_lt x n) (nat_eq n x) refl refl refl
  where
    by : (a b c : Bool) → nat_lt x (n + 1) ≡ a → nat_lt x n ≡ b → nat_eq n x ≡ c → one_if a ≡ one_if b + one_if c
    by true true true p q r = let less : x < n = ltb→lt x n (rw q tt) in let same = eqb-true n x r in absurd (omega arith)
    by true true false p q r = refl
    by true false true p q r = refl
    by true false false p q r =
        let less : x < n + 1 = ltb→lt x (n + 1) (rw p tt) in let le : n ≤ x = nltb→le x n (rw q tt) in let apart = eqb-false n x r in absurd (omega arith)
    by false true c p q r = let less : x < n = ltb→lt x n (rw q tt) in let le : n + 1 ≤ x = nltb→le x (n + 1) (rw p tt) in absurd (omega arith)
    by false false true p q r = let le : n + 1 ≤ x = nltb→le x (n + 1) (rw p tt) in let same = eqb-true n x r in absurd (omega arith)
    by false false false p q r = refl

count-below_next : (n : ℕ) (ids : List ℕ) → count_by (λ x. nat_lt x (n + 1)) ids ≡ count_by (λ x. nat_lt x n) ids + count n ids
count-below_next n [] = refl
count-below_next n (x ∷ xs) =
    let a = count-one (λ x. nat_lt x (n + 1)) x xs in
    let b = count-one (λ x. nat_lt x n) x xs in
    let c = count-one (nat_eq n) x xs in
    omega (arith, a, b, c, below-next n x, count-below_next n xs)

-- If each number below `n` occurs once, `n` elements are below `n`.
count-below : (n : ℕ) (ids : List ℕ) → ((id : ℕ) → id < n → count id ids ≡ 1) → count_by (λ x. nat_lt x n) ids ≡ n
count-below zero ids h = none ids
  where
    none : (ids : List ℕ) → count_by (λ x. nat_lt x 0) ids ≡ 0
    none [] = refl
    none (x ∷ xs) = let a = count-one (λ x. nat_lt x 0) x xs in let le : nat_lt x 0 ≡ false = le-ltb x 0 (omega arith) in omega (arith, a, none xs, ap one_if le)
count-below (suc n) ids h =
    let a = count-below n ids (λ id less. h id (omega arith)) in
    let b = h n (omega arith) in
    let c = count-below_next n ids in
    let same : count_by (λ x. nat_lt x (suc n)) ids ≡ count_by (λ x. nat_lt x (n + 1)) ids = let e : suc n ≡ n + 1 = omega arith in ap (λ m. count_by (λ x. nat_lt x m) ids) e in
    omega (arith, same, a, b, c)

count-le : (p : ℕ → Bool) (ids : List ℕ) → count_by p ids ≤ length ids
count-le p ids = count_by-le-length p ids

-- If as many elements pass as the list has, each one passes.
count-all : (p : ℕ → Bool) (ids : List ℕ) → count_by p ids ≡ length ids → (id : ℕ) → contains ids id ≡ true → p id ≡ true
count-all p [] e id h = cc
count-all p (x ∷ xs) e id h = by (p x) (nat_eq id x) refl refl (count-one p x xs) (λ f inside. count-all p xs f id inside)
  where
    by : (a b : Bool) → p x ≡ a → nat_eq id x ≡ b → count_by p (x ∷ xs) ≡ one_if a + count_by p xs
        → (count_by p xs ≡ length xs → contains xs id ≡ true → p id ≡ true) → p id ≡ true
    by false b q r c more = absurd (omega (arith, e, c, count-le p xs))
    by true true q r c more = rw (eqb-true id x r) q
    by true false q r c more =
        let inside : contains xs id ≡ true = rw r at h in
        more (omega (arith, e, c)) inside

absent : (x : ℕ) (ys : List ℕ) → count x ys ≡ 0 → contains ys x ≡ false
absent x [] e = refl
absent x (y ∷ ys) e = by (nat_eq x y) refl (count-one (nat_eq x) y ys) (λ f. absent x ys f)
  where
    by : (b : Bool) → nat_eq x y ≡ b → count x (y ∷ ys) ≡ one_if b + count x ys → (count x ys ≡ 0 → contains ys x ≡ false) → (nat_eq x y || contains ys x) ≡ false
    by true q c more = absurd (omega (arith, e, c))
    by false q c more = rw q (more (omega (arith, e, c)))

distinct-by : (ids : List ℕ) → ((id : ℕ) → count id ids ≤ 1) → Distinct ids
distinct-by [] h = tt
distinct-by (x ∷ xs) h =
    let c = count-one (nat_eq x) x xs in
    let same : one_if (nat_eq x x) ≡ 1 = ap one_if (eq-eqb x x refl) in
    let none : count x xs ≡ 0 = let few = h x in omega arith in
    (absent x xs none, distinct-by xs (λ id. let few = h id in let d = count-one (nat_eq id) x xs in omega arith))

-- A test of successive numbers holds of each of them.
all_numbers : (p : ℕ → Bool) (first n : ℕ) → list_all p (numbers_from first n) ≡ true → (i : ℕ) → first ≤ i → i < first + n → p i ≡ true
all_numbers p first zero h i le less = absurd (omega arith)
all_numbers p first (suc n) h i le less = by (nat_eq i first) refl (λ a b. all_numbers p (first + 1) n (and-right (p first) _ h) i a b)
  where
    by : (b : Bool) → nat_eq i first ≡ b → (first + 1 ≤ i → i < first + 1 + n → p i ≡ true) → p i ≡ true
    by true q more = rw (eqb-true i first q) (and-left (p first) _ h)
    by false q more = let apart = eqb-false i first q in more (omega arith) (omega arith)

pub ids-below : (ids : List ℕ) → list_all (λ id. count_by (nat_eq id) ids == 1) (numbers_from 0 (length ids)) ≡ true → AllBelow (length ids) ids
ids-below ids h id inside =
    let once : (id : ℕ) → id < length ids → count id ids ≡ 1 = λ id less. eqb-true (count id ids) 1 (all_numbers (λ id. count_by (nat_eq id) ids == 1) 0 (length ids) h id (omega arith) (omega arith)) in
    let passes = count-all (λ x. nat_lt x (length ids)) ids (count-below (length ids) ids once) id inside in
    ltb→lt id (length ids) (rw passes tt)

pub ids-distinct : (ids : List ℕ) → list_all (λ id. count_by (nat_eq id) ids == 1) (numbers_from 0 (length ids)) ≡ true → Distinct ids
ids-distinct ids h = distinct-by ids few
  where
    few : (id : ℕ) → count id ids ≤ 1
    few id = by (nat_lt id (length ids)) refl
      where
        outside : (ys : List ℕ) → contains ys id ≡ false → count id ys ≡ 0
        outside [] e = refl
        outside (y ∷ ys) e =
            let apart = or-false-left (nat_eq id y) (contains ys id) e in
            let c = count-one (nat_eq id) y ys in
            omega (arith, c, ap one_if apart, outside ys (or-false-right (nat_eq id y) (contains ys id) e))

        by_inside : (c : Bool) → contains ids id ≡ c → nat_lt id (length ids) ≡ false → count id ids ≤ 1
        by_inside true q r = let less = ids-below ids h id q in let le : length ids ≤ id = nltb→le id (length ids) (rw r tt) in absurd (omega arith)
        by_inside false q r = let e = outside ids q in omega arith

        by : (b : Bool) → nat_lt id (length ids) ≡ b → count id ids ≤ 1
        by true q =
            let less : id < length ids = ltb→lt id (length ids) (rw q tt) in
            let e = eqb-true (count id ids) 1 (all_numbers (λ id. count_by (nat_eq id) ids == 1) 0 (length ids) h id (omega arith) (omega arith)) in omega arith
        by false q = by_inside (contains ids id) refl q

-- ---- Nodes

-- A node inside a well-formed tree has these properties for a text that the tree can search.
pub record Sound (text : Text) (n : ℕ) (node : Node) : Type 0 where
  pub names : every_node_passes has_exact_group_range node ≡ true
  pub refers : every_node_passes (refers_to_a_group n) node ≡ true
  pub bodies : every_node_passes has_one_character_body node ≡ true
  pub sequences : every_node_passes has_text_in_sequence node ≡ true
  pub sets : every_node_passes set_sizes_and_characters_fit_instructions node ≡ true
  pub bytes : tree_contains_byte_nodes node ≡ true → HasUtf8CharactersAndOffsets text
  pub below : AllBelow n (group_ids node)
  pub distinct : Distinct (group_ids node)

-- A test holds of all nodes of this one exactly if it holds of itself and of two other nodes.
abbrev Holds : (node a b : Node) → Type 0
Holds node a b = (test : Node → Bool) → every_node_passes test node ≡ (test node && every_node_passes test a && every_node_passes test b)

-- A test that all nodes pass is passed by all nodes of the first part.
of_left : (test : Node → Bool) (node a b : Node) → Holds node a b → every_node_passes test node ≡ true → every_node_passes test a ≡ true
of_left test node a b holds h = and-right (test node) (every_node_passes test a) (and-left (test node && every_node_passes test a) (every_node_passes test b) (sym (holds test) ∙ h))

of_right : (test : Node → Bool) (node a b : Node) → Holds node a b → every_node_passes test node ≡ true → every_node_passes test b ≡ true
of_right test node a b holds h = and-right (test node && every_node_passes test a) (every_node_passes test b) (sym (holds test) ∙ h)

-- If a node is sound, its part is sound.
sound_part : (text : Text) (n : ℕ) (node a : Node) → ((test : Node → Bool) → every_node_passes test node ≡ true → every_node_passes test a ≡ true)
    → (tree_contains_byte_nodes a ≡ true → tree_contains_byte_nodes node ≡ true) → AllBelow n (group_ids a) → Distinct (group_ids a) → Sound text n node → Sound text n a
sound_part text n node a holds reads below distinct s = record {
  names = holds has_exact_group_range s.names;
  refers = holds (refers_to_a_group n) s.refers;
  bodies = holds has_one_character_body s.bodies;
  sequences = holds has_text_in_sequence s.sequences;
  sets = holds set_sizes_and_characters_fit_instructions s.sets;
  bytes = λ h. s.bytes (reads h);
  below = below;
  distinct = distinct;
}

-- If a node of two parts is sound, each part is sound.
module _ (text : Text) (n : ℕ) (node a b : Node) (holds : Holds node a b) (ids : group_ids node ≡ group_ids a ++ group_ids b)
    (reads : tree_contains_byte_nodes node ≡ (tree_contains_byte_nodes a || tree_contains_byte_nodes b)) (s : Sound text n node) where
  sound_left : Sound text n a
  sound_left =
      sound_part text n node a (λ test. of_left test node a b holds) (λ h. reads ∙ or_left (tree_contains_byte_nodes a) (tree_contains_byte_nodes b) h)
      (λ id h. s.below id (ap (λ (l : List ℕ). contains l id) ids ∙ contains-left (group_ids a) (group_ids b) id h))
      (distinct-left (group_ids a) (group_ids b) (subst Distinct ids s.distinct)) s

  sound_right : Sound text n b
  sound_right =
      sound_part text n node b (λ test. of_right test node a b holds) (λ h. reads ∙ or_right (tree_contains_byte_nodes a) (tree_contains_byte_nodes b) h)
      (λ id h. s.below id (ap (λ (l : List ℕ). contains l id) ids ∙ contains-right (group_ids a) (group_ids b) id h))
      (distinct-right (group_ids a) (group_ids b) (subst Distinct ids s.distinct)) s

-- If a node of one part is sound, the part is sound.
sound_inside : (text : Text) (n : ℕ) (node a : Node) → ((test : Node → Bool) → every_node_passes test node ≡ (test node && every_node_passes test a))
    → tree_contains_byte_nodes node ≡ tree_contains_byte_nodes a → AllBelow n (group_ids a) → Distinct (group_ids a) → Sound text n node → Sound text n a
sound_inside text n node a holds reads below distinct s =
    sound_part text n node a (λ test h. and-right (test node) (every_node_passes test a) (sym (holds test) ∙ h)) (λ h. reads ∙ h) below distinct s

below_named : (first end n : ℕ) (contents : Node) → range_is_ids_of_enclosed_groups first end contents ≡ true → AllBelow n (group_ids contents) → AreBelow first (end - first) n
below_named first end n contents h below i le less =
    below i (all_numbers (contains (group_ids contents)) first (end - first) (and-right _ _ h) i le less)

back_ref-below : (n group : ℕ) → (nat_le 1 group && nat_le group n) ≡ true → group - 1 < n
back_ref-below n group h =
    let a : 1 ≤ group = leb-true 1 group (and-left (nat_le 1 group) (nat_le group n) h) in
    let b : group ≤ n = leb-true group n (and-right (nat_le 1 group) (nat_le group n) h) in
    omega arith

-- A test that all nodes pass is passed by a node of one character.
of_one : (test : Node → Bool) (node : Node) → is_one_character node ≡ true → every_node_passes test node ≡ true → test node ≡ true
of_one test (char c) one h = h
of_one test (char_set members) one h = h
of_one test (byte_set members) one h = h
of_one test (byte_sequence bytes) one h = h
of_one test (bracket contents) one h = h
of_one test match_any one h = h
of_one test match_any_except_line_terminator one h = h
of_one test _ one h = cc

module _ (text : Text) (n : ℕ) where
  pub ready : (node : Node) → Sound text n node → Ready text n node
  ready (byte_set members) s = (s.bytes refl, s.sets)
  ready (byte_sequence bytes) s = (s.bytes refl, s.sequences)
  ready (cat first rest) s = (
    ready first (sound_left text n (cat first rest) first rest (λ test. refl) refl refl s),
    ready rest (sound_right text n (cat first rest) first rest (λ test. refl) refl refl s),
  )
  ready (alt left right) s = (
    ready left (sound_left text n (alt left right) left right (λ test. refl) refl refl s),
    ready right (sound_right text n (alt left right) left right (λ test. refl) refl refl s),
  )
  ready (capture_group id name contents) s = (
    s.below id (or_left (nat_eq id id) (contains (group_ids contents) id) (eq-eqb id id refl)),
    s.distinct.0,
    ready contents (sound_inside text n (capture_group id name contents) contents (λ test. refl) refl
        (λ i h. s.below i (or_right (nat_eq i id) (contains (group_ids contents) i) h)) s.distinct.1 s),
  )
  ready (back_ref group icase) s = back_ref-below n group s.refers
  ready (lookaround l contents) s = ready contents (sound_inside text n (lookaround l contents) contents (λ test. refl) refl s.below s.distinct s)
  ready (loop q first end loopee) s = (
    below_named first end n loopee (and-left (range_is_ids_of_enclosed_groups first end loopee) (every_node_passes has_exact_group_range loopee) s.names) s.below,
    ready loopee (sound_inside text n (loop q first end loopee) loopee (λ test. refl) refl s.below s.distinct s),
  )
  ready (loop_1_char_body q loopee) s =
      let one = and-left (is_one_character loopee) (every_node_passes has_one_character_body loopee) s.bodies in
      let inside = sound_inside text n (loop_1_char_body q loopee) loopee (λ test. refl) refl s.below s.distinct s in (
        one,
        of_one has_text_in_sequence loopee one inside.sequences,
        of_one set_sizes_and_characters_fit_instructions loopee one inside.sets,
        s.bytes,
        ready loopee inside,
      )
  ready _ s = tt

pub root_ready : (text : Text) (root : Node) → IsWellFormed root → (IsTrue (tree_contains_byte_nodes root) → HasUtf8CharactersAndOffsets text) → Ready text (length (group_ids root)) root
root_ready text root well_formed bytes =
    let w = clauses root well_formed in
    let ids = group_ids root in
    let once = w.ids in
    ready text (length ids) root (record {
      names = w.enclosed;
      refers = w.references;
      bodies = w.bodies;
      sequences = w.sequences;
      sets = w.sets;
      bytes = bytes;
      below = ids-below ids once;
      distinct = ids-distinct ids once;
    })
