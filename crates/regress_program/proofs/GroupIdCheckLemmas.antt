-- The check of a tree accepts exactly the trees that are well formed, with distinct group ids.
use Rattle.std.proofs.Common.{◌≡◌, ℕ, zero, suc, ◌+◌, ◌-◌, ◌/◌, ◌^◌, ◌<◌, ◌≤◌, min, max, Bool, true, false, not, ◌&&◌, ◌||◌, List, [], ◌∷◌, ◌++◌, length, replicate, refl, sym, ap, ap₂, ◌∙◌, arith}
use Rattle.std.proofs.Common.{⊎_elim, length-append, length-set}
use Rattle.std.specs.Prelude.{if◌then◌else◌, nat_eq, nat_lt, nat_le, ◌==◌, count_by}
use Rattle.std.specs.List.{list_all}
use Rattle.std.proofs.lemmas.Bool.{cases_eq, cases_lt, ne_eqb, eq-eqb, eqb-true, lt-ltb, le-ltb, le-leb, leb-true, and_from, or_right, or_left, or_cases, or_from, not-true, false_from_ne_true}
use Rattle.std.proofs.lemmas.Bool.{false≢true}
use Rattle.std.proofs.lemmas.List.{length-replicate}
use Rattle.std.proofs.lemmas.List.Sums.{sum_by-cons}
use Rattle.regex_meaning.specs.NumberListHelpers.{contains, numbers_from}
use Rattle.regex_meaning.specs.Tree.{Node, cat, alt, capture_group, lookaround, loop, loop_1_char_body, group_ids, every_node_passes}
use Rattle.regex_meaning.specs.WellFormedTrees.{range_is_ids_of_enclosed_groups, each_id_stands_once, IsWellFormed, only_goal_node_is_last, has_exact_group_range, refers_to_a_group}
use Rattle.regex_meaning.specs.WellFormedTrees.{has_order_in_quantifier, has_one_character_body, has_text_in_sequence, set_sizes_and_characters_fit_instructions}
use Rattle.regex_meaning.proofs.WellFormedTreesLemmas.{clauses, by_clauses}
use Rattle.regex_meaning.proofs.StartPredicateLemmas.{all-contains}
use Rattle.regex_pattern_front.proofs.BitmapLemmas.{has_bit, with_bit, no-bits, bit-set}
use Rattle.regex_pattern_front.proofs.ByteSetMemberLemmas.{contains-numbers_from}
use Rattle.regress_program.specs.LeafNodesAndOptimizableLoops.{is_leaf}
use Rattle.regress_program.specs.GroupIdSpans.{group_id_span_as_numbers}
use Rattle.regress_program.specs.declared.emit.group_id_and_range_check.GroupIdCountAndBounds as spans
use Rattle.regress_program.specs.GroupIdCheck.{is_outside_bitmap, is_group_id_seen, are_distinct_unseen, least_group_id, end_of_group_ids, GroupIdCountAndSpanNumbers, count_and_span_of_group_ids}
use Rattle.regress_program.specs.GroupIdCheck.{joined, has_exact_group_ids, is_well_formed_node}
use Rattle.regex_meaning.proofs.BoolLemmas.{or-false-left, or-false-right, same-truth, and-left, and-right}
use Rattle.std.proofs.Math.Bool.{or-false, or_assoc, and-true, and_assoc}
use Rattle.regex_meaning.proofs.ListLemmas.{list_all-members, contains-append}

-- ---- Tests

nat_eq-refl : (n : ℕ) → nat_eq n n ≡ true
nat_eq-refl n = eq-eqb n n refl

four : (a b c d : Bool) → ((a && b) && (c && d)) ≡ ((a && c) && (b && d))
four true true c d = refl
four true false true d = refl
four true false false d = refl
four false b c d = refl

six : (a b c d e f : Bool) → (((a && b) && (c && d)) && (e && f)) ≡ (((a && c) && e) && ((b && d) && f))
six a b c d e f = ap (λ t. t && (e && f)) (four a b c d) ∙ four (a && c) (b && d) e f

-- ---- The bitmap of seen ids

pub none-seen : (n k : ℕ) → is_group_id_seen (replicate n 0) k ≡ is_outside_bitmap n k
none-seen n k = ap₂ (λ l b. is_outside_bitmap l k || b) (length-replicate n 0) (no-bits n k) ∙ or-false (is_outside_bitmap n k)

pub seen-set : (bits : List ℕ) (id k : ℕ) → id / 64 < length bits → is_group_id_seen (with_bit bits id) k ≡ (is_group_id_seen bits k || k == id)
seen-set bits id k within =
    ap₂ (λ l b. is_outside_bitmap l k || b) (length-set bits (id / 64) _) (bit-set bits id k within) ∙ sym (or_assoc (is_outside_bitmap (length bits) k) (has_bit bits k) (k == id))

-- An id behind the words of the bitmap counts as seen.
pub seen-past : (bits : List ℕ) (id : ℕ) → length bits ≤ id / 64 → id < 65536 → is_group_id_seen bits id ≡ true
seen-past bits id end_of_group_ids h =
    let few : (length bits == 1024) ≡ false = ne_eqb (length bits) 1024 (λ e. absurd (omega arith)) in
    or_left (is_outside_bitmap (length bits) id) _ (and_from (not (length bits == 1024)) (nat_le (length bits) (id / 64)) (ap not few) (le-leb (length bits) (id / 64) end_of_group_ids))

pub seen-again : (f : ℕ → Bool) (id k : ℕ) → f id ≡ true → f k ≡ (f k || k == id)
seen-again f id k h =
    ⊎_elim (λ (e : k ≡ id). let t : f k ≡ true = ap f e ∙ h in t ∙ sym (or_left (f k) (k == id) t))
    (λ (ne : k ≡ id → ⊥). sym (ap (λ t. f k || t) (ne_eqb k id ne) ∙ or-false (f k))) (cases_eq k id)

-- ---- Fresh ids

pub fresh-same : (f g : ℕ → Bool) (ids : List ℕ) → ((k : ℕ) → f k ≡ g k) → are_distinct_unseen f ids ≡ are_distinct_unseen g ids
unfolding are_distinct_unseen
fresh-same f g [] e = refl
fresh-same f g (id ∷ ids) e = rw (e id, fresh-same (λ k. f k || k == id) (λ k. g k || k == id) ids (λ k. ap (λ b. b || k == id) (e k)))

pub fresh-append : (f : ℕ → Bool) (xs ys : List ℕ) → are_distinct_unseen f (xs ++ ys) ≡ (are_distinct_unseen f xs && are_distinct_unseen (λ k. f k || contains xs k) ys)
unfolding are_distinct_unseen
fresh-append f [] ys = fresh-same f (λ k. f k || false) ys (λ k. sym (or-false (f k)))
fresh-append f (x ∷ xs) ys =
    let g = λ (k : ℕ). f k || k == x in
    ap (λ b. not (f x) && b) (fresh-append g xs ys ∙ ap (λ b. are_distinct_unseen g xs && b)
    (fresh-same (λ k. g k || contains xs k) (λ k. f k || contains (x ∷ xs) k) ys (λ k. or_assoc (f k) (k == x) (contains xs k))))
    ∙ sym (and_assoc (not (f x)) (are_distinct_unseen g xs) (are_distinct_unseen (λ k. f k || contains (x ∷ xs) k) ys))

fresh-unseen : (ids : List ℕ) (f : ℕ → Bool) (k : ℕ) → are_distinct_unseen f ids ≡ true → contains ids k ≡ true → f k ≡ false
unfolding are_distinct_unseen
fresh-unseen [] f k h c = cc
fresh-unseen (id ∷ ids) f k h c =
    let here = not-true (f id) (and-left (not (f id)) (are_distinct_unseen (λ j. f j || j == id) ids) h) in
    ⊎_elim (λ (e : nat_eq k id ≡ true). ap f (eqb-true k id e) ∙ here)
    (λ (e : contains ids k ≡ true). or-false-left (f k) (k == id) (fresh-unseen ids (λ j. f j || j == id) k (and-right (not (f id)) (are_distinct_unseen (λ j. f j || j == id) ids) h) e))
    (or_cases (nat_eq k id) (contains ids k) c)

fresh-change : (ids : List ℕ) (f g : ℕ → Bool) → are_distinct_unseen f ids ≡ true → ((k : ℕ) → contains ids k ≡ true → g k ≡ false) → are_distinct_unseen g ids ≡ true
unfolding are_distinct_unseen
fresh-change [] f g h u = refl
fresh-change (id ∷ ids) f g h u =
    let rest = and-right (not (f id)) (are_distinct_unseen (λ j. f j || j == id) ids) h in
    let here : g id ≡ false = u id (or_left (nat_eq id id) (contains ids id) (nat_eq-refl id)) in
    let later = fresh-change ids (λ j. f j || j == id) (λ j. g j || j == id) rest
    (λ k c. or_from (g k) (k == id) (u k (or_right (nat_eq k id) (contains ids k) c)) (or-false-right (f k) (k == id) (fresh-unseen ids (λ j. f j || j == id) k rest c))) in
    rw (here, later)

-- A bitmap of zeros for all ids checks a node as if no id were seen.
pub none_stand : (n : Node) → has_exact_group_ids (is_group_id_seen (replicate 1024 0)) n ≡ has_exact_group_ids (λ k. false) n
none_stand n = ap (λ b. b && every_node_passes has_exact_group_range n) (fresh-same (is_group_id_seen (replicate 1024 0)) (λ k. false) (group_ids n) (none-seen 1024))

-- Ids that are distinct and unseen by any test are so if none is seen.
pub unseen_stand : (n : Node) (f : ℕ → Bool) → true ≡ has_exact_group_ids f n → true ≡ has_exact_group_ids (λ k. false) n
unseen_stand n f h =
    let fresh = fresh-change (group_ids n) f (λ k. false) (and-left (are_distinct_unseen f (group_ids n)) (every_node_passes has_exact_group_range n) (sym h)) (λ k c. refl) in
    sym (and_from (are_distinct_unseen (λ k. false) (group_ids n)) (every_node_passes has_exact_group_range n) fresh (and-right (are_distinct_unseen f (group_ids n)) (every_node_passes has_exact_group_range n) (sym h)))

-- ---- How many numbers below n are seen

seen_count : (ℕ → Bool) → ℕ → ℕ
seen_count f zero = 0
seen_count f (suc n) = seen_count f n + (if f n then 1 else 0)

one_if : (b : Bool) → (if b then 1 else 0) ≤ 1
one_if true = omega arith
one_if false = omega arith

count-le : (f : ℕ → Bool) (n : ℕ) → seen_count f n ≤ n
unfolding seen_count
count-le f zero = omega arith
count-le f (suc n) = omega (arith, count-le f n, one_if (f n))

count-same : (f g : ℕ → Bool) (n : ℕ) → ((k : ℕ) → k < n → f k ≡ g k) → seen_count f n ≡ seen_count g n
unfolding seen_count
count-same f g zero e = refl
count-same f g (suc n) e = rw (count-same f g n (λ k h. e k (omega arith)), e n (omega arith))

-- An id that is not below `n` does not change how many below `n` are seen.
count-past : (f : ℕ → Bool) (id n : ℕ) → n ≤ id → seen_count (λ k. f k || k == id) n ≡ seen_count f n
count-past f id n h = count-same (λ k. f k || k == id) f n (λ k b. ap (λ t. f k || t) (ne_eqb k id (λ e. absurd (omega arith))) ∙ or-false (f k))

count-again : (f : ℕ → Bool) (id n : ℕ) → f id ≡ true → seen_count (λ k. f k || k == id) n ≡ seen_count f n
count-again f id n h =
    count-same (λ k. f k || k == id) f n (λ k b.
    ⊎_elim (λ (e : k ≡ id). let t : f k ≡ true = ap f e ∙ h in or_left (f k) (k == id) t ∙ sym t)
    (λ (ne : k ≡ id → ⊥). ap (λ t. f k || t) (ne_eqb k id ne) ∙ or-false (f k)) (cases_eq k id))

count-new : (f : ℕ → Bool) (id n : ℕ) → id < n → f id ≡ false → seen_count (λ k. f k || k == id) n ≡ seen_count f n + 1
unfolding seen_count
count-new f id zero h u = absurd (omega arith)
count-new f id (suc n) h u =
    ⊎_elim (λ (e : n ≡ id).
    let below : seen_count (λ k. f k || k == id) n ≡ seen_count f n = count-past f id n (omega arith) in
    let top : (f n || n == id) ≡ true = or_right (f n) (n == id) (eq-eqb n id e) in
    let was : f n ≡ false = ap f e ∙ u in
    rw (below, top, was) (omega arith))
    (λ (ne : n ≡ id → ⊥).
    let below : seen_count (λ k. f k || k == id) n ≡ seen_count f n + 1 = count-new f id n (omega (arith, ne)) u in
    let top : (f n || n == id) ≡ f n = ap (λ t. f n || t) (ne_eqb n id ne) ∙ or-false (f n) in
    rw (below, top) (omega arith))
    (cases_eq n id)

count-add : (f : ℕ → Bool) (id n : ℕ) → seen_count (λ k. f k || k == id) n ≤ seen_count f n + 1
count-add f id n =
    ⊎_elim (λ (h : id < n). by_seen (f id) refl h) (λ (h : n ≤ id). omega (arith, count-past f id n h)) (cases_lt id n)
  where
    by_seen : (t : Bool) → t ≡ f id → id < n → seen_count (λ k. f k || k == id) n ≤ seen_count f n + 1
    by_seen true e h = omega (arith, count-again f id n (sym e))
    by_seen false e h = omega (arith, count-new f id n h (sym e))

-- Distinct unseen ids below `n` and the seen ones are together at most `n`.
fresh-length : (ids : List ℕ) (f : ℕ → Bool) (n : ℕ) → are_distinct_unseen f ids ≡ true → end_of_group_ids ids ≤ n → length ids + seen_count f n ≤ n
unfolding are_distinct_unseen end_of_group_ids
fresh-length [] f n h p = omega (arith, count-le f n)
fresh-length (id ∷ ids) f n h p =
    let new = not-true (f id) (and-left (not (f id)) (are_distinct_unseen (λ j. f j || j == id) ids) h) in
    omega (arith, fresh-length ids (λ j. f j || j == id) n (and-right (not (f id)) (are_distinct_unseen (λ j. f j || j == id) ids) h) (omega arith), count-new f id n (omega arith) new)

all_seen : (g : ℕ → Bool) (m : ℕ) → ((q : ℕ) → q < m → g q ≡ true) → m ≤ seen_count g m
unfolding seen_count
all_seen g zero e = omega arith
all_seen g (suc m) e = let top : g m ≡ true = e m (omega arith) in rw top (omega (arith, all_seen g m (λ q h. e q (omega arith))))

-- If each number below `n` is seen or among the ids, both are together at least `n`.
covers : (ids : List ℕ) (f : ℕ → Bool) (n : ℕ) → ((q : ℕ) → q < n → (f q || contains ids q) ≡ true) → n ≤ seen_count f n + length ids
covers [] f n c = omega (arith, all_seen f n (λ q h. sym (or-false (f q)) ∙ c q h))
covers (id ∷ ids) f n c =
    omega (arith, covers ids (λ j. f j || j == id) n (λ q h. or_assoc (f q) (q == id) (contains ids q) ∙ c q h), count-add f id n)

-- If both are together exactly `n`, the ids are distinct, unseen and below `n`.
covers-fresh : (ids : List ℕ) (f : ℕ → Bool) (n : ℕ) → ((q : ℕ) → q < n → (f q || contains ids q) ≡ true) → seen_count f n + length ids ≡ n
    → (are_distinct_unseen f ids ≡ true) × (end_of_group_ids ids ≤ n)
unfolding are_distinct_unseen end_of_group_ids
covers-fresh [] f n c e = (refl, omega arith)
covers-fresh (id ∷ ids) f n c e =
    ⊎_elim (λ (h : id < n). by_seen (f id) refl h (λ m. covers-fresh ids (λ j. f j || j == id) n rest_is m))
    (λ (h : n ≤ id). absurd (omega (arith, rest_covers, count-past f id n h))) (cases_lt id n)
  where
    rest_is : (q : ℕ) → q < n → ((f q || q == id) || contains ids q) ≡ true
    rest_is q h = or_assoc (f q) (q == id) (contains ids q) ∙ c q h

    rest_covers : n ≤ seen_count (λ j. f j || j == id) n + length ids
    rest_covers = covers ids (λ j. f j || j == id) n rest_is

    by_seen : (t : Bool) → t ≡ f id → id < n
        → (seen_count (λ j. f j || j == id) n + length ids ≡ n → (are_distinct_unseen (λ j. f j || j == id) ids ≡ true) × (end_of_group_ids ids ≤ n))
        → ((not (f id) && are_distinct_unseen (λ j. f j || j == id) ids) ≡ true) × (max (id + 1) (end_of_group_ids ids) ≤ n)
    by_seen true s h go = absurd (omega (arith, rest_covers, count-again f id n (sym s)))
    by_seen false s h go =
        let later = go (omega (arith, count-new f id n h (sym s))) in
        (and_from (not (f id)) (are_distinct_unseen (λ j. f j || j == id) ids) (ap not (sym s)) later.0, omega (arith, later.1))

count-below : (s n : ℕ) → seen_count (λ k. nat_lt k s) n ≡ min s n
unfolding seen_count
count-below s zero = omega arith
count-below s (suc n) =
    ⊎_elim (λ (h : n < s). let t : nat_lt n s ≡ true = lt-ltb n s h in rw t (omega (arith, count-below s n)))
    (λ (h : s ≤ n). let t : nat_lt n s ≡ false = le-ltb n s h in rw t (omega (arith, count-below s n)))
    (cases_lt n s)

-- ---- Spans

pub same_span : (a b : GroupIdCountAndSpanNumbers) → a.count ≡ b.count → a.low ≡ b.low → a.high ≡ b.high → a ≡ b
same_span a b ec el eh =
    ap (λ x. let r : GroupIdCountAndSpanNumbers = record { count = x; low = a.low; high = a.high } in r) ec
    ∙ ap (λ x. let r : GroupIdCountAndSpanNumbers = record { count = b.count; low = x; high = a.high } in r) el
    ∙ ap (λ x. let r : GroupIdCountAndSpanNumbers = record { count = b.count; low = b.low; high = x } in r) eh

none_are_seen : (n : ℕ) → seen_count (λ k. false) n ≡ 0
unfolding seen_count
none_are_seen zero = refl
none_are_seen (suc n) = omega (arith, none_are_seen n)

least-most : (ids : List ℕ) → least_group_id ids ≤ 2 ^ 16
unfolding least_group_id
least-most [] = omega arith
least-most (id ∷ ids) = omega (arith, least-most ids)

least-append : (xs ys : List ℕ) → least_group_id (xs ++ ys) ≡ min (least_group_id xs) (least_group_id ys)
unfolding least_group_id
least-append [] ys = omega (arith, least-most ys)
least-append (x ∷ xs) ys = omega (arith, least-append xs ys)

past-append : (xs ys : List ℕ) → end_of_group_ids (xs ++ ys) ≡ max (end_of_group_ids xs) (end_of_group_ids ys)
unfolding end_of_group_ids
past-append [] ys = omega arith
past-append (x ∷ xs) ys = omega (arith, past-append xs ys)

least-le : (ids : List ℕ) (k : ℕ) → contains ids k ≡ true → least_group_id ids ≤ k
unfolding least_group_id
least-le [] k c = cc
least-le (id ∷ ids) k c =
    ⊎_elim (λ (e : nat_eq k id ≡ true). omega (arith, eqb-true k id e)) (λ (e : contains ids k ≡ true). omega (arith, least-le ids k e)) (or_cases (nat_eq k id) (contains ids k) c)

past-gt : (ids : List ℕ) (k : ℕ) → contains ids k ≡ true → k < end_of_group_ids ids
unfolding end_of_group_ids
past-gt [] k c = cc
past-gt (id ∷ ids) k c =
    ⊎_elim (λ (e : nat_eq k id ≡ true). omega (arith, eqb-true k id e)) (λ (e : contains ids k ≡ true). omega (arith, past-gt ids k e)) (or_cases (nat_eq k id) (contains ids k) c)

le-least : (ids : List ℕ) (s : ℕ) → s ≤ 2 ^ 16 → ((k : ℕ) → contains ids k ≡ true → s ≤ k) → s ≤ least_group_id ids
unfolding least_group_id
le-least [] s b h = b
le-least (id ∷ ids) s b h =
    omega (arith, h id (or_left (nat_eq id id) (contains ids id) (nat_eq-refl id)), le-least ids s b (λ k c. h k (or_right (nat_eq k id) (contains ids k) c)))

past-le : (ids : List ℕ) (e : ℕ) → ((k : ℕ) → contains ids k ≡ true → k < e) → end_of_group_ids ids ≤ e
unfolding end_of_group_ids
past-le [] e h = omega arith
past-le (id ∷ ids) e h =
    omega (arith, h id (or_left (nat_eq id id) (contains ids id) (nat_eq-refl id)), past-le ids e (λ k c. h k (or_right (nat_eq k id) (contains ids k) c)))

-- ---- Successive numbers

numbers-contain : (first count k : ℕ) → contains (numbers_from first count) k ≡ true → (first ≤ k) × (k < first + count)
numbers-contain first zero k c = cc
numbers-contain first (suc count) k c =
    ⊎_elim (λ (e : nat_eq k first ≡ true). let same : k ≡ first = eqb-true k first e in (omega arith, omega arith))
    (λ (e : contains (numbers_from (first + 1) count) k ≡ true). let rest = numbers-contain (first + 1) count k e in (omega (arith, rest.0), omega (arith, rest.1)))
    (or_cases (nat_eq k first) (contains (numbers_from (first + 1) count) k) c)

-- ---- Distinct ids of a span

-- If there are as many distinct ids as the span is wide, each number of the span is among them.
all_there : (ids : List ℕ) (f : ℕ → Bool) (s e q : ℕ) → are_distinct_unseen f ids ≡ true → s ≤ least_group_id ids → end_of_group_ids ids ≤ e → e ≤ length ids + s → s ≤ q → q < e → contains ids q ≡ true
unfolding are_distinct_unseen end_of_group_ids
all_there ids f s e q fresh low high enough above below = by_test (contains ids q) refl
  where
    by_test : (t : Bool) → t ≡ contains ids q → t ≡ true
    by_test true g = refl
    by_test false g =
        let seen = λ (k : ℕ). nat_lt k s in
        let unseen : (k : ℕ) → contains ids k ≡ true → (nat_lt k s || k == q) ≡ false =
        λ k c. or_from (nat_lt k s) (k == q) (le-ltb k s (omega (arith, least-le ids k c))) (ne_eqb k q (λ (same : k ≡ q). false≢true (g ∙ ap (contains ids) (sym same) ∙ c))) in
        let rest : are_distinct_unseen (λ k. nat_lt k s || k == q) ids ≡ true = fresh-change ids f (λ k. nat_lt k s || k == q) fresh unseen in
        let whole : are_distinct_unseen seen (q ∷ ids) ≡ true = and_from (not (nat_lt q s)) (are_distinct_unseen (λ k. nat_lt k s || k == q) ids) (ap not (le-ltb q s above)) rest in
        absurd (omega (arith, fresh-length (q ∷ ids) seen e whole (omega arith), count-below s e))

as_many : (ids : List ℕ) (f : ℕ → Bool) (s e : ℕ) → are_distinct_unseen f ids ≡ true → s ≤ e → ((k : ℕ) → contains ids k ≡ true → s ≤ k) → end_of_group_ids ids ≤ e → length ids + s ≤ e
as_many ids f s e fresh order low high =
    let seen = λ (k : ℕ). nat_lt k s in
    let again = fresh-change ids f seen fresh (λ k c. le-ltb k s (low k c)) in
    omega (arith, fresh-length ids seen e again high, count-below s e)

pub range_is_ids_of_enclosed_groups-fills : (contents : Node) (f : ℕ → Bool) (s e : ℕ) → s ≤ 2 ^ 16 → e ≤ 2 ^ 16 → are_distinct_unseen f (group_ids contents) ≡ true
    → (nat_le s e && (min (length (group_ids contents)) (2 ^ 64 - 1) == (e - s)) && nat_le s (least_group_id (group_ids contents)) && nat_le (end_of_group_ids (group_ids contents)) e) ≡ range_is_ids_of_enclosed_groups s e contents
range_is_ids_of_enclosed_groups-fills contents f s e bs be fresh =
    let ids = group_ids contents in
    let named = numbers_from s (e - s) in
    let count = min (length ids) (2 ^ 64 - 1) == (e - s) in
    same-truth (nat_le s e && count && nat_le s (least_group_id ids) && nat_le (end_of_group_ids ids) e) (range_is_ids_of_enclosed_groups s e contents)
    (λ h.
    let h3 = and-left (nat_le s e && count && nat_le s (least_group_id ids)) (nat_le (end_of_group_ids ids) e) h in
    let h2 = and-left (nat_le s e && count) (nat_le s (least_group_id ids)) h3 in
    let order : s ≤ e = leb-true s e (and-left (nat_le s e) count h2) in
    let many : min (length ids) (2 ^ 64 - 1) ≡ e - s = eqb-true _ _ (and-right (nat_le s e) count h2) in
    let low : s ≤ least_group_id ids = leb-true s (least_group_id ids) (and-right (nat_le s e && count) (nat_le s (least_group_id ids)) h3) in
    let high : end_of_group_ids ids ≤ e = leb-true (end_of_group_ids ids) e (and-right (nat_le s e && count && nat_le s (least_group_id ids)) (nat_le (end_of_group_ids ids) e) h) in
    and_from (nat_le s e && list_all (contains named) ids) (list_all (contains ids) named)
    (and_from (nat_le s e) (list_all (contains named) ids) (le-leb s e order)
    (list_all-members (contains named) ids (λ k c. contains-numbers_from k s (e - s) (omega (arith, least-le ids k c)) (omega (arith, past-gt ids k c)))))
    (list_all-members (contains ids) named (λ q c. let within = numbers-contain s (e - s) q c in all_there ids f s e q fresh low high (omega arith) within.0 (omega (arith, within.1)))))
    (λ h.
    let h2 = and-left (nat_le s e && list_all (contains named) ids) (list_all (contains ids) named) h in
    let order : s ≤ e = leb-true s e (and-left (nat_le s e) (list_all (contains named) ids) h2) in
    let inside = λ (k : ℕ) (c : contains ids k ≡ true). numbers-contain s (e - s) k (all-contains (contains named) ids k (and-right (nat_le s e) (list_all (contains named) ids) h2) c) in
    let there = λ (q : ℕ) (c : contains named q ≡ true). all-contains (contains ids) named q (and-right (nat_le s e && list_all (contains named) ids) (list_all (contains ids) named) h) c in
    let low : s ≤ least_group_id ids = le-least ids s bs (λ k c. (inside k c).0) in
    let high : end_of_group_ids ids ≤ e = past-le ids e (λ k c. omega (arith, (inside k c).1)) in
    let most : length ids + s ≤ e = as_many ids f s e fresh order (λ k c. (inside k c).0) high in
    let seen = λ (k : ℕ). nat_lt k s in
    let fewest : e ≤ seen_count seen e + length ids =
    covers ids seen e (λ q b. ⊎_elim (λ (g : q < s). or_left (nat_lt q s) (contains ids q) (lt-ltb q s g))
    (λ (g : s ≤ q). or_right (nat_lt q s) (contains ids q) (there q (contains-numbers_from q s (e - s) g (omega arith)))) (cases_lt q s)) in
    let many : min (length ids) (2 ^ 64 - 1) ≡ e - s = omega (arith, count-below s e) in
    and_from (nat_le s e && count && nat_le s (least_group_id ids)) (nat_le (end_of_group_ids ids) e)
    (and_from (nat_le s e && count) (nat_le s (least_group_id ids)) (and_from (nat_le s e) count (le-leb s e order) (eq-eqb _ _ many)) (le-leb s (least_group_id ids) low))
    (le-leb (end_of_group_ids ids) e high))

-- ---- Ids that occur once

count-none : (q : ℕ) (ids : List ℕ) → contains ids q ≡ false → count_by (nat_eq q) ids ≡ 0
count-none q [] h = refl
count-none q (id ∷ ids) h =
    let here : nat_eq q id ≡ false = or-false-left (nat_eq q id) (contains ids q) h in
    rw here (count-none q ids (or-false-right (nat_eq q id) (contains ids q) h))

pub count_by-first : (q id : ℕ) (ids : List ℕ) → count_by (nat_eq q) (id ∷ ids) ≡ (if nat_eq q id then 1 else 0) + count_by (nat_eq q) ids
count_by-first q id ids = sum_by-cons (λ x. if nat_eq q x then 1 else 0) id ids

count-one : (q : ℕ) (ids : List ℕ) (f : ℕ → Bool) → are_distinct_unseen f ids ≡ true → contains ids q ≡ true → count_by (nat_eq q) ids ≡ 1
unfolding are_distinct_unseen
count-one q [] f h c = cc
count-one q (id ∷ ids) f h c =
    let later = and-right (not (f id)) (are_distinct_unseen (λ j. f j || j == id) ids) h in
    by_test (nat_eq q id) refl (fresh-unseen ids (λ j. f j || j == id) q later) (count-one q ids (λ j. f j || j == id) later)
  where
    by_test : (t : Bool) → t ≡ nat_eq q id → (contains ids q ≡ true → (f q || q == id) ≡ false) → (contains ids q ≡ true → count_by (nat_eq q) ids ≡ 1) → count_by (nat_eq q) (id ∷ ids) ≡ 1
    by_test true e unseen go =
        let gone : contains ids q ≡ false = false_from_ne_true (contains ids q) (λ there. false≢true (sym (unseen there) ∙ or_right (f q) (q == id) (sym e))) in
        count_by-first q id ids ∙ rw (← e) (omega (arith, count-none q ids gone))
    by_test false e unseen go =
        let there : contains ids q ≡ true = ap (λ t. t || contains ids q) e ∙ c in
        count_by-first q id ids ∙ rw (← e) (omega (arith, go there))

pub each_once : (root : Node) (f : ℕ → Bool) → are_distinct_unseen f (group_ids root) ≡ true → end_of_group_ids (group_ids root) ≤ length (group_ids root) → each_id_stands_once root ≡ true
each_once root f fresh high =
    let ids = group_ids root in
    list_all-members (λ id. count_by (nat_eq id) ids == 1) (numbers_from 0 (length ids))
    (λ q c. let within = numbers-contain 0 (length ids) q c in
    eq-eqb _ 1 (count-one q ids f fresh (all_there ids f 0 (length ids) q fresh (omega arith) high (omega arith) (omega arith) (omega (arith, within.1)))))

pub once_each : (root : Node) → each_id_stands_once root ≡ true → (are_distinct_unseen (λ k. false) (group_ids root) ≡ true) × (end_of_group_ids (group_ids root) ≤ length (group_ids root))
once_each root h =
    let ids = group_ids root in
    let none = λ (k : ℕ). false in
    covers-fresh ids none (length ids)
    (λ q b. there q (eqb-true _ 1 (all-contains (λ id. count_by (nat_eq id) ids == 1) (numbers_from 0 (length ids)) q h (contains-numbers_from q 0 (length ids) (omega arith) (omega arith)))))
    (omega (arith, none_seen (length ids)))
  where
    there : (q : ℕ) → count_by (nat_eq q) (group_ids root) ≡ 1 → contains (group_ids root) q ≡ true
    there q e = by_test (contains (group_ids root) q) refl
      where
        by_test : (t : Bool) → t ≡ contains (group_ids root) q → t ≡ true
        by_test true g = refl
        by_test false g = absurd (omega (arith, e, count-none q (group_ids root) (sym g)))

    none_seen : (n : ℕ) → seen_count (λ k. false) n ≡ 0
    none_seen n = none_are_seen n

-- ---- The span of two lists of ids

pub span-append : (xs ys : List ℕ) → joined (count_and_span_of_group_ids xs) (count_and_span_of_group_ids ys) ≡ count_and_span_of_group_ids (xs ++ ys)
span-append xs ys =
    same_span (joined (count_and_span_of_group_ids xs) (count_and_span_of_group_ids ys)) (count_and_span_of_group_ids (xs ++ ys)) (omega (arith, length-append xs ys)) (sym (least-append xs ys)) (sym (past-append xs ys))

-- ---- The check of two parts

pub found_both : (f : ℕ → Bool) (xs ys : List ℕ) (p q : Bool)
    → ((are_distinct_unseen f xs && p) && (are_distinct_unseen (λ k. f k || contains xs k) ys && q)) ≡ (are_distinct_unseen f (xs ++ ys) && (p && q))
found_both f xs ys p q = shuffle (are_distinct_unseen f xs) p (are_distinct_unseen (λ k. f k || contains xs k) ys) q ∙ ap (λ b. b && (p && q)) (sym (fresh-append f xs ys))
  where
    shuffle : (a b c d : Bool) → ((a && b) && (c && d)) ≡ ((a && c) && (b && d))
    shuffle true true c d = refl
    shuffle true false true d = refl
    shuffle true false false d = refl
    shuffle false b c d = refl

-- If the first part fails the check, both parts together fail it.
pub first_fails : (f : ℕ → Bool) (xs ys : List ℕ) (p q : Bool) → false ≡ (are_distinct_unseen f xs && p) → false ≡ (are_distinct_unseen f (xs ++ ys) && (p && q))
first_fails f xs ys p q h = ap (λ b. b && (are_distinct_unseen (λ k. f k || contains xs k) ys && q)) h ∙ found_both f xs ys p q

-- If the first part passes the check, the second part decides.
pub second_decides : (f g : ℕ → Bool) (xs ys : List ℕ) (p q t : Bool) → true ≡ (are_distinct_unseen f xs && p) → ((k : ℕ) → g k ≡ (f k || contains xs k))
    → t ≡ (are_distinct_unseen g ys && q) → t ≡ (are_distinct_unseen f (xs ++ ys) && (p && q))
second_decides f g xs ys p q t h same e =
    e ∙ ap (λ b. b && q) (fresh-same g (λ k. f k || contains xs k) ys same)
    ∙ ap (λ b. b && (are_distinct_unseen (λ k. f k || contains xs k) ys && q)) h ∙ found_both f xs ys p q

pub one_is_fresh : (f : ℕ → Bool) (id : ℕ) (t : Bool) → t ≡ not (f id) → t ≡ (are_distinct_unseen f (id ∷ []) && true)
unfolding are_distinct_unseen
one_is_fresh f id t e = e ∙ sym (and-true (not (f id))) ∙ sym (and-true (not (f id) && true))

pub one_contained : (f : ℕ → Bool) (id k : ℕ) → (f k || k == id) ≡ (f k || contains (id ∷ []) k)
one_contained f id k = ap (λ t. f k || t) (sym (or-false (k == id)))

pub joined_same : (a a' b b' : GroupIdCountAndSpanNumbers) → a ≡ a' → b ≡ b' → joined a b ≡ joined a' b'
joined_same a a' b b' e f = ap (λ x. joined x b) e ∙ ap (joined a') f

pub joined-assoc : (a b c : GroupIdCountAndSpanNumbers) → joined (joined a b) c ≡ joined a (joined b c)
joined-assoc a b c = same_span (joined (joined a b) c) (joined a (joined b c)) (omega arith) (omega arith) (omega arith)

-- The count and the bounds of the ids decide whether they fill the span.
pub fills-range_is_ids_of_enclosed_groups : (contents : Node) (f : ℕ → Bool) (s e count low high : ℕ) (t p : Bool) → s < 2 ^ 16 → e < 2 ^ 16
    → true ≡ (are_distinct_unseen f (group_ids contents) && p) → count ≡ min (length (group_ids contents)) (2 ^ 64 - 1) → low ≡ least_group_id (group_ids contents) → high ≡ end_of_group_ids (group_ids contents)
    → t ≡ (nat_le s e && (count == (e - s)) && nat_le s low && nat_le high e) → t ≡ (are_distinct_unseen f (group_ids contents) && (range_is_ids_of_enclosed_groups s e contents && p))
fills-range_is_ids_of_enclosed_groups contents f s e count low high t p bs be found ec el eh et =
    let fresh = and-left (are_distinct_unseen f (group_ids contents)) p (sym found) in
    let named = and-right (are_distinct_unseen f (group_ids contents)) p (sym found) in
    let filled = range_is_ids_of_enclosed_groups-fills contents f s e (omega arith) (omega arith) fresh in
    et ∙ ap (λ n. nat_le s e && (n == (e - s)) && nat_le s low && nat_le high e) ec
    ∙ ap (λ n. nat_le s e && (min (length (group_ids contents)) (2 ^ 64 - 1) == (e - s)) && nat_le s n && nat_le high e) el
    ∙ ap (λ n. nat_le s e && (min (length (group_ids contents)) (2 ^ 64 - 1) == (e - s)) && nat_le s (least_group_id (group_ids contents)) && nat_le n e) eh
    ∙ filled ∙ sym (rw (fresh, named) (and-true (range_is_ids_of_enclosed_groups s e contents)))

-- ---- Tests of each node

every-and : (f g : Node → Bool) (n : Node) → every_node_passes (λ x. f x && g x) n ≡ (every_node_passes f n && every_node_passes g n)
every-and f g (cat a b) = rw (every-and f g a, every-and f g b) (six (f (cat a b)) (g (cat a b)) (every_node_passes f a) (every_node_passes g a) (every_node_passes f b) (every_node_passes g b))
every-and f g (alt a b) = rw (every-and f g a, every-and f g b) (six (f (alt a b)) (g (alt a b)) (every_node_passes f a) (every_node_passes g a) (every_node_passes f b) (every_node_passes g b))
every-and f g (capture_group id name n) = rw (every-and f g n) (four (f (capture_group id name n)) (g (capture_group id name n)) (every_node_passes f n) (every_node_passes g n))
every-and f g (lookaround l n) = rw (every-and f g n) (four (f (lookaround l n)) (g (lookaround l n)) (every_node_passes f n) (every_node_passes g n))
every-and f g (loop q s e n) = rw (every-and f g n) (four (f (loop q s e n)) (g (loop q s e n)) (every_node_passes f n) (every_node_passes g n))
every-and f g (loop_1_char_body q n) = rw (every-and f g n) (four (f (loop_1_char_body q n)) (g (loop_1_char_body q n)) (every_node_passes f n) (every_node_passes g n))
every-and f g n = refl

pub every-sound : (m : ℕ) (n : Node) → every_node_passes (is_well_formed_node m) n
    ≡ (every_node_passes (refers_to_a_group m) n && every_node_passes has_order_in_quantifier n && every_node_passes has_one_character_body n && every_node_passes has_text_in_sequence n && every_node_passes set_sizes_and_characters_fit_instructions n)
every-sound m n =
    every-and (λ x. refers_to_a_group m x && has_order_in_quantifier x && has_one_character_body x && has_text_in_sequence x) set_sizes_and_characters_fit_instructions n
    ∙ ap (λ b. b && every_node_passes set_sizes_and_characters_fit_instructions n)
    (every-and (λ x. refers_to_a_group m x && has_order_in_quantifier x && has_one_character_body x) has_text_in_sequence n
    ∙ ap (λ b. b && every_node_passes has_text_in_sequence n)
    (every-and (λ x. refers_to_a_group m x && has_order_in_quantifier x) has_one_character_body n
    ∙ ap (λ b. b && every_node_passes has_one_character_body n) (every-and (refers_to_a_group m) has_order_in_quantifier n)))

-- ---- The check of the whole tree

pub sound_is_well_formed : (root : Node) (f : ℕ → Bool) (count : ℕ) → only_goal_node_is_last root ≡ true → true ≡ (are_distinct_unseen f (group_ids root) && every_node_passes has_exact_group_range root)
    → count ≡ length (group_ids root) → end_of_group_ids (group_ids root) ≤ count → every_node_passes (is_well_formed_node count) root ≡ true → IsWellFormed root
sound_is_well_formed root f count last found many high sound =
    let fresh = and-left (are_distinct_unseen f (group_ids root)) (every_node_passes has_exact_group_range root) (sym found) in
    let named = and-right (are_distinct_unseen f (group_ids root)) (every_node_passes has_exact_group_range root) (sym found) in
    let r = every_node_passes (refers_to_a_group count) root in
    let o = every_node_passes has_order_in_quantifier root in
    let b = every_node_passes has_one_character_body root in
    let t = every_node_passes has_text_in_sequence root in
    let s = every_node_passes set_sizes_and_characters_fit_instructions root in
    let all : (r && o && b && t && s) ≡ true = sym (every-sound count root) ∙ sound in
    let all4 = and-left (r && o && b && t) s all in
    let all3 = and-left (r && o && b) t all4 in
    let all2 = and-left (r && o) b all3 in
    by_clauses root (record {
      goal_last = last;
      ids = each_once root f fresh (omega arith);
      enclosed = named;
      references = sym (ap (λ n. every_node_passes (refers_to_a_group n) root) many) ∙ and-left r o all2;
      quantifiers = and-right r o all2;
      bodies = and-right (r && o) b all3;
      sequences = and-right (r && o && b) t all4;
      sets = and-right (r && o && b && t) s all;
    })

pub well_formed_is_sound : (root : Node) (count : ℕ) → count ≡ length (group_ids root) → IsWellFormed root → every_node_passes (is_well_formed_node count) root ≡ true
well_formed_is_sound root count many well_formed =
    let w = clauses root well_formed in
    let r = every_node_passes (refers_to_a_group count) root in
    let o = every_node_passes has_order_in_quantifier root in
    let b = every_node_passes has_one_character_body root in
    let t = every_node_passes has_text_in_sequence root in
    let s = every_node_passes set_sizes_and_characters_fit_instructions root in
    let refers : r ≡ true = ap (λ n. every_node_passes (refers_to_a_group n) root) many ∙ w.references in
    every-sound count root ∙ and_from (r && o && b && t) s (and_from (r && o && b) t (and_from (r && o) b (and_from r o refers w.quantifiers) w.bodies) w.sequences) w.sets

pub well_formed_is_found : (root : Node) (f : ℕ → Bool) → ((k : ℕ) → f k ≡ false) → IsWellFormed root → (are_distinct_unseen f (group_ids root) && every_node_passes has_exact_group_range root) ≡ true
well_formed_is_found root f none well_formed =
    let w = clauses root well_formed in
    and_from (are_distinct_unseen f (group_ids root)) (every_node_passes has_exact_group_range root) (fresh-same f (λ k. false) (group_ids root) none ∙ (once_each root w.ids).0) w.enclosed

pub well_formed_has_room : (root : Node) → IsWellFormed root → end_of_group_ids (group_ids root) ≤ length (group_ids root)
well_formed_has_room root w = (once_each root (clauses root w).ids).1

-- Distinct ids below 65536 are at most 65536 in number.
pub few_ids : (root : Node) (f : ℕ → Bool) (p : Bool) → true ≡ (are_distinct_unseen f (group_ids root) && p) → end_of_group_ids (group_ids root) ≤ 65536 → length (group_ids root) ≤ 65536
few_ids root f p found high =
    omega (arith, fresh-length (group_ids root) f 65536 (and-left (are_distinct_unseen f (group_ids root)) p (sym found)) high)

pub joined-none : (ids : List ℕ) → joined (record { count = 0; low = 65536; high = 0 }) (count_and_span_of_group_ids ids) ≡ count_and_span_of_group_ids ids
joined-none ids = same_span (joined (record { count = 0; low = 65536; high = 0 }) (count_and_span_of_group_ids ids)) (count_and_span_of_group_ids ids) (omega arith) (omega (arith, least-most ids)) (omega arith)

pub joined-last : (s : GroupIdCountAndSpanNumbers) → s.count < 2 ^ 64 → s.low ≤ 65536 → joined s (count_and_span_of_group_ids []) ≡ s
unfolding least_group_id end_of_group_ids
joined-last s c l = same_span (joined s (count_and_span_of_group_ids [])) s (omega arith) (omega arith) (omega arith)

pub seen_next : (f g h : ℕ → Bool) (xs ys all : List ℕ) → ((k : ℕ) → g k ≡ (f k || contains xs k)) → ((k : ℕ) → (f k || contains (xs ++ ys) k) ≡ (h k || contains all k))
    → (k : ℕ) → (g k || contains ys k) ≡ (h k || contains all k)
seen_next f g h xs ys all a b k =
    ap (λ t. t || contains ys k) (a k) ∙ or_assoc (f k) (contains xs k) (contains ys k) ∙ ap (λ t. f k || t) (sym (contains-append xs ys k)) ∙ b k

-- ---- A walk that checks ids

-- The rest of the ids, with what is seen and spanned so far, gives what all ids give.
pub record IsLeft (at_first : ℕ → Bool) (first : GroupIdCountAndSpanNumbers) (all : List ℕ) (named : Bool) (f : ℕ → Bool) (s : GroupIdCountAndSpanNumbers) (ids : List ℕ) (p : Bool) : Type 0 where
  pub found : (are_distinct_unseen f ids && p) ≡ (are_distinct_unseen at_first all && named)
  pub span : joined s (count_and_span_of_group_ids ids) ≡ joined first (count_and_span_of_group_ids all)
  pub seen : (k : ℕ) → (f k || contains ids k) ≡ (at_first k || contains all k)

pub left-same : (at_first : ℕ → Bool) (first : GroupIdCountAndSpanNumbers) (all : List ℕ) (named : Bool) (f : ℕ → Bool) (s : GroupIdCountAndSpanNumbers) (n m : Node) → n ≡ m
    → IsLeft at_first first all named f s (group_ids n) (every_node_passes has_exact_group_range n) → IsLeft at_first first all named f s (group_ids m) (every_node_passes has_exact_group_range m)
left-same at_first first all named f s n m e l = record {
  found = sym (ap (λ x. are_distinct_unseen f (group_ids x) && every_node_passes has_exact_group_range x) e) ∙ l.found;
  span = sym (ap (λ x. joined s (count_and_span_of_group_ids (group_ids x))) e) ∙ l.span;
  seen = λ k. sym (ap (λ x. f k || contains (group_ids x) k) e) ∙ l.seen k;
}

-- If the first ids pass, the others are left, with the first ones seen and spanned.
pub left-next : (at_first : ℕ → Bool) (first : GroupIdCountAndSpanNumbers) (all : List ℕ) (named : Bool) (f g : ℕ → Bool) (s t : GroupIdCountAndSpanNumbers) (xs ys : List ℕ) (p q : Bool)
    → IsLeft at_first first all named f s (xs ++ ys) (p && q) → true ≡ (are_distinct_unseen f xs && p) → t ≡ joined s (count_and_span_of_group_ids xs) → ((k : ℕ) → g k ≡ (f k || contains xs k))
    → IsLeft at_first first all named g t ys q
left-next at_first first all named f g s t xs ys p q l went span seen = record {
  found = second_decides f g xs ys p q (are_distinct_unseen g ys && q) went seen refl ∙ l.found;
  span = joined_same t (joined s (count_and_span_of_group_ids xs)) (count_and_span_of_group_ids ys) (count_and_span_of_group_ids ys) span refl ∙ joined-assoc s (count_and_span_of_group_ids xs) (count_and_span_of_group_ids ys) ∙ ap (joined s) (span-append xs ys) ∙ l.span;
  seen = seen_next f g at_first xs ys all seen l.seen;
}

-- If the first ids do not pass, all ids together fail.
pub left-fails : (at_first : ℕ → Bool) (first : GroupIdCountAndSpanNumbers) (all : List ℕ) (named : Bool) (f : ℕ → Bool) (s : GroupIdCountAndSpanNumbers) (xs ys : List ℕ) (p q : Bool)
    → IsLeft at_first first all named f s (xs ++ ys) (p && q) → false ≡ (are_distinct_unseen f xs && p) → false ≡ (are_distinct_unseen at_first all && named)
left-fails at_first first all named f s xs ys p q l fails = first_fails f xs ys p q fails ∙ l.found

-- If no ids are left, all ids pass.
pub left-found : (at_first : ℕ → Bool) (first : GroupIdCountAndSpanNumbers) (all : List ℕ) (named : Bool) (f : ℕ → Bool) (s : GroupIdCountAndSpanNumbers) → IsLeft at_first first all named f s [] true → true ≡ (are_distinct_unseen at_first all && named)
unfolding are_distinct_unseen
left-found at_first first all named f s l = l.found

pub left-span : (at_first : ℕ → Bool) (first : GroupIdCountAndSpanNumbers) (all : List ℕ) (named : Bool) (f : ℕ → Bool) (s : GroupIdCountAndSpanNumbers) → s.count < 2 ^ 64 → s.low ≤ 65536
    → IsLeft at_first first all named f s [] true → s ≡ joined first (count_and_span_of_group_ids all)
left-span at_first first all named f s c h l = sym (joined-last s c h) ∙ l.span

pub left-seen : (at_first : ℕ → Bool) (first : GroupIdCountAndSpanNumbers) (all : List ℕ) (named : Bool) (f : ℕ → Bool) (s : GroupIdCountAndSpanNumbers) → IsLeft at_first first all named f s [] true
    → (k : ℕ) → f k ≡ (at_first k || contains all k)
left-seen at_first first all named f s l k = sym (or-false (f k)) ∙ l.seen k

leaf-ids : (n : Node) → is_leaf n ≡ true → (group_ids n ≡ []) × (every_node_passes has_exact_group_range n ≡ true)
leaf-ids (cat a b) h = (cc, cc)
leaf-ids (alt a b) h = (cc, cc)
leaf-ids (capture_group id name n) h = (cc, cc)
leaf-ids (lookaround l n) h = (cc, cc)
leaf-ids (loop q s e n) h = (cc, cc)
leaf-ids (loop_1_char_body q n) h = (cc, cc)
leaf-ids n h = (refl, refl)

pub left-leaf : (at_first : ℕ → Bool) (first : GroupIdCountAndSpanNumbers) (all : List ℕ) (named : Bool) (f : ℕ → Bool) (s : GroupIdCountAndSpanNumbers) (n : Node) → is_leaf n ≡ true
    → IsLeft at_first first all named f s (group_ids n) (every_node_passes has_exact_group_range n) → IsLeft at_first first all named f s [] true
left-leaf at_first first all named f s n h l = let none = leaf-ids n h in rw (none.0, none.1) at l

-- A walk that begins without ids ends with the count and span of all ids.
pub all_ids : (s none t : spans.GroupIdCountAndBounds) (n : Node) → s ≡ t → group_id_span_as_numbers none ≡ count_and_span_of_group_ids [] → group_id_span_as_numbers t ≡ joined (group_id_span_as_numbers none) (count_and_span_of_group_ids (group_ids n)) → group_id_span_as_numbers s ≡ count_and_span_of_group_ids (group_ids n)
unfolding least_group_id end_of_group_ids
all_ids s none t n e from_none h =
    ap group_id_span_as_numbers e ∙ h ∙ ap (λ x. joined x (count_and_span_of_group_ids (group_ids n))) from_none ∙ joined-none (group_ids n)

pub some_bytes : (bytes : List ℕ) (b : Bool) → b ≡ true → not (length bytes == 0) ≡ (nat_lt 0 (length bytes) && b)
some_bytes [] b e = refl
some_bytes (x ∷ bytes) b e =
    let some : nat_lt 0 (length (x ∷ bytes)) ≡ true = lt-ltb 0 (length (x ∷ bytes)) (omega arith) in
    let more : (length (x ∷ bytes) == 0) ≡ false = ne_eqb (length (x ∷ bytes)) 0 (λ h. absurd (omega arith)) in
    ap not more ∙ sym (and_from (nat_lt 0 (length (x ∷ bytes))) b some e)
