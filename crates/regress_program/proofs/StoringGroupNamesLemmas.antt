-- Storing the group names of each node by id yields the names of the tree by id.
use Rattle.std.proofs.Common.{◌≡◌, ℕ, ◌+◌, ◌*◌, ◌<◌, ◌≤◌, Bool, true, false, IsTrue, List, [], ◌∷◌, ◌++◌, length, map, get_or, set, take, drop, replicate, refl, sym, ap, ◌∙◌, arith, get_or-set_same}
use Rattle.std.proofs.Common.{get_or-set_other}
use Rattle.std.specs.Prelude.{if◌then◌else◌, nat_eq, ◌==◌, count_by}
use Rattle.std.specs.List.{AllZip}
use Rattle.std.proofs.lemmas.Bool.{eqb-true, eq-eqb, false≢true}
use Rattle.std.proofs.lemmas.List.{length-map, length-set, length-replicate, get_or-replicate, ext_get_or, take-append-le, take_all, map-set, set_past}
use Rattle.regex_meaning.specs.NumberListHelpers.{numbers_from}
use Rattle.regex_meaning.specs.Tree.{Node, group_ids}
use Rattle.regex_meaning.specs.MatchGroupsByNumberAndName.{capturing_group_ids_and_names, group_name_of_id, group_names_by_id}
use Rattle.regex_meaning.specs.WellFormedTrees.{each_id_stands_once}
use Rattle.regex_meaning.proofs.StartPredicateLemmas.{all-contains}
use Rattle.regex_meaning.proofs.SubtreeInvariantsLemmas.{contains-numbers_from}
use Rattle.regex_meaning.proofs.GroupNamesOfTreeLemmas.{ids_of, named_ids-ids, at-number}
use Rattle.regex_pattern_front.specs.AstToSpecTree.{spec_node_of}
use Rattle.regex_pattern_front.specs.declared.ir.Node as ir
use Rattle.regress_program.specs.LeafNodesAndOptimizableLoops.{spec_cat_of_children, is_leaf}
use Rattle.regress_program.specs.InnerNodeCountMeasure.{inner_node_count}
use Rattle.regress_program.specs.StoringGroupNamesById.{StoresNamesOrPushesNodes, with_names_stored_by_id, pending_names_stored, tree_has_no_named_groups, naming_measure_of_node}
use Rattle.regress_program.specs.StoringGroupNamesById.{naming_measure_of_part, total_naming_measure, naming_measure_of_nodes, names_in_pending_part}
use Rattle.regress_program.specs.declared.emit.storing_group_names_by_id.NodeOrListWithUnstoredNames.{NodeOrListWithUnstoredNames}
use Rattle.regress_program.proofs.NodeKindLemmas.{leaf-bare}
use Rattle.regress_program.proofs.GroupIdCheckLemmas.{count_by-first}
use Rattle.regex_meaning.proofs.BoolLemmas.{same-truth}
use Rattle.regex_meaning.proofs.ListLemmas.{length-numbers_from}

-- ---- Two lists of names

pub filed-append : (named others : List (ℕ × List ℕ)) (names : List (List ℕ)) → with_names_stored_by_id (named ++ others) names ≡ with_names_stored_by_id others (with_names_stored_by_id named names)
filed-append [] others names = refl
filed-append (n ∷ named) others names = filed-append named others (set names n.0 n.1)

pub length-filed : (named : List (ℕ × List ℕ)) (names : List (List ℕ)) → length (with_names_stored_by_id named names) ≡ length names
length-filed [] names = refl
length-filed (n ∷ named) names = length-filed named (set names n.0 n.1) ∙ length-set names n.0 n.1

-- ---- Names that are still to be stored

filed-last : (rest : List NodeOrListWithUnstoredNames) (next : NodeOrListWithUnstoredNames) (names : List (List ℕ)) → pending_names_stored (rest ++ next ∷ []) names ≡ pending_names_stored rest (with_names_stored_by_id (names_in_pending_part next) names)
filed-last [] next names = refl
filed-last (x ∷ rest) next names = ap (with_names_stored_by_id (names_in_pending_part x)) (filed-last rest next names)

load-last : (rest : List NodeOrListWithUnstoredNames) (next : NodeOrListWithUnstoredNames) → total_naming_measure (rest ++ next ∷ []) ≡ total_naming_measure rest + naming_measure_of_part next
load-last [] next = omega arith
load-last (x ∷ rest) next = omega (arith, load-last rest next)

pub next-filed : (rest left more : List NodeOrListWithUnstoredNames) (next : NodeOrListWithUnstoredNames) (old new end : List (List ℕ)) → rest ≡ left ++ next ∷ [] → pending_names_stored rest old ≡ end
    → StoresNamesOrPushesNodes (names_in_pending_part next) (naming_measure_of_part next) old new left more → pending_names_stored more new ≡ end
next-filed rest left more next old new end is all h = h.names ∙ sym (filed-last left next old) ∙ ap (λ x. pending_names_stored x old) (sym is) ∙ all

pub next-less : (rest left more : List NodeOrListWithUnstoredNames) (next : NodeOrListWithUnstoredNames) (old new : List (List ℕ)) → rest ≡ left ++ next ∷ []
    → StoresNamesOrPushesNodes (names_in_pending_part next) (naming_measure_of_part next) old new left more → total_naming_measure more < total_naming_measure rest
next-less rest left more next old new is h = omega (arith, h.less, ap total_naming_measure is, load-last left next)

pub files-none : (named : List (ℕ × List ℕ)) (cost : ℕ) (names : List (List ℕ)) (rest : List NodeOrListWithUnstoredNames) → named ≡ [] → 1 ≤ cost
    → StoresNamesOrPushesNodes named cost names names rest rest
files-none named cost names rest none some = record {
  names = ap (λ x. pending_names_stored rest (with_names_stored_by_id x names)) (sym none);
  less = omega (arith, some);
}

pub files-one : (named : List (ℕ × List ℕ)) (cost : ℕ) (old new : List (List ℕ)) (rest left : List NodeOrListWithUnstoredNames) (a : NodeOrListWithUnstoredNames) → left ≡ rest ++ a ∷ []
    → with_names_stored_by_id (names_in_pending_part a) new ≡ with_names_stored_by_id named old → naming_measure_of_part a < cost → StoresNamesOrPushesNodes named cost old new rest left
files-one named cost old new rest left a is same light = record {
  names = ap (λ x. pending_names_stored x new) is ∙ filed-last rest a new ∙ ap (pending_names_stored rest) same;
  less = omega (arith, light, ap total_naming_measure is, load-last rest a);
}

pub files-two : (named : List (ℕ × List ℕ)) (cost : ℕ) (names : List (List ℕ)) (rest mid left : List NodeOrListWithUnstoredNames) (a b : NodeOrListWithUnstoredNames) → mid ≡ rest ++ a ∷ [] → left ≡ mid ++ b ∷ []
    → named ≡ names_in_pending_part b ++ names_in_pending_part a → naming_measure_of_part a + naming_measure_of_part b < cost → StoresNamesOrPushesNodes named cost names names rest left
files-two named cost names rest mid left a b first second both light = record {
  names =
      ap (λ x. pending_names_stored x names) second ∙ filed-last mid b names ∙ ap (λ x. pending_names_stored x (with_names_stored_by_id (names_in_pending_part b) names)) first
      ∙ filed-last rest a (with_names_stored_by_id (names_in_pending_part b) names)
      ∙ ap (pending_names_stored rest) (sym (filed-append (names_in_pending_part b) (names_in_pending_part a) names) ∙ ap (λ x. with_names_stored_by_id x names) (sym both));
  less = omega (arith, light, ap total_naming_measure second, load-last mid b, ap total_naming_measure first, load-last rest a);
}

-- A node without a name has the names of the node inside it, which is pushed.
pub files-inside : (whole inner : Node) (names : List (List ℕ)) (rest left : List NodeOrListWithUnstoredNames) (a : NodeOrListWithUnstoredNames) → left ≡ rest ++ a ∷ []
    → names_in_pending_part a ≡ capturing_group_ids_and_names inner → naming_measure_of_part a ≡ naming_measure_of_node inner → capturing_group_ids_and_names whole ≡ capturing_group_ids_and_names inner → inner_node_count whole ≡ inner_node_count inner + 1
    → StoresNamesOrPushesNodes (capturing_group_ids_and_names whole) (naming_measure_of_node whole) names names rest left
files-inside whole inner names rest left a is given light same more =
    files-one (capturing_group_ids_and_names whole) (naming_measure_of_node whole) names names rest left a is (ap (λ x. with_names_stored_by_id x names) (given ∙ sym same)) (omega (arith, light, more))

pub files-alternatives : (whole first others a b : Node) (names : List (List ℕ)) (before after : List NodeOrListWithUnstoredNames) → a ≡ first → b ≡ others
    → capturing_group_ids_and_names whole ≡ capturing_group_ids_and_names first ++ capturing_group_ids_and_names others → inner_node_count whole ≡ inner_node_count first + inner_node_count others + 1
    → StoresNamesOrPushesNodes (capturing_group_ids_and_names a ++ capturing_group_ids_and_names b) (naming_measure_of_node a + naming_measure_of_node b + 1) names names before after → StoresNamesOrPushesNodes (capturing_group_ids_and_names whole) (naming_measure_of_node whole) names names before after
files-alternatives whole first others a b names before after is_a is_b both more h = record {
  names =
      h.names
      ∙ ap (λ x. pending_names_stored before (with_names_stored_by_id x names)) (ap (λ n. capturing_group_ids_and_names n ++ capturing_group_ids_and_names b) is_a ∙ ap (λ n. capturing_group_ids_and_names first ++ capturing_group_ids_and_names n) is_b ∙ sym both);
  less = omega (arith, h.less, more, ap inner_node_count is_a, ap inner_node_count is_b);
}

pub files-group : (whole inner a : Node) (id : ℕ) (name : List ℕ) (old new : List (List ℕ)) (before after : List NodeOrListWithUnstoredNames) → a ≡ inner
    → capturing_group_ids_and_names whole ≡ (id, name) ∷ capturing_group_ids_and_names inner → inner_node_count whole ≡ inner_node_count inner + 1
    → StoresNamesOrPushesNodes ((id, name) ∷ capturing_group_ids_and_names a) (naming_measure_of_node a + 1) old new before after → StoresNamesOrPushesNodes (capturing_group_ids_and_names whole) (naming_measure_of_node whole) old new before after
files-group whole inner a id name old new before after is_a all more h = record {
  names = h.names ∙ ap (λ x. pending_names_stored before (with_names_stored_by_id x old)) (ap (λ n. (id, name) ∷ capturing_group_ids_and_names n) is_a ∙ sym all);
  less = omega (arith, h.less, more, ap inner_node_count is_a);
}

-- ---- Node lists

pub files-cheap : (named : List (ℕ × List ℕ)) (low high : ℕ) (old new : List (List ℕ)) (before after : List NodeOrListWithUnstoredNames) → StoresNamesOrPushesNodes named low old new before after → low ≤ high
    → StoresNamesOrPushesNodes named high old new before after
files-cheap named low high old new before after h more = record { names = h.names; less = omega (arith, h.less, more) }

pub row-none : (nodes : List ir.Node) → length nodes ≡ 0 → capturing_group_ids_and_names (spec_cat_of_children nodes) ≡ []
row-none [] e = refl
row-none (n ∷ nodes) e = absurd (omega (arith, e))

pub row-names : (first : ir.Node) (others nodes : List ir.Node) → nodes ≡ first ∷ others → capturing_group_ids_and_names (spec_cat_of_children nodes) ≡ capturing_group_ids_and_names (spec_node_of first) ++ capturing_group_ids_and_names (spec_cat_of_children others)
row-names first others nodes e = ap (λ x. capturing_group_ids_and_names (spec_cat_of_children x)) e

-- A leaf at the beginning of a node list adds no name.
pub row-skips : (first : ir.Node) (others nodes : List ir.Node) → nodes ≡ first ∷ others → is_leaf (spec_node_of first) ≡ true → capturing_group_ids_and_names (spec_cat_of_children others) ≡ capturing_group_ids_and_names (spec_cat_of_children nodes)
row-skips first others nodes e leaf = sym (row-names first others nodes e ∙ ap (λ x. x ++ capturing_group_ids_and_names (spec_cat_of_children others)) (leaf-bare (spec_node_of first) leaf).named)

pub row-load : (first : ir.Node) (others nodes : List ir.Node) → nodes ≡ first ∷ others → naming_measure_of_nodes others + (3 * inner_node_count (spec_node_of first) + 2) < naming_measure_of_nodes nodes
unfolding inner_node_count
row-load first others nodes e =
    let same : inner_node_count (spec_cat_of_children nodes) ≡ inner_node_count (spec_node_of first) + inner_node_count (spec_cat_of_children others) + 1 = ap (λ x. inner_node_count (spec_cat_of_children x)) e in
    omega (arith, same)

-- ---- Storing one name

-- If the id is behind the end of the names, nothing is stored.
pub put_past : {S : Type 0} (f : S → List ℕ) (names : List S) (id : ℕ) (name : List ℕ) → length names ≤ id → map f names ≡ set (map f names) id name
put_past f names id name h = sym (set_past (map f names) id name (omega (arith, h, length-map names f)))

pub put_there : {S : Type 0} (f : S → List ℕ) (names : List S) (id : ℕ) (name : S) → map f (set names id name) ≡ set (map f names) id (f name)
put_there f names id name = map-set f names id name

-- ---- Names that replace older ones

-- If there are as many names as `n`, none of the old ones is left.
pub written_over : {S : Type 0} (names old : List S) (n : ℕ) → n ≡ length names → take n (names ++ drop (length names) old) ≡ names
written_over names old n h = take-append-le n names (drop (length names) old) (omega (arith, h)) ∙ take_all n names (omega (arith, h))

-- ---- Copies

-- Copies that equal the names one by one are the same list of texts.
pub same_texts : {S : Type 0} (f : S → List ℕ) (names copies : List S) → AllZip (λ x y. f y ≡ f x) names copies → map f copies ≡ map f names
same_texts f [] [] h = refl
same_texts f [] (y ∷ copies) h = absurd h
same_texts f (x ∷ names) [] h = absurd h
same_texts f (x ∷ names) (y ∷ copies) h = ap (λ z. z ∷ map f copies) h.0 ∙ ap (λ zs. f x ∷ zs) (same_texts f names copies h.1)

-- ---- The name at an id

-- This is the last name stored for an id, or another text if there is none.
last_name : List (ℕ × List ℕ) → ℕ → List ℕ → List ℕ
last_name [] id other = other
last_name (n ∷ named) id other = last_name named id (if n.0 == id then n.1 else other)

set-at : (names : List (List ℕ)) (i id : ℕ) (name : List ℕ) → id < length names → get_or (set names i name) id [] ≡ (if i == id then name else get_or names id [])
set-at names i id name h = by (i == id) refl
  where
    by : (t : Bool) → t ≡ (i == id) → get_or (set names i name) id [] ≡ (if t then name else get_or names id [])
    by true e = let same : i ≡ id = eqb-true i id (sym e) in rw same (get_or-set_same names id name [] h)
    by false e = get_or-set_other names i id name [] (λ same. false≢true (e ∙ eq-eqb i id (sym same)))

filed-at : (named : List (ℕ × List ℕ)) (names : List (List ℕ)) (id : ℕ) → id < length names → get_or (with_names_stored_by_id named names) id [] ≡ last_name named id (get_or names id [])
unfolding last_name
filed-at [] names id h = refl
filed-at (n ∷ named) names id h =
    filed-at named (set names n.0 n.1) id (omega (arith, h, length-set names n.0 n.1)) ∙ ap (last_name named id) (set-at names n.0 id n.1 h)

same-test : (a b : ℕ) → nat_eq a b ≡ (b == a)
same-test a b = same-truth (nat_eq a b) (b == a) (λ h. eq-eqb b a (sym (eqb-true a b h))) (λ h. eq-eqb a b (sym (eqb-true b a h)))

counted : (id other : ℕ) (ids : List ℕ) (t : Bool) → t ≡ (other == id) → count_by (nat_eq id) (other ∷ ids) ≡ (if t then 1 else 0) + count_by (nat_eq id) ids
counted id other ids t e = count_by-first id other ids ∙ ap (λ b. (if b then 1 else 0) + count_by (nat_eq id) ids) (same-test id other ∙ sym e)

not_there : (named : List (ℕ × List ℕ)) (id : ℕ) (other : List ℕ) → count_by (nat_eq id) (ids_of named) ≡ 0 → last_name named id other ≡ other
unfolding last_name
not_there [] id other h = refl
not_there (n ∷ named) id other h = by (n.0 == id) refl (not_there named id other)
  where
    by : (t : Bool) → t ≡ (n.0 == id) → (count_by (nat_eq id) (ids_of named) ≡ 0 → last_name named id other ≡ other) → last_name named id (if t then n.1 else other) ≡ other
    by true e go = absurd (omega (arith, h, counted id n.0 (ids_of named) true e))
    by false e go = go (omega (arith, h, counted id n.0 (ids_of named) false e))

there_once : (named : List (ℕ × List ℕ)) (id : ℕ) → count_by (nat_eq id) (ids_of named) ≡ 1 → last_name named id [] ≡ group_name_of_id named id
unfolding last_name
there_once [] id h = refl
there_once (n ∷ named) id h = by (n.0 == id) refl (not_there named id n.1) (there_once named id)
  where
    by : (t : Bool) → t ≡ (n.0 == id) → (count_by (nat_eq id) (ids_of named) ≡ 0 → last_name named id n.1 ≡ n.1)
        → (count_by (nat_eq id) (ids_of named) ≡ 1 → last_name named id [] ≡ group_name_of_id named id)
        → last_name named id (if t then n.1 else []) ≡ (if t then n.1 else group_name_of_id named id)
    by true e none go = none (omega (arith, h, counted id n.0 (ids_of named) true e))
    by false e none go = go (omega (arith, h, counted id n.0 (ids_of named) false e))

-- ---- The names of a tree

pub names-filed : (root : Node) (n : ℕ) → IsTrue (each_id_stands_once root) → n ≡ length (group_ids root) → tree_has_no_named_groups root ≡ false
    → with_names_stored_by_id (capturing_group_ids_and_names root) (replicate n []) ≡ group_names_by_id root
names-filed root n once count named =
    same ∙ sym (ap (λ t. if t then [] else map (group_name_of_id names) (numbers_from 0 (length names))) named)
  where
    names : List (ℕ × List ℕ)
    names = capturing_group_ids_and_names root

    many : length (capturing_group_ids_and_names root) ≡ n
    many = sym (length-map (capturing_group_ids_and_names root) (λ p. p.0)) ∙ ap length (named_ids-ids root) ∙ sym count

    stands_once : (id : ℕ) → id < n → count_by (nat_eq id) (ids_of (capturing_group_ids_and_names root)) ≡ 1
    stands_once id h =
        ap (λ xs. count_by (nat_eq id) xs) (named_ids-ids root)
        ∙ eqb-true _ 1 (all-contains (λ id. count_by (nat_eq id) (group_ids root) == 1) (numbers_from 0 (length (group_ids root))) id once (contains-numbers_from id 0 (length (group_ids root)) (omega arith) (omega (arith, h, count))))

    at : (id : ℕ) → id < n → get_or (with_names_stored_by_id (capturing_group_ids_and_names root) (replicate n [])) id [] ≡ group_name_of_id (capturing_group_ids_and_names root) id
    at id h =
        filed-at (capturing_group_ids_and_names root) (replicate n []) id (omega (arith, h, length-replicate {A = List ℕ} n []))
        ∙ ap (last_name (capturing_group_ids_and_names root) id) (get_or-replicate {A = List ℕ} n id [] [] h)
        ∙ there_once (capturing_group_ids_and_names root) id (stands_once id h)

    long : length (with_names_stored_by_id (capturing_group_ids_and_names root) (replicate n [])) ≡ n
    long = length-filed (capturing_group_ids_and_names root) (replicate n []) ∙ length-replicate {A = List ℕ} n []

    same : with_names_stored_by_id (capturing_group_ids_and_names root) (replicate n []) ≡ map (group_name_of_id (capturing_group_ids_and_names root)) (numbers_from 0 (length (capturing_group_ids_and_names root)))
    same =
        ext_get_or [] _ _ (long ∙ sym many ∙ sym (length-map (numbers_from 0 (length (capturing_group_ids_and_names root))) (group_name_of_id (capturing_group_ids_and_names root)) ∙ length-numbers_from 0 (length (capturing_group_ids_and_names root))))
        (λ id h. let below : id < n = omega (arith, h, long) in
        at id below ∙ sym (at-number (group_name_of_id (capturing_group_ids_and_names root)) 0 (length (capturing_group_ids_and_names root)) id (omega (arith, below, many)) ∙ ap (group_name_of_id (capturing_group_ids_and_names root)) (omega arith)))
