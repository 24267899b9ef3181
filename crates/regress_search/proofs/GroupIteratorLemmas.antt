-- The iterators over groups yield the group or name at an index, and then those from the next index
-- on.
use Rattle.std.proofs.Common.{◌≡◌, ℕ, zero, suc, ◌+◌, ◌<◌, ◌≤◌, Bool, true, false, not, ◌||◌, ◌==◌, List, [], ◌∷◌, ◌++◌, length, map, take, drop, get_or, None, bytes_eq, refl, sym, ap, ◌∙◌, arith}
use Rattle.std.proofs.Common.{if◌then◌else◌}
use Rattle.std.specs.List.{list_any}
use Rattle.std.proofs.lemmas.List.{drop_more, map_more, take-map}
use Rattle.std.proofs.lemmas.List.Folds.{list_any-append}
use Rattle.std.proofs.lemmas.Option.{unwrap_or-slice_get}
use Rattle.std.proofs.lemmas.Slice.Eq.{bytes_eq-Decides}
use Rattle.regex_meaning.specs.MatchGroupsByNumberAndName.{Answer, first_appearances, group}
use Rattle.regress_search.specs.GroupIterators.{all_groups, is_new_group_name, distinct_names_from}
use Rattle.regress_search.proofs.NamedGroupLookup.{images-here}

module _ (m : Answer) where
  pub group-at : (idx : ℕ) → get_or (all_groups m) idx None ≡ group m idx
  group-at zero = refl
  group-at (suc id) = sym (unwrap_or-slice_get m.captures id None)

  pub groups-here : (idx : ℕ) → idx ≤ length m.captures
      → drop idx (all_groups m) ≡ group m idx ∷ drop (idx + 1) (all_groups m)
  groups-here idx h =
      let inside : idx < length (all_groups m) = omega arith in
      drop_more (all_groups m) idx None inside ∙ ap (λ g. g ∷ drop (idx + 1) (all_groups m)) (group-at idx)

or-none : (x : Bool) → x ≡ (x || (false || false))
or-none true = refl
or-none false = refl

or-swapped : (x y : Bool) → (x || y) ≡ (y || (x || false))
or-swapped true true = refl
or-swapped true false = refl
or-swapped false true = refl
or-swapped false false = refl

-- Two lists have the same names that are not empty.
abbrev SameNames : List (List ℕ) → List (List ℕ) → Type 0
SameNames a b = (c : ℕ) (name : List ℕ) → list_any (bytes_eq (c ∷ name)) a ≡ list_any (bytes_eq (c ∷ name)) b

appear-same : (a b : List (List ℕ)) → SameNames a b → (names : List (List ℕ)) → first_appearances a names ≡ first_appearances b names
appear-same a b same [] = refl
appear-same a b same ([] ∷ names) = appear-same a b same names
appear-same a b same ((c ∷ name) ∷ names) =
    ap (λ t. if t then first_appearances a names else (c ∷ name) ∷ first_appearances ((c ∷ name) ∷ a) names) (same c name)
    ∙ ap (λ x. if list_any (bytes_eq (c ∷ name)) b then x else (c ∷ name) ∷ first_appearances ((c ∷ name) ∷ a) names)
    (appear-same a b same names)
    ∙ ap (λ y. if list_any (bytes_eq (c ∷ name)) b then first_appearances b names else (c ∷ name) ∷ y)
    (appear-same ((c ∷ name) ∷ a) ((c ∷ name) ∷ b) (λ d other. ap (λ t. bytes_eq (d ∷ other) (c ∷ name) || t) (same d other)) names)

module _ (before : List (List ℕ)) where
  -- A name is among the names with one appended exactly if it was before or is that one.
  one-behind : (n name : List ℕ) → list_any (bytes_eq name) (before ++ n ∷ []) ≡ (list_any (bytes_eq name) before || (bytes_eq name n || false))
  one-behind n name = list_any-append (bytes_eq name) before (n ∷ [])

  empty-behind : SameNames before (before ++ [] ∷ [])
  empty-behind c name = or-none (list_any (bytes_eq (c ∷ name)) before) ∙ sym (one-behind [] (c ∷ name))

  -- Appending a known name leaves the names the same.
  known-behind : (n : List ℕ) → list_any (bytes_eq n) before ≡ true → SameNames before (before ++ n ∷ [])
  known-behind n known c name = by (bytes_eq (c ∷ name) n) refl ∙ sym (one-behind n (c ∷ name)) where
    by : (e : Bool) → bytes_eq (c ∷ name) n ≡ e → list_any (bytes_eq (c ∷ name)) before ≡ (list_any (bytes_eq (c ∷ name)) before || (e || false))
    by true e =
        let there = ap (λ q. list_any (bytes_eq q) before) ((bytes_eq-Decides (c ∷ name) n).0 e) ∙ known in
        there ∙ sym (ap (λ t. t || (true || false)) there)
    by false e = or-none (list_any (bytes_eq (c ∷ name)) before)

  new-behind : (n : List ℕ) → SameNames (n ∷ before) (before ++ n ∷ [])
  new-behind n c name = or-swapped (bytes_eq (c ∷ name) n) (list_any (bytes_eq (c ∷ name)) before) ∙ sym (one-behind n (c ∷ name))

  -- The first appearances from a name on begin with that name if it is new.
  pub appear-here : (n : List ℕ) (rest : List (List ℕ)) → first_appearances before (n ∷ rest)
      ≡ (if is_new_group_name n before then n ∷ first_appearances (before ++ n ∷ []) rest else first_appearances (before ++ n ∷ []) rest)
  appear-here [] rest = appear-same before (before ++ [] ∷ []) empty-behind rest
  appear-here (c ∷ name) rest = by (list_any (bytes_eq (c ∷ name)) before) refl where
    by : (t : Bool) → list_any (bytes_eq (c ∷ name)) before ≡ t
        → (if t then first_appearances before rest else (c ∷ name) ∷ first_appearances ((c ∷ name) ∷ before) rest)
        ≡ (if not t then (c ∷ name) ∷ first_appearances (before ++ (c ∷ name) ∷ []) rest else first_appearances (before ++ (c ∷ name) ∷ []) rest)
    by true e = appear-same before (before ++ (c ∷ name) ∷ []) (known-behind (c ∷ name) e) rest
    by false e =
        ap (λ names. (c ∷ name) ∷ names)
        (appear-same ((c ∷ name) ∷ before) (before ++ (c ∷ name) ∷ []) (new-behind (c ∷ name)) rest)

list_any-map : {X Y : Type 0} (f : X → Y) (test : Y → Bool) (xs : List X) → list_any (λ x. test (f x)) xs ≡ list_any test (map f xs)
list_any-map f test [] = refl
list_any-map f test (x ∷ xs) = ap (λ t. test (f x) || t) (list_any-map f test xs)

pub new-not_among : {X : Type 0} (f : X → List ℕ) (name : List ℕ) (xs : List X) → (length name == 0) ≡ false
    → not (list_any (λ x. bytes_eq name (f x)) xs) ≡ is_new_group_name name (map f xs)
new-not_among f [] xs h = cc
new-not_among f (c ∷ name) xs h = ap not (list_any-map f (bytes_eq (c ∷ name)) xs)

module _ {X : Type 0} (f : X → List ℕ) (xs : List X) (i : ℕ) (x : X) (h : i < length xs) (e : x ≡ get_or xs i x) where
  images-before : take i (map f xs) ++ f x ∷ [] ≡ take (i + 1) (map f xs)
  images-before =
      ap (λ ys. ys ++ f x ∷ []) (take-map f i xs) ∙ ap (λ y. map f (take i xs) ++ f y ∷ []) e
      ∙ sym (map_more f xs i x h) ∙ sym (take-map f (i + 1) xs)

  -- The distinct names from an index on begin with the name there if it is new.
  pub names-here : (b : Bool) → is_new_group_name (f x) (map f (take i xs)) ≡ b
      → distinct_names_from (map f xs) i ≡ (if b then f x ∷ distinct_names_from (map f xs) (i + 1) else distinct_names_from (map f xs) (i + 1))
  names-here b new =
      let before = take i (map f xs) in
      let rest = drop (i + 1) (map f xs) in
      ap (first_appearances before) (images-here f xs i x h e) ∙ appear-here before (f x) rest
      ∙ ap (λ ys. if is_new_group_name (f x) before then f x ∷ first_appearances ys rest else first_appearances ys rest) images-before
      ∙ ap (λ t. if t then f x ∷ distinct_names_from (map f xs) (i + 1) else distinct_names_from (map f xs) (i + 1))
      (ap (is_new_group_name (f x)) (take-map f i xs) ∙ new)
