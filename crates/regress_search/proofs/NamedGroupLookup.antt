-- The lookup of a name finds the first group with this name that matched.
use Rattle.std.proofs.Common.{◌≡◌, ℕ, ◌+◌, ◌<◌, Bool, true, false, List, [], ◌∷◌, length, map, take, drop, get_or, zero, suc, ◌++◌, slice_get, unwrap_or, ap₂, arith, refl, sym, ◌∙◌, ap, Option, Some}
use Rattle.std.proofs.Common.{None, is_some, option_map, bytes_eq, if◌then◌else◌}
use Rattle.std.proofs.lemmas.List.{drop_more, drop-map}
use Rattle.std.specs.Option.{option_or}
use Rattle.regex_meaning.specs.Outcomes.{group_range}
use Rattle.regex_meaning.specs.MatchGroupsByNumberAndName.{Answer, first_range, ids_named, ids_where}

-- The image of an optional value is present exactly if the value is.
pub is_some-image : {A B : Type 0} (f : A → B) (a : Option A) (b : Option B) (there : Bool) → option_map f a ≡ b
    → is_some a ≡ there → is_some b ≡ there
is_some-image f None b there image h = ap is_some (sym image) ∙ h
is_some-image f (Some x) b there image h = ap is_some (sym image) ∙ h

option_or-some : {A : Type 0} (o p : Option A) → is_some o ≡ true → option_or o p ≡ o
option_or-some None p h = cc
option_or-some (Some a) p h = refl

option_or-none : {A : Type 0} (o p : Option A) → is_some o ≡ false → option_or o p ≡ p
option_or-none None p h = refl
option_or-none (Some a) p h = cc

module _ {X : Type 0} (f : X → List ℕ) (xs : List X) (i : ℕ) (x : X) (h : i < length xs) (e : x ≡ get_or xs i x) where
  -- The images from an index on are the one there and those behind it.
  pub images-here : drop i (map f xs) ≡ f x ∷ drop (i + 1) (map f xs)
  images-here =
      drop-map f i xs ∙ ap (map f) (drop_more xs i x h ∙ ap (λ y. y ∷ drop (i + 1) xs) (sym e))
      ∙ ap (λ ys. f x ∷ ys) (sym (drop-map f (i + 1) xs))

  -- The ids from an index on begin with the index if the name there passes the test.
  pub ids-here : (test : List ℕ → Bool) (b : Bool) → test (f x) ≡ b
      → ids_where test i (drop i (map f xs))
      ≡ (if b then i ∷ ids_where test (i + 1) (drop (i + 1) (map f xs)) else ids_where test (i + 1) (drop (i + 1) (map f xs)))
  ids-here test b t =
      ap (ids_where test i) images-here
      ∙ ap (λ c. if c then i ∷ ids_where test (i + 1) (drop (i + 1) (map f xs)) else ids_where test (i + 1) (drop (i + 1) (map f xs))) t

  module _ (m : Answer) (name : List ℕ) where
    -- The range that is looked for is the first one from `id` on.
    abbrev Sought : (id : ℕ) → Type 0
    Sought id = first_range m (ids_named m name) ≡ first_range m (ids_where (bytes_eq name) id (drop id (map f xs)))

    -- If the name stands at the index, the range is that of its group, or the first one behind.
    by-name : bytes_eq name (f x) ≡ true → Sought i
        → first_range m (ids_named m name)
        ≡ option_or (group_range m.captures i) (first_range m (ids_where (bytes_eq name) (i + 1) (drop (i + 1) (map f xs))))
    by-name named sought = sought ∙ ap (first_range m) (ids-here (bytes_eq name) true named)

    -- If the group with the name has matched, its range is the one that is looked for.
    pub found-first : bytes_eq name (f x) ≡ true → is_some (group_range m.captures i) ≡ true → Sought i
        → group_range m.captures i ≡ first_range m (ids_named m name)
    found-first named there sought = sym (by-name named sought ∙ option_or-some _ _ there)

    -- If another name stands at the index, the range is looked for from the next index on.
    pub other-name : bytes_eq name (f x) ≡ false → Sought i → Sought (i + 1)
    other-name differs sought = sought ∙ ap (first_range m) (ids-here (bytes_eq name) false differs)

    -- If the group has not matched, the range is looked for from the next index on.
    pub none-here : bytes_eq name (f x) ≡ true → is_some (group_range m.captures i) ≡ false → Sought i → Sought (i + 1)
    none-here named there sought = by-name named sought ∙ option_or-none _ _ there

-- ---- Groups of an answer, one after another

take-next : {X : Type 0} (xs : List (Option X)) (id : ℕ) → id < length xs → take id xs ++ (unwrap_or (slice_get xs id) None ∷ []) ≡ take (id + 1) xs
take-next [] id less = absurd (omega (arith, less))
take-next (x ∷ xs) zero less = refl
take-next (x ∷ xs) (suc id) less =
    let e : suc (id + 1) ≡ suc id + 1 = omega arith in
    ap (λ l. x ∷ l) (take-next xs id (omega (arith, less))) ∙ ap (λ n. take n (x ∷ xs)) e

-- With the image of the next group appended, the images are those of one group more.
pub one-more : {X Y : Type 0} (f : Option X → Option Y) (xs : List (Option X)) (r : Option X) (gs : List (Option Y)) (id : ℕ)
    → map f xs ≡ take id gs → id < length gs → f r ≡ unwrap_or (slice_get gs id) None → map f (xs ++ r ∷ []) ≡ take (id + 1) gs
one-more f xs r gs id before less is = map-last f xs r ∙ ap₂ (λ l x. l ++ x ∷ []) before is ∙ take-next gs id less
  where
    map-last : {X Y : Type 0} (f : X → Y) (xs : List X) (x : X) → map f (xs ++ x ∷ []) ≡ map f xs ++ f x ∷ []
    map-last f [] x = refl
    map-last f (y ∷ ys) x = ap (λ l. f y ∷ l) (map-last f ys x)
