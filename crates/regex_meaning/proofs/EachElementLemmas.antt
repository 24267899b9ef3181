-- A property of each element of a list carries over to the lists that are made from it.
use Rattle.std.proofs.Common.{◌≡◌, ℕ, zero, suc, Bool, true, false, List, [], ◌∷◌, refl, sym, subst, ◌++◌, filter, flat_map, map, take, drop, reverse, replicate, slice_set}
use Rattle.std.proofs.lemmas.List.{reverse-append}
use Rattle.std.specs.Prelude.{if◌then◌else◌}
pub use Rattle.regex_meaning.specs.Laws.{Each}

module _ {A : Type 0} where
  pub Each-append : (P : A → Type 0) (xs ys : List A) → Each P xs → Each P ys → Each P (xs ++ ys)
  Each-append P [] ys h k = k
  Each-append P (x ∷ xs) ys h k = (h.0, Each-append P xs ys h.1 k)

  pub Each-left : (P : A → Type 0) (xs ys : List A) → Each P (xs ++ ys) → Each P xs
  Each-left P [] ys h = tt
  Each-left P (x ∷ xs) ys h = (h.0, Each-left P xs ys h.1)

  pub Each-right : (P : A → Type 0) (xs ys : List A) → Each P (xs ++ ys) → Each P ys
  Each-right P [] ys h = h
  Each-right P (x ∷ xs) ys h = Each-right P xs ys h.1

  pub Each-if : (P : A → Type 0) (b : Bool) (xs ys : List A) → Each P xs → Each P ys → Each P (if b then xs else ys)
  Each-if P true xs ys h k = h
  Each-if P false xs ys h k = k

  pub Each-when : (P : A → Type 0) (b : Bool) (x : A) → (b ≡ true → P x) → Each P (if b then x ∷ [] else [])
  Each-when P true x h = (h refl, tt)
  Each-when P false x h = tt

  pub Each-filter : (P : A → Type 0) (test : A → Bool) (xs : List A) → Each P xs → Each P (filter test xs)
  Each-filter P test [] h = tt
  Each-filter P test (x ∷ xs) h =
      let below = Each-filter P test xs h.1 in
      Each-if P (test x) (x ∷ filter test xs) (filter test xs) (h.0, below) below

  pub Each-map : (P Q : A → Type 0) → ((x : A) → P x → Q x) → (xs : List A) → Each P xs → Each Q xs
  Each-map P Q f [] h = tt
  Each-map P Q f (x ∷ xs) h = (f x h.0, Each-map P Q f xs h.1)

  pub Each-all : (P : A → Type 0) → ((x : A) → P x) → (xs : List A) → Each P xs
  Each-all P h [] = tt
  Each-all P h (x ∷ xs) = (h x, Each-all P h xs)

  pub Each-take : (P : A → Type 0) (n : ℕ) (xs : List A) → Each P xs → Each P (take n xs)
  Each-take P zero xs h = tt
  Each-take P (suc n) [] h = tt
  Each-take P (suc n) (x ∷ xs) h = (h.0, Each-take P n xs h.1)

  pub Each-drop : (P : A → Type 0) (n : ℕ) (xs : List A) → Each P xs → Each P (drop n xs)
  Each-drop P zero xs h = h
  Each-drop P (suc n) [] h = tt
  Each-drop P (suc n) (x ∷ xs) h = Each-drop P n xs h.1

  pub Each-reverse : (P : A → Type 0) (xs : List A) → Each P xs → Each P (reverse xs)
  Each-reverse P [] h = tt
  Each-reverse P (x ∷ xs) h =
      subst (Each P) (sym (reverse-append (x ∷ []) xs)) (Each-append P (reverse xs) (x ∷ []) (Each-reverse P xs h.1) (h.0, tt))

  pub Each-replicate : (P : A → Type 0) (n : ℕ) (x : A) → P x → Each P (replicate n x)
  Each-replicate P zero x p = tt
  Each-replicate P (suc n) x p = (p, Each-replicate P n x p)

  pub Each-set : (P : A → Type 0) (xs : List A) (i : ℕ) (x : A) → Each P xs → P x → Each P (slice_set xs i x)
  Each-set P [] i x h p = h
  Each-set P (y ∷ ys) zero x h p = (p, h.1)
  Each-set P (y ∷ ys) (suc i) x h p = (h.0, Each-set P ys i x h.1 p)

module _ {A B : Type 0} where
  flat_map-if_same : (f g : A → List B) (b : Bool) (x : A) (ys : List A) → (b ≡ true → f x ≡ g x)
      → flat_map f ys ≡ flat_map g ys → flat_map f (if b then x ∷ ys else ys) ≡ flat_map g (if b then x ∷ ys else ys)
  flat_map-if_same f g true x ys here below = rw (here refl, below)
  flat_map-if_same f g false x ys here below = below

  -- The flat maps of a filtered list are equal if the functions agree on each element that passes.
  pub flat_map-filter_same : (test : A → Bool) (f g : A → List B) (xs : List A)
      → Each (λ x. test x ≡ true → f x ≡ g x) xs → flat_map f (filter test xs) ≡ flat_map g (filter test xs)
  flat_map-filter_same test f g [] h = refl
  flat_map-filter_same test f g (x ∷ xs) h =
      flat_map-if_same f g (test x) x (filter test xs) h.0 (flat_map-filter_same test f g xs h.1)

  pub Each-flat_map : (P : A → Type 0) (Q : B → Type 0) (f : A → List B) → ((x : A) → P x → Each Q (f x))
      → (xs : List A) → Each P xs → Each Q (flat_map f xs)
  Each-flat_map P Q f h [] k = tt
  Each-flat_map P Q f h (x ∷ xs) k = Each-append Q (f x) (flat_map f xs) (h x k.0) (Each-flat_map P Q f h xs k.1)

  pub Each-image : (P : A → Type 0) (Q : B → Type 0) (f : A → B) → ((x : A) → P x → Q (f x))
      → (xs : List A) → Each P xs → Each Q (map f xs)
  Each-image P Q f h [] k = tt
  Each-image P Q f h (x ∷ xs) k = (h x k.0, Each-image P Q f h xs k.1)
