-- Each boundary is the offset of one position, and a read moves it to the next position.
use Rattle.std.proofs.Common.{◌≡◌, ℕ, zero, suc, ◌+◌, ◌-◌, ◌<◌, ◌≤◌, IsTrue, slice_get, Option, Some, None, is_some, option_map, option_and_then, refl, sym, ◌∙◌, ap, subst, arith, add-one, le_refl}
use Rattle.std.proofs.lemmas.Option.{slice_get_within, slice_get_past, some_pair_parts}
use Rattle.regex_meaning.proofs.CodeUnitOffsetsLemmas.{offset-less, offset-le, place_at-offset, offset-place_at}
use Rattle.regex_meaning.specs.Text.{Text, Direction, rightwards, leftwards, last_place}
use Rattle.regex_meaning.specs.CodeUnitOffsets.{HasRisingPlaceOffsets, offset, units, place_at, IsBoundary, read_at, read}

-- A boundary has a place within the text, and the offset of the place is the boundary.
pub record HasPlace (text : Text) (at place : ℕ) : Type 0 where
  pub found : place_at text at ≡ Some place
  pub within : place ≤ last_place text
  pub offset_is : offset text place ≡ at

pub place_found : (text : Text) → HasRisingPlaceOffsets text → (at place : ℕ) → place_at text at ≡ Some place → HasPlace text at place
place_found text t at place e =
    let here = offset-place_at text at place t e in
    record { found = e; within = here.1; offset_is = here.0 }

-- An option that is not empty has a value.
pub some_of : {A : Type 0} (o : Option A) → IsTrue (is_some o) → (x : A) × (o ≡ Some x)
some_of None h = absurd (cc)
some_of (Some x) h = (x, refl)

pub place_of_boundary : (text : Text) → HasRisingPlaceOffsets text → (at : ℕ) → IsBoundary text at → (place : ℕ) × HasPlace text at place
place_of_boundary text t at b = let o = some_of (place_at text at) b in (o.0, place_found text t at o.0 o.1)

pub boundary_of_place : (text : Text) (at place : ℕ) → place_at text at ≡ Some place → IsBoundary text at
boundary_of_place text at place e = ap is_some e

-- A read from a boundary is the read from its place.
pub read-place : (text : Text) (d : Direction) (at place : ℕ) → place_at text at ≡ Some place → read text d at ≡ read_at text d place
read-place text d at place e = ap (λ o. option_and_then (read_at text d) o) e

-- ---- Boundaries and reads

pub boundary_inside : (text : Text) → HasRisingPlaceOffsets text → (at : ℕ) → IsBoundary text at → at ≤ units text
boundary_inside text t at b =
    let p = place_of_boundary text t at b in
    omega (arith, offset-le text p.0 (last_place text) t p.1.within (le_refl _), p.1.offset_is)

-- A read to the right yields the character at a place and leads to the next place.
pub record StepRight (text : Text) (at c to : ℕ) : Type 0 where
  pub place : ℕ
  pub from : HasPlace text at place
  pub character : slice_get text.characters place ≡ Some c
  pub upto : HasPlace text to (suc place)

-- A read to the left yields the character before a place and leads to the place before.
pub record StepLeft (text : Text) (at c to : ℕ) : Type 0 where
  pub place : ℕ
  pub from : HasPlace text at (suc place)
  pub character : slice_get text.characters place ≡ Some c
  pub upto : HasPlace text to place

abbrev pub pair : ℕ → ℕ → ℕ × ℕ
pair a b = (a, b)

same_pair : (a b x y : ℕ) → Some (pair a b) ≡ Some (pair x y) → (a ≡ x) × (b ≡ y)
same_pair a b x y e = some_pair_parts a x b y e

placed : (text : Text) → HasRisingPlaceOffsets text → (p : ℕ) → p ≤ last_place text → HasPlace text (offset text p) p
placed text t p l = record { found = place_at-offset text p t l; within = l; offset_is = refl }

pub step_right : (text : Text) → HasRisingPlaceOffsets text → (at c to : ℕ) → read text rightwards at ≡ Some (c, to) → StepRight text at c to
step_right text t at c to e = by (place_at text at) refl e
  where
    by : (o : Option ℕ) → place_at text at ≡ o → option_and_then (read_at text rightwards) o ≡ Some (c, to) → StepRight text at c to
    by None f e' = absurd (cc)
    by (Some k) f e' = go (slice_get text.characters k) refl e'
      where
        go : (o : Option ℕ) → slice_get text.characters k ≡ o → option_map (λ d. pair d (offset text (k + 1))) o ≡ Some (pair c to) → StepRight text at c to
        go None g e'' = absurd (cc)
        go (Some d) g e'' =
            let both = same_pair d (offset text (k + 1)) c to e'' in
            let within : suc k ≤ last_place text = omega (arith, slice_get_within text.characters k d g) in
            let to_is : offset text (suc k) ≡ to = ap (offset text) (sym (add-one k)) ∙ both.1 in
            record { place = k; from = place_found text t at k f; character = g ∙ ap Some both.0; upto = subst (λ n. HasPlace text n (suc k)) to_is (placed text t (suc k) within) }

pub step_left : (text : Text) → HasRisingPlaceOffsets text → (at c to : ℕ) → read text leftwards at ≡ Some (c, to) → StepLeft text at c to
step_left text t at c to e = by (place_at text at) refl e
  where
    by : (o : Option ℕ) → place_at text at ≡ o → option_and_then (read_at text leftwards) o ≡ Some (c, to) → StepLeft text at c to
    by None f e' = absurd (cc)
    by (Some zero) f e' = absurd (cc)
    by (Some (suc j)) f e' = go (slice_get text.characters j) refl e'
      where
        go : (o : Option ℕ) → slice_get text.characters j ≡ o → option_map (λ d. pair d (offset text (suc j - 1))) o ≡ Some (pair c to) → StepLeft text at c to
        go None g e'' = absurd (cc)
        go (Some d) g e'' =
            let both = same_pair d (offset text (suc j - 1)) c to e'' in
            let within : j ≤ last_place text = omega (arith, slice_get_within text.characters j d g) in
            let back : suc j - 1 ≡ j = omega arith in
            let to_is : offset text j ≡ to = ap (offset text) (sym back) ∙ both.1 in
            record { place = j; from = place_found text t at (suc j) f; character = g ∙ ap Some both.0; upto = subst (λ n. HasPlace text n j) to_is (placed text t j within) }

pub right_ahead : (text : Text) → HasRisingPlaceOffsets text → (at c to : ℕ) → read text rightwards at ≡ Some (c, to) → at < to
right_ahead text t at c to e =
    let s = step_right text t at c to e in
    omega (arith, offset-less text s.place (suc s.place) t (omega arith) s.upto.within, s.from.offset_is, s.upto.offset_is)

pub right_boundary : (text : Text) → HasRisingPlaceOffsets text → (at c to : ℕ) → read text rightwards at ≡ Some (c, to) → IsBoundary text to
right_boundary text t at c to e = let s = step_right text t at c to e in boundary_of_place text to (suc s.place) s.upto.found

pub left_ahead : (text : Text) → HasRisingPlaceOffsets text → (at c to : ℕ) → read text leftwards at ≡ Some (c, to) → to < at
left_ahead text t at c to e =
    let s = step_left text t at c to e in
    omega (arith, offset-less text s.place (suc s.place) t (omega arith) s.from.within, s.from.offset_is, s.upto.offset_is)

pub left_boundary : (text : Text) → HasRisingPlaceOffsets text → (at c to : ℕ) → read text leftwards at ≡ Some (c, to) → IsBoundary text to
left_boundary text t at c to e = let s = step_left text t at c to e in boundary_of_place text to s.place s.upto.found

-- Reads to the right and reads to the left are inverse to each other.
pub right_then_left : (text : Text) → HasRisingPlaceOffsets text → (at c to : ℕ) → read text rightwards at ≡ Some (c, to) → read text leftwards to ≡ Some (c, at)
right_then_left text t at c to e =
    let s = step_right text t at c to e in
    let back : suc s.place - 1 ≡ s.place = omega arith in
    read-place text leftwards to (suc s.place) s.upto.found
    ∙ ap (option_map (λ d. (d, offset text (suc s.place - 1)))) s.character
    ∙ ap (λ n. Some (c, n)) (ap (offset text) back ∙ s.from.offset_is)

pub left_then_right : (text : Text) → HasRisingPlaceOffsets text → (at c to : ℕ) → read text leftwards at ≡ Some (c, to) → read text rightwards to ≡ Some (c, at)
left_then_right text t at c to e =
    let s = step_left text t at c to e in
    read-place text rightwards to s.place s.upto.found
    ∙ ap (option_map (λ d. (d, offset text (s.place + 1)))) s.character
    ∙ ap (λ n. Some (c, n)) (ap (offset text) (add-one s.place) ∙ s.from.offset_is)

-- ---- Offsets to which reads lead
past : (text : Text) (d : Direction) (at to : ℕ) → option_map (λ r. r.1) (read text d at) ≡ Some to → (c : ℕ) × (read text d at ≡ Some (pair c to))
past text d at to e = by (read text d at) refl e
  where
    by : (o : Option (ℕ × ℕ)) → read text d at ≡ o → option_map {T = ℕ × ℕ} (λ r. r.1) o ≡ Some to → (c : ℕ) × (read text d at ≡ Some (pair c to))
    by None f e' = absurd (cc)
    by (Some r) f e' = let same : r.1 ≡ to = cc in (r.0, f ∙ ap (λ n. Some (pair r.0 n)) same)

pub past_ahead : (text : Text) → HasRisingPlaceOffsets text → (at to : ℕ) → option_map (λ r. r.1) (read text rightwards at) ≡ Some to → at < to
past_ahead text t at to e = let r = past text rightwards at to e in right_ahead text t at r.0 to r.1

pub past_boundary : (text : Text) → HasRisingPlaceOffsets text → (at to : ℕ) → option_map (λ r. r.1) (read text rightwards at) ≡ Some to → IsBoundary text to
past_boundary text t at to e = let r = past text rightwards at to e in right_boundary text t at r.0 to r.1

pub before_ahead : (text : Text) → HasRisingPlaceOffsets text → (at to : ℕ) → option_map (λ r. r.1) (read text leftwards at) ≡ Some to → to < at
before_ahead text t at to e = let r = past text leftwards at to e in left_ahead text t at r.0 to r.1

pub before_boundary : (text : Text) → HasRisingPlaceOffsets text → (at to : ℕ) → option_map (λ r. r.1) (read text leftwards at) ≡ Some to → IsBoundary text to
before_boundary text t at to e = let r = past text leftwards at to e in left_boundary text t at r.0 to r.1

-- ---- The ends of a text
pub start_boundary : (text : Text) → HasRisingPlaceOffsets text → (at : ℕ) → at ≡ 0 → IsBoundary text at
start_boundary text t at e =
    let found : place_at text at ≡ Some 0 = ap (place_at text) (e ∙ sym t.from_zero) ∙ place_at-offset text 0 t (omega arith) in
    boundary_of_place text at 0 found

pub end_boundary : (text : Text) → HasRisingPlaceOffsets text → (at : ℕ) → at ≡ units text → IsBoundary text at
end_boundary text t at e =
    let found : place_at text at ≡ Some (last_place text) = ap (place_at text) e ∙ place_at-offset text (last_place text) t (omega arith) in
    boundary_of_place text at (last_place text) found

-- At the right end, a read to the right yields nothing.
pub read-last : (text : Text) → HasRisingPlaceOffsets text → (at : ℕ) → at ≡ units text → read text rightwards at ≡ None
read-last text t at e =
    let last = last_place text in
    read-place text rightwards at last (ap (place_at text) e ∙ place_at-offset text last t (omega arith))
    ∙ ap (option_map (λ c. pair c (offset text (last + 1)))) (slice_get_past text.characters last (omega arith))
