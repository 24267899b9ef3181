-- The code of a node leaves the starts of other groups and the data of other loops unchanged.
use Rattle.std.proofs.Common.{◌≡◌, ℕ, zero, suc, ◌<◌, ◌≤◌, List, [], ◌∷◌, ◌++◌, length, Some, false, refl, ap, ◌∙◌, sym, arith, slice_get, slice_set}
use Rattle.std.proofs.lemmas.List.Folds.{list_any-append}
use Rattle.regex_meaning.specs.NumberListHelpers.{contains}
use Rattle.regress_machine.specs.Machine.{LoopData}
use Rattle.regex_meaning.proofs.BoolLemmas.{or-false-left, or-false-right}

pub slice_get-set_same : {X : Type 0} (xs : List X) (i : ℕ) (v : X) → i < length xs → slice_get (slice_set xs i v) i ≡ Some v
slice_get-set_same [] i v h = absurd (omega arith)
slice_get-set_same (x ∷ xs) zero v h = refl
slice_get-set_same (x ∷ xs) (suc i) v h = slice_get-set_same xs i v (omega arith)

pub slice_get-set_other : {X : Type 0} (xs : List X) (i j : ℕ) (v : X) → (j ≡ i → ⊥) → slice_get (slice_set xs i v) j ≡ slice_get xs j
slice_get-set_other [] i j v h = refl
slice_get-set_other (x ∷ xs) zero zero v h = absurd (h refl)
slice_get-set_other (x ∷ xs) zero (suc j) v h = refl
slice_get-set_other (x ∷ xs) (suc i) zero v h = refl
slice_get-set_other (x ∷ xs) (suc i) (suc j) v h = slice_get-set_other xs i j v (λ e. h (ap suc e))

-- The starts of groups outside `ids`, and the loops below `lo` and from `hi` on, are unchanged.
pub record Kept (ids : List ℕ) (lo hi : ℕ) (s s' : List ℕ) (ls ls' : List LoopData) : Type 0 where
  pub starts_length : length s' ≡ length s
  pub starts : (i : ℕ) → contains ids i ≡ false → slice_get s' i ≡ slice_get s i
  pub loops_length : length ls' ≡ length ls
  pub below : (i : ℕ) → i < lo → slice_get ls' i ≡ slice_get ls i
  pub above : (i : ℕ) → hi ≤ i → slice_get ls' i ≡ slice_get ls i

pub kept_itself : (ids : List ℕ) (lo hi : ℕ) (s : List ℕ) (ls : List LoopData) → Kept ids lo hi s s ls ls
kept_itself ids lo hi s ls = record {
  starts_length = refl;
  starts = λ i h. refl;
  loops_length = refl;
  below = λ i h. refl;
  above = λ i h. refl;
}

-- Each number outside the second list is outside the first one.
abbrev pub Inside : (ids others : List ℕ) → Type 0
Inside ids others = (i : ℕ) → contains others i ≡ false → contains ids i ≡ false

pub inside_itself : (ids : List ℕ) → Inside ids ids
inside_itself ids i h = h

pub inside_left : (xs ys : List ℕ) → Inside xs (xs ++ ys)
inside_left xs ys i h = or-false-left (contains xs i) (contains ys i) (sym (list_any-append _ xs ys) ∙ h)

pub inside_right : (xs ys : List ℕ) → Inside ys (xs ++ ys)
inside_right xs ys i h = or-false-right (contains xs i) (contains ys i) (sym (list_any-append _ xs ys) ∙ h)

pub kept_more : (ids others : List ℕ) (lo hi lo' hi' : ℕ) (s s' : List ℕ) (ls ls' : List LoopData) → Inside ids others → lo' ≤ lo → hi ≤ hi'
    → Kept ids lo hi s s' ls ls' → Kept others lo' hi' s s' ls ls'
kept_more ids others lo hi lo' hi' s s' ls ls' i a b k = record {
  starts_length = k.starts_length;
  starts = λ j h. k.starts j (i j h);
  loops_length = k.loops_length;
  below = λ j h. k.below j (omega arith);
  above = λ j h. k.above j (omega arith);
}

pub kept_both : (ids : List ℕ) (lo hi : ℕ) (s s' s'' : List ℕ) (ls ls' ls'' : List LoopData)
    → Kept ids lo hi s s' ls ls' → Kept ids lo hi s' s'' ls' ls'' → Kept ids lo hi s s'' ls ls''
kept_both ids lo hi s s' s'' ls ls' ls'' a b = record {
  starts_length = b.starts_length ∙ a.starts_length;
  starts = λ j h. b.starts j h ∙ a.starts j h;
  loops_length = b.loops_length ∙ a.loops_length;
  below = λ j h. b.below j h ∙ a.below j h;
  above = λ j h. b.above j h ∙ a.above j h;
}
