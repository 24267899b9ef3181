-- Lines near selected lines, one line after another.
use Rattle.std.proofs.Common.{◌≡◌, ℕ, zero, suc, ◌+◌, ◌-◌, ◌<◌, ◌≤◌, List, [], ◌∷◌, ◌++◌, Bool, true, false, filter, refl, ap, sym, ◌∙◌, append-nil, arith}
use Rattle.std.specs.Prelude.{◌&&◌, ◌||◌, nat_le, if◌then◌else◌}
use Rattle.std.specs.List.{range_with_len}
use Rattle.std.proofs.lemmas.Bool.{le-leb, leb-false, leb-true, lt-leb}
use Rattle.std.proofs.lemmas.List.Elements.{filter-append}
use Rattle.std.proofs.Math.Bool.{and-false}
use Rattle.use_grep.specs.Nearby.{IsIncreasing, IsIncreasingFrom, is_near, near}

-- A line that is too far after the first selected line is near another one, or near none.
pub passed : (before after x n : ℕ) (xs : List ℕ) → x + after < n → is_near before after (x ∷ xs) n ≡ is_near before after xs n
passed before after x n xs far =
    ap (λ b. (nat_le x (n + before) && b) || is_near before after xs n) (lt-leb n (x + after) far)
    ∙ ap (λ b. b || is_near before after xs n) (and-false (nat_le x (n + before)))

weaker : (low less : ℕ) (xs : List ℕ) → less ≤ low → IsIncreasingFrom low xs → IsIncreasingFrom less xs
weaker low less [] h is = tt
weaker low less (x ∷ xs) h is = let lower : low ≤ x = is.0 in (omega arith, is.1)

pub tail-increases : (x : ℕ) (xs : List ℕ) → IsIncreasing (x ∷ xs) → IsIncreasing xs
tail-increases x xs is = weaker x 0 xs (omega arith) is.1

none-beyond : (before after low n : ℕ) (xs : List ℕ) → IsIncreasingFrom low xs → n + before < low → is_near before after xs n ≡ false
none-beyond before after low n [] is far = refl
none-beyond before after low n (x ∷ xs) is far =
    let lower : low ≤ x = is.0 in
    let further : n + before < x = omega arith in
    rw (lt-leb x (n + before) further) (none-beyond before after x n xs is.1 further)

-- A line is not near selected lines that begin too far after it.
pub none-near : (before after x n : ℕ) (xs : List ℕ) → IsIncreasing (x ∷ xs) → n + before < x → is_near before after (x ∷ xs) n ≡ false
none-near before after x n xs is far = none-beyond before after x n (x ∷ xs) (omega arith, is.1) far

pub first-near : (before after x n : ℕ) (xs : List ℕ) → x ≤ n + before → n ≤ x + after → is_near before after (x ∷ xs) n ≡ true
first-near before after x n xs b a = rw (le-leb x (n + before) b, le-leb n (x + after) a) refl

range-more : (a n at : ℕ) → at ≡ a + n → range_with_len a (suc n) ≡ range_with_len a n ++ at ∷ []
range-more a zero at e = let same : a ≡ at = omega arith in ap (λ x. x ∷ []) same
range-more a (suc n) at e = ap (λ xs. a ∷ xs) (range-more (a + 1) n at (omega arith))

kept : (n : ℕ) (b : Bool) → b ≡ true → (if b then n ∷ [] else []) ≡ n ∷ []
kept n true h = refl
kept n false h = cc h

left : (n : ℕ) (b : Bool) → b ≡ false → (if b then n ∷ [] else []) ≡ []
left n true h = cc h
left n false h = refl

-- If the first selected line is not too far before a line, the line is near a selected one exactly
-- if the first one is not too far after it.
pub near_first : (before after x n : ℕ) (xs : List ℕ) → IsIncreasing (x ∷ xs) → n ≤ x + after
    → nat_le (x - n) before ≡ is_near before after (x ∷ xs) n
near_first before after x n xs is a = by (nat_le (x - n) before) refl
  where
    by : (b : Bool) → nat_le (x - n) before ≡ b → nat_le (x - n) before ≡ is_near before after (x ∷ xs) n
    by true h = let within : x - n ≤ before = leb-true (x - n) before h in h ∙ sym (first-near before after x n xs (omega arith) a)
    by false h = let further : before < x - n = leb-false (x - n) before h in h ∙ sym (none-near before after x n xs is (omega arith))

module _ (before after : ℕ) (selected : List ℕ) (first count at : ℕ) (e : at ≡ first + count) where
  more : near before after selected first (suc count) ≡ near before after selected first count ++ filter (is_near before after selected) (at ∷ [])
  more =
      ap (filter (is_near before after selected)) (range-more first count at e)
      ∙ filter-append (is_near before after selected) (range_with_len first count) (at ∷ [])

  -- A line that is near is taken.
  pub near-kept : (done next : List ℕ) → is_near before after selected at ≡ true → done ≡ near before after selected first count → next ≡ done ++ at ∷ []
      → next ≡ near before after selected first (suc count)
  near-kept done next is so_far e =
      e ∙ ap (λ xs. xs ++ at ∷ []) so_far ∙ ap (λ xs. near before after selected first count ++ xs) (sym (kept at (is_near before after selected at) is)) ∙ sym more

  -- A line that is not near is not taken.
  pub near-left : (done : List ℕ) → is_near before after selected at ≡ false → done ≡ near before after selected first count
      → done ≡ near before after selected first (suc count)
  near-left done is so_far =
      so_far ∙ sym (append-nil (near before after selected first count))
      ∙ ap (λ xs. near before after selected first count ++ xs) (sym (left at (is_near before after selected at) is)) ∙ sym more

-- One more line, for which it is known whether it is near.
module _ (before after : ℕ) (selected left : List ℕ) (first at : ℕ) (b : Bool) (from : first ≤ at)
    (same : is_near before after selected at ≡ is_near before after left at) (is : b ≡ is_near before after left at) where
  behind : suc (at - first) ≡ at + 1 - first
  behind = omega arith

  pub line-taken : (done next : List ℕ) → b ≡ true → done ≡ near before after selected first (at - first) → next ≡ done ++ at ∷ []
      → next ≡ near before after selected first (at + 1 - first)
  line-taken done next taken so_far e =
      near-kept before after selected first (at - first) at (omega arith) done next (same ∙ sym is ∙ taken) so_far e
      ∙ ap (near before after selected first) behind

  pub line-left : (done next : List ℕ) → b ≡ false → done ≡ near before after selected first (at - first) → next ≡ done
      → next ≡ near before after selected first (at + 1 - first)
  line-left done next left so_far e =
      e ∙ near-left before after selected first (at - first) at (omega arith) done (same ∙ sym is ∙ left) so_far
      ∙ ap (near before after selected first) behind
