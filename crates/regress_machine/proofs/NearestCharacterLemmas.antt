-- The characters from a position in a direction are the next one and those that follow it.
use Rattle.std.proofs.Common.{◌≡◌, ℕ, zero, suc, ◌+◌, ◌-◌, ◌<◌, ◌≤◌, List, [], ◌∷◌, ◌++◌, length, take, drop, Some, None, refl, ap, ap₂, ◌∙◌, sym, arith, add-one, slice_get, reverse, length-drop}
use Rattle.std.proofs.Common.{length-take}
use Rattle.std.proofs.lemmas.List.{reverse-append, length-reverse, reverse-reverse, take-append-drop, drop-take, length-take-le}
use Rattle.std.proofs.Math.Seq.{take-append_seam}
use Rattle.regex_meaning.specs.Text.{Text, Direction, rightwards, leftwards, last_place, next_character, moved, characters_ahead, next_characters}
use Rattle.regex_meaning.specs.OutcomesWithStepTicks.{nearest_first}

-- ---- Lists

-- A list has an element at a place, with the others on either side, or the place is past its end.
data At (xs : List ℕ) (i : ℕ) : Type 0 where
  past : slice_get xs i ≡ None → drop i xs ≡ [] → length xs ≤ i → At xs i
  at : (x : ℕ) → slice_get xs i ≡ Some x → drop i xs ≡ x ∷ drop (suc i) xs → take (suc i) xs ≡ take i xs ++ (x ∷ []) → i < length xs → At xs i

at_index : (xs : List ℕ) (i : ℕ) → At xs i
at_index [] zero = past refl refl (omega arith)
at_index [] (suc i) = past refl refl (omega arith)
at_index (x ∷ xs) zero = at x refl refl refl (omega arith)
at_index (x ∷ xs) (suc i) = go (at_index xs i)
  where
    go : At xs i → At (x ∷ xs) (suc i)
    go (past none nothing le) = past none nothing (omega arith)
    go (at y is rest before less) = at y is rest (ap (λ (l : List ℕ). x ∷ l) before) (omega arith)

-- A reversed list is its reversed last elements, followed by those before them, reversed.
pub halves-reversed : (n : ℕ) (xs : List ℕ) → n ≤ length xs
    → (reverse xs ≡ reverse (drop (length xs - n) xs) ++ reverse (take (length xs - n) xs)) × (n ≡ length (reverse (drop (length xs - n) xs)))
halves-reversed n xs le =
    let k = length xs - n in
    let last : length (drop k xs) ≡ n = length-drop k xs ∙ (let e : length xs - k ≡ n = omega arith in e) in
    (ap reverse (sym (take-append-drop k xs)) ∙ reverse-append (take k xs) (drop k xs), sym (length-reverse (drop k xs) ∙ last))

-- The first elements of a reversed list are the reversed last elements of the list.
take-reverse : (n : ℕ) (xs : List ℕ) → n ≤ length xs → take n (reverse xs) ≡ reverse (drop (length xs - n) xs)
take-reverse n xs le =
    let k = length xs - n in
    let halves = halves-reversed n xs le in
    ap₂ take halves.1 halves.0 ∙ take-append_seam (reverse (drop k xs)) (reverse (take k xs))

module _ (text : Text) where
  -- On a side of a place, no character is left, or the next one is followed by the others.
  pub data Beside (d : Direction) (p : ℕ) : Type 0 where
    nothing_left : next_character text d p ≡ None → nearest_first text d p ≡ [] → characters_ahead text d p ≡ 0 → Beside d p
    one_more : (c : ℕ) → next_character text d p ≡ Some c → nearest_first text d p ≡ c ∷ nearest_first text d (moved text d 1 p)
        → characters_ahead text d p ≡ suc (characters_ahead text d (moved text d 1 p)) → moved text d 1 p ≤ last_place text → Beside d p

  pub beside : (d : Direction) (p : ℕ) → p ≤ last_place text → Beside d p
  beside rightwards p inside = go (at_index text.characters p)
    where
      go : At text.characters p → Beside rightwards p
      go (past none nothing le) = nothing_left none nothing (omega arith)
      go (at c is rest before less) = one_more c is (rest ∙ ap (λ n. c ∷ drop n text.characters) (sym (add-one p))) (omega arith) (omega arith)
  beside leftwards zero inside = nothing_left refl refl refl
  beside leftwards (suc p) inside = go (at_index text.characters p)
    where
      same : suc p - 1 ≡ p
      same = omega arith

      go : At text.characters p → Beside leftwards (suc p)
      go (past none nothing le) = absurd (omega arith)
      go (at c is rest before less) =
          one_more c is (ap reverse before ∙ reverse-append (take p text.characters) (c ∷ []) ∙ ap (λ n. c ∷ reverse (take n text.characters)) (sym same))
          (ap suc (sym same)) (omega arith)

  pub length-nearest : (d : Direction) (p : ℕ) → p ≤ last_place text → length (nearest_first text d p) ≡ characters_ahead text d p
  length-nearest rightwards p inside = length-drop p text.characters
  length-nearest leftwards p inside = let l = length-reverse (take p text.characters) in let t = length-take p text.characters in omega (arith, l, t)

  -- A move over one character and then `n` is a move over `n + 1`.
  pub moved-suc : (d : Direction) (n p : ℕ) → moved text d n (moved text d 1 p) ≡ moved text d (suc n) p
  moved-suc rightwards n p = omega arith
  moved-suc leftwards n p = omega arith

  pub moved-zero : (d : Direction) (p : ℕ) → moved text d 0 p ≡ p
  moved-zero rightwards p = omega arith
  moved-zero leftwards p = omega arith

  -- These are the nearest characters beside a place, in the order of the text.
  abbrev pub in_text_order : Direction → List ℕ → List ℕ
  in_text_order rightwards cs = cs
  in_text_order leftwards cs = reverse cs

  pub characters_beside-nearest : (d : Direction) (n p : ℕ) → p ≤ last_place text → n ≤ characters_ahead text d p
      → next_characters text d n p ≡ in_text_order d (take n (nearest_first text d p))
  characters_beside-nearest rightwards n p inside few = let e : p + n - p ≡ n = omega arith in ap (λ m. take m (drop p text.characters)) e
  characters_beside-nearest leftwards n p inside few =
      let cs = text.characters in
      let e : p - (p - n) ≡ n = omega arith in
      let f : p - n + n ≡ p = omega arith in
      let l : length (take p cs) ≡ p = length-take-le p cs inside in
      ap (λ m. take m (drop (p - n) cs)) e
      ∙ sym (drop-take (p - n) n cs)
      ∙ ap (λ m. drop (p - n) (take m cs)) f
      ∙ sym (reverse-reverse (drop (p - n) (take p cs)))
      ∙ ap (λ m. reverse (reverse (drop (m - n) (take p cs)))) (sym l)
      ∙ ap reverse (sym (take-reverse n (take p cs) (omega arith)))
