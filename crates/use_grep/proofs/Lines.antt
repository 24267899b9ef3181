-- The numbered lines that pass a test, one more line at a time.
use Rattle.std.proofs.Common.{◌≡◌, ℕ, ◌+◌, ◌<◌, List, [], ◌∷◌, ◌++◌, Bool, true, false, length, map, filter, take, get_or, refl, ap, sym, ◌∙◌, append-nil, arith}
use Rattle.std.specs.Prelude.{if◌then◌else◌}
use Rattle.std.proofs.lemmas.List.{length-map, length-take-le, map_more}
use Rattle.std.proofs.lemmas.List.Elements.{filter-append}
use Rattle.use_grep.specs.Selecting.{numbered}

-- Numbered lines with one more line.
numbered-append : (first at : ℕ) (lines : List (List ℕ)) (line : List ℕ) → at ≡ first + length lines
    → numbered first (lines ++ line ∷ []) ≡ numbered first lines ++ (at, line) ∷ []
numbered-append first at [] line e = let same : first ≡ at = omega arith in ap (λ n. (n, line) ∷ []) same
numbered-append first at (l ∷ lines) line e = ap (λ ls. (first, l) ∷ ls) (numbered-append (first + 1) at lines line (omega arith))

-- The result of a filter on one line.
kept : (l : ℕ × List ℕ) (b : Bool) → b ≡ true → (if b then l ∷ [] else []) ≡ l ∷ []
kept l true h = refl
kept l false h = cc h

left : (l : ℕ × List ℕ) (b : Bool) → b ≡ false → (if b then l ∷ [] else []) ≡ []
left l true h = cc h
left l false h = refl

module _ {A : Type 0} (text : A → List ℕ) (test : List ℕ → Bool) (first : ℕ) (xs : List A) (i : ℕ) (x : A) (inside : i < length xs) where
  -- The first `k` lines that pass, with their numbers.
  abbrev passed : ℕ → List (ℕ × List ℕ)
  passed k = filter (λ l. test l.1) (numbered first (map text (take k xs)))

  abbrev line : List ℕ
  line = text (get_or xs i x)

  length-so_far : (n : ℕ) → n ≡ first + i → n ≡ first + length (map text (take i xs))
  length-so_far n e = e ∙ ap (λ k. first + k) (sym (length-map (take i xs) text ∙ length-take-le i xs (omega arith)))

  more : (n : ℕ) → n ≡ first + i → passed (i + 1) ≡ passed i ++ filter (λ l. test l.1) ((n, line) ∷ [])
  more n e =
      ap (λ ls. filter (λ l. test l.1) (numbered first ls)) (map_more text xs i x inside)
      ∙ ap (filter (λ l. test l.1)) (numbered-append first n (map text (take i xs)) line (length-so_far n e))
      ∙ filter-append (λ l. test l.1) (numbered first (map text (take i xs))) ((n, line) ∷ [])

  -- The line passes, and is appended with its number.
  pub one-kept : (n : ℕ) (done next : List (ℕ × List ℕ)) → n ≡ first + i → test line ≡ true → done ≡ passed i → next ≡ done ++ (n, line) ∷ []
      → next ≡ passed (i + 1)
  one-kept n done next e passes so_far is =
      is ∙ ap (λ ls. ls ++ (n, line) ∷ []) so_far ∙ ap (λ ls. passed i ++ ls) (sym (kept (n, line) (test line) passes)) ∙ sym (more n e)

  -- The line does not pass.
  pub one-left : (done next : List (ℕ × List ℕ)) → test line ≡ false → done ≡ passed i → next ≡ done → next ≡ passed (i + 1)
  one-left done next fails so_far is =
      is ∙ so_far ∙ sym (append-nil (passed i)) ∙ ap (λ ls. passed i ++ ls) (sym (left (first + i, line) (test line) fails)) ∙ sym (more (first + i) refl)

-- A filter that leaves nothing.
none-left : {A : Type 0} (b : Bool) (x : A) (xs : List A) → (if b then x ∷ xs else xs) ≡ [] → (b ≡ false) × (xs ≡ [])
none-left true x xs h = cc h
none-left false x xs h = (refl, h)

-- If no line passes, no numbered line passes.
pub none-numbered : (test : List ℕ → Bool) (first : ℕ) (lines : List (List ℕ)) → filter test lines ≡ []
    → filter (λ l. test l.1) (numbered first lines) ≡ []
none-numbered test first [] none = refl
none-numbered test first (line ∷ lines) none =
    let both = none-left (test line) line (filter test lines) none in
    rw (both.0, none-numbered test (first + 1) lines both.1) refl
