-- A search finds the same if it skips starts at which no match begins.
use Rattle.std.proofs.Common.{◌≡◌, inl, inr, subst, ℕ, zero, suc, ◌+◌, ◌-◌, ◌<◌, ◌≤◌, Option, Some, None, Result, Ok, Err, refl, ap, sym, ◌∙◌, arith, option_map}
use Rattle.std.proofs.lemmas.Bool.{cases_lt}
use Rattle.std.specs.Prelude.{is_some, IfOk, IsTrue}
use Rattle.std.specs.Option.{option_or, option_map_or}
use Rattle.regex_meaning.specs.Tree.{Tree}
use Rattle.regex_meaning.specs.Text.{Text, last_place}
use Rattle.regex_meaning.specs.CodeUnitOffsets.{HasRisingPlaceOffsets, IsBoundary, offset, units}
use Rattle.regex_meaning.specs.FirstAndAllMatches.{match_at, first_match}
use Rattle.regex_meaning.specs.SearchAnswers.{first_found}
use Rattle.regex_meaning.proofs.FirstAndAllMatchesLemmas.{first-unfolds, first-past}
use Rattle.regex_meaning.proofs.CodeUnitOffsetsLemmas.{IsBoundary-place, offset-IsBoundary, offset-le, offset-less, place-le, place_at-offset}
use Rattle.regress_search.specs.AttemptsAndStarts.{NextStartSkipsNoMatch, NoMatchAt, NoMatchStartsBetween}
use Rattle.regress_search.proofs.FirstMatchLemmas.{GoesFrom, found-at, none-at}

module _ (tree : Tree) (text : Text) where
  -- The first match from `first` is that from `next`, or there is none if `next` is `None`.
  abbrev pub Walks : (first : ℕ) → (next : Option ℕ) → Type 0
  Walks first None = first_found tree.root text first ≡ None
  Walks first (Some at) = GoesFrom tree text first at

-- No match begins between the first offset and the last if none begins before or after one between.
pub skips-compose : (tree : Tree) (text : Text) (from at : ℕ) (next : Option ℕ) → NextStartSkipsNoMatch tree text from (Some at) → NextStartSkipsNoMatch tree text at next
    → NextStartSkipsNoMatch tree text from next
skips-compose tree text from at None first then = λ x on le less. elim (cases_lt x at) [
  | inl before ↦ first.2 x on le before
  | inr past ↦ then x on past less
]
skips-compose tree text from at (Some to) first then = (
  then.0,
  (let a = first.1 in let b = then.1 in omega (arith, a, b)),
  λ x on le less. elim (cases_lt x at) [
    | inl before ↦ first.2 x on le before
    | inr past ↦ then.2 x on past less
  ],
)

-- The same for a skip that may be refused.
pub skip-composes : {P E : Type 0} (offset : P → ℕ) (tree : Tree) (text : Text) (from at : ℕ) (result : Result (Option P) E) → NextStartSkipsNoMatch tree text from (Some at)
    → IfOk result (λ to. NextStartSkipsNoMatch tree text at (option_map offset to)) → IfOk result (λ to. NextStartSkipsNoMatch tree text from (option_map offset to))
skip-composes offset tree text from at (Ok to) first then = skips-compose tree text from at (option_map offset to) first then
skip-composes offset tree text from at (Err e) first then = tt

-- `untried` is the number of offsets from the next one to the end of the text.
abbrev pub untried : Text → (next : Option ℕ) → ℕ
untried text next = option_map_or (λ at. units text + 1 - at) next 0

module _ (tree : Tree) (text : Text) (is : HasRisingPlaceOffsets text) where
  skip-places : (n a : ℕ) → a + n ≤ last_place text + 1 → ((q : ℕ) → a ≤ q → q < a + n → match_at tree.root text q ≡ None)
      → first_match tree.root text a ≡ first_match tree.root text (a + n)
  skip-places zero a inside none = let e : a ≡ a + zero = omega arith in ap (first_match tree.root text) e
  skip-places (suc n) a inside none =
      let e : a + 1 + n ≡ a + suc n = omega arith in
      first-unfolds tree.root text a (omega (arith, inside))
      ∙ ap (λ o. option_or o (first_match tree.root text (a + 1))) (none a (omega arith) (omega arith))
      ∙ skip-places n (a + 1) (omega (arith, inside)) (λ q le less. none q (omega (arith, le)) (omega (arith, less)))
      ∙ ap (first_match tree.root text) e

  none-between : (from to a q : ℕ) → NoMatchStartsBetween tree text from to → offset text a ≡ from → a ≤ q → q ≤ last_place text → offset text q < to → match_at tree.root text q ≡ None
  none-between from to a q none here le inside less =
      let rising = offset-le text a q is le inside in
      none-at tree text is (offset text q) q (place_at-offset text q is inside)
      (none (offset text q) (offset-IsBoundary text q is inside) (omega (arith, here, rising)) less)

  next-some : (from to : ℕ) → IsBoundary text from → NextStartSkipsNoMatch tree text from (Some to) → first_found tree.root text from ≡ first_found tree.root text to
  next-some from to on next =
      let a = IsBoundary-place text from is on in
      let b = IsBoundary-place text to is next.0 in
      let le : a.0 ≤ b.0 = place-le text a.0 b.0 is a.3 b.3 (let f = next.1 in omega (arith, a.2, b.2, f)) in
      let end : a.0 + (b.0 - a.0) ≡ b.0 = omega (arith, le) in
      found-at tree text is from a.0 a.1
      ∙ skip-places (b.0 - a.0) a.0 (let i = b.3 in omega (arith, end, i)) (λ q at less.
      let before : q < b.0 = omega (arith, less, end) in
      let rising = offset-less text q b.0 is before b.3 in
      none-between from to a.0 q next.2 a.2 at (let i = b.3 in omega (arith, before, i)) (omega (arith, rising, b.2)))
      ∙ ap (first_match tree.root text) end
      ∙ sym (found-at tree text is to b.0 b.1)

  next-none : (from : ℕ) → IsBoundary text from → NextStartSkipsNoMatch tree text from None → first_found tree.root text from ≡ None
  next-none from on none =
      let a = IsBoundary-place text from is on in
      let n = last_place text + 1 - a.0 in
      let end : a.0 + n ≡ last_place text + 1 = let i = a.3 in omega (arith, i) in
      found-at tree text is from a.0 a.1
      ∙ skip-places n a.0 (omega (arith, end)) (λ q at less.
      let inside : q ≤ last_place text = omega (arith, less, end) in
      let rising = offset-le text q (last_place text) is inside (omega arith) in
      none-between from (units text + 1) a.0 q none a.2 at inside (omega (arith, rising)))
      ∙ first-past tree.root text (a.0 + n) (omega (arith, end))

  -- A search from the first offset goes on from the first candidate.
  pub walk-begins : (first : ℕ) (next : Option ℕ) → IsBoundary text first → NextStartSkipsNoMatch tree text first next → Walks tree text first next
  walk-begins first None on n = next-none first on n
  walk-begins first (Some at) on n = record { same = next-some first at on n; boundary = n.0 }

  pub with-tried : (at to : ℕ) → NoMatchAt tree text at → NoMatchStartsBetween tree text (at + 1) to → NoMatchStartsBetween tree text at to
  with-tried at to vain none = λ x on le less. elim (cases_lt at x) [
    | inl past ↦ none x on (omega (arith, past)) less
    | inr within ↦ let same : at ≡ x = omega (arith, within, le) in subst (NoMatchAt tree text) same vain
  ]

  -- After a failed attempt, a search goes on from the next candidate, and less text is untried.
  pub walk-goes : (first at : ℕ) (next : Option ℕ) → GoesFrom tree text first at → NoMatchAt tree text at → NextStartSkipsNoMatch tree text (at + 1) next
      → Walks tree text first next × (untried text next < untried text (Some at))
  walk-goes first at None g vain n =
      let inside = boundary-inside at g.boundary in
      (g.same ∙ next-none at g.boundary (with-tried at (units text + 1) vain n), omega (arith, inside))
    where
      boundary-inside : (at : ℕ) → IsBoundary text at → at ≤ units text
      boundary-inside at on = let p = IsBoundary-place text at is on in let le = offset-le text p.0 (last_place text) is p.3 (omega arith) in omega (arith, le, p.2)
  walk-goes first at (Some to) g vain n =
      let p = IsBoundary-place text to is n.0 in
      let le = offset-le text p.0 (last_place text) is p.3 (omega arith) in
      let ahead = n.1 in (
        record { same = g.same ∙ next-some at to g.boundary (n.0, omega (arith, ahead), with-tried at to vain n.2); boundary = n.0 },
        omega (arith, ahead, le, p.2),
      )
