-- No match begins where the start predicate rejects the text, or after the text's start in an
-- anchored tree.
use Rattle.std.proofs.Common.{◌≡◌, ℕ, zero, suc, ◌+◌, ◌<◌, ◌≤◌, List, [], ◌∷◌, ◌++◌, length, map, flat_map, slice_get, Some, None, Bool, true, false, refl, ap, ap₂, sym, subst, arith, inl, inr}
use Rattle.std.proofs.lemmas.Bool.{cases_lt}
use Rattle.std.specs.Prelude.{option_map, option_and_then, IsTrue}
use Rattle.std.specs.List.{list_all}
use Rattle.regex_meaning.specs.Tree.{Node, alt, anchor, capture_group, cat, start_of_line, Tree}
use Rattle.regex_meaning.specs.Text.{Text, rightwards, last_place, is_scalar, character_before}
use Rattle.regex_meaning.specs.CodeUnitOffsets.{HasRisingPlaceOffsets, IsBoundary, place_at, offset, read, units}
use Rattle.regex_meaning.specs.Outcomes.{Groups, Outcome, captured, with_groups_cleared, empty_match_if, is_line_boundary, outcomes}
use Rattle.regex_meaning.specs.FirstAndAllMatches.{first_outcome, match_at, no_groups}
use Rattle.regex_meaning.specs.StartPredicate.{is_anchored, start_predicate, may_start}
use Rattle.regex_meaning.specs.WellFormedTrees.{is_well_formed}
use Rattle.regex_meaning.proofs.BoolLemmas.{and-left, and-right}
use Rattle.regex_meaning.proofs.CodeUnitOffsetsLemmas.{IsBoundary-place, offset-IsBoundary, offset-less, offset-le, place-less}
use Rattle.regex_meaning.proofs.StartPredicateLemmas.{predicate-holds}
use Rattle.regress_program.specs.CompilationOfTreesAsFunction.{compiled}
use Rattle.regress_program.specs.StartPredicates.{is_anchored_tree}
use Rattle.regress_search.specs.AttemptsAndStarts.{offset_after_failed_attempt, NextStartSkipsNoMatch, NoMatchAt, NoMatchStartsBetween, match_end_and_groups_at}
use Rattle.regress_search.proofs.FirstMatchLemmas.{vain-at, read-inside, read-end}

pub predicate-compiled : (tree : Tree) → (compiled tree).start_pred ≡ start_predicate tree
unfolding compiled
predicate-compiled tree = refl

-- ---- Anchored nodes

no-boundary : (text : Text) (p : ℕ) → 0 < p → p ≤ last_place text → is_line_boundary (character_before text p) false ≡ false
no-boundary text zero some within = absurd (omega (arith, some))
no-boundary text (suc p) some within = go text.characters p within
  where
    go : (cs : List ℕ) (i : ℕ) → suc i ≤ length cs → is_line_boundary (slice_get cs i) false ≡ false
    go [] i l = absurd (omega (arith, l))
    go (c ∷ cs) zero l = refl
    go (c ∷ cs) (suc i) l = go cs i (omega (arith, l))

-- An anchored node has no outcome behind the start of the text.
nothing-behind : (text : Text) (node : Node) → is_anchored node ≡ true → (p : ℕ) (groups : Groups) → 0 < p → p ≤ last_place text
    → outcomes text node rightwards p groups ≡ []
unfolding outcomes
nothing-behind text (anchor start_of_line false) h p groups some within =
    ap (λ holds. empty_match_if holds p groups) (no-boundary text p some within)
nothing-behind text (cat first rest) h p groups some within =
    ap (flat_map (λ o. outcomes text rest rightwards o.end o.groups)) (nothing-behind text first h p groups some within)
nothing-behind text (capture_group id name contents) h p groups some within =
    ap (map (captured id p)) (nothing-behind text contents h p (with_groups_cleared id 1 groups) some within)
nothing-behind text (alt left right) h p groups some within =
    ap₂ (λ (xs ys : List Outcome). xs ++ ys) (nothing-behind text left (and-left _ _ h) p groups some within) (nothing-behind text right (and-right _ _ h) p groups some within)
nothing-behind text _ h p groups some within = grind arith

module _ (tree : Tree) (text : Text) (is : HasRisingPlaceOffsets text) where
  -- No match begins at a place that the start predicate rejects.
  pub ruled-out : IsTrue (is_well_formed tree.root) → IsTrue (list_all is_scalar text.characters) → (at p : ℕ) → place_at text at ≡ Some p → p ≤ last_place text
      → (IsTrue (may_start (start_predicate tree) text p) → ⊥) → NoMatchAt tree text at
  ruled-out w scalars at p e inside out = vain-at tree text is at p e (by (outcomes text tree.root rightwards p (no_groups tree.root)) refl)
    where
      by : (os : List Outcome) → outcomes text tree.root rightwards p (no_groups tree.root) ≡ os → first_outcome p os ≡ None
      by [] e = refl
      by (o ∷ os) e = absurd (out (predicate-holds tree w text p scalars inside (λ none. cc)))

  -- In an anchored tree, no match begins behind an offset.
  pub anchored-behind : is_anchored_tree tree ≡ true → (at : ℕ) → NextStartSkipsNoMatch tree text (at + 1) None
  anchored-behind anchored at = λ x on le less.
      let p = IsBoundary-place text x is on in
      let some : 0 < p.0 = elim (cases_lt 0 p.0) [
        | inl some ↦ some
        | inr none ↦
            let here : p.0 ≡ 0 = omega (arith, none) in
            let place = ap (offset text) here in
            let first = is.from_zero in
            absurd (omega (arith, le, p.2, place, first))
      ] in
      let nothing = nothing-behind text tree.root (and-right _ _ anchored) p.0 (no_groups tree.root) some p.3 in
      vain-at tree text is x p.0 p.1 (ap (first_outcome p.0) nothing)

  -- No match is skipped between an offset and the one behind the next character.
  pub one-on : (at : ℕ) → IsBoundary text at → NextStartSkipsNoMatch tree text (at + 1) (option_map (λ (r : ℕ × ℕ). r.1) (read text rightwards at))
  one-on at on =
      let p = IsBoundary-place text at is on in
      subst (λ x. NextStartSkipsNoMatch tree text (at + 1) (option_map (λ (r : ℕ × ℕ). r.1) (read text rightwards x))) p.2 (elim (cases_lt (last_place text) (p.0 + 1)) [
        | inl past ↦
            let end = read-end tree text is p.0 p.3 (omega (arith, past)) in
            subst (λ o. NextStartSkipsNoMatch tree text (at + 1) (option_map (λ (r : ℕ × ℕ). r.1) o)) (sym end) (λ x here le less.
            let q = IsBoundary-place text x is here in
            let rising = offset-le text q.0 p.0 is (let i = q.3 in omega (arith, past, i)) p.3 in
            absurd (omega (arith, rising, le, p.2, q.2)))
        | inr within ↦
            let next = read-inside tree text is p.0 (omega (arith, within)) in
            let rises = offset-less text p.0 (p.0 + 1) is (omega arith) within in
            subst (λ o. NextStartSkipsNoMatch tree text (at + 1) (option_map (λ (r : ℕ × ℕ). r.1) o)) (sym next.1) (
              offset-IsBoundary text (p.0 + 1) is within,
              omega (arith, rises, p.2),
              λ x here le less.
                  let q = IsBoundary-place text x is here in
                  let after = place-less text p.0 q.0 is p.3 q.3 (omega (arith, p.2, q.2, le)) in
                  let before = place-less text q.0 (p.0 + 1) is q.3 within (omega (arith, q.2, less)) in
                  absurd (omega (arith, after, before)),
            )
      ])

  -- The offset after a failed attempt skips no match, in an anchored tree and in another one.
  pub tried-behind : (at : ℕ) (anchored : Bool) → (anchored ≡ true → NextStartSkipsNoMatch tree text (at + 1) None) → IsBoundary text at → NextStartSkipsNoMatch tree text (at + 1) (offset_after_failed_attempt anchored text at)
  tried-behind at true none on = none refl
  tried-behind at false none on = one-on at on
