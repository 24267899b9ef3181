-- The match at an offset is the first match from that offset, if the first match starts there.
use Rattle.std.proofs.Common.{◌≡◌, ℕ, ◌+◌, List, [], ◌∷◌, Option, Some, None, refl, ap, sym, ◌∙◌, arith, eq-eqb}
use Rattle.std.specs.Prelude.{◌==◌, if◌then◌else◌, option_map, option_and_then}
use Rattle.std.specs.Option.{option_or}
use Rattle.std.proofs.lemmas.Bool.{ne_eqb}
use Rattle.regex_meaning.specs.Tree.{Node}
use Rattle.regex_meaning.specs.Text.{Text, rightwards}
use Rattle.regex_meaning.specs.CodeUnitOffsets.{HasRisingPlaceOffsets, offset, place_at}
use Rattle.regex_meaning.specs.Outcomes.{Outcome, outcomes}
use Rattle.regex_meaning.specs.FirstAndAllMatches.{Found, first_outcome, first_match, match_at, no_groups}
use Rattle.regex_meaning.specs.MatchGroupsByNumberAndName.{Answer, answer}
use Rattle.regex_meaning.specs.Laws.{MatchAtIsFirstAnswerIfThere}
use Rattle.regex_meaning.proofs.FirstAndAllMatchesLemmas.{StandsFrom, first-unfolds, stands-first}
use Rattle.regex_meaning.proofs.CodeUnitOffsetsLemmas.{offset-less, offset-place_at}

-- This is the answer if it begins at the offset, and nothing otherwise.
abbrev beginning_at : (at : ℕ) → Answer → Option Answer
beginning_at at m = if m.range.0 == at then Some m else None

module _ (root : Node) (text : Text) (is : HasRisingPlaceOffsets text) where
  -- The answer of a match that starts at the place begins at its offset.
  same-start : (at p : ℕ) (m : Found) → offset text p ≡ at → m.start ≡ p → beginning_at at (answer root text m) ≡ Some (answer root text m)
  same-start at p m here start =
      ap (λ b. if b then Some (answer root text m) else None) (eq-eqb (offset text m.start) at (ap (offset text) start ∙ here))

  -- The answer of a match that starts after the place does not begin at its offset.
  later-start : (at p : ℕ) (m : Option Found) → offset text p ≡ at → StandsFrom root text (p + 1) m
      → None ≡ option_and_then (beginning_at at) (option_map (answer root text) m)
  later-start at p None here stands = refl
  later-start at p (Some m) here stands =
      let less = offset-less text p m.start is (omega (arith, stands.0)) (omega (arith, stands.1, stands.2)) in
      ap (λ b. if b then Some (answer root text m) else None) (sym (ne_eqb (offset text m.start) at (λ e. omega (arith, less, e, here))))

  -- An answer at the offset comes from the outcomes at the place and not from a later match.
  of-outcomes : (at p : ℕ) (os : List Outcome) (later : Option Found) → offset text p ≡ at → StandsFrom root text (p + 1) later
      → option_map (answer root text) (first_outcome p os) ≡ option_and_then (beginning_at at) (option_map (answer root text) (option_or (first_outcome p os) later))
  of-outcomes at p [] later here stands = later-start at p later here stands
  of-outcomes at p (o ∷ os) later here stands = sym (same-start at p _ here refl)

  at-place : (at : ℕ) (place : Option ℕ) → place_at text at ≡ place
      → option_map (answer root text) (option_and_then (match_at root text) place)
      ≡ option_and_then (beginning_at at) (option_map (answer root text) (option_and_then (first_match root text) place))
  at-place at None e = refl
  at-place at (Some p) e =
      let here = offset-place_at text at p is e in
      of-outcomes at p (outcomes text root rightwards p (no_groups root)) (first_match root text (p + 1)) here.0 (stands-first root text (p + 1))
      ∙ ap (λ m. option_and_then (beginning_at at) (option_map (answer root text) m)) (sym (first-unfolds root text p here.1))

pub matches_at-first : MatchAtIsFirstAnswerIfThere
matches_at-first root text is at = at-place root text is at (place_at text at) refl
