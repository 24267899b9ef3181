-- A search from an offset finds the first match at or after it and continues at a boundary ahead.
use Rattle.std.proofs.Common.{◌≡◌, ℕ, ◌<◌, ◌≤◌, List, ◌∷◌, map, Option, Some, None, refl, ap, ◌∙◌, arith, option_map, option_and_then}
use Rattle.regex_meaning.specs.Tree.{Node}
use Rattle.regex_meaning.specs.Text.{Text, last_place}
use Rattle.regex_meaning.specs.CodeUnitOffsets.{HasRisingPlaceOffsets, offset, place_at, IsBoundary}
use Rattle.regex_meaning.specs.FirstAndAllMatches.{Found, first_match, place_after_match, match_list}
use Rattle.regex_meaning.specs.MatchGroupsByNumberAndName.{Answer, answer, answers_from}
use Rattle.regex_meaning.specs.SearchAnswers.{first_answer, next_start, answers_on, answer_then_list}
use Rattle.regex_meaning.specs.Laws.{matches_from_optional, match_then_list, IsRangeOfWholeCharacters}
use Rattle.regex_meaning.proofs.FirstAndAllMatchesLemmas.{StandsFrom, stands-first, match_list-unfolds, GoesOnInside, goes-inside}
use Rattle.regex_meaning.proofs.CodeUnitOffsetsLemmas.{offset-less, offset-le, place_at-offset, offset-place_at, offset-IsBoundary}

module _ (root : Node) (text : Text) (is : HasRisingPlaceOffsets text) where
  -- The answers from the offset of a place are the answers of the matches from the place.
  answers-at : (p : ℕ) → p ≤ last_place text → answers_from root text (offset text p) ≡ map (answer root text) (match_list root text p)
  unfolding answers_from
  answers-at p inside = rw (place_at-offset text p is inside) refl

  answers-on : (place : ℕ) (next : Option ℕ) → GoesOnInside root text place next
      → map (answer root text) (matches_from_optional root text next) ≡ answers_on root text (option_map (offset text) next)
  answers-on place None h = refl
  answers-on place (Some next) h = rw (answers-at next h.1) refl

  answers-then : (place : ℕ) (m : Option Found) → StandsFrom root text place m
      → map (answer root text) (match_then_list root text m)
      ≡ answer_then_list root text (option_map (answer root text) m) (option_map (offset text) (option_and_then (place_after_match root text) m))
  answers-then place None h = refl
  answers-then place (Some m) h =
      ap (λ (ms : List Answer). answer root text m ∷ ms) (answers-on place (place_after_match root text m) (goes-inside root text place m h))

  -- This is the first match from the place, if there is a place.
  abbrev found-at : Option ℕ → Option Found
  found-at at = option_and_then (first_match root text) at

  from-place : (start : ℕ) (at : Option ℕ) → place_at text start ≡ at
      → answers_from root text start
      ≡ answer_then_list root text (option_map (answer root text) (found-at at)) (option_map (offset text) (option_and_then (place_after_match root text) (found-at at)))
  unfolding answers_from
  from-place start None e = rw e refl
  from-place start (Some p) e =
      rw e (ap (map (answer root text)) (match_list-unfolds root text p) ∙ answers-then p (first_match root text p) (stands-first root text p))

  pub answers-go_on : (start : ℕ)
      → answers_from root text start ≡ answer_then_list root text (first_answer root text start) (next_start root text start)
  answers-go_on start = from-place start (place_at text start) refl

  -- ---- Where the list goes on

  next-of : (start p next : ℕ) → offset text p ≡ start → p ≤ last_place text → (behind : Option ℕ) → GoesOnInside root text p behind
      → option_map (offset text) behind ≡ Some next → (start < next) × IsBoundary text next
  next-of start p next at inside None g e = absurd (cc e)
  next-of start p next at inside (Some q) g e =
      let same : offset text q ≡ next = cc e in
      let less = offset-less text p q is g.0 g.1 in
      let at_q = offset-IsBoundary text q is g.1 in
      (omega arith, rw (← same) at_q)

  next-found : (start p next : ℕ) → offset text p ≡ start → p ≤ last_place text → (m : Option Found) → StandsFrom root text p m
      → option_map (offset text) (option_and_then (place_after_match root text) m) ≡ Some next → (start < next) × IsBoundary text next
  next-found start p next at inside None h e = absurd (cc e)
  next-found start p next at inside (Some m) h e = next-of start p next at inside (place_after_match root text m) (goes-inside root text p m h) e

  next-from : (start next : ℕ) (at : Option ℕ) → place_at text start ≡ at
      → option_map (offset text) (option_and_then (place_after_match root text) (found-at at)) ≡ Some next → (start < next) × IsBoundary text next
  next-from start next None e n = absurd (cc n)
  next-from start next (Some p) e n =
      let o = offset-place_at text start p is e in
      next-found start p next o.0 o.1 (first_match root text p) (stands-first root text p) n

  pub next_start-ahead : (start next : ℕ) → next_start root text start ≡ Some next → (start < next) × IsBoundary text next
  next_start-ahead start next e = next-from start next (place_at text start) refl e

  -- ---- The first answer

  answer-found : (start p : ℕ) (a : Answer) → offset text p ≡ start → p ≤ last_place text → (m : Option Found) → StandsFrom root text p m
      → option_map (answer root text) m ≡ Some a → (start ≤ a.range.0) × IsRangeOfWholeCharacters text a.range
  answer-found start p a at inside None h e = absurd (cc e)
  answer-found start p a at inside (Some m) h e =
      let same : answer root text m ≡ a = cc e in
      let first = offset-le text p m.start is h.0 (omega arith) in
      let last = offset-le text m.start m.end is h.1 h.2 in
      let from = offset-IsBoundary text m.start is (omega arith) in
      let to = offset-IsBoundary text m.end is h.2 in
      rw (← same) (omega arith, (last, from, to))

  answer-from : (start : ℕ) (a : Answer) (at : Option ℕ) → place_at text start ≡ at
      → option_map (answer root text) (found-at at) ≡ Some a → (start ≤ a.range.0) × IsRangeOfWholeCharacters text a.range
  answer-from start a None e n = absurd (cc n)
  answer-from start a (Some p) e n =
      let o = offset-place_at text start p is e in
      answer-found start p a o.0 o.1 (first_match root text p) (stands-first root text p) n

  pub first_answer-stands : (start : ℕ) (a : Answer) → first_answer root text start ≡ Some a → (start ≤ a.range.0) × IsRangeOfWholeCharacters text a.range
  first_answer-stands start a e = answer-from start a (place_at text start) refl e
