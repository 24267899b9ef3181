-- Matches are disjoint, in ascending order and within the text.
use Rattle.std.proofs.Common.{◌≡◌, ℕ, zero, suc, ◌+◌, ◌-◌, ◌<◌, ◌≤◌, List, [], ◌∷◌, ◌++◌, length, map, min, max, Option, Some, None, refl, sym, ap, ◌∙◌, arith, le_refl, option_map, option_and_then}
use Rattle.std.proofs.Common.{IfSome, lt-ltb}
use Rattle.std.specs.Prelude.{if◌then◌else◌, nat_lt}
use Rattle.std.specs.Option.{option_or}
use Rattle.std.proofs.lemmas.List.{length-set, length-replicate, length-map, length-append}
use Rattle.regex_meaning.specs.Tree.{Node, group_ids}
use Rattle.regex_meaning.specs.Text.{Text, Direction, rightwards, leftwards, last_place}
use Rattle.regex_meaning.specs.CodeUnitOffsets.{HasRisingPlaceOffsets, offset, place_at}
use Rattle.regex_meaning.specs.Outcomes.{Groups, Outcome, outcomes}
use Rattle.regex_meaning.specs.FirstAndAllMatches.{Found, no_groups, first_outcome, match_at, first_match, first_match_among, place_after_match, matches_from, match_list}
use Rattle.regex_meaning.specs.MatchGroupsByNumberAndName.{Answer, answer, answers_from}
use Rattle.regex_meaning.specs.SearchAnswers.{first_answer, next_start, answers_on, answer_then_list}
use Rattle.regex_meaning.specs.Laws.{IsAtOrAheadInDirection, IsWithinText, IsRangeOfWholeCharacters, IsWellFormedAnswerFor, AreAscendingDisjointAnswersFrom}
use Rattle.regex_meaning.proofs.EachElementLemmas.{Each, Each-map, Each-image, Each-set, Each-replicate}
use Rattle.regex_meaning.proofs.FirstAndAllMatchesLemmas.{StandsFrom, stands-first, if-cases}
use Rattle.regex_meaning.proofs.OutcomeInvariantLemmas.{AreKept, outcomes-states}
use Rattle.regex_meaning.proofs.CodeUnitOffsetsLemmas.{offset-less, offset-le, place-less, offset-place_at, offset-IsBoundary}
use Rattle.regex_meaning.proofs.SearchAnswersLemmas.{answers-go_on}
use Rattle.std.proofs.lemmas.Bool.{ltb-true}

-- ---- Facts that outcomes keep

module _ (text : Text) where
  count-kept : (n : ℕ) → AreKept text (λ place. Unit {0}) (λ groups. length groups ≡ n)
  count-kept n = record {
    onward = λ d a b on p. tt;
    with_groups_cleared = λ id groups e. length-set groups id None ∙ e;
    set = λ id a b groups p q e. length-set groups id (Some (min a b, max a b)) ∙ e;
  }

  pub outcomes-count : (node : Node) (d : Direction) (place : ℕ) (groups : Groups)
      → Each (λ o. length o.groups ≡ length groups) (outcomes text node d place groups)
  outcomes-count node d place groups =
      Each-map _ _ (λ o s. s.1) (outcomes text node d place groups)
      (outcomes-states text (λ p. Unit {0}) (λ g. length g ≡ length groups) (count-kept (length groups)) node d place groups tt refl)

  inside-onward : (d : Direction) (a b : ℕ) → IsAtOrAheadInDirection text d a b → a ≤ last_place text → b ≤ last_place text
  inside-onward rightwards a b on h = omega arith
  inside-onward leftwards a b on h = omega arith

  inside-kept : AreKept text (λ place. place ≤ last_place text) (λ groups. Each (IsWithinText text) groups)
  inside-kept = record {
    onward = inside-onward;
    with_groups_cleared = λ id groups h. Each-set (IsWithinText text) groups id None h tt;
    set = λ id a b groups p q h. Each-set (IsWithinText text) groups id (Some (min a b, max a b)) h (omega arith, omega arith);
  }

  pub outcomes-inside : (node : Node) (d : Direction) (place : ℕ) (groups : Groups) → place ≤ last_place text → Each (IsWithinText text) groups
      → Each (λ o. (o.end ≤ last_place text) × Each (IsWithinText text) o.groups) (outcomes text node d place groups)
  outcomes-inside = outcomes-states text (λ place. place ≤ last_place text) (λ groups. Each (IsWithinText text) groups) inside-kept

-- ---- Matches

module _ (root : Node) (text : Text) where
  -- The groups are as many as the groups of the tree, and each is within the text.
  abbrev pub HasGroups : Groups → Type 0
  HasGroups groups = (length groups ≡ length (group_ids root)) × Each (IsWithinText text) groups

  abbrev HasFound : Option Found → Type 0
  HasFound None = Unit {0}
  HasFound (Some m) = HasGroups m.groups

  found-first_of : (place : ℕ) (os : List Outcome) → Each (λ o. HasGroups o.groups) os → HasFound (first_outcome place os)
  found-first_of place [] h = tt
  found-first_of place (o ∷ os) h = h.0

  both-each : {A : Type 0} (P Q : A → Type 0) (xs : List A) → Each P xs → Each Q xs → Each (λ x. P x × Q x) xs
  both-each P Q [] h k = tt
  both-each P Q (x ∷ xs) h k = ((h.0, k.0), both-each P Q xs h.1 k.1)

  outcomes-groups : (place : ℕ) → place ≤ last_place text → Each (λ o. HasGroups o.groups) (outcomes text root rightwards place (no_groups root))
  outcomes-groups place inside =
      let os = outcomes text root rightwards place (no_groups root) in
      let n : length (no_groups root) ≡ length (group_ids root) = length-replicate (length (group_ids root)) None in
      both-each (λ (o : Outcome). length o.groups ≡ length (group_ids root)) (λ (o : Outcome). Each (IsWithinText text) o.groups) os
      (Each-map _ _ (λ o e. e ∙ n) os (outcomes-count text root rightwards place (no_groups root)))
      (Each-map _ _ (λ o h. h.1) os (outcomes-inside text root rightwards place (no_groups root) inside (Each-replicate (IsWithinText text) _ None tt)))

  found-or : (m n : Option Found) → HasFound m → HasFound n → HasFound (option_or m n)
  found-or None n h k = k
  found-or (Some m) n h k = h

  found-among : (places place : ℕ) → places ≤ last_place text + 1 - place → HasFound (first_match_among root text places place)
  unfolding first_match_among
  found-among zero place h = tt
  found-among (suc places) place h =
      found-or (match_at root text place) (first_match_among root text places (place + 1))
      (found-first_of place _ (outcomes-groups place (omega arith))) (found-among places (place + 1) (omega arith))

  found-first : (place : ℕ) → HasFound (first_match root text place)
  found-first place = found-among (last_place text + 1 - place) place (omega arith)

  -- The matches are in order, and each is within the text and has the groups of the tree.
  abbrev pub InOrder : (from : ℕ) → List Found → Type 0
  InOrder from [] = Unit {0}
  InOrder from (m ∷ ms) =
      (from ≤ m.start) × (m.start ≤ m.end) × (m.end ≤ last_place text) × HasGroups m.groups × InOrder (max (m.start + 1) m.end) ms

  order-lower : (low from : ℕ) (ms : List Found) → low ≤ from → InOrder from ms → InOrder low ms
  order-lower low from [] le h = tt
  order-lower low from (m ∷ ms) le h = (omega arith, h.1, h.2, h.3, h.4)

  -- The next place, if there is one, is after the start and not before the end of the match.
  abbrev GoesBehind : Found → Option ℕ → Type 0
  GoesBehind m None = Unit {0}
  GoesBehind m (Some next) = (m.start < next) × (m.end ≤ next)

  goes-behind : (m : Found) → m.start ≤ m.end → GoesBehind m (place_after_match root text m)
  goes-behind m h =
      if-cases (GoesBehind m) (nat_lt m.start m.end) (Some m.end) (if nat_lt m.end (last_place text) then Some (m.end + 1) else None)
      (λ e. let less = ltb-true m.start m.end e in (less, le_refl m.end))
      (λ e. if-cases (GoesBehind m) (nat_lt m.end (last_place text)) (Some (m.end + 1)) None (λ f. (omega arith, omega arith)) (λ f. tt))

  order-behind : (count : ℕ) (m : Found)
      → ((place : ℕ) (n : Option Found) → StandsFrom root text place n → HasFound n → InOrder place (matches_from root text count n))
      → (next : Option ℕ) → GoesBehind m next
      → InOrder (max (m.start + 1) m.end) (matches_from root text count (option_and_then (first_match root text) next))
  order-behind count m more None b = more (max (m.start + 1) m.end) None tt tt
  order-behind count m more (Some next) b =
      order-lower (max (m.start + 1) m.end) next _ (omega arith)
      (more next (first_match root text next) (stands-first root text next) (found-first next))

  order-from : (count place : ℕ) (m : Option Found) → StandsFrom root text place m → HasFound m → InOrder place (matches_from root text count m)
  unfolding matches_from
  order-from zero place m h g = tt
  order-from (suc count) place None h g = tt
  order-from (suc count) place (Some m) h g =
      (h.0, h.1, h.2, g, order-behind count m (order-from count) (place_after_match root text m) (goes-behind m h.1))

  pub match_list-order : (place : ℕ) → InOrder place (match_list root text place)
  unfolding match_list
  match_list-order place =
      order-from (last_place text + 1) place (first_match root text place) (stands-first root text place) (found-first place)

  few : (from : ℕ) (ms : List Found) → InOrder from ms → length ms ≤ last_place text + 1 - from
  few from [] h = omega arith
  few from (m ∷ ms) h = let less = few (max (m.start + 1) m.end) ms h.4 in omega arith

-- ---- Answers

module _ (root : Node) (text : Text) (is : HasRisingPlaceOffsets text) where
  -- A range of places is a range of characters.
  range-IsRangeOfWholeCharacters : (a b : ℕ) → a ≤ b → b ≤ last_place text → IsRangeOfWholeCharacters text (offset text a, offset text b)
  range-IsRangeOfWholeCharacters a b le inside =
      (offset-le text a b is le inside, offset-IsBoundary text a is (omega arith), offset-IsBoundary text b is inside)

  group-IsRangeOfWholeCharacters : (g : Option (ℕ × ℕ)) → IsWithinText text g → IfSome (option_map (λ (r : ℕ × ℕ). (offset text r.0, offset text r.1)) g) (IsRangeOfWholeCharacters text)
  group-IsRangeOfWholeCharacters None h = tt
  group-IsRangeOfWholeCharacters (Some r) h = range-IsRangeOfWholeCharacters r.0 r.1 h.0 h.1

  answer-IsWellFormedAnswerFor : (m : Found) → m.start ≤ m.end → m.end ≤ last_place text → HasGroups root text m.groups
      → IsWellFormedAnswerFor root text (answer root text m)
  answer-IsWellFormedAnswerFor m le inside g = record {
    whole = range-IsRangeOfWholeCharacters m.start m.end le inside;
    groups = Each-image (IsWithinText text) (λ c. IfSome c (IsRangeOfWholeCharacters text)) (option_map (λ r. (offset text r.0, offset text r.1))) group-IsRangeOfWholeCharacters m.groups g.1;
    count = length-map m.groups (option_map (λ r. (offset text r.0, offset text r.1))) ∙ g.0;
  }

  answers-are : (from : ℕ) (ms : List Found) → InOrder root text from ms → Each (IsWellFormedAnswerFor root text) (map (answer root text) ms)
  answers-are from [] h = tt
  answers-are from (m ∷ ms) h = (answer-IsWellFormedAnswerFor m h.1 h.2 h.3, answers-are (max (m.start + 1) m.end) ms h.4)

  answers-in_order : (from low : ℕ) (ms : List Found) → InOrder root text from ms
      → ((p : ℕ) → from ≤ p → p ≤ last_place text → low ≤ offset text p) → AreAscendingDisjointAnswersFrom low (map (answer root text) ms)
  answers-in_order from low [] h up = tt
  answers-in_order from low (m ∷ ms) h up = (
    up m.start h.0 (omega arith),
    offset-le text m.start m.end is h.1 h.2,
    answers-in_order (max (m.start + 1) m.end) (max (offset text m.start + 1) (offset text m.end)) ms h.4 (λ p le inside.
        let behind = offset-less text m.start p is (omega arith) inside in
        let past = offset-le text m.end p is (omega arith) inside in
        omega arith),
  )

  -- What holds of no answers and of those of each match list holds of the answers from an offset.
  from-lists : (P : List Answer → Type 0) → P [] → (start : ℕ)
      → ((p : ℕ) → offset text p ≡ start → p ≤ last_place text → P (map (answer root text) (match_list root text p)))
      → (at : Option ℕ) → place_at text start ≡ at → P (answers_from root text start)
  unfolding answers_from
  from-lists P none start some None e = rw e none
  from-lists P none start some (Some p) e = let o = offset-place_at text start p is e in rw e (some p o.0 o.1)

  pub answers-IsWellFormedAnswerFor : (start : ℕ) → Each (IsWellFormedAnswerFor root text) (answers_from root text start)
  answers-IsWellFormedAnswerFor start =
      from-lists (λ ms. Each (IsWellFormedAnswerFor root text) ms) tt start
      (λ p o inside. answers-are p (match_list root text p) (match_list-order root text p)) (place_at text start) refl

  pub answers-StandInOrder : (start : ℕ) → AreAscendingDisjointAnswersFrom start (answers_from root text start)
  answers-StandInOrder start =
      from-lists (λ ms. AreAscendingDisjointAnswersFrom start ms) tt start
      (λ p o inside. answers-in_order p start (match_list root text p) (match_list-order root text p)
      (λ q le at_q. let l = offset-le text p q is le at_q in omega arith)) (place_at text start) refl

  pub answers-few : (start place : ℕ) → place_at text start ≡ Some place
      → length (answers_from root text start) ≤ last_place text - place + 1
  unfolding answers_from
  answers-few start place e =
      let o = offset-place_at text start place is e in
      let n = few root text place (match_list root text place) (match_list-order root text place) in
      rw (e, length-map {A = Found}) (omega arith)

  -- ---- The list from the end of a match

  resume-behind : (p : ℕ) (a : Answer) (m : Option Found) → StandsFrom root text p m → option_map (answer root text) m ≡ Some a
      → a.range.0 < a.range.1 → option_map (offset text) (option_and_then (place_after_match root text) m) ≡ Some a.range.1
  resume-behind p a None h e less = absurd (cc e)
  resume-behind p a (Some m) h e less =
      let same : answer root text m ≡ a = cc e in
      let from : offset text m.start ≡ a.range.0 = ap (λ (x : Answer). x.range.0) same in
      let to : offset text m.end ≡ a.range.1 = ap (λ (x : Answer). x.range.1) same in
      let moves = place-less text m.start m.end is (omega arith) h.2 (omega arith) in
      rw (lt-ltb m.start m.end moves) (ap Some to)

  resume-from : (a : Answer) (at : Option ℕ) → option_map (answer root text) (option_and_then (first_match root text) at) ≡ Some a
      → a.range.0 < a.range.1
      → option_map (offset text) (option_and_then (place_after_match root text) (option_and_then (first_match root text) at)) ≡ Some a.range.1
  resume-from a None e less = absurd (cc e)
  resume-from a (Some p) e less = resume-behind p a (first_match root text p) (stands-first root text p) e less

  -- After a match that is not empty, the next start is the end of the match.
  pub next_start-moved : (start : ℕ) (a : Answer) → first_answer root text start ≡ Some a → a.range.0 < a.range.1
      → next_start root text start ≡ Some a.range.1
  next_start-moved start a e less = resume-from a (place_at text start) e less

  resume-first : (m : Answer) (after : List Answer) (start : ℕ) (a : Option Answer) → first_answer root text start ≡ a
      → answer_then_list root text a (next_start root text start) ≡ m ∷ after → m.range.0 < m.range.1 → answers_from root text m.range.1 ≡ after
  resume-first m after start None first e less = absurd (cc e)
  resume-first m after start (Some a) first e less =
      let same : a ≡ m = cc e in
      let rest : answers_on root text (next_start root text start) ≡ after = cc e in
      let moved = next_start-moved start m (first ∙ ap Some same) less in
      rw moved at rest

  resume-later : (before : List Answer) (m : Answer) (after : List Answer) (b : Answer)
      → ((start : ℕ) → answers_from root text start ≡ before ++ m ∷ after → answers_from root text m.range.1 ≡ after)
      → (a : Option Answer) (next : Option ℕ) → answer_then_list root text a next ≡ b ∷ (before ++ m ∷ after) → answers_from root text m.range.1 ≡ after
  resume-later before m after b again None next e = absurd (cc e)
  resume-later before m after b again (Some a) None e =
      let n = ap length e in
      let more = length-append before (m ∷ after) in absurd (omega arith)
  resume-later before m after b again (Some a) (Some start) e = again start (cc e)

  pub answers-resume : (before : List Answer) (m : Answer) (after : List Answer) (start : ℕ)
      → answers_from root text start ≡ before ++ m ∷ after → m.range.0 < m.range.1 → answers_from root text m.range.1 ≡ after
  answers-resume [] m after start e less =
      resume-first m after start (first_answer root text start) refl (sym (answers-go_on root text is start) ∙ e) less
  answers-resume (b ∷ before) m after start e less =
      resume-later before m after b (λ s f. answers-resume before m after s f less)
      (first_answer root text start) (next_start root text start) (sym (answers-go_on root text is start) ∙ e)
