-- The first match and the list of all matches satisfy recursive equations over the positions.
use Rattle.std.proofs.Common.{◌≡◌, ℕ, zero, suc, ◌+◌, ◌-◌, ◌<◌, ◌≤◌, Bool, true, false, List, [], ◌∷◌, Option, Some, None, refl, ap, ◌∙◌, arith, add-one}
use Rattle.std.specs.Prelude.{if◌then◌else◌, nat_lt, option_and_then}
use Rattle.std.specs.Option.{option_or}
use Rattle.regex_meaning.specs.Laws.{Each, IsAtOrAheadInDirection, matches_from_optional, match_then_list}
use Rattle.regex_meaning.specs.Tree.{Node}
use Rattle.regex_meaning.specs.Text.{Text, rightwards, last_place}
use Rattle.regex_meaning.specs.Outcomes.{Outcome}
use Rattle.regex_meaning.specs.FirstAndAllMatches.{Found, no_groups, first_outcome, match_at, first_match, first_match_among, place_after_match, matches_from, match_list}
use Rattle.regex_meaning.proofs.OutcomeDirectionLemmas.{outcomes-onward}
use Rattle.std.proofs.lemmas.Bool.{ltb-true}

-- What holds in each branch under the answer of the test holds of the whole conditional.
pub if-cases : {A : Type 0} (P : A → Type 0) (b : Bool) (x y : A) → (b ≡ true → P x) → (b ≡ false → P y) → P (if b then x else y)
if-cases P true x y h k = h refl
if-cases P false x y h k = k refl

module _ (root : Node) (text : Text) where
  -- A match, if there is one, starts at or after the place and ends within the text.
  abbrev pub StandsFrom : ℕ → Option Found → Type 0
  StandsFrom place None = Unit {0}
  StandsFrom place (Some m) = (place ≤ m.start) × (m.start ≤ m.end) × (m.end ≤ last_place text)

  stands-first_of : (place : ℕ) (os : List Outcome) → place ≤ last_place text → Each (λ o. IsAtOrAheadInDirection text rightwards place o.end) os
      → StandsFrom place (first_outcome place os)
  stands-first_of place [] h on = tt
  stands-first_of place (o ∷ os) h on = (omega arith, omega arith, omega arith)

  stands-later : (place : ℕ) (m : Option Found) → StandsFrom (place + 1) m → StandsFrom place m
  stands-later place None h = tt
  stands-later place (Some m) h = (omega arith, h.1, h.2)

  stands-or : (place : ℕ) (m n : Option Found) → StandsFrom place m → StandsFrom place n → StandsFrom place (option_or m n)
  stands-or place None n h k = k
  stands-or place (Some m) n h k = h

  stands-among : (places place : ℕ) → places ≤ last_place text + 1 - place → StandsFrom place (first_match_among root text places place)
  unfolding first_match_among
  stands-among zero place h = tt
  stands-among (suc places) place h =
      stands-or place (match_at root text place) (first_match_among root text places (place + 1))
      (stands-first_of place _ (omega arith) (outcomes-onward text root rightwards place (no_groups root)))
      (stands-later place _ (stands-among places (place + 1) (omega arith)))

  pub stands-first : (place : ℕ) → StandsFrom place (first_match root text place)
  stands-first place = stands-among (last_place text + 1 - place) place (omega arith)

  pub first-unfolds : (place : ℕ) → place ≤ last_place text
      → first_match root text place ≡ option_or (match_at root text place) (first_match root text (place + 1))
  unfolding first_match_among
  first-unfolds place h =
      let more : last_place text + 1 - place ≡ suc (last_place text + 1 - (place + 1)) = omega arith in rw more refl

  pub first-past : (place : ℕ) → last_place text < place → first_match root text place ≡ None
  unfolding first_match_among
  first-past place h = let none : last_place text + 1 - place ≡ 0 = omega arith in rw none refl

  -- The next place, if there is one, is after the place.
  abbrev GoesOn : ℕ → Option ℕ → Type 0
  GoesOn place None = Unit {0}
  GoesOn place (Some next) = place < next

  goes-behind : (place : ℕ) (m : Found) → StandsFrom place (Some m) → GoesOn place (place_after_match root text m)
  goes-behind place m h =
      if-cases (GoesOn place) (nat_lt m.start m.end) (Some m.end) (if nat_lt m.end (last_place text) then Some (m.end + 1) else None)
      (λ e. let less = ltb-true m.start m.end e in omega arith)
      (λ e. if-cases (GoesOn place) (nat_lt m.end (last_place text)) (Some (m.end + 1)) None (λ f. omega arith) (λ f. tt))

  -- The next place, if there is one, is after the place and within the text.
  abbrev pub GoesOnInside : ℕ → Option ℕ → Type 0
  GoesOnInside place None = Unit {0}
  GoesOnInside place (Some next) = (place < next) × (next ≤ last_place text)

  pub goes-inside : (place : ℕ) (m : Found) → StandsFrom place (Some m) → GoesOnInside place (place_after_match root text m)
  goes-inside place m h =
      if-cases (GoesOnInside place) (nat_lt m.start m.end) (Some m.end) (if nat_lt m.end (last_place text) then Some (m.end + 1) else None)
      (λ e. let less = ltb-true m.start m.end e in (omega arith, omega arith))
      (λ e. if-cases (GoesOnInside place) (nat_lt m.end (last_place text)) (Some (m.end + 1)) None
      (λ f. let less = ltb-true m.end (last_place text) f in (omega arith, omega arith)) (λ f. tt))

  none-left : (count : ℕ) → matches_from root text count None ≡ []
  unfolding matches_from
  none-left zero = refl
  none-left (suc count) = refl

  -- A search from a place past the right end has no matches.
  none-past : (place : ℕ) (count : ℕ) → last_place text + 1 - place ≤ 0 → matches_from root text count (first_match root text place) ≡ []
  unfolding first_match_among
  none-past place count h = let e : last_place text + 1 - place ≡ 0 = omega arith in rw e (none-left count)

  same-behind : (place a b : ℕ)
      → ((next : ℕ) → place < next → matches_from root text a (first_match root text next) ≡ matches_from root text b (first_match root text next))
      → (next : Option ℕ) → GoesOn place next
      → matches_from root text a (option_and_then (first_match root text) next) ≡ matches_from root text b (option_and_then (first_match root text) next)
  same-behind place a b h None g = rw (none-left a, none-left b)
  same-behind place a b h (Some next) g = h next g

  same-list : (place a b : ℕ)
      → ((next : ℕ) → place < next → matches_from root text a (first_match root text next) ≡ matches_from root text b (first_match root text next))
      → (m : Option Found) → StandsFrom place m → matches_from root text (suc a) m ≡ matches_from root text (suc b) m
  unfolding matches_from
  same-list place a b h None s = refl
  same-list place a b h (Some m) s =
      ap (λ (ms : List Found). m ∷ ms) (same-behind place a b h (place_after_match root text m) (goes-behind place m s))

  enough : (a b place : ℕ) → last_place text + 1 - place ≤ a → last_place text + 1 - place ≤ b
      → matches_from root text a (first_match root text place) ≡ matches_from root text b (first_match root text place)
  enough zero b place h k = rw (none-past place zero h, none-past place b h)
  enough (suc a) zero place h k = rw (none-past place (suc a) k, none-past place zero k)
  enough (suc a) (suc b) place h k =
      same-list place a b (λ next less. enough a b next (omega arith) (omega arith)) (first_match root text place) (stands-first place)

  unfolds : (place : ℕ) (m : Option Found) → StandsFrom place m
      → matches_from root text (suc (last_place text)) m ≡ match_then_list root text m
  unfolding matches_from match_list
  unfolds place None s = refl
  unfolds place (Some m) s = ap (λ (ms : List Found). m ∷ ms) (go (place_after_match root text m) (goes-behind place m s))
    where
      go : (next : Option ℕ) → GoesOn place next
          → matches_from root text (last_place text) (option_and_then (first_match root text) next) ≡ matches_from_optional root text next
      go None g = none-left (last_place text)
      go (Some next) g = enough (last_place text) (last_place text + 1) next (omega arith) (omega arith)

  pub match_list-unfolds : (place : ℕ) → match_list root text place ≡ match_then_list root text (first_match root text place)
  unfolding match_list
  match_list-unfolds place =
      ap (λ (count : ℕ). matches_from root text count (first_match root text place)) (add-one (last_place text))
      ∙ unfolds place (first_match root text place) (stands-first place)
