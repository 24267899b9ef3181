-- The steps needed for all matches satisfy a recursive equation, match by match.
use Rattle.std.proofs.Common.{◌≡◌, ℕ, zero, suc, ◌+◌, ◌<◌, ◌≤◌, List, [], ◌∷◌, Option, Some, None, refl, ap, ◌∙◌, arith, add-one}
use Rattle.std.specs.Option.{option_map_or}
use Rattle.regex_meaning.specs.Tree.{Tree}
use Rattle.regex_meaning.specs.Text.{Text, last_place}
use Rattle.regex_meaning.specs.FirstAndAllMatches.{Found, first_match, place_after_match}
use Rattle.regex_meaning.specs.OutcomesWithStepTicks.{need, needs_from}
use Rattle.regex_meaning.specs.Laws.{step_needs_from_optional_place, needs_after_match}
use Rattle.regex_meaning.proofs.FirstAndAllMatchesLemmas.{StandsFrom, stands-first, GoesOnInside, goes-inside}

module _ (tree : Tree) (text : Text) where
  -- These are the needs after a match, if the search goes on at most `count` times.
  abbrev behind : (count spent : ℕ) → Option Found → List ℕ
  behind count spent m = option_map_or (λ n. needs_from tree text count spent (place_after_match tree.root text n)) m []

  end-only : (count spent : ℕ) → needs_from tree text count spent None ≡ spent ∷ []
  end-only zero spent = refl
  end-only (suc count) spent = refl

  same-behind : (place a b spent : ℕ)
      → ((next : ℕ) → place < next → next ≤ last_place text → needs_from tree text a spent (Some next) ≡ needs_from tree text b spent (Some next))
      → (next : Option ℕ) → GoesOnInside tree.root text place next
      → needs_from tree text a spent next ≡ needs_from tree text b spent next
  same-behind place a b spent h None g = rw (end-only a spent, end-only b spent)
  same-behind place a b spent h (Some next) g = h next g.0 g.1

  same-needs : (place a b spent : ℕ)
      → ((next : ℕ) → place < next → next ≤ last_place text → needs_from tree text a spent (Some next) ≡ needs_from tree text b spent (Some next))
      → (m : Option Found) → StandsFrom tree.root text place m → behind a spent m ≡ behind b spent m
  same-needs place a b spent h None s = refl
  same-needs place a b spent h (Some m) s = same-behind place a b spent h (place_after_match tree.root text m) (goes-inside tree.root text place m s)

  -- Counts that exceed the places left give the same needs.
  enough : (a b spent place : ℕ) → place ≤ last_place text → last_place text < place + a → last_place text < place + b
      → needs_from tree text a spent (Some place) ≡ needs_from tree text b spent (Some place)
  enough zero b spent place inside h k = absurd (omega arith)
  enough (suc a) zero spent place inside h k = absurd (omega arith)
  enough (suc a) (suc b) spent place inside h k =
      ap (λ (more : List ℕ). (spent + need tree text place) ∷ more)
      (same-needs place a b (spent + need tree text place)
      (λ next less at. enough a b (spent + need tree text place) next at (omega arith) (omega arith))
      (first_match tree.root text place) (stands-first tree.root text place))

  behind-unfolds : (place spent : ℕ) (m : Option Found) → StandsFrom tree.root text place m
      → behind (last_place text) spent m ≡ needs_after_match tree text spent m
  behind-unfolds place spent None s = refl
  behind-unfolds place spent (Some m) s = go (place_after_match tree.root text m) (goes-inside tree.root text place m s)
    where
      go : (next : Option ℕ) → GoesOnInside tree.root text place next → needs_from tree text (last_place text) spent next ≡ step_needs_from_optional_place tree text spent next
      go None g = end-only (last_place text) spent
      go (Some next) g = enough (last_place text) (last_place text + 1) spent next g.1 (omega arith) (omega arith)

  pub needs-unfold : (spent place : ℕ)
      → step_needs_from_optional_place tree text spent (Some place)
      ≡ (spent + need tree text place) ∷ needs_after_match tree text (spent + need tree text place) (first_match tree.root text place)
  needs-unfold spent place =
      ap (λ (count : ℕ). needs_from tree text count spent (Some place)) (add-one (last_place text))
      ∙ ap (λ (more : List ℕ). (spent + need tree text place) ∷ more)
      (behind-unfolds place (spent + need tree text place) (first_match tree.root text place) (stands-first tree.root text place))
