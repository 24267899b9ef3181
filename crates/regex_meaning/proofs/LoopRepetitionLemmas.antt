-- The outcomes of a loop after k iterations satisfy a recursive equation.
use Rattle.std.proofs.Common.{◌≡◌, ◌≢◌, ◌⊎◌, ℕ, zero, suc, ◌+◌, ◌-◌, ◌<◌, ◌≤◌, Bool, true, false, not, ◌&&◌, List, [], ◌∷◌, refl, ap, arith, add-one, filter, flat_map}
use Rattle.std.specs.Prelude.{if◌then◌else◌, nat_le, nat_lt, ◌==◌}
use mathlib.Core.Logic.{inl, inr}
use Rattle.regex_meaning.specs.Text.{Text, Direction, rightwards, leftwards, characters_ahead}
use Rattle.regex_meaning.specs.Outcomes.{Groups, Outcome, Repetition, bounded_repeat, repeat, passes_empty_check, preferred}
use Rattle.regex_meaning.proofs.EachElementLemmas.{Each, Each-map, flat_map-filter_same}
use Rattle.regex_meaning.proofs.OutcomeDirectionLemmas.{IsAtOrAheadInDirection, BodyOnward}
use Rattle.std.proofs.lemmas.Bool.{ltb-false, eqb-false}

not_both : (a b : Bool) → not (a && b) ≡ true → (a ≡ false) ⊎ (b ≡ false)
not_both true true h = grind arith
not_both true false h = inr refl
not_both false b h = inl refl

module _ (text : Text) (d : Direction) where
  left-onward : (a b : ℕ) → IsAtOrAheadInDirection text d a b → characters_ahead text d b ≤ characters_ahead text d a
  left-onward a b h = go d h
    where
      go : (d : Direction) → IsAtOrAheadInDirection text d a b → characters_ahead text d b ≤ characters_ahead text d a
      go rightwards h = omega arith
      go leftwards h = omega arith

  left-moved : (a b : ℕ) → IsAtOrAheadInDirection text d a b → b ≢ a → characters_ahead text d b < characters_ahead text d a
  left-moved a b h ne = go d h
    where
      go : (d : Direction) → IsAtOrAheadInDirection text d a b → characters_ahead text d b < characters_ahead text d a
      go rightwards h = omega arith
      go leftwards h = omega arith

  module _ (r : Repetition Outcome) (body_on : BodyOnward text d r) where
    -- At most so many further iterations count.
    abbrev missing : (k place : ℕ) → ℕ
    missing k place = r.least - k + characters_ahead text d place

    fewer : (k place : ℕ) (o : Outcome) → IsAtOrAheadInDirection text d place o.end → passes_empty_check r k place o ≡ true
        → missing (k + 1) o.end < missing k place
    fewer k place o on h = go (not_both _ _ h)
      where
        go : ((o.end == place) ≡ false) ⊎ (nat_lt r.least (k + 1) ≡ false) → missing (k + 1) o.end < missing k place
        go (inl e) = let less = left-moved place o.end on (eqb-false o.end place e) in omega arith
        go (inr e) =
            let less = left-onward place o.end on in
            let below = ltb-false r.least (k + 1) e in omega arith

    -- A turn gives the same outcomes for two bounds if the turns after it do.
    same_turn : (n m k place : ℕ) (groups : Groups)
        → Each (λ o. passes_empty_check r k place o ≡ true → bounded_repeat r n (k + 1) o.end o.groups ≡ bounded_repeat r m (k + 1) o.end o.groups) (r.body place groups)
        → bounded_repeat r (suc n) k place groups ≡ bounded_repeat r (suc m) k place groups
    unfolding bounded_repeat
    same_turn n m k place groups h =
        ap (λ (again : List Outcome). preferred r.greedy (if nat_lt k r.most then again else []) (if nat_le r.least k then record { end = place; groups = groups } ∷ [] else []))
        (flat_map-filter_same (passes_empty_check r k place) (λ o. bounded_repeat r n (k + 1) o.end o.groups) (λ o. bounded_repeat r m (k + 1) o.end o.groups) (r.body place groups) h)

    -- Bounds that are not below the iterations that may still count give the same outcomes.
    rounds-enough : (n m k place : ℕ) (groups : Groups) → missing k place ≤ n → missing k place ≤ m
        → bounded_repeat r (suc n) k place groups ≡ bounded_repeat r (suc m) k place groups
    rounds-enough zero m k place groups h i =
        same_turn zero m k place groups (Each-map _ _
        (λ o on counted. let less = fewer k place o on counted in absurd (omega arith)) (r.body place groups) (body_on place groups))
    rounds-enough (suc n) zero k place groups h i =
        same_turn (suc n) zero k place groups (Each-map _ _
        (λ o on counted. let less = fewer k place o on counted in absurd (omega arith)) (r.body place groups) (body_on place groups))
    rounds-enough (suc n) (suc m) k place groups h i =
        same_turn (suc n) (suc m) k place groups (Each-map _ _
        (λ o on counted.
        let less = fewer k place o on counted in
        rounds-enough n m (k + 1) o.end o.groups (omega arith) (omega arith)) (r.body place groups) (body_on place groups))

    enough : (n k place : ℕ) (groups : Groups) → missing k place < n → bounded_repeat r n k place groups ≡ repeat text r d k place groups
    enough zero k place groups h = absurd (omega arith)
    enough (suc n) k place groups h = rw add-one (rounds-enough n (missing k place) k place groups (omega arith) (omega arith))

    -- A loop repeats after k iterations if k is below the maximum, and ends if k reaches the minimum.
    pub repeat-unfolds : (k place : ℕ) (groups : Groups) → repeat text r d k place groups ≡
        preferred r.greedy
        (if nat_lt k r.most then flat_map (λ o. repeat text r d (k + 1) o.end o.groups) (filter (passes_empty_check r k place) (r.body place groups)) else [])
        (if nat_le r.least k then record { end = place; groups = groups } ∷ [] else [])
    unfolding bounded_repeat
    repeat-unfolds k place groups = rw (add-one (missing k place))
        (ap (λ (again : List Outcome). preferred r.greedy (if nat_lt k r.most then again else []) (if nat_le r.least k then record { end = place; groups = groups } ∷ [] else []))
        (flat_map-filter_same (passes_empty_check r k place)
        (λ o. bounded_repeat r (missing k place) (k + 1) o.end o.groups) (λ o. repeat text r d (k + 1) o.end o.groups) (r.body place groups)
        (Each-map _ _ (λ o on counted. enough (missing k place) (k + 1) o.end o.groups (fewer k place o on counted))
        (r.body place groups) (body_on place groups))))
