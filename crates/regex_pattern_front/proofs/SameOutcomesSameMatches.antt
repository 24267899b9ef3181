-- Trees with the same outcomes, groups and group names have the same matches.
use Rattle.std.proofs.Common.{◌≡◌, ℕ, zero, suc, ◌+◌, ◌∷◌, List, Option, Some, None, refl, ap, ◌∙◌}
use mathlib.Core.Path.{fun_ext}
use Rattle.std.specs.Prelude.{map, option_and_then, option_map, []}
use Rattle.std.specs.Option.{option_map_or}
use Rattle.regex_meaning.specs.Tree.{Node, group_ids}
use Rattle.regex_meaning.specs.Text.{Text, last_place}
use Rattle.regex_meaning.specs.Outcomes.{outcomes}
use Rattle.regex_meaning.specs.FirstAndAllMatches.{Found, match_at, first_match, first_match_among, place_after_match, matches_from, match_list}
use Rattle.regex_meaning.specs.MatchGroupsByNumberAndName.{Answer, group_names_by_id, answer, answers_from}
use Rattle.regex_meaning.specs.CodeUnitOffsets.{offset, place_at}

module _ (a b : Node) (text : Text) (outcomes_same : outcomes text a ≡ outcomes text b) (ids_same : group_ids a ≡ group_ids b) where
  at-same : (place : ℕ) → match_at a text place ≡ match_at b text place
  at-same place = rw (outcomes_same, ids_same)

  among-same : (places place : ℕ) → first_match_among a text places place ≡ first_match_among b text places place
  unfolding first_match_among
  among-same zero place = refl
  among-same (suc places) place = rw (at-same place, among-same places (place + 1))

  first-same : (place : ℕ) → first_match a text place ≡ first_match b text place
  first-same place = among-same _ place

  from-same : (count : ℕ) (m : Option Found) → matches_from a text count m ≡ matches_from b text count m
  unfolding matches_from
  from-same zero m = refl
  from-same (suc count) None = refl
  from-same (suc count) (Some m) = ap (λ ms. m ∷ ms) (from-same count _ ∙ ap (λ f. matches_from b text count (option_and_then f (place_after_match b text m))) (fun_ext first-same))

  list-same : (place : ℕ) → match_list a text place ≡ match_list b text place
  unfolding match_list
  list-same place = from-same _ _ ∙ ap (matches_from b text (last_place text + 1)) (first-same place)

  answer-same : group_names_by_id a ≡ group_names_by_id b → (m : Found) → answer a text m ≡ answer b text m
  answer-same named m =
      ap (λ (names : List (List ℕ)). record {
        range = (offset text m.start, offset text m.end);
        captures = map (option_map (λ r. (offset text r.0, offset text r.1))) m.groups;
        names = names;
      }) named

  -- The answers are the same if the group names are the same too.
  pub answers-same : group_names_by_id a ≡ group_names_by_id b → (start : ℕ) → answers_from a text start ≡ answers_from b text start
  unfolding answers_from
  answers-same named start = go (place_at text start)
    where
      go : (place : Option ℕ) → option_map_or (λ p. map (answer a text) (match_list a text p)) place [] ≡ option_map_or (λ p. map (answer b text) (match_list b text p)) place []
      go None = refl
      go (Some place) =
          ap (λ (f : Found → Answer). map f (match_list a text place)) (fun_ext (answer-same named)) ∙ ap (map (answer b text)) (list-same place)
