-- The first match from a place on, and the list of all matches.
use Rattle.std.specs.Prelude.{ℕ, zero, suc, ◌+◌, ◌-◌, List, [], ◌∷◌, length, replicate, Option, Some, None, if◌then◌else◌, nat_lt, option_and_then}
use Rattle.std.specs.Option.{option_or}
use Rattle.regex_meaning.specs.Tree.{Node, group_ids}
use Rattle.regex_meaning.specs.Text.{Text, rightwards, last_place}
use Rattle.regex_meaning.specs.Outcomes.{Groups, Outcome, outcomes}

-- A match: the places where it starts and ends, and its groups.
pub record Found : Type 0 where
  pub start : ℕ
  pub end : ℕ
  pub groups : Groups

-- The initial groups of a match: `None` for each capturing group.
abbrev pub no_groups : Node → Groups
no_groups root = replicate (length (group_ids root)) None

-- The first of the outcomes at a start, which has the highest priority, as a match.
abbrev pub first_outcome : (start : ℕ) → List Outcome → Option Found
first_outcome start [] = None
first_outcome start (o ∷ os) = Some (record { start = start; end = o.end; groups = o.groups })

module _ (root : Node) (text : Text) where
  -- The match of highest priority that begins at the place (21.2.5.2.2 with the flag `y`).
  abbrev pub match_at : ℕ → Option Found
  match_at place = first_outcome place (outcomes text root rightwards place (no_groups root))

  -- The match at the first of the next `places` places that has a match.
  unfoldable pub first_match_among : (places place : ℕ) → Option Found
  first_match_among zero place = None
  first_match_among (suc places) place =
      let later = first_match_among places (place + 1) in
      option_or (match_at place) later

  -- The leftmost match from a place on. Of the matches that begin there, it has the highest
  -- priority (21.2.5.2.2 without `g` and `y`).
  abbrev pub first_match : ℕ → Option Found
  first_match place = first_match_among (last_place text + 1 - place) place

  -- The place where the list continues after a match: its end or, if the match is empty, one
  -- character later. `None` after an empty match at the right end (as `RegExp.prototype[@@match]`,
  -- 21.2.5.7, with `g` and `u`).
  abbrev pub place_after_match : Found → Option ℕ
  place_after_match m =
      if nat_lt m.start m.end then Some m.end
      else if nat_lt m.end (last_place text) then Some (m.end + 1) else None

  -- This match and the matches after it, limited to `count`.
  unfoldable pub matches_from : (count : ℕ) → Option Found → List Found
  matches_from zero m = []
  matches_from (suc count) None = []
  matches_from (suc count) (Some m) = m ∷ matches_from count (option_and_then first_match (place_after_match m))

  -- All matches from a place on. There is at most one for each place.
  unfoldable pub match_list : ℕ → List Found
  match_list place = matches_from (last_place text + 1) (first_match place)
