-- The outcomes of a node keep each invariant of positions and groups that the search keeps.
use Rattle.regex_meaning.specs.Tree.{Sameness, Node, empty, goal, char, char_set, byte_set, byte_sequence, cat, end_of_cat, alt, bracket, string_set, match_any, match_any_except_line_terminator}
use Rattle.regex_meaning.specs.Tree.{anchor, word_boundary, capture_group, back_ref, lookaround, loop, loop_1_char_body}
use Rattle.std.proofs.Common.{ℕ, zero, suc, ◌+◌, ◌-◌, Bool, true, false, List, [], ◌∷◌, map, min, max, Option, Some, None, filter, flat_map}
use Rattle.std.specs.Prelude.{if◌then◌else◌, nat_lt, nat_le, slice_set}
use Rattle.regex_meaning.specs.Text.{Text, Direction}
use Rattle.regex_meaning.specs.Outcomes.{Groups, Outcome, Repetition, bounded_repeat, outcomes, passes_empty_check, preferred, captured, with_groups_cleared, one_character, spelled, is_case_variant}
use Rattle.regex_meaning.specs.Outcomes.{backref_outcomes, empty_match_if, lookaround_outcomes, direction_of}
use Rattle.regex_meaning.specs.Laws.{IsAtOrAheadInDirection}
use Rattle.regex_meaning.proofs.EachElementLemmas.{Each, Each-append, Each-if, Each-filter, Each-flat_map, Each-image}
use Rattle.regex_meaning.proofs.OutcomeDirectionLemmas.{one_character-onward, spelled-onward}

-- The fact of places lasts where a search goes on, and the fact of groups lasts where groups are
-- cleared and set to such places.
pub record AreKept (text : Text) (P : ℕ → Type 0) (G : Groups → Type 0) : Type 0 where
  pub onward : (d : Direction) (a b : ℕ) → IsAtOrAheadInDirection text d a b → P a → P b
  pub with_groups_cleared : (id : ℕ) (groups : Groups) → G groups → G (slice_set groups id None)
  pub set : (id a b : ℕ) (groups : Groups) → P a → P b → G groups → G (slice_set groups id (Some (min a b, max a b)))

module _ {A : Type 0} where
  Each-if_one : (Q R : A → Type 0) (b : Bool) (x : A) → (Q x → R x) → Each Q (if b then x ∷ [] else []) → Each R (if b then x ∷ [] else [])
  Each-if_one Q R true x f h = (f h.0, tt)
  Each-if_one Q R false x f h = tt

module _ (text : Text) (P : ℕ → Type 0) (G : Groups → Type 0) (kept : AreKept text P G) where
  abbrev pub IsState : Outcome → Type 0
  IsState o = P o.end × G o.groups

  abbrev pub AreStates : List Outcome → Type 0
  AreStates os = Each IsState os

  all-with_groups_cleared : (id count : ℕ) (groups : Groups) → G groups → G (with_groups_cleared id count groups)
  all-with_groups_cleared id zero groups g = g
  all-with_groups_cleared id (suc count) groups g = all-with_groups_cleared (id + 1) count (slice_set groups id None) (kept.with_groups_cleared id groups g)

  here-state : (place : ℕ) (groups : Groups) → P place → G groups → AreStates (record { end = place; groups = groups } ∷ [])
  here-state place groups p g = ((p, g), tt)

  here_if-states : (holds : Bool) (place : ℕ) (groups : Groups) → P place → G groups → AreStates (empty_match_if holds place groups)
  here_if-states true place groups p g = here-state place groups p g
  here_if-states false place groups p g = tt

  -- An outcome further on with the same groups is a state.
  onward-state : (d : Direction) (place : ℕ) (groups : Groups) → P place → G groups → (end : ℕ) → IsAtOrAheadInDirection text d place end
      → IsState (record { end = end; groups = groups })
  onward-state d place groups p g end on = (kept.onward d place end on p, g)

  one_character-states : (test : ℕ → Bool) (d : Direction) (place : ℕ) (groups : Groups) → P place → G groups
      → AreStates (one_character text test d place groups)
  one_character-states test d place groups p g =
      Each-if_one (λ o. IsAtOrAheadInDirection text d place o.end) IsState _ _ (λ on. onward-state d place groups p g _ on)
      (one_character-onward text test d place groups)

  spelled-states : (same : ℕ → ℕ → Bool) (cs : List ℕ) (d : Direction) (place : ℕ) (groups : Groups) → P place → G groups
      → AreStates (spelled text same cs d place groups)
  spelled-states same cs d place groups p g =
      Each-if_one (λ o. IsAtOrAheadInDirection text d place o.end) IsState _ _ (λ on. onward-state d place groups p g _ on)
      (spelled-onward text same cs d place groups)

  strings-states : (icase : Bool) (strings : List (List ℕ)) (d : Direction) (place : ℕ) (groups : Groups) → P place → G groups
      → AreStates (flat_map (λ s. spelled text (is_case_variant text icase) s d place groups) strings)
  strings-states icase [] d place groups p g = tt
  strings-states icase (s ∷ strings) d place groups p g =
      Each-append _ _ _ (spelled-states (is_case_variant text icase) s d place groups p g) (strings-states icase strings d place groups p g)

  same_as_group-states : (sameness : Sameness) (range : Option (ℕ × ℕ)) (d : Direction) (place : ℕ) (groups : Groups) → P place → G groups
      → AreStates (backref_outcomes text sameness range d place groups)
  same_as_group-states sameness None d place groups p g = here-state place groups p g
  same_as_group-states sameness (Some range) d place groups p g = spelled-states _ _ d place groups p g

  looked-states : (negate : Bool) (os : List Outcome) (place : ℕ) (groups : Groups) → P place → G groups → AreStates os
      → AreStates (lookaround_outcomes negate os place groups)
  looked-states false [] place groups p g h = tt
  looked-states false (o ∷ os) place groups p g h = here-state place o.groups p h.0.1
  looked-states true [] place groups p g h = here-state place groups p g
  looked-states true (o ∷ os) place groups p g h = tt

  captured-states : (id place : ℕ) (os : List Outcome) → P place → AreStates os → AreStates (map (captured id place) os)
  captured-states id place os p h =
      Each-image IsState IsState (captured id place) (λ o s. (s.0, kept.set id place o.end o.groups p s.0 s.1)) os h

  preferred-states : (greedy : Bool) (again leave : List Outcome) → AreStates again → AreStates leave → AreStates (preferred greedy again leave)
  preferred-states true again leave h k = Each-append IsState again leave h k
  preferred-states false again leave h k = Each-append IsState leave again k h

  -- Each iteration of the loop from a state gives states.
  abbrev BodyStates : Repetition Outcome → Type 0
  BodyStates r = (place : ℕ) (groups : Groups) → P place → G groups → AreStates (r.body place groups)

  rounds-states : (r : Repetition Outcome) → BodyStates r → (turns k place : ℕ) (groups : Groups) → P place → G groups
      → AreStates (bounded_repeat r turns k place groups)
  unfolding bounded_repeat
  rounds-states r b zero k place groups p g = tt
  rounds-states r b (suc turns) k place groups p g =
      let bodies = filter (passes_empty_check r k place) (r.body place groups) in
      let bodies_are : AreStates bodies = Each-filter IsState (passes_empty_check r k place) (r.body place groups) (b place groups p g) in
      let again = flat_map (λ (o : Outcome). bounded_repeat r turns (k + 1) o.end o.groups) bodies in
      let leave : List Outcome = record { end = place; groups = groups } ∷ [] in
      let again_are : AreStates again =
      Each-flat_map IsState IsState (λ (o : Outcome). bounded_repeat r turns (k + 1) o.end o.groups)
      (λ o s. rounds-states r b turns (k + 1) o.end o.groups s.0 s.1) bodies bodies_are in
      preferred-states r.greedy (if nat_lt k r.most then again else []) (if nat_le r.least k then leave else [])
      (Each-if IsState (nat_lt k r.most) again [] again_are tt)
      (Each-if IsState (nat_le r.least k) leave [] (here-state place groups p g) tt)

  -- From a state, the outcomes of a node are states.
  pub outcomes-states : (node : Node) (d : Direction) (place : ℕ) (groups : Groups) → P place → G groups
      → AreStates (outcomes text node d place groups)
  unfolding outcomes
  outcomes-states empty d place groups p g = here-state place groups p g
  outcomes-states goal d place groups p g = here-state place groups p g
  outcomes-states (char c) d place groups p g = one_character-states _ d place groups p g
  outcomes-states (char_set members) d place groups p g = one_character-states _ d place groups p g
  outcomes-states (byte_set members) d place groups p g = one_character-states _ d place groups p g
  outcomes-states (bracket contents) d place groups p g = one_character-states _ d place groups p g
  outcomes-states match_any d place groups p g = one_character-states _ d place groups p g
  outcomes-states match_any_except_line_terminator d place groups p g = one_character-states _ d place groups p g
  outcomes-states (byte_sequence bytes) d place groups p g = spelled-states _ _ d place groups p g
  outcomes-states (string_set strings icase) d place groups p g = strings-states icase strings d place groups p g
  outcomes-states end_of_cat d place groups p g = here-state place groups p g
  outcomes-states (cat first rest) d place groups p g =
      Each-flat_map IsState IsState (λ o. outcomes text rest d o.end o.groups)
      (λ o s. outcomes-states rest d o.end o.groups s.0 s.1) (outcomes text first d place groups) (outcomes-states first d place groups p g)
  outcomes-states (alt left right) d place groups p g =
      Each-append _ _ _ (outcomes-states left d place groups p g) (outcomes-states right d place groups p g)
  outcomes-states (capture_group id name contents) d place groups p g =
      captured-states id place (outcomes text contents d place (with_groups_cleared id 1 groups)) p
      (outcomes-states contents d place (with_groups_cleared id 1 groups) p (all-with_groups_cleared id 1 groups g))
  outcomes-states (back_ref group sameness) d place groups p g = same_as_group-states sameness _ d place groups p g
  outcomes-states (anchor type multiline) d place groups p g = here_if-states _ place groups p g
  outcomes-states (word_boundary invert unicode_icase) d place groups p g = here_if-states _ place groups p g
  outcomes-states (lookaround l contents) d place groups p g =
      looked-states l.negate (outcomes text contents (direction_of l) place groups) place groups p g
      (outcomes-states contents (direction_of l) place groups p g)
  outcomes-states (loop q start_group end_group loopee) d place groups p g =
      rounds-states _ (λ a h p_at g_at. outcomes-states loopee d a (with_groups_cleared start_group (end_group - start_group) h) p_at
      (all-with_groups_cleared start_group (end_group - start_group) h g_at)) _ 0 place groups p g
  outcomes-states (loop_1_char_body q loopee) d place groups p g =
      rounds-states _ (λ a h p_at g_at. outcomes-states loopee d a h p_at g_at) _ 0 place groups p g
