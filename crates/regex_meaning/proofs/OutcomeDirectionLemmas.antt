-- Each outcome of a node ends at its start or ahead of it in the direction of matching.
use Rattle.regex_meaning.specs.Tree.{Sameness, Node, empty, goal, byte_sequence, cat, end_of_cat, alt, string_set, anchor, word_boundary, capture_group, back_ref, lookaround, loop, loop_1_char_body}
use Rattle.std.proofs.Common.{◌≡◌, ℕ, zero, suc, ◌+◌, ◌-◌, ◌<◌, ◌≤◌, Bool, true, false, List, [], ◌∷◌, length, Option, Some, None, arith, leb→le, T, filter, flat_map}
use Rattle.std.specs.Prelude.{if◌then◌else◌, ◌&&◌, nat_le, nat_lt, slice_get}
use Rattle.regex_meaning.specs.Text.{Text, Direction, rightwards, leftwards, last_place, characters_ahead, moved, next_character}
use Rattle.regex_meaning.specs.Outcomes.{Groups, Outcome, Repetition, bounded_repeat, outcomes, passes_empty_check, preferred, captured, with_groups_cleared, is_some_and, one_character, spelled}
use Rattle.regex_meaning.specs.Outcomes.{is_case_variant, backref_outcomes, empty_match_if, lookaround_outcomes}
pub use Rattle.regex_meaning.specs.Laws.{IsAtOrAheadInDirection}
use Rattle.regex_meaning.proofs.EachElementLemmas.{Each, Each-append, Each-if, Each-when, Each-filter, Each-map, Each-flat_map, Each-image}

slice_get-below : (test : ℕ → Bool) (xs : List ℕ) (i : ℕ) → is_some_and (slice_get xs i) test ≡ true → i < length xs
slice_get-below test [] i h = grind arith
slice_get-below test (x ∷ xs) zero h = omega arith
slice_get-below test (x ∷ xs) (suc i) h = let below : i < length xs = slice_get-below test xs i h in omega arith

passed-left : (a b : Bool) → (a && b) ≡ true → T a
passed-left true b h = tt
passed-left false b h = grind arith

pub left-few : (text : Text) (d : Direction) (p : ℕ) → p ≤ last_place text → characters_ahead text d p ≤ last_place text
left-few text rightwards p le = omega arith
left-few text leftwards p le = le

-- Two moves in one direction are one move.
pub moved-twice : (text : Text) (d : Direction) (m n p : ℕ) → moved text d n (moved text d m p) ≡ moved text d (m + n) p
moved-twice text rightwards m n p = omega arith
moved-twice text leftwards m n p = omega arith

module _ (text : Text) where
  pub IsAtOrAheadInDirection-refl : (d : Direction) (a : ℕ) → IsAtOrAheadInDirection text d a a
  IsAtOrAheadInDirection-refl rightwards a = (omega arith, omega arith)
  IsAtOrAheadInDirection-refl leftwards a = (omega arith, tt)

  pub IsAtOrAheadInDirection-trans : (d : Direction) (a b c : ℕ) → IsAtOrAheadInDirection text d a b → IsAtOrAheadInDirection text d b c → IsAtOrAheadInDirection text d a c
  IsAtOrAheadInDirection-trans rightwards a b c h k = (omega arith, omega arith)
  IsAtOrAheadInDirection-trans leftwards a b c h k = (omega arith, tt)

  abbrev pub AllOnward : Direction → ℕ → List Outcome → Type 0
  AllOnward d a os = Each (λ o. IsAtOrAheadInDirection text d a o.end) os

  pub here-onward : (d : Direction) (place : ℕ) (groups : Groups) → AllOnward d place (record { end = place; groups = groups } ∷ [])
  here-onward d place groups = (IsAtOrAheadInDirection-refl d place, tt)

  moved-onward : (d : Direction) (n place : ℕ) → n ≤ characters_ahead text d place → IsAtOrAheadInDirection text d place (moved text d n place)
  moved-onward rightwards n place h = (omega arith, omega arith)
  moved-onward leftwards n place h = (omega arith, tt)

  next_character-left : (test : ℕ → Bool) (d : Direction) (place : ℕ)
      → is_some_and (next_character text d place) test ≡ true → 1 ≤ characters_ahead text d place
  next_character-left test rightwards place h =
      let below : place < length text.characters = slice_get-below test text.characters place h in omega arith
  next_character-left test leftwards zero h = grind arith
  next_character-left test leftwards (suc place) h = omega arith

  pub one_character-onward : (test : ℕ → Bool) (d : Direction) (place : ℕ) (groups : Groups)
      → AllOnward d place (one_character text test d place groups)
  one_character-onward test d place groups =
      Each-when (λ (o : Outcome). IsAtOrAheadInDirection text d place o.end) _ _ (λ h. moved-onward d 1 place (next_character-left test d place h))

  pub spelled-onward : (same : ℕ → ℕ → Bool) (cs : List ℕ) (d : Direction) (place : ℕ) (groups : Groups)
      → AllOnward d place (spelled text same cs d place groups)
  spelled-onward same cs d place groups =
      Each-when (λ (o : Outcome). IsAtOrAheadInDirection text d place o.end) _ _ (λ h. moved-onward d (length cs) place (leb→le _ _ (passed-left _ _ h)))

  pub same_as_group-onward : (sameness : Sameness) (range : Option (ℕ × ℕ)) (d : Direction) (place : ℕ) (groups : Groups)
      → AllOnward d place (backref_outcomes text sameness range d place groups)
  same_as_group-onward sameness None d place groups = here-onward d place groups
  same_as_group-onward sameness (Some range) d place groups = spelled-onward _ _ d place groups

  strings-onward : (icase : Bool) (strings : List (List ℕ)) (d : Direction) (place : ℕ) (groups : Groups)
      → AllOnward d place (flat_map (λ s. spelled text (is_case_variant text icase) s d place groups) strings)
  strings-onward icase [] d place groups = tt
  strings-onward icase (s ∷ strings) d place groups =
      Each-append _ _ _ (spelled-onward (is_case_variant text icase) s d place groups) (strings-onward icase strings d place groups)

  here_if-onward : (holds : Bool) (d : Direction) (place : ℕ) (groups : Groups) → AllOnward d place (empty_match_if holds place groups)
  here_if-onward true d place groups = here-onward d place groups
  here_if-onward false d place groups = tt

  looked-onward : (negate : Bool) (os : List Outcome) (d : Direction) (place : ℕ) (groups : Groups)
      → AllOnward d place (lookaround_outcomes negate os place groups)
  looked-onward false [] d place groups = tt
  looked-onward false (o ∷ os) d place groups = here-onward d place o.groups
  looked-onward true [] d place groups = here-onward d place groups
  looked-onward true (o ∷ os) d place groups = tt

  preferred-onward : (greedy : Bool) (d : Direction) (place : ℕ) (again leave : List Outcome)
      → AllOnward d place again → AllOnward d place leave → AllOnward d place (preferred greedy again leave)
  preferred-onward true d place again leave h k = Each-append _ again leave h k
  preferred-onward false d place again leave h k = Each-append _ leave again k h

  -- If outcomes go on from a place and the next ones from them, the next go on from the place.
  then-onward : (d : Direction) (place : ℕ) (os : List Outcome) (next : Outcome → List Outcome)
      → AllOnward d place os → ((o : Outcome) → AllOnward d o.end (next o)) → AllOnward d place (flat_map next os)
  then-onward d place os next h k =
      Each-flat_map (λ o. IsAtOrAheadInDirection text d place o.end) (λ o. IsAtOrAheadInDirection text d place o.end) next
      (λ o g. Each-map _ _ (λ p i. IsAtOrAheadInDirection-trans d place o.end p.end g i) (next o) (k o)) os h

  -- Each iteration of the loop goes on in the direction.
  abbrev pub BodyOnward : Direction → Repetition Outcome → Type 0
  BodyOnward d r = (place : ℕ) (groups : Groups) → AllOnward d place (r.body place groups)

  pub rounds-onward : (d : Direction) (r : Repetition Outcome) → BodyOnward d r → (turns k place : ℕ) (groups : Groups)
      → AllOnward d place (bounded_repeat r turns k place groups)
  unfolding bounded_repeat
  rounds-onward d r b zero k place groups = tt
  rounds-onward d r b (suc turns) k place groups =
      let IsOn = λ (o : Outcome). IsAtOrAheadInDirection text d place o.end in
      let bodies = filter (passes_empty_check r k place) (r.body place groups) in
      let again = flat_map (λ (o : Outcome). bounded_repeat r turns (k + 1) o.end o.groups) bodies in
      let leave : List Outcome = record { end = place; groups = groups } ∷ [] in
      let bodies_on : AllOnward d place bodies = Each-filter IsOn (passes_empty_check r k place) (r.body place groups) (b place groups) in
      let again_on : AllOnward d place again =
      then-onward d place bodies (λ (o : Outcome). bounded_repeat r turns (k + 1) o.end o.groups) bodies_on
      (λ o. rounds-onward d r b turns (k + 1) o.end o.groups) in
      preferred-onward r.greedy d place (if nat_lt k r.most then again else []) (if nat_le r.least k then leave else [])
      (Each-if IsOn (nat_lt k r.most) again [] again_on tt)
      (Each-if IsOn (nat_le r.least k) leave [] (here-onward d place groups) tt)

  pub outcomes-onward : (node : Node) (d : Direction) (place : ℕ) (groups : Groups)
      → AllOnward d place (outcomes text node d place groups)
  unfolding outcomes
  outcomes-onward empty d place groups = here-onward d place groups
  outcomes-onward goal d place groups = here-onward d place groups
  outcomes-onward (byte_sequence bytes) d place groups = spelled-onward _ _ d place groups
  outcomes-onward (string_set strings icase) d place groups = strings-onward icase strings d place groups
  outcomes-onward end_of_cat d place groups = here-onward d place groups
  outcomes-onward (cat first rest) d place groups =
      then-onward d place _ _ (outcomes-onward first d place groups) (λ o. outcomes-onward rest d o.end o.groups)
  outcomes-onward (alt left right) d place groups =
      Each-append _ _ _ (outcomes-onward left d place groups) (outcomes-onward right d place groups)
  outcomes-onward (capture_group id name contents) d place groups =
      Each-image _ _ (captured id place) (λ o h. h) _ (outcomes-onward contents d place (with_groups_cleared id 1 groups))
  outcomes-onward (back_ref group sameness) d place groups = same_as_group-onward sameness _ d place groups
  outcomes-onward (anchor type multiline) d place groups = here_if-onward _ d place groups
  outcomes-onward (word_boundary invert unicode_icase) d place groups = here_if-onward _ d place groups
  outcomes-onward (lookaround l contents) d place groups = looked-onward l.negate _ d place groups
  outcomes-onward (loop q start_group end_group loopee) d place groups =
      rounds-onward d _ (λ p g. outcomes-onward loopee d p (with_groups_cleared start_group (end_group - start_group) g)) _ 0 place groups
  outcomes-onward (loop_1_char_body q loopee) d place groups =
      rounds-onward d _ (λ p g. outcomes-onward loopee d p g) _ 0 place groups
  outcomes-onward _ d place groups = one_character-onward _ d place groups
