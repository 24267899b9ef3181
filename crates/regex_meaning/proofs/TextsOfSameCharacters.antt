-- Texts with the same characters have the same matches if their folds agree on these characters.
use Rattle.regex_meaning.specs.Tree.{Sameness, exact, folded, alike as by_unicode, Quantifier, Node, empty, goal, byte_sequence, cat, end_of_cat, alt, string_set, anchor, start_of_line, end_of_line}
use Rattle.regex_meaning.specs.Tree.{word_boundary, capture_group, back_ref, lookaround, loop, loop_1_char_body}
use Rattle.std.proofs.Common.{◌≡◌, ℕ, zero, suc, ◌+◌, ◌-◌, Bool, ◌||◌, List, [], ◌∷◌, length, map, drop, Option, Some, None, refl, ap, ◌∙◌, flat_map, option_and_then}
use Rattle.std.specs.Prelude.{◌==◌, slice_range}
use mathlib.Core.Path.{fun_ext}
use lib.Pointwise.{pointwise}
use Rattle.regex_meaning.specs.Text.{Text, Direction, rightwards, leftwards}
use Rattle.regex_meaning.specs.Outcomes.{is_same, Groups, Outcome, Repetition, repetition, repeat, outcomes, captured, with_groups_cleared, one_character, spelled, backref_outcomes, group_range}
use Rattle.regex_meaning.specs.Outcomes.{lookaround_outcomes, direction_of}
use Rattle.regex_meaning.specs.FirstAndAllMatches.{Found, no_groups, first_match, first_match_among, place_after_match, matches_from, match_list}
use Rattle.regex_meaning.proofs.EachElementLemmas.{Each, Each-take, Each-drop}
use Rattle.regex_meaning.proofs.ListLemmas.{flat_map-same}

pointwise-same : (P : ℕ → Type 0) (e f : ℕ → ℕ → Bool) → ((c d : ℕ) → P c → P d → e c d ≡ f c d)
    → (cs ds : List ℕ) → Each P cs → Each P ds → pointwise e cs ds ≡ pointwise f cs ds
pointwise-same P e f h [] [] p q = refl
pointwise-same P e f h [] (d ∷ ds) p q = refl
pointwise-same P e f h (c ∷ cs) [] p q = refl
pointwise-same P e f h (c ∷ cs) (d ∷ ds) p q = rw (h c d p.0 q.0, pointwise-same P e f h cs ds p.1 q.1) refl

-- Two texts have these characters, P holds of each of them, and the folds agree where P holds.
module _ (characters : List ℕ) (unicode : Bool) (s_offsets t_offsets : List ℕ) (s_fold t_fold : ℕ → ℕ) (P : ℕ → Type 0)
    (each : Each P characters) (alike : (c d : ℕ) → P c → P d → (s_fold c == s_fold d) ≡ (t_fold c == t_fold d)) where
  abbrev s : Text
  s = record { characters = characters; offsets = s_offsets; unicode = unicode; fold = s_fold }

  abbrev t : Text
  t = record { characters = characters; offsets = t_offsets; unicode = unicode; fold = t_fold }

  Each-range : (a b : ℕ) → Each P (slice_range characters a b)
  Each-range a b = Each-take P (b - a) (drop a characters) (Each-drop P a characters each)

  one_character-same : (test : ℕ → Bool) (d : Direction) (place : ℕ) (groups : Groups)
      → one_character s test d place groups ≡ one_character t test d place groups
  one_character-same test rightwards place groups = refl
  one_character-same test leftwards place groups = refl

  -- A list of characters has the same outcomes in both texts if the tests agree where P holds.
  spelled-same : (e f : ℕ → ℕ → Bool) → ((c d : ℕ) → P c → P d → e c d ≡ f c d) → (cs : List ℕ) → Each P cs
      → (d : Direction) (place : ℕ) (groups : Groups) → spelled s e cs d place groups ≡ spelled t f cs d place groups
  spelled-same e f h cs p rightwards place groups =
      rw (pointwise-same P e f h cs (slice_range characters place (place + length cs)) p (Each-range place (place + length cs))) refl
  spelled-same e f h cs p leftwards place groups =
      rw (pointwise-same P e f h cs (slice_range characters (place - length cs) place) p (Each-range (place - length cs) place)) refl

  spelled-self : (e : ℕ → ℕ → Bool) (cs : List ℕ) (d : Direction) (place : ℕ) (groups : Groups)
      → spelled s e cs d place groups ≡ spelled t e cs d place groups
  spelled-self e cs rightwards place groups = refl
  spelled-self e cs leftwards place groups = refl

  same-is : (same : Sameness) (c d : ℕ) → P c → P d → is_same s same c d ≡ is_same t same c d
  same-is exact c d p q = refl
  same-is folded c d p q = ap (λ (b : Bool). c == d || b) (alike c d p q)
  same-is (by_unicode unicode) c d p q = refl

  same_as_group-same : (sameness : Sameness) (range : Option (ℕ × ℕ)) (d : Direction) (place : ℕ) (groups : Groups)
      → backref_outcomes s sameness range d place groups ≡ backref_outcomes t sameness range d place groups
  same_as_group-same sameness None d place groups = refl
  same_as_group-same sameness (Some range) d place groups =
      spelled-same (is_same s sameness) (is_same t sameness) (same-is sameness)
      (slice_range characters range.0 range.1) (Each-range range.0 range.1) d place groups

  repeat-same : (r : Repetition Outcome) (d : Direction) (k place : ℕ) (groups : Groups) → repeat s r d k place groups ≡ repeat t r d k place groups
  repeat-same r rightwards k place groups = refl
  repeat-same r leftwards k place groups = refl

  loop-same : (q : Quantifier) (a b : ℕ → Groups → List Outcome) → ((p : ℕ) (g : Groups) → a p g ≡ b p g)
      → (d : Direction) (place : ℕ) (groups : Groups) → repeat s (repetition q a) d 0 place groups ≡ repeat t (repetition q b) d 0 place groups
  loop-same q a b h d place groups =
      repeat-same (repetition q a) d 0 place groups
      ∙ ap (λ (body : ℕ → Groups → List Outcome). repeat t (repetition q body) d 0 place groups) (fun_ext (λ p. fun_ext (h p)))

  outcomes-same : (node : Node) (d : Direction) (place : ℕ) (groups : Groups) → outcomes s node d place groups ≡ outcomes t node d place groups
  unfolding outcomes
  outcomes-same empty d place groups = refl
  outcomes-same goal d place groups = refl
  outcomes-same (byte_sequence bytes) d place groups = spelled-self _ _ d place groups
  outcomes-same (string_set strings icase) d place groups = flat_map-same _ _ (λ string. spelled-self _ string d place groups) strings
  outcomes-same end_of_cat d place groups = refl
  outcomes-same (cat first rest) d place groups =
      ap (flat_map (λ (o : Outcome). outcomes s rest d o.end o.groups)) (outcomes-same first d place groups)
      ∙ flat_map-same _ _ (λ o. outcomes-same rest d o.end o.groups) (outcomes t first d place groups)
  outcomes-same (alt left right) d place groups =
      rw (outcomes-same left d place groups, outcomes-same right d place groups) refl
  outcomes-same (capture_group id name contents) d place groups =
      ap (map (captured id place)) (outcomes-same contents d place (with_groups_cleared id 1 groups))
  outcomes-same (back_ref group sameness) d place groups = same_as_group-same sameness (group_range groups (group - 1)) d place groups
  outcomes-same (anchor start_of_line multiline) d place groups = refl
  outcomes-same (anchor end_of_line multiline) d place groups = refl
  outcomes-same (word_boundary invert unicode_icase) d place groups = refl
  outcomes-same (lookaround l contents) d place groups =
      ap (λ (os : List Outcome). lookaround_outcomes l.negate os place groups) (outcomes-same contents (direction_of l) place groups)
  outcomes-same (loop q start_group end_group loopee) d place groups =
      loop-same q _ _ (λ p g. outcomes-same loopee d p (with_groups_cleared start_group (end_group - start_group) g)) d place groups
  outcomes-same (loop_1_char_body q loopee) d place groups = loop-same q _ _ (λ p g. outcomes-same loopee d p g) d place groups
  outcomes-same _ d place groups = one_character-same _ d place groups

  -- ---- Matches

  first_among-same : (root : Node) (places place : ℕ) → first_match_among root s places place ≡ first_match_among root t places place
  unfolding first_match_among
  first_among-same root zero place = refl
  first_among-same root (suc places) place =
      rw (outcomes-same root rightwards place (no_groups root), first_among-same root places (place + 1)) refl

  first-same : (root : Node) (place : ℕ) → first_match root s place ≡ first_match root t place
  first-same root place = first_among-same root (length characters + 1 - place) place

  behind-same : (root : Node) (next : Option ℕ) → option_and_then (first_match root s) next ≡ option_and_then (first_match root t) next
  behind-same root None = refl
  behind-same root (Some next) = first-same root next

  matches-same : (root : Node) (count : ℕ) (m : Option Found) → matches_from root s count m ≡ matches_from root t count m
  unfolding matches_from
  matches-same root zero m = refl
  matches-same root (suc count) None = refl
  matches-same root (suc count) (Some m) =
      ap (λ (ms : List Found). m ∷ ms)
      (matches-same root count (option_and_then (first_match root s) (place_after_match root s m))
      ∙ ap (matches_from root t count) (behind-same root (place_after_match root s m)))

  pub match_list-same : (root : Node) (place : ℕ) → match_list root s place ≡ match_list root t place
  unfolding match_list
  match_list-same root place =
      matches-same root (length characters + 1) (first_match root s place)
      ∙ ap (matches_from root t (length characters + 1)) (first-same root place)
