-- The list of outcomes with ticks is, without the ticks, the list of outcomes.
use Rattle.std.proofs.Common.{◌≡◌, ℕ, zero, suc, ◌+◌, ◌-◌, Bool, true, false, List, [], ◌∷◌, refl, ap, sym, ◌∙◌, ◌++◌, filter, flat_map, map}
use Rattle.std.specs.Prelude.{if◌then◌else◌, nat_le, nat_lt}
use Rattle.regex_meaning.specs.Tree.{Quantifier, Node, empty, goal, char, char_set, byte_set, byte_sequence, cat, end_of_cat, alt, bracket, string_set, match_any, match_any_except_line_terminator}
use Rattle.regex_meaning.specs.Tree.{anchor, word_boundary, capture_group, back_ref, lookaround, loop, loop_1_char_body}
use Rattle.regex_meaning.specs.Text.{Text, Direction}
use Rattle.regex_meaning.specs.Outcomes.{Groups, Outcome, repetition, bounded_repeat, passes_empty_check, preferred, captured, with_groups_cleared, lookaround_outcomes, direction_of, spelled}
use Rattle.regex_meaning.specs.Outcomes.{is_case_variant, outcomes, max_iterations}
use Rattle.regex_meaning.specs.OutcomesWithStepTicks.{TickOrOutcome, tick, pair, outcomes_without_ticks, ticks, outcomes_replaced_by_lists, ticks_before_outcomes, with_ticks_between, ticked_alt}
use Rattle.regex_meaning.specs.OutcomesWithStepTicks.{ticked_preferred, ticked_bounded_repeat, ticked_string, ticked_strings, ticked}
use Rattle.std.proofs.lemmas.List.{append-nil, map-id}
use Rattle.std.proofs.lemmas.List.Concat.{flat_map_single}
use Rattle.regex_meaning.proofs.ListLemmas.{flat_map-same}

-- ---- Lists

-- A flat map that gives nothing for dropped elements is the flat map of the kept elements.
flat_map-filter : (kept : Outcome → Bool) (f : Outcome → List Outcome) (xs : List Outcome)
    → flat_map (λ o. if kept o then f o else []) xs ≡ flat_map f (filter kept xs)
flat_map-filter kept f [] = refl
flat_map-filter kept f (x ∷ xs) = go (kept x) (flat_map-filter kept f xs)
  where
    go : (b : Bool) → flat_map (λ o. if kept o then f o else []) xs ≡ flat_map f (filter kept xs)
        → (if b then f x else []) ++ flat_map (λ o. if kept o then f o else []) xs
        ≡ flat_map f (if b then x ∷ filter kept xs else filter kept xs)
    go true h = rw h
    go false h = h

-- ---- Pairs

pub pairs-append : (xs ys : List TickOrOutcome) → outcomes_without_ticks (xs ++ ys) ≡ outcomes_without_ticks xs ++ outcomes_without_ticks ys
pairs-append [] ys = refl
pairs-append (tick ∷ xs) ys = pairs-append xs ys
pairs-append (pair o ∷ xs) ys = ap (λ (os : List Outcome). o ∷ os) (pairs-append xs ys)

pairs-ticks : (n : ℕ) (xs : List TickOrOutcome) → outcomes_without_ticks (ticks n ++ xs) ≡ outcomes_without_ticks xs
pairs-ticks zero xs = refl
pairs-ticks (suc n) xs = pairs-ticks n xs

pairs-pair : (os : List Outcome) → outcomes_without_ticks (map pair os) ≡ os
pairs-pair [] = refl
pairs-pair (o ∷ os) = ap (λ (ps : List Outcome). o ∷ ps) (pairs-pair os)

pairs-with_ticks_between : (os : List Outcome) → outcomes_without_ticks (with_ticks_between os) ≡ os
pairs-with_ticks_between [] = refl
pairs-with_ticks_between (o ∷ []) = refl
pairs-with_ticks_between (o ∷ p ∷ os) = ap (λ (ps : List Outcome). o ∷ ps) (pairs-with_ticks_between (p ∷ os))

pub pairs-and_then : (items : List TickOrOutcome) (next : Outcome → List TickOrOutcome) → outcomes_without_ticks (outcomes_replaced_by_lists items next) ≡ flat_map (λ o. outcomes_without_ticks (next o)) (outcomes_without_ticks items)
pairs-and_then [] next = refl
pairs-and_then (tick ∷ items) next = pairs-and_then items next
pairs-and_then (pair o ∷ items) next = rw (pairs-append (next o) (outcomes_replaced_by_lists items next), pairs-and_then items next)

pairs-ticked_pairs : (items : List TickOrOutcome) → outcomes_without_ticks (ticks_before_outcomes items) ≡ outcomes_without_ticks items
pairs-ticked_pairs items =
    rw (pairs-and_then items (λ o. tick ∷ pair o ∷ []), flat_map_single (λ o. o) (outcomes_without_ticks items), map-id (outcomes_without_ticks items))

pairs-ticked_alt : (left right : List TickOrOutcome) → outcomes_without_ticks (ticked_alt left right) ≡ outcomes_without_ticks left ++ outcomes_without_ticks right
pairs-ticked_alt left right = rw (pairs-append (ticks_before_outcomes left) (tick ∷ right), pairs-ticked_pairs left)

pairs-ways : (may_again may_leave greedy : Bool) (again leave : List TickOrOutcome)
    → outcomes_without_ticks (ticked_preferred may_again may_leave greedy again leave)
    ≡ preferred greedy (if may_again then outcomes_without_ticks again else []) (if may_leave then outcomes_without_ticks leave else [])
pairs-ways false false true again leave = refl
pairs-ways false false false again leave = refl
pairs-ways true false true again leave = sym (append-nil (outcomes_without_ticks again))
pairs-ways true false false again leave = refl
pairs-ways false true true again leave = refl
pairs-ways false true false again leave = sym (append-nil (outcomes_without_ticks leave))
pairs-ways true true true again leave = pairs-append again (tick ∷ leave)
pairs-ways true true false again leave = pairs-append leave (tick ∷ again)

-- ---- Loops

if-pairs : (b : Bool) (items : List TickOrOutcome) (os : List Outcome) → outcomes_without_ticks items ≡ os
    → outcomes_without_ticks (if b then items else []) ≡ (if b then os else [])
if-pairs true items os e = e
if-pairs false items os e = refl

pairs-again : (kept : Outcome → Bool) (further : Outcome → List TickOrOutcome) (later : Outcome → List Outcome)
    → ((o : Outcome) → outcomes_without_ticks (further o) ≡ later o) → (items : List TickOrOutcome) (os : List Outcome) → outcomes_without_ticks items ≡ os
    → outcomes_without_ticks (outcomes_replaced_by_lists items (λ o. tick ∷ (if kept o then further o else []))) ≡ flat_map later (filter kept os)
pairs-again kept further later h items os e =
    rw (pairs-and_then items (λ o. tick ∷ (if kept o then further o else [])), e)
    (flat_map-same (λ o. outcomes_without_ticks (if kept o then further o else [])) (λ o. if kept o then later o else [])
    (λ o. if-pairs (kept o) (further o) (later o) (h o)) os
    ∙ flat_map-filter kept later os)

pairs-ticked_rounds : (q : Quantifier) (ticked_body : ℕ → Groups → List TickOrOutcome) (body : ℕ → Groups → List Outcome)
    → ((place : ℕ) (groups : Groups) → outcomes_without_ticks (ticked_body place groups) ≡ body place groups)
    → (turns k place : ℕ) (groups : Groups)
    → outcomes_without_ticks (ticked_bounded_repeat (repetition q ticked_body) turns k place groups) ≡ bounded_repeat (repetition q body) turns k place groups
unfolding ticked_bounded_repeat bounded_repeat
pairs-ticked_rounds q ticked_body body h zero k place groups = refl
pairs-ticked_rounds q ticked_body body h (suc turns) k place groups =
    pairs-ways (nat_lt k (max_iterations q)) (nat_le q.min k) q.greedy _ (pair (record { end = place; groups = groups }) ∷ [])
    ∙ ap (λ (os : List Outcome). preferred q.greedy (if nat_lt k (max_iterations q) then os else []) (if nat_le q.min k then record { end = place; groups = groups } ∷ [] else []))
    (pairs-again (passes_empty_check (repetition q body) k place)
    (λ o. ticked_bounded_repeat (repetition q ticked_body) turns (k + 1) o.end o.groups)
    (λ o. bounded_repeat (repetition q body) turns (k + 1) o.end o.groups)
    (λ o. pairs-ticked_rounds q ticked_body body h turns (k + 1) o.end o.groups)
    (ticked_body place groups) (body place groups) (h place groups))

module _ (text : Text) where
  pairs-ticked_string : (icase : Bool) (s : List ℕ) (d : Direction) (place : ℕ) (groups : Groups)
      → outcomes_without_ticks (ticked_string text icase s d place groups) ≡ spelled text (is_case_variant text icase) s d place groups
  pairs-ticked_string icase s d place groups = rw (pairs-ticks, pairs-pair)

  pairs-ticked_strings : (icase : Bool) (strings : List (List ℕ)) (d : Direction) (place : ℕ) (groups : Groups)
      → outcomes_without_ticks (ticked_strings text icase strings d place groups)
      ≡ flat_map (λ s. spelled text (is_case_variant text icase) s d place groups) strings
  pairs-ticked_strings icase [] d place groups = refl
  pairs-ticked_strings icase (s ∷ []) d place groups =
      rw (pairs-ticked_string icase s d place groups) (sym (append-nil _))
  pairs-ticked_strings icase (s ∷ t ∷ more) d place groups =
      rw (
        pairs-ticked_alt (ticked_string text icase s d place groups) (ticked_strings text icase (t ∷ more) d place groups),
        pairs-ticked_string icase s d place groups,
        pairs-ticked_strings icase (t ∷ more) d place groups,
      )

  -- Without its ticks, the list with ticks is the list of outcomes.
  pub pairs-ticked : (node : Node) (d : Direction) (place : ℕ) (groups : Groups)
      → outcomes_without_ticks (ticked text node d place groups) ≡ outcomes text node d place groups
  unfolding ticked outcomes
  pairs-ticked empty d place groups = pairs-pair _
  pairs-ticked end_of_cat d place groups = pairs-pair _
  pairs-ticked goal d place groups = pairs-pair _
  pairs-ticked (char c) d place groups = pairs-pair _
  pairs-ticked (char_set members) d place groups = pairs-pair _
  pairs-ticked (byte_set members) d place groups = pairs-pair _
  pairs-ticked (bracket contents) d place groups = pairs-pair _
  pairs-ticked match_any d place groups = pairs-pair _
  pairs-ticked match_any_except_line_terminator d place groups = pairs-pair _
  pairs-ticked (back_ref group icase) d place groups = pairs-pair _
  pairs-ticked (anchor type multiline) d place groups = pairs-pair _
  pairs-ticked (word_boundary invert unicode_icase) d place groups = pairs-pair _
  pairs-ticked (byte_sequence bytes) d place groups = rw pairs-ticks (pairs-pair _)
  pairs-ticked (string_set strings icase) d place groups = pairs-ticked_strings icase strings d place groups
  pairs-ticked (cat first rest) d place groups =
      rw (pairs-and_then (ticked text first d place groups) (λ o. ticked text rest d o.end o.groups), pairs-ticked first d place groups)
      (flat_map-same _ _ (λ o. pairs-ticked rest d o.end o.groups) (outcomes text first d place groups))
  pairs-ticked (alt left right) d place groups =
      rw (
        pairs-ticked_alt (ticked text left d place groups) (ticked text right d place groups),
        pairs-ticked left d place groups,
        pairs-ticked right d place groups,
      )
  pairs-ticked (capture_group id name contents) d place groups =
      rw (
        pairs-and_then (ticked text contents d place (with_groups_cleared id 1 groups)) (λ o. tick ∷ pair (captured id place o) ∷ []),
        pairs-ticked contents d place (with_groups_cleared id 1 groups),
      ) (flat_map_single (captured id place) _)
  pairs-ticked (lookaround l contents) d place groups =
      rw (pairs-ticks, pairs-pair)
      (ap (λ (os : List Outcome). lookaround_outcomes l.negate os place groups)
      (pairs-ticked_pairs (ticked text contents (direction_of l) place groups) ∙ pairs-ticked contents (direction_of l) place groups))
  pairs-ticked (loop q start_group end_group loopee) d place groups =
      pairs-ticked_rounds q _ _ (λ p g. pairs-ticks (end_group - start_group) _ ∙ pairs-ticked loopee d p (with_groups_cleared start_group (end_group - start_group) g)) _ 0 place groups
  pairs-ticked (loop_1_char_body q loopee) d place groups = rw pairs-ticks (pairs-with_ticks_between _)
