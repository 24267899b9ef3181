-- Optimizing keeps the outcomes, groups and matches of a tree, and keeps it well formed.
use Rattle.std.proofs.Common.{◌≡◌, ◌∙◌, ℕ, zero, suc, ◌-◌, Bool, true, false, ◌&&◌, ◌||◌, ◌+◌, List, [], ◌++◌, length, refl, ap, arith}
use mathlib.Core.Path.{fun_ext}
use Rattle.std.specs.Prelude.{if◌then◌else◌, nat_le, map, ◌==◌}
use Rattle.std.specs.List.{list_all}
use Rattle.regex_meaning.specs.NumberListHelpers.{contains, numbers_from}
use Rattle.regex_meaning.specs.Tree.{Quantifier, Node, char, char_set, byte_set, byte_sequence, cat, alt, bracket, string_set, match_any, match_any_except_line_terminator, capture_group, back_ref}
use Rattle.regex_meaning.specs.Tree.{lookaround, loop, loop_1_char_body, group_ids, id_if_capture_group, fold_nodes, every_node_passes}
use Rattle.regex_meaning.specs.MatchGroupsByNumberAndName.{group_name_of_id, capturing_group_ids_and_names, group_names_by_id, id_and_name_if_capture_group}
use Rattle.regex_meaning.specs.Text.{Text, Direction}
use Rattle.regex_meaning.specs.Outcomes.{Groups, Outcome, outcomes}
use Rattle.regex_meaning.specs.CompilationRelation.{tree_contains_byte_nodes, is_byte_node}
use Rattle.regex_meaning.specs.WellFormedTrees.{number_of_goal_nodes, one_if_goal_node, is_end_of_cat, ends_in_goal, range_is_ids_of_enclosed_groups, has_exact_group_range, refers_to_a_group}
use Rattle.regex_meaning.specs.WellFormedTrees.{has_order_in_quantifier, is_one_character, has_one_character_body, has_text_in_sequence}
use Rattle.regex_meaning.specs.WellFormedTrees.{set_sizes_and_characters_fit_instructions}
use Rattle.regex_meaning.proofs.WellFormedTreesLemmas.{clauses, by_clauses}
use Rattle.regex_pattern_front.specs.OptimizedTrees.{reads_one_character, optimized, OptimizedIsWellFormed, OptimizedHasSameOutcomes, OptimizedHasSameAnswers}
use Rattle.regex_pattern_front.proofs.SameOutcomesSameMatches.{answers-same}
use Rattle.std.proofs.lemmas.Bool.{and_from}
use Rattle.regex_meaning.proofs.BoolLemmas.{and-left, and-right}

-- ---- Values gathered from a tree

-- A value gathered from a tree stays the same in the optimized tree if that of each node does.
module _ {A : Type 0} (own : Node → A) where
  loop-keeps : (q : Quantifier) (s e : ℕ) (loopee : Node) → own (loop_1_char_body q loopee) ≡ own (loop q s e loopee)
      → own (loop q s e (optimized loopee)) ≡ own (loop q s e loopee) → own (optimized (loop q s e loopee)) ≡ own (loop q s e loopee)
  unfolding optimized
  loop-keeps q s e loopee one many = go (reads_one_character loopee)
    where
      go : (r : Bool) → own (if r then loop_1_char_body q loopee else loop q s e (optimized loopee)) ≡ own (loop q s e loopee)
      go true = one
      go false = many

  module _ (nest_alternatives : A → A → A) (keeps : (n : Node) → own (optimized n) ≡ own n) where
    gathered-optimized : (n : Node) → fold_nodes nest_alternatives own (optimized n) ≡ fold_nodes nest_alternatives own n
    unfolding optimized
    gathered-optimized (cat first rest) = rw (keeps (cat first rest), gathered-optimized first, gathered-optimized rest)
    gathered-optimized (alt left right) = rw (keeps (alt left right), gathered-optimized left, gathered-optimized right)
    gathered-optimized (capture_group id name contents) = rw (keeps (capture_group id name contents), gathered-optimized contents)
    gathered-optimized (lookaround l contents) = rw (keeps (lookaround l contents), gathered-optimized contents)
    gathered-optimized (loop q s e loopee) = go (reads_one_character loopee) (keeps (loop q s e loopee)) (gathered-optimized loopee)
      where
        go : (r : Bool) → own (if r then loop_1_char_body q loopee else loop q s e (optimized loopee)) ≡ own (loop q s e loopee)
            → fold_nodes nest_alternatives own (optimized loopee) ≡ fold_nodes nest_alternatives own loopee
            → fold_nodes nest_alternatives own (if r then loop_1_char_body q loopee else loop q s e (optimized loopee)) ≡ fold_nodes nest_alternatives own (loop q s e loopee)
        go true here below = rw here
        go false here below = rw (here, below)
    gathered-optimized (loop_1_char_body q loopee) = rw (keeps (loop_1_char_body q loopee), gathered-optimized loopee)
    gathered-optimized _ = refl

own-optimized : (n : Node)
    → (one_if_goal_node (optimized n) ≡ one_if_goal_node n) × (id_if_capture_group (optimized n) ≡ id_if_capture_group n) × (id_and_name_if_capture_group (optimized n) ≡ id_and_name_if_capture_group n)
    × (is_byte_node (optimized n) ≡ is_byte_node n)
unfolding optimized
own-optimized (loop q s e loopee) = (
  loop-keeps one_if_goal_node q s e loopee refl refl,
  loop-keeps id_if_capture_group q s e loopee refl refl,
  loop-keeps id_and_name_if_capture_group q s e loopee refl refl,
  loop-keeps is_byte_node q s e loopee refl refl,
)
own-optimized _ = (refl, refl, refl, refl)

goal_count-optimized : (n : Node) → number_of_goal_nodes (optimized n) ≡ number_of_goal_nodes n
goal_count-optimized = gathered-optimized one_if_goal_node ◌+◌ (λ n. (own-optimized n).0)

pub group_ids-optimized : (n : Node) → group_ids (optimized n) ≡ group_ids n
group_ids-optimized = gathered-optimized id_if_capture_group ◌++◌ (λ n. (own-optimized n).1)

pub named_ids-optimized : (n : Node) → capturing_group_ids_and_names (optimized n) ≡ capturing_group_ids_and_names n
named_ids-optimized = gathered-optimized id_and_name_if_capture_group ◌++◌ (λ n. (own-optimized n).2)

pub reads_bytes-optimized : (n : Node) → tree_contains_byte_nodes (optimized n) ≡ tree_contains_byte_nodes n
reads_bytes-optimized = gathered-optimized is_byte_node ◌||◌ (λ n. (own-optimized n).3)

pub names_by_id-optimized : (n : Node) → group_names_by_id (optimized n) ≡ group_names_by_id n
names_by_id-optimized n = ap by_id (named_ids-optimized n)
  where
    by_id : List (ℕ × List ℕ) → List (List ℕ)
    by_id named = if list_all (λ p. length p.1 == 0) named then [] else map (group_name_of_id named) (numbers_from 0 (length named))

is_end_of_cat-optimized : (n : Node) → is_end_of_cat (optimized n) ≡ is_end_of_cat n
unfolding optimized
is_end_of_cat-optimized (loop q s e loopee) = loop-keeps is_end_of_cat q s e loopee refl refl
is_end_of_cat-optimized _ = refl

ends_in_goal-optimized : (n : Node) → ends_in_goal (optimized n) ≡ ends_in_goal n
unfolding optimized
ends_in_goal-optimized (cat first rest) = rw (is_end_of_cat-optimized rest, ends_in_goal-optimized first, ends_in_goal-optimized rest)
ends_in_goal-optimized (loop q s e loopee) = loop-keeps ends_in_goal q s e loopee refl refl
ends_in_goal-optimized _ = refl

pub one_character-optimized : (n : Node) → is_one_character n ≡ true → optimized n ≡ n
unfolding optimized
one_character-optimized (cat first rest) h = grind arith
one_character-optimized (alt left right) h = grind arith
one_character-optimized (capture_group id name contents) h = grind arith
one_character-optimized (lookaround l contents) h = grind arith
one_character-optimized (loop q s e loopee) h = grind arith
one_character-optimized (loop_1_char_body q loopee) h = grind arith
one_character-optimized _ h = refl

pub is_one-reads : (n : Node) → reads_one_character n ≡ true → is_one_character n ≡ true
is_one-reads (char c) h = refl
is_one-reads (char_set members) h = refl
is_one-reads (byte_set members) h = refl
is_one-reads (bracket contents) h = refl
is_one-reads match_any h = refl
is_one-reads match_any_except_line_terminator h = refl
is_one-reads _ h = grind arith

-- ---- Tests of each node

-- If optimizing a node keeps a test, optimizing a tree keeps the test of all nodes.
module _ (test : Node → Bool) (keeps : (n : Node) → test n ≡ true → test (optimized n) ≡ true) where
  every-optimized : (n : Node) → every_node_passes test n ≡ true → every_node_passes test (optimized n) ≡ true
  unfolding optimized
  every-optimized (cat first rest) h =
      and_from _ _
      (and_from _ _ (keeps (cat first rest) (and-left (test (cat first rest)) _ (and-left _ (every_node_passes test rest) h))) (every-optimized first (and-right (test (cat first rest)) _ (and-left _ (every_node_passes test rest) h))))
      (every-optimized rest (and-right _ (every_node_passes test rest) h))
  every-optimized (alt first rest) h =
      and_from _ _
      (and_from _ _ (keeps (alt first rest) (and-left (test (alt first rest)) _ (and-left _ (every_node_passes test rest) h))) (every-optimized first (and-right (test (alt first rest)) _ (and-left _ (every_node_passes test rest) h))))
      (every-optimized rest (and-right _ (every_node_passes test rest) h))
  every-optimized (capture_group id name contents) h =
      and_from _ _ (keeps (capture_group id name contents) (and-left _ (every_node_passes test contents) h)) (every-optimized contents (and-right _ (every_node_passes test contents) h))
  every-optimized (lookaround l contents) h =
      and_from _ _ (keeps (lookaround l contents) (and-left _ (every_node_passes test contents) h)) (every-optimized contents (and-right _ (every_node_passes test contents) h))
  every-optimized (loop q s e loopee) h =
      go (reads_one_character loopee) (keeps (loop q s e loopee) (and-left _ (every_node_passes test loopee) h)) (and-right _ (every_node_passes test loopee) h)
      (every-optimized loopee (and-right _ (every_node_passes test loopee) h))
    where
      go : (r : Bool) → test (if r then loop_1_char_body q loopee else loop q s e (optimized loopee)) ≡ true → every_node_passes test loopee ≡ true → every_node_passes test (optimized loopee) ≡ true
          → every_node_passes test (if r then loop_1_char_body q loopee else loop q s e (optimized loopee)) ≡ true
      go true here below inside = and_from _ _ here below
      go false here below inside = and_from _ _ here inside
  every-optimized (loop_1_char_body q loopee) h =
      and_from _ _ (keeps (loop_1_char_body q loopee) (and-left _ (every_node_passes test loopee) h)) (every-optimized loopee (and-right _ (every_node_passes test loopee) h))
  every-optimized _ h = h

-- An optimized loop passes a test if both forms that it can take pass the test.
of_loop : (test : Node → Bool) (q : Quantifier) (s e : ℕ) (loopee : Node) (r : Bool)
    → (r ≡ true → test (loop_1_char_body q loopee) ≡ true) → test (loop q s e (optimized loopee)) ≡ true
    → test (if r then loop_1_char_body q loopee else loop q s e (optimized loopee)) ≡ true
of_loop test q s e loopee true h k = h refl
of_loop test q s e loopee false h k = k

names-optimized : (n : Node) → has_exact_group_range n ≡ true → has_exact_group_range (optimized n) ≡ true
unfolding optimized
names-optimized (lookaround l contents) h = rw (group_ids-optimized contents) h
names-optimized (loop q s e loopee) h =
    of_loop has_exact_group_range q s e loopee (reads_one_character loopee) (λ _. refl) (rw (group_ids-optimized loopee) h)
names-optimized _ h = refl

refers-optimized : (count : ℕ) (n : Node) → refers_to_a_group count n ≡ true → refers_to_a_group count (optimized n) ≡ true
unfolding optimized
refers-optimized count (loop q s e loopee) h = of_loop (refers_to_a_group count) q s e loopee (reads_one_character loopee) (λ _. refl) refl
refers-optimized count (back_ref group icase) h = h
refers-optimized count _ h = refl

quantifiers-optimized : (n : Node) → has_order_in_quantifier n ≡ true → has_order_in_quantifier (optimized n) ≡ true
unfolding optimized
quantifiers-optimized (loop q s e loopee) h = of_loop has_order_in_quantifier q s e loopee (reads_one_character loopee) (λ _. h) h
quantifiers-optimized (loop_1_char_body q loopee) h = h
quantifiers-optimized _ h = refl

bodies-optimized : (n : Node) → has_one_character_body n ≡ true → has_one_character_body (optimized n) ≡ true
unfolding optimized
bodies-optimized (loop q s e loopee) h = go (reads_one_character loopee) refl
  where
    go : (r : Bool) → reads_one_character loopee ≡ r → has_one_character_body (if r then loop_1_char_body q loopee else loop q s e (optimized loopee)) ≡ true
    go true k = is_one-reads loopee k
    go false k = refl
bodies-optimized (loop_1_char_body q loopee) h = rw (one_character-optimized loopee h) h
bodies-optimized _ h = refl

sequences-optimized : (n : Node) → has_text_in_sequence n ≡ true → has_text_in_sequence (optimized n) ≡ true
unfolding optimized
sequences-optimized (loop q s e loopee) h = of_loop has_text_in_sequence q s e loopee (reads_one_character loopee) (λ _. refl) refl
sequences-optimized (byte_sequence bytes) h = h
sequences-optimized _ h = refl

sets-optimized : (n : Node) → set_sizes_and_characters_fit_instructions n ≡ true → set_sizes_and_characters_fit_instructions (optimized n) ≡ true
unfolding optimized
sets-optimized (loop q s e loopee) h = of_loop set_sizes_and_characters_fit_instructions q s e loopee (reads_one_character loopee) (λ _. refl) refl
sets-optimized (byte_set members) h = h
sets-optimized (char_set members) h = h
sets-optimized (string_set strings icase) h = h
sets-optimized _ h = refl

pub well_formed-optimized : OptimizedIsWellFormed
well_formed-optimized root h =
    let w = clauses root h in
    by_clauses (optimized root) (record {
      goal_last = rw (goal_count-optimized root, ends_in_goal-optimized root) w.goal_last;
      ids = rw (group_ids-optimized root) w.ids;
      enclosed = every-optimized has_exact_group_range names-optimized root w.enclosed;
      references = rw (group_ids-optimized root) (every-optimized (refers_to_a_group (length (group_ids root))) (refers-optimized (length (group_ids root))) root w.references);
      quantifiers = every-optimized has_order_in_quantifier quantifiers-optimized root w.quantifiers;
      bodies = every-optimized has_one_character_body bodies-optimized root w.bodies;
      sequences = every-optimized has_text_in_sequence sequences-optimized root w.sequences;
      sets = every-optimized set_sizes_and_characters_fit_instructions sets-optimized root w.sets;
    })

-- ---- Outcomes

no_ids : (n : Node) → reads_one_character n ≡ true → group_ids n ≡ []
no_ids (char c) h = refl
no_ids (char_set members) h = refl
no_ids (byte_set members) h = refl
no_ids (bracket contents) h = refl
no_ids match_any h = refl
no_ids match_any_except_line_terminator h = refl
no_ids _ h = grind arith

nothing_named : (first count : ℕ) → list_all (contains []) (numbers_from first count) ≡ true → count ≡ 0
nothing_named first zero h = refl
nothing_named first (suc count) h = grind arith

encloses_none : (s e : ℕ) (n : Node) → group_ids n ≡ [] → range_is_ids_of_enclosed_groups s e n ≡ true → e - s ≡ 0
encloses_none s e n none h = nothing_named s (e - s) (and-right (nat_le s e && list_all (contains (numbers_from s (e - s))) []) _ (rw none at h))

module _ (text : Text) where
  fun_ext3 : (F G : Direction → ℕ → Groups → List Outcome) → ((d : Direction) (p : ℕ) (g : Groups) → F d p g ≡ G d p g) → F ≡ G
  fun_ext3 F G h = fun_ext (λ d. fun_ext (λ p. fun_ext (λ g. h d p g)))

  same : (n : Node) → every_node_passes has_exact_group_range n ≡ true → outcomes text (optimized n) ≡ outcomes text n
  unfolding optimized outcomes
  same (cat first rest) h =
      fun_ext3 _ _ (λ d p g. rw (same first (and-right (has_exact_group_range (cat first rest)) _ (and-left _ (every_node_passes has_exact_group_range rest) h)), same rest (and-right _ (every_node_passes has_exact_group_range rest) h)))
  same (alt first rest) h =
      fun_ext3 _ _ (λ d p g. rw (same first (and-right (has_exact_group_range (alt first rest)) _ (and-left _ (every_node_passes has_exact_group_range rest) h)), same rest (and-right _ (every_node_passes has_exact_group_range rest) h)))
  same (capture_group id name contents) h = fun_ext3 _ _ (λ d p g. rw (same contents h))
  same (lookaround l contents) h = fun_ext3 _ _ (λ d p g. rw (same contents (and-right _ (every_node_passes has_exact_group_range contents) h)))
  same (loop q s e loopee) h =
      go (reads_one_character loopee) refl (same loopee (and-right _ (every_node_passes has_exact_group_range loopee) h))
    where
      go : (r : Bool) → reads_one_character loopee ≡ r → outcomes text (optimized loopee) ≡ outcomes text loopee
          → outcomes text (if r then loop_1_char_body q loopee else loop q s e (optimized loopee)) ≡ outcomes text (loop q s e loopee)
      go true k inside =
          fun_ext3 _ _ (λ d p g. rw (encloses_none s e loopee (no_ids loopee k) (and-left (range_is_ids_of_enclosed_groups s e loopee) (every_node_passes has_exact_group_range loopee) h)))
      go false k inside = fun_ext3 _ _ (λ d p g. rw inside)
  same (loop_1_char_body q loopee) h = fun_ext3 _ _ (λ d p g. rw (same loopee h))
  same _ h = refl

pub outcomes-optimized : OptimizedHasSameOutcomes
outcomes-optimized root h text d p g = ap (λ F. F d p g) (same text root (clauses root h).enclosed)

pub answers-optimized : OptimizedHasSameAnswers
answers-optimized root h text start =
    answers-same (optimized root) root text (same text root (clauses root h).enclosed) (group_ids-optimized root) (names_by_id-optimized root) start

-- ---- Optimizing an optimized tree

reads_one-optimized : (n : Node) → reads_one_character (optimized n) ≡ reads_one_character n
unfolding optimized
reads_one-optimized (loop q s e loopee) = loop-keeps reads_one_character q s e loopee refl refl
reads_one-optimized _ = refl

pub optimized-twice : (n : Node) → optimized (optimized n) ≡ optimized n
unfolding optimized
optimized-twice (cat first rest) = rw (optimized-twice first, optimized-twice rest)
optimized-twice (alt left right) = rw (optimized-twice left, optimized-twice right)
optimized-twice (capture_group id name contents) = rw (optimized-twice contents)
optimized-twice (lookaround l contents) = rw (optimized-twice contents)
optimized-twice (loop q s e loopee) = go (reads_one_character loopee) refl (optimized-twice loopee)
  where
    go : (r : Bool) → reads_one_character loopee ≡ r → optimized (optimized loopee) ≡ optimized loopee
        → optimized (if r then loop_1_char_body q loopee else loop q s e (optimized loopee)) ≡ (if r then loop_1_char_body q loopee else loop q s e (optimized loopee))
    go true is h = rw (one_character-optimized loopee (is_one-reads loopee is))
    go false is h = rw (reads_one-optimized loopee ∙ is, h)
optimized-twice (loop_1_char_body q loopee) = rw (optimized-twice loopee)
optimized-twice _ = refl
