-- The ends of a node's outcomes do not depend on the groups if the program has no backreference.
use Rattle.std.proofs.Common.{◌≡◌, ℕ, zero, suc, ◌+◌, ◌-◌, Bool, true, false, List, [], ◌∷◌, map, refl, sym, ◌∙◌, slice_get, slice_set, Some, min, max}
use Rattle.std.specs.Prelude.{if◌then◌else◌, nat_le, nat_lt, nat_eq, chars, flat_map, filter, length, ◌&&◌}
use lib.Pointwise.{pointwise}
use Rattle.regex_meaning.specs.Laws.{Each}
use Rattle.regex_meaning.specs.Tree.{Sameness, Node, empty, goal, char, char_set, byte_set, byte_sequence, cat, end_of_cat, alt, bracket, string_set, match_any, match_any_except_line_terminator}
use Rattle.regex_meaning.specs.Tree.{anchor, word_boundary, capture_group, back_ref, lookaround, loop, loop_1_char_body}
use Rattle.regex_meaning.specs.Text.{Text, Direction, next_character, characters_ahead, next_characters, moved}
use Rattle.regex_meaning.specs.Outcomes.{Groups, Outcome, Repetition, accepts, is_some_and, captured, with_groups_cleared, exclusive_or, anchor_holds, is_at_word_boundary}
use Rattle.regex_meaning.specs.Outcomes.{bounded_repeat, preferred, passes_empty_check, repetition, lookaround_outcomes, direction_of, is_case_variant, spelled, outcomes}
use Rattle.regex_meaning.specs.CompilationRelation.{Program, Counters, counters_after_insn, IsCode, BackRef}
use Rattle.regex_meaning.proofs.EachElementLemmas.{Each-append, Each-map, Each-image, Each-flat_map, Each-left, Each-right}

-- ---- Lists

-- A fact of all elements of joined lists holds of the elements of each list.
pub each-apart : {A B : Type 0} (P : B → Type 0) (f : A → List B) (xs : List A) → Each P (flat_map f xs) → Each (λ x. Each P (f x)) xs
each-apart P f [] h = tt
each-apart P f (x ∷ xs) h = (Each-left P (f x) (flat_map f xs) h, each-apart P f xs (Each-right P (f x) (flat_map f xs) h))

pub each-together : {A B : Type 0} (P : B → Type 0) (f : A → List B) (xs : List A) → Each (λ x. Each P (f x)) xs → Each P (flat_map f xs)
each-together P f xs h = Each-flat_map (λ x. Each P (f x)) P f (λ x k. k) xs h

pub each-mapped : {A B : Type 0} (P : B → Type 0) (f : A → B) (xs : List A) → Each P (map f xs) → Each (λ x. P (f x)) xs
each-mapped P f [] h = tt
each-mapped P f (x ∷ xs) h = (h.0, each-mapped P f xs h.1)

-- A fact of the filtered elements holds of each element that passes the test.
each-passing : {A : Type 0} (P : A → Type 0) (t : A → Bool) (xs : List A) → Each P (filter t xs) → Each (λ x. t x ≡ true → P x) xs
each-passing P t [] h = tt
each-passing P t (x ∷ xs) h = by (each-passing P t xs) (t x) refl h
  where
    by : (Each P (filter t xs) → Each (λ x. t x ≡ true → P x) xs) → (b : Bool) → t x ≡ b → Each P (if b then x ∷ filter t xs else filter t xs)
        → Each (λ x. t x ≡ true → P x) (x ∷ xs)
    by more true is h = (λ e. h.0, more h.1)
    by more false is h = (λ e. let no : false ≡ true = sym is ∙ e in cc, more h)

passing-each : {A : Type 0} (P : A → Type 0) (t : A → Bool) (xs : List A) → Each (λ x. t x ≡ true → P x) xs → Each P (filter t xs)
passing-each P t [] h = tt
passing-each P t (x ∷ xs) h = by (passing-each P t xs h.1) (t x) refl
  where
    by : Each P (filter t xs) → (b : Bool) → t x ≡ b → Each P (if b then x ∷ filter t xs else filter t xs)
    by more true is = (h.0 is, more)
    by more false is = more

-- ---- Outcomes

-- `AnyGroups` says that a fact of an outcome does not depend on its groups.
abbrev pub AnyGroups : (Outcome → Type 0) → Type 0
AnyGroups P = (e : ℕ) (g h : Groups) → P (record { end = e; groups = g }) → P (record { end = e; groups = h })

-- A fact that ignores groups holds of the outcomes with all groups if it does with some.
abbrev pub Freely : (Groups → List Outcome) → Type 1
Freely os = (g h : Groups) (P : Outcome → Type 0) → AnyGroups P → Each P (os g) → Each P (os h)

if-free : (b : Bool) (e : ℕ) → Freely (λ g. if b then record { end = e; groups = g } ∷ [] else [])
if-free true e g h P any x = (any e g h x.0, tt)
if-free false e g h P any x = tt

preferred-apart : (P : Outcome → Type 0) (greedy : Bool) (again leave : List Outcome) → Each P (preferred greedy again leave) → Each P again × Each P leave
preferred-apart P true again leave x = (Each-left P again leave x, Each-right P again leave x)
preferred-apart P false again leave x = (Each-right P leave again x, Each-left P leave again x)

preferred-together : (P : Outcome → Type 0) (greedy : Bool) (again leave : List Outcome) → Each P again × Each P leave → Each P (preferred greedy again leave)
preferred-together P true again leave x = Each-append P again leave x.0 x.1
preferred-together P false again leave x = Each-append P leave again x.1 x.0

when-free : (b : Bool) (os : Groups → List Outcome) → Freely os → Freely (λ g. if b then os g else [])
when-free true os free g h P any x = free g h P any x
when-free false os free g h P any x = tt

module _ (r : Repetition Outcome) (body : (p : ℕ) → Freely (r.body p)) (k p : ℕ) (further : Outcome → List Outcome) where
  -- `again` lists the outcomes behind one more iteration.
  abbrev again : Groups → List Outcome
  again g = flat_map further (filter (passes_empty_check r k p) (r.body p g))

  again-free : ((e : ℕ) → Freely (λ g. further (record { end = e; groups = g }))) → Freely again
  again-free free g h P any x =
      each-together P further (filter (passes_empty_check r k p) (r.body p h))
      (passing-each (λ o. Each P (further o)) (passes_empty_check r k p) (r.body p h)
      (body p g h (λ o. passes_empty_check r k p o ≡ true → Each P (further o)) (λ e g h y passes. free e g h P any (y passes))
      (each-passing (λ o. Each P (further o)) (passes_empty_check r k p) (r.body p g)
      (each-apart P further (filter (passes_empty_check r k p) (r.body p g)) x))))

  turn-free : ((e : ℕ) → Freely (λ g. further (record { end = e; groups = g })))
      → Freely (λ g. preferred r.greedy (if nat_lt k r.most then again g else []) (if nat_le r.least k then record { end = p; groups = g } ∷ [] else []))
  turn-free free g h P any x =
      let parts = preferred-apart P r.greedy (if nat_lt k r.most then again g else []) (if nat_le r.least k then record { end = p; groups = g } ∷ [] else []) x in
      preferred-together P r.greedy (if nat_lt k r.most then again h else []) (if nat_le r.least k then record { end = p; groups = h } ∷ [] else [])
      (when-free (nat_lt k r.most) again (again-free free) g h P any parts.0, if-free (nat_le r.least k) p g h P any parts.1)

turns-free : (r : Repetition Outcome) → ((p : ℕ) → Freely (r.body p)) → (turns k p : ℕ) → Freely (bounded_repeat r turns k p)
unfolding bounded_repeat
turns-free r body zero k p g h P any x = tt
turns-free r body (suc turns) k p g h P any x =
    turn-free r body k p (λ o. bounded_repeat r turns (k + 1) o.end o.groups) (λ e g h P any y. turns-free r body turns (k + 1) e g h P any y) g h P any x

look-free : (negate : Bool) (xs ys : List Outcome) → (Each (λ o. ⊥) xs → Each (λ o. ⊥) ys) → (Each (λ o. ⊥) ys → Each (λ o. ⊥) xs)
    → (p : ℕ) (g h : Groups) (P : Outcome → Type 0) → AnyGroups P → Each P (lookaround_outcomes negate xs p g) → Each P (lookaround_outcomes negate ys p h)
look-free false xs [] there back p g h P any x = tt
look-free false [] (o ∷ os) there back p g h P any x = absurd (there tt).0
look-free false (a ∷ more) (o ∷ os) there back p g h P any x = (any p a.groups o.groups x.0, tt)
look-free true xs (o ∷ os) there back p g h P any x = tt
look-free true [] [] there back p g h P any x = (any p g h x.0, tt)
look-free true (a ∷ more) [] there back p g h P any x = absurd (back tt).0

-- ---- Nodes

-- No instruction of the program is a backreference.
abbrev pub HasNoBackrefs : Program → Type 0
HasNoBackrefs program = (ip group : ℕ) (same : Sameness) → slice_get program.insns ip ≡ Some (BackRef group same) → ⊥

module _ (program : Program) (text : Text) (none : HasNoBackrefs program) where
  pub node-free : (behind : Bool) (node : Node) (m n : Counters) → IsCode program behind node m n → (d : Direction) (p : ℕ) → Freely (outcomes text node d p)
  unfolding IsCode outcomes
  node-free behind empty m n code d p g h P any x = (any p g h x.0, tt)
  node-free behind goal m n code d p g h P any x = (any p g h x.0, tt)
  node-free behind end_of_cat m n code d p g h P any x = (any p g h x.0, tt)
  node-free behind (char c) m n code d p g h P any x = if-free (is_some_and (next_character text d p) (accepts (char c))) (moved text d 1 p) g h P any x
  node-free behind (char_set cs) m n code d p g h P any x = if-free (is_some_and (next_character text d p) (accepts (char_set cs))) (moved text d 1 p) g h P any x
  node-free behind (byte_set cs) m n code d p g h P any x = if-free (is_some_and (next_character text d p) (accepts (byte_set cs))) (moved text d 1 p) g h P any x
  node-free behind (bracket contents) m n code d p g h P any x = if-free (is_some_and (next_character text d p) (accepts (bracket contents))) (moved text d 1 p) g h P any x
  node-free behind match_any m n code d p g h P any x = if-free (is_some_and (next_character text d p) (accepts match_any)) (moved text d 1 p) g h P any x
  node-free behind match_any_except_line_terminator m n code d p g h P any x =
      if-free (is_some_and (next_character text d p) (accepts match_any_except_line_terminator)) (moved text d 1 p) g h P any x
  node-free behind (byte_sequence bytes) m n code d p g h P any x =
      let cs = chars bytes in
      if-free (nat_le (length cs) (characters_ahead text d p) && pointwise nat_eq cs (next_characters text d (length cs) p)) (moved text d (length cs) p) g h P any x
  node-free behind (string_set strings icase) m n code d p g h P any x =
      let alike = is_case_variant text icase in
      each-together P (λ s. spelled text alike s d p h) strings
      (Each-map (λ s. Each P (spelled text alike s d p g)) (λ s. Each P (spelled text alike s d p h))
      (λ s y. if-free (nat_le (length s) (characters_ahead text d p) && pointwise alike s (next_characters text d (length s) p)) (moved text d (length s) p) g h P any y)
      strings (each-apart P (λ s. spelled text alike s d p g) strings x))
  node-free behind (cat first rest) m n code d p g h P any x =
      let further : Outcome → List Outcome = λ o. outcomes text rest d o.end o.groups in
      each-together P further (outcomes text first d p h)
      (node-free behind first m code.0 code.1 d p g h (λ o. Each P (further o)) (λ e g h y. node-free behind rest code.0 n code.2 d e g h P any y)
      (each-apart P further (outcomes text first d p g) x))
  node-free behind (alt left right) m n code d p g h P any x =
      Each-append P (outcomes text left d p h) (outcomes text right d p h)
      (node-free behind left (counters_after_insn m) code.0 code.2 d p g h P any (Each-left P (outcomes text left d p g) (outcomes text right d p g) x))
      (node-free behind right (counters_after_insn code.0) n code.4 d p g h P any (Each-right P (outcomes text left d p g) (outcomes text right d p g) x))
  node-free behind (anchor type multiline) m n code d p g h P any x = if-free (anchor_holds text type multiline p) p g h P any x
  node-free behind (word_boundary invert icase) m n code d p g h P any x = if-free (exclusive_or invert (is_at_word_boundary text icase p)) p g h P any x
  node-free behind (capture_group id name contents) m n code d p g h P any x =
      Each-image (λ o. P (captured id p o)) P (captured id p) (λ o y. y) (outcomes text contents d p (with_groups_cleared id 1 h))
      (node-free behind contents (counters_after_insn m) code.0 code.2 d p (with_groups_cleared id 1 g) (with_groups_cleared id 1 h) (λ o. P (captured id p o))
      (λ e g h y. any e (slice_set g id (Some (min p e, max p e))) (slice_set h id (Some (min p e, max p e))) y)
      (each-mapped P (captured id p) (outcomes text contents d p (with_groups_cleared id 1 g)) x))
  node-free behind (back_ref group same) m n code d p g h P any x = absurd (none m.insn (group - 1) same code.0)
  node-free behind (lookaround l contents) m n code d p g h P any x =
      let free : (g h : Groups) → Each (λ o. ⊥) (outcomes text contents (direction_of l) p g) → Each (λ o. ⊥) (outcomes text contents (direction_of l) p h) =
      λ g h y. node-free l.backwards contents (counters_after_insn m) code.0 code.2 (direction_of l) p g h (λ o. ⊥) (λ e g h z. z) y in
      look-free l.negate (outcomes text contents (direction_of l) p g) (outcomes text contents (direction_of l) p h) (free g h) (free h g) p g h P any x
  node-free behind (loop q first end loopee) m n code d p g h P any x =
      let r = repetition q (λ p g. outcomes text loopee d p (with_groups_cleared first (end - first) g)) in
      turns-free r (λ p g h P any y. node-free behind loopee code.0 code.1 code.3 d p (with_groups_cleared first (end - first) g) (with_groups_cleared first (end - first) h) P any y)
      (q.min - 0 + characters_ahead text d p + 1) 0 p g h P any x
  node-free behind (loop_1_char_body q loopee) m n code d p g h P any x =
      turns-free (repetition q (outcomes text loopee d)) (λ p g h P any y. node-free behind loopee (counters_after_insn m) n code.1 d p g h P any y)
      (q.min - 0 + characters_ahead text d p + 1) 0 p g h P any x
