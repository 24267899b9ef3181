-- The start predicate of a tree allows each position where the tree has an outcome.
use Rattle.std.proofs.Common.{◌≡◌, ◌≢◌, ℕ, zero, suc, ◌+◌, ◌-◌, ◌<◌, ◌≤◌, Bool, true, false, not, ◌&&◌, List, [], ◌∷◌, map, length, drop, filter, flat_map, refl, ap, sym, subst, ◌∙◌, arith}
use Rattle.std.specs.Prelude.{if◌then◌else◌, nat_lt, nat_le, nat_eq, ◌==◌, encode_utf8_all, bytes_eq, slice_get, slice_range, chars, IsTrue}
use Rattle.std.specs.Str.{is_utf8}
use Rattle.std.specs.List.{list_all}
use Rattle.std.proofs.lemmas.Slice.Eq.{bytes_eq-Decides}
use lib.Pointwise.{pointwise}
use lib.Utf8.{scalars}
use Rattle.regex_meaning.specs.NumberListHelpers.{contains}
use Rattle.regex_meaning.specs.Laws.{Each}
use Rattle.regex_meaning.specs.Tree.{Quantifier, Node, empty, goal, char, char_set, byte_set, byte_sequence, cat, end_of_cat, alt, bracket, string_set, match_any, match_any_except_line_terminator}
use Rattle.regex_meaning.specs.Tree.{anchor, start_of_line, word_boundary, capture_group}
use Rattle.regex_meaning.specs.Tree.{back_ref, lookaround, loop, loop_1_char_body, every_node_passes, Tree}
use Rattle.regex_meaning.specs.Text.{Text, rightwards, is_scalar, character_before, last_place}
use Rattle.regex_meaning.specs.Outcomes.{Outcome, Groups, Repetition, repetition, bounded_repeat, passes_empty_check, preferred, captured, with_groups_cleared, accepts, one_character, spelled}
use Rattle.regex_meaning.specs.Outcomes.{lookaround_outcomes, is_line_boundary, outcomes}
use Rattle.regex_meaning.specs.WellFormedTrees.{has_text_in_sequence, set_sizes_and_characters_fit_instructions, IsWellFormed}
use Rattle.regex_meaning.proofs.WellFormedTreesLemmas.{clauses}
use Rattle.regex_meaning.specs.StartPredicate.{AbstractStartPredicate, open_ended, arbitrary, sequence, one_of, byte_sequence_predicate, first_not_open_ended, join, abstract_start_predicate}
use Rattle.regex_meaning.specs.StartPredicate.{utf8_bytes_of_text_from_place, may_start}
use Rattle.regex_meaning.specs.StartPredicate.{bytes_that_pass, first_bytes, code_points_of_class, is_anchored, resolved_start_predicate, start_anchored, start_predicate}
use Rattle.regex_meaning.specs.FirstAndAllMatches.{no_groups}
use Rattle.regex_meaning.proofs.EachElementLemmas.{Each-append, Each-if, Each-when, Each-filter, Each-map, Each-flat_map, Each-image, Each-all}
use Rattle.regex_meaning.proofs.FirstByteOfCharacter.{encode-1, FirstOf, contains-bytes_where}
use Rattle.regex_meaning.proofs.AbstractStartLemmas.{Says, OfChars, starts-first, from-byte, join-left, join-right, next-says, spelled-bytes, first-byte-in, in-singles, in-bracket}
use Rattle.std.proofs.lemmas.Bool.{ltb-true, lt-leb, eq-eqb, eqb-true}
use Rattle.regex_meaning.proofs.BoolLemmas.{and-left, and-right}

Each-any : {A : Type 0} (X : Type 0) → X → (xs : List A) → Each (λ (x : A). X) xs
Each-any X x xs = Each-all (λ y. X) (λ y. x) xs

preferred-each : (P : Outcome → Type 0) (greedy : Bool) (again leave : List Outcome) → Each P again → Each P leave → Each P (preferred greedy again leave)
preferred-each P true again leave h k = Each-append P again leave h k
preferred-each P false again leave h k = Each-append P leave again k h

-- This is the first number of the list, or 0 if the list is empty.
abbrev first_or_zero : List ℕ → ℕ
first_or_zero [] = 0
first_or_zero (x ∷ xs) = x

-- If all members pass a test, each member passes it.
pub all-contains : (test : ℕ → Bool) (members : List ℕ) (c : ℕ) → list_all test members ≡ true → contains members c ≡ true → test c ≡ true
all-contains test [] c h t = grind arith
all-contains test (m ∷ ms) c h t = go (nat_eq c m) refl (all-contains test ms c (and-right (test m) _ h))
  where
    go : (b : Bool) → nat_eq c m ≡ b → (contains ms c ≡ true → test c ≡ true) → test c ≡ true
    go true e next = rw (eqb-true c m e) (and-left (test m) _ h)
    go false e next = next (rw e at t)

looked-stay : (negate : Bool) (os : List Outcome) (p : ℕ) (g : Groups) → Each (λ o. o.end ≡ p) (lookaround_outcomes negate os p g)
looked-stay false [] p g = tt
looked-stay false (o ∷ os) p g = (refl, tt)
looked-stay true [] p g = (refl, tt)
looked-stay true (o ∷ os) p g = tt

-- A loop stays at its place if each of its iterations does.
rounds-stay : (r : Repetition Outcome) → ((p : ℕ) (g : Groups) → Each (λ o. o.end ≡ p) (r.body p g)) → (turns k p : ℕ) (g : Groups)
    → Each (λ o. o.end ≡ p) (bounded_repeat r turns k p g)
unfolding bounded_repeat
rounds-stay r h zero k p g = tt
rounds-stay r h (suc turns) k p g =
    let Stays = λ (o : Outcome). o.end ≡ p in
    let later = λ (o : Outcome). bounded_repeat r turns (k + 1) o.end o.groups in
    let bodies = filter (passes_empty_check r k p) (r.body p g) in
    let leave : List Outcome = record { end = p; groups = g } ∷ [] in
    preferred-each Stays r.greedy (if nat_lt k r.most then flat_map later bodies else []) (if nat_le r.least k then leave else [])
    (Each-if Stays (nat_lt k r.most) (flat_map later bodies) []
    (Each-flat_map Stays Stays later
    (λ o e. Each-map (λ q. q.end ≡ o.end) Stays (λ q f. f ∙ e) (later o) (rounds-stay r h turns (k + 1) o.end o.groups)) bodies
    (Each-filter Stays (passes_empty_check r k p) (r.body p g) (h p g))) tt)
    (Each-if Stays (nat_le r.least k) leave [] (refl, tt) tt)

module _ (text : Text) (of_chars : OfChars text) where
  abbrev Begins : AbstractStartPredicate → ℕ → List Outcome → Type 0
  Begins b p os = Each (λ o. Says b (utf8_bytes_of_text_from_place text p) p o.end) os

  -- What follows an outcome that begins as the predicate says begins so too.
  carried : (b : AbstractStartPredicate) (p : ℕ) (o : Outcome) (later : List Outcome) → Says b (utf8_bytes_of_text_from_place text p) p o.end
      → (b ≡ open_ended → Each (λ q. q.end ≡ o.end) later) → Begins b p later
  carried open_ended p o later h k = Each-map (λ q. q.end ≡ o.end) (λ q. q.end ≡ p) (λ q f. f ∙ h) later (k refl)
  carried arbitrary p o later h k = Each-any (Unit {0}) tt later
  carried (sequence bs) p o later h k = Each-any _ h later
  carried (one_of members) p o later h k = Each-any _ h later

  rounds-begin : (b : AbstractStartPredicate) (r : Repetition Outcome) → 0 < r.least → ((p : ℕ) (g : Groups) → Begins b p (r.body p g))
      → (turns p : ℕ) (g : Groups) → Begins b p (bounded_repeat r turns 0 p g)
  unfolding bounded_repeat
  rounds-begin b r l h zero p g = tt
  rounds-begin b r l h (suc turns) p g =
      let Begun = λ (o : Outcome). Says b (utf8_bytes_of_text_from_place text p) p o.end in
      let later = λ (o : Outcome). bounded_repeat r turns 1 o.end o.groups in
      let bodies = filter (passes_empty_check r 0 p) (r.body p g) in
      let leave : List Outcome = record { end = p; groups = g } ∷ [] in
      preferred-each Begun r.greedy (if nat_lt 0 r.most then flat_map later bodies else []) (if nat_le r.least 0 then leave else [])
      (Each-if Begun (nat_lt 0 r.most) (flat_map later bodies) []
      (Each-flat_map Begun Begun later
      (λ o s. carried b p o (later o) s (λ e. rounds-stay r (λ q f. subst (λ (a : AbstractStartPredicate). Begins a q (r.body q f)) e (h q f)) turns 1 o.end o.groups)) bodies
      (Each-filter Begun (passes_empty_check r 0 p) (r.body p g) (h p g))) tt)
      (rw (lt-leb r.least 0 l) tt)

  loop-begins : (b : AbstractStartPredicate) (q : Quantifier) (body : ℕ → Groups → List Outcome) → ((p : ℕ) (g : Groups) → Begins b p (body p g))
      → (turns p : ℕ) (g : Groups) → Begins (if nat_lt 0 q.min then b else arbitrary) p (bounded_repeat (repetition q body) turns 0 p g)
  loop-begins b q body h turns p g = go (nat_lt 0 q.min) refl
    where
      go : (c : Bool) → nat_lt 0 q.min ≡ c → Begins (if c then b else arbitrary) p (bounded_repeat (repetition q body) turns 0 p g)
      go true e = rounds-begin b (repetition q body) (ltb-true 0 q.min e) h turns p g
      go false e = Each-any (Unit {0}) tt (bounded_repeat (repetition q body) turns 0 p g)

  byte_set-begins : (members : List ℕ) → list_all (λ b. nat_lt b 128) members ≡ true → (c : ℕ) (f : FirstOf c)
      → contains members c ≡ true → contains (bytes_that_pass (contains members)) f.byte ≡ true
  byte_set-begins members h c f t =
      let low = ltb-true c 128 (all-contains (λ b. nat_lt b 128) members c h t) in
      let same : c ≡ f.byte = ap first_or_zero (sym (encode-1 c low) ∙ f.is) in
      contains-bytes_where (contains members) f.byte f.lead.is_byte (subst (λ (b : ℕ). contains members b ≡ true) same t)

  sequence-begins : (bytes : List ℕ) → is_utf8 bytes ≡ true → (p : ℕ) (g : Groups)
      → Begins (byte_sequence_predicate bytes) p (spelled text nat_eq (chars bytes) rightwards p g)
  unfolding is_utf8
  sequence-begins [] u p g = Each-any (Unit {0}) tt (spelled text nat_eq (chars []) rightwards p g)
  sequence-begins (b ∷ bs) u p g =
      Each-when (λ (o : Outcome). Says (sequence (b ∷ bs)) (utf8_bytes_of_text_from_place text p) p o.end) _ _
      (λ t.
      let n = length (chars (b ∷ bs)) in
      let e : p + n - p ≡ n = omega arith in
      let stands = and-right (nat_le n (last_place text - p)) (pointwise nat_eq (chars (b ∷ bs)) (slice_range text.characters p (p + n))) t in
      let found = spelled-bytes (chars (b ∷ bs)) (drop p text.characters) (rw e at stands) in
      let spelt = (bytes_eq-Decides (encode_utf8_all (chars (b ∷ bs))) (b ∷ bs)).0
      (and-right (scalars (chars (b ∷ bs))) (bytes_eq (encode_utf8_all (chars (b ∷ bs))) (b ∷ bs)) u) in
      (omega arith, rw spelt at found))

  then-begin : (a b : AbstractStartPredicate) (p : ℕ) (o : Outcome) (later : List Outcome) → Says a (utf8_bytes_of_text_from_place text p) p o.end
      → Begins b o.end later → Begins (first_not_open_ended a b) p later
  then-begin open_ended b p o later h k =
      Each-map (λ q. Says b (utf8_bytes_of_text_from_place text o.end) o.end q.end) (λ q. Says b (utf8_bytes_of_text_from_place text p) p q.end)
      (λ q s. subst (λ (n : ℕ). Says b (utf8_bytes_of_text_from_place text n) n q.end) h s) later k
  then-begin arbitrary b p o later h k = Each-any (Unit {0}) tt later
  then-begin (sequence bs) b p o later h k = Each-any _ h later
  then-begin (one_of members) b p o later h k = Each-any _ h later

  character-begins : (node : Node) (members : List ℕ) (p : ℕ) (g : Groups)
      → ((c : ℕ) (f : FirstOf c) → is_scalar c ≡ true → accepts node c ≡ true → contains members f.byte ≡ true)
      → Begins (one_of members) p (one_character text (accepts node) rightwards p g)
  character-begins node members p g h =
      Each-when (λ (o : Outcome). Says (one_of members) (utf8_bytes_of_text_from_place text p) p o.end) _ _
      (λ t. next-says (accepts node) members h text.characters p of_chars t)

  begins : (node : Node) → IsTrue (every_node_passes has_text_in_sequence node) → IsTrue (every_node_passes set_sizes_and_characters_fit_instructions node)
      → (p : ℕ) (g : Groups) → Begins (abstract_start_predicate node) p (outcomes text node rightwards p g)
  unfolding abstract_start_predicate outcomes
  begins empty h k p g = Each-any (Unit {0}) tt (outcomes text empty rightwards p g)
  begins goal h k p g = Each-any (Unit {0}) tt (outcomes text goal rightwards p g)
  begins (char c) h k p g = Each-any (Unit {0}) tt (outcomes text (char c) rightwards p g)
  begins match_any h k p g = Each-any (Unit {0}) tt (outcomes text match_any rightwards p g)
  begins match_any_except_line_terminator h k p g = Each-any (Unit {0}) tt (outcomes text match_any_except_line_terminator rightwards p g)
  begins (string_set strings icase) h k p g = Each-any (Unit {0}) tt (outcomes text (string_set strings icase) rightwards p g)
  begins (anchor type multiline) h k p g = Each-any (Unit {0}) tt (outcomes text (anchor type multiline) rightwards p g)
  begins (word_boundary invert unicode_icase) h k p g = Each-any (Unit {0}) tt (outcomes text (word_boundary invert unicode_icase) rightwards p g)
  begins (back_ref group icase) h k p g = Each-any (Unit {0}) tt (outcomes text (back_ref group icase) rightwards p g)
  begins end_of_cat h k p g = (refl, tt)
  begins (char_set members) h k p g =
      character-begins (char_set members) (first_bytes (map (λ c. (c, c)) members)) p g
      (λ c f s t. first-byte-in (map (λ d. (d, d)) members) c f (in-singles members c t))
  begins (byte_set members) h k p g =
      character-begins (byte_set members) (bytes_that_pass (contains members)) p g
      (λ c f s t. byte_set-begins members (and-right (nat_le (length members) 4) _ k) c f t)
  begins (bracket contents) h k p g =
      character-begins (bracket contents) (first_bytes (code_points_of_class contents)) p g
      (λ c f s t. first-byte-in (code_points_of_class contents) c f (in-bracket contents c s t))
  begins (byte_sequence bytes) h k p g = sequence-begins bytes (and-right (nat_lt 0 (length bytes)) _ h) p g
  begins (cat first rest) h k p g =
      Each-flat_map (λ o. Says (abstract_start_predicate first) (utf8_bytes_of_text_from_place text p) p o.end) (λ o. Says (first_not_open_ended (abstract_start_predicate first) (abstract_start_predicate rest)) (utf8_bytes_of_text_from_place text p) p o.end)
      (λ o. outcomes text rest rightwards o.end o.groups)
      (λ o s. then-begin (abstract_start_predicate first) (abstract_start_predicate rest) p o (outcomes text rest rightwards o.end o.groups) s
      (begins rest (and-right _ _ h) (and-right _ _ k) o.end o.groups))
      (outcomes text first rightwards p g) (begins first (and-left _ _ h) (and-left _ _ k) p g)
  begins (alt left right) h k p g =
      Each-append (λ o. Says (join (abstract_start_predicate left) (abstract_start_predicate right)) (utf8_bytes_of_text_from_place text p) p o.end) _ _
      (Each-map _ _ (λ o s. join-left (abstract_start_predicate left) (abstract_start_predicate right) (utf8_bytes_of_text_from_place text p) p o.end (from-byte text of_chars p) s) _
      (begins left (and-left _ _ h) (and-left _ _ k) p g))
      (Each-map _ _ (λ o s. join-right (abstract_start_predicate left) (abstract_start_predicate right) (utf8_bytes_of_text_from_place text p) p o.end (from-byte text of_chars p) s) _
      (begins right (and-right _ _ h) (and-right _ _ k) p g))
  begins (capture_group id name contents) h k p g =
      Each-image _ _ (captured id p) (λ o s. s) _ (begins contents h k p (with_groups_cleared id 1 g))
  begins (lookaround l contents) h k p g = looked-stay l.negate _ p g
  begins (loop q start_group end_group loopee) h k p g =
      loop-begins (abstract_start_predicate loopee) q _ (λ p g. begins loopee h k p (with_groups_cleared start_group (end_group - start_group) g)) _ p g
  begins (loop_1_char_body q loopee) h k p g =
      loop-begins (abstract_start_predicate loopee) q _ (λ p g. begins loopee h k p g) _ p g

-- ---- Anchored trees

edge-first : (text : Text) (p : ℕ) → p ≤ last_place text → is_line_boundary (character_before text p) false ≡ true → p ≡ 0
edge-first text zero h e = refl
edge-first text (suc p) h e = go text.characters p h e
  where
    go : (cs : List ℕ) (i : ℕ) → suc i ≤ length cs → is_line_boundary (slice_get cs i) false ≡ true → suc p ≡ 0
    go [] i l f = absurd (omega arith)
    go (c ∷ cs) zero l f = grind arith
    go (c ∷ cs) (suc i) l f = go cs i (omega arith) f

module _ (text : Text) where
  anchored : (node : Node) → is_anchored node ≡ true → (p : ℕ) (g : Groups) → p ≤ last_place text
      → Each (λ o. p ≡ 0) (outcomes text node rightwards p g)
  unfolding outcomes
  anchored (anchor start_of_line false) h p g l =
      Each-when (λ (o : Outcome). p ≡ 0) (is_line_boundary (character_before text p) false) (record { end = p; groups = g }) (edge-first text p l)
  anchored (cat first rest) h p g l =
      Each-flat_map (λ o. p ≡ 0) (λ o. p ≡ 0) _ (λ o e. Each-any (p ≡ 0) e (outcomes text rest rightwards o.end o.groups)) _ (anchored first h p g l)
  anchored (capture_group id name contents) h p g l =
      Each-image _ _ (captured id p) (λ o e. e) _ (anchored contents h p (with_groups_cleared id 1 g) l)
  anchored (alt left right) h p g l =
      Each-append (λ o. p ≡ 0) _ _ (anchored left (and-left _ _ h) p g l) (anchored right (and-right _ _ h) p g l)
  anchored _ h p g l = grind arith

-- ---- The predicate

some-of : (X : Outcome → Type 0) (Y : Type 0) (os : List Outcome) → os ≢ [] → Each X os → ((o : Outcome) → X o → Y) → Y
some-of X Y [] ne h k = absurd (ne refl)
some-of X Y (o ∷ os) ne h k = k o h.0

start-holds : (b : AbstractStartPredicate) (text : Text) (p e : ℕ) → Says b (utf8_bytes_of_text_from_place text p) p e → IsTrue (may_start (resolved_start_predicate b) text p)
unfolding may_start
start-holds open_ended text p e s = refl
start-holds arbitrary text p e s = refl
start-holds (sequence []) text p e s = refl
start-holds (sequence (b ∷ [])) text p e s = starts-first (utf8_bytes_of_text_from_place text p) (b ∷ []) s.0 s.1
start-holds (sequence (b ∷ c ∷ bs)) text p e s = s.1
start-holds (one_of []) text p e s = refl
start-holds (one_of (b ∷ bs)) text p e s = s

pub predicate-holds : (tree : Tree) → IsWellFormed tree.root → (text : Text) (p : ℕ) → OfChars text → p ≤ last_place text
    → outcomes text tree.root rightwards p (no_groups tree.root) ≢ [] → IsTrue (may_start (start_predicate tree) text p)
unfolding start_predicate may_start
predicate-holds tree w text p c l ne = go (not tree.flags.multiline && is_anchored tree.root) refl
  where
    go : (b : Bool) → (not tree.flags.multiline && is_anchored tree.root) ≡ b
        → IsTrue (may_start (if b then start_anchored else resolved_start_predicate (abstract_start_predicate tree.root)) text p)
    go true e =
        some-of (λ o. p ≡ 0) ((p == 0) ≡ true) _ ne (anchored text tree.root (and-right _ _ e) p (no_groups tree.root) l) (λ o z. eq-eqb p 0 z)
    go false e =
        some-of (λ o. Says (abstract_start_predicate tree.root) (utf8_bytes_of_text_from_place text p) p o.end) (IsTrue (may_start (resolved_start_predicate (abstract_start_predicate tree.root)) text p)) _ ne
        (begins text c tree.root (clauses tree.root w).sequences (clauses tree.root w).sets p (no_groups tree.root)) (λ o s. start-holds (abstract_start_predicate tree.root) text p o.end s)
