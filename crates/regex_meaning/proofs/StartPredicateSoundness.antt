-- The start predicate of a well-formed tree is sound.
use Rattle.std.proofs.Common.{◌≡◌, ℕ, ◌<◌, ◌≤◌, Bool, true, false, not, ◌&&◌, ◌||◌, List, [], ◌∷◌, map, length, take, filter, refl, arith}
use mathlib.Core.Logic.{◌⊎◌, inl, inr}
use lib.Utf8.{scalar_cases}
use Rattle.std.specs.Prelude.{if◌then◌else◌, nat_lt, nat_le, ◌==◌, encode_utf8_all, chars, IsTrue}
use Rattle.std.specs.Char.{IsScalar}
use Rattle.std.specs.Str.{is_utf8, all_scalars}
use Rattle.std.specs.List.{list_all}
use Rattle.std.specs.Int.{is_in_range}
use Rattle.std.proofs.lemmas.Slice.Eq.{bytes_eq-Decides}
use Rattle.regex_meaning.specs.NumberListHelpers.{contains, numbers_from}
use Rattle.regex_meaning.specs.Tree.{Intervals, Node, char_set, byte_set, byte_sequence, cat, alt, bracket, capture_group, loop, loop_1_char_body, every_node_passes, Tree}
use Rattle.regex_meaning.specs.Text.{is_scalar}
use Rattle.regex_meaning.specs.WellFormedTrees.{has_text_in_sequence, set_sizes_and_characters_fit_instructions, IsWellFormed}
use Rattle.regex_meaning.proofs.WellFormedTreesLemmas.{clauses}
use Rattle.regex_meaning.specs.StartPredicate.{AbstractStartPredicate, open_ended, arbitrary, sequence, one_of, byte_sequence_predicate, common_prefix_or_first_bytes, common_prefix}
use Rattle.regex_meaning.specs.StartPredicate.{first_byte_as_set, union_of_byte_sets, first_not_open_ended, join, abstract_start_predicate, bytes_that_pass}
use Rattle.regex_meaning.specs.StartPredicate.{chars_with_first_byte, intersects, first_bytes, code_points_of_class, IsSoundStartPredicateOf, begins_characters, has_nonempty_bytes, is_anchored}
use Rattle.regex_meaning.specs.StartPredicate.{resolved_start_predicate, start_anchored, start_predicate}
use Rattle.regex_meaning.proofs.FirstByteOfCharacter.{in_range-below, in_range-true, true-in_range, first_of_char}
use Rattle.regex_meaning.proofs.StartPredicateLemmas.{all-contains, predicate-holds}
use Rattle.std.proofs.lemmas.Bool.{or_cases, and_from, or_left, or_right, ltb-true, le-ltb, ne_eqb}
use Rattle.regex_meaning.proofs.BoolLemmas.{and-left, and-right}

abbrev begins_one : ℕ → Bool
begins_one b = not (is_in_range 0x80 0xBF b)

abbrev Clean : AbstractStartPredicate → Type 0
Clean open_ended = Unit {0}
Clean arbitrary = Unit {0}
Clean (sequence bs) = list_all begins_one (take 1 bs) ≡ true
Clean (one_of members) = list_all begins_one members ≡ true

all-filter : (ok test : ℕ → Bool) (xs : List ℕ) → ((b : ℕ) → test b ≡ true → ok b ≡ true) → list_all ok (filter test xs) ≡ true
all-filter ok test [] h = refl
all-filter ok test (x ∷ xs) h = go (test x) refl (all-filter ok test xs h)
  where
    go : (b : Bool) → test x ≡ b → list_all ok (filter test xs) ≡ true → list_all ok (if b then x ∷ filter test xs else filter test xs) ≡ true
    go true e k = and_from _ _ (h x e) k
    go false e k = k

all-union : (ok : ℕ → Bool) (xs ys : List ℕ) → list_all ok xs ≡ true → list_all ok ys ≡ true → list_all ok (union_of_byte_sets xs ys) ≡ true
unfolding bytes_that_pass
all-union ok xs ys h k = all-filter ok (λ b. contains xs b || contains ys b) (numbers_from 0 256) (λ b t. go b (or_cases (contains xs b) (contains ys b) t))
  where
    go : (b : ℕ) → (contains xs b ≡ true) ⊎ (contains ys b ≡ true) → ok b ≡ true
    go b (inl t) = all-contains ok xs b h t
    go b (inr t) = all-contains ok ys b k t

all-shared : (ok : ℕ → Bool) (xs ys : List ℕ) → list_all ok (take 1 xs) ≡ true → list_all ok (take 1 (common_prefix xs ys)) ≡ true
all-shared ok [] ys h = h
all-shared ok (x ∷ xs) [] h = refl
all-shared ok (x ∷ xs) (y ∷ ys) h = go (x == y)
  where
    go : (b : Bool) → list_all ok (take 1 (if b then x ∷ common_prefix xs ys else [])) ≡ true
    go true = h
    go false = refl

clean-sequence_or : (front firsts : List ℕ) → list_all begins_one (take 1 front) ≡ true → list_all begins_one firsts ≡ true → Clean (common_prefix_or_first_bytes front firsts)
clean-sequence_or [] firsts h k = k
clean-sequence_or (b ∷ bs) firsts h k = h

clean-join : (x y : AbstractStartPredicate) → Clean x → Clean y → Clean (join x y)
clean-join (sequence xs) (sequence ys) h k =
    clean-sequence_or (common_prefix xs ys) (union_of_byte_sets (first_byte_as_set xs) (first_byte_as_set ys)) (all-shared begins_one xs ys h) (all-union begins_one (first_byte_as_set xs) (first_byte_as_set ys) h k)
clean-join (sequence xs) (one_of ys) h k = all-union begins_one (first_byte_as_set xs) ys h k
clean-join (one_of xs) (sequence ys) h k = all-union begins_one xs (first_byte_as_set ys) h k
clean-join (one_of xs) (one_of ys) h k = all-union begins_one xs ys h k
clean-join _ _ h k = tt

clean-then : (x y : AbstractStartPredicate) → Clean x → Clean y → Clean (first_not_open_ended x y)
clean-then open_ended y h k = k
clean-then arbitrary y h k = tt
clean-then (sequence bs) y h k = h
clean-then (one_of members) y h k = h

clean-if : (c : Bool) (x : AbstractStartPredicate) → Clean x → Clean (if c then x else arbitrary)
clean-if true x h = h
clean-if false x h = tt

begun_by-none : (b : ℕ) → 0x80 ≤ b → b ≤ 0xBF → chars_with_first_byte b ≡ []
begun_by-none b h k =
    rw (
      le-ltb b 0x80 h,
      in_range-below 0xC2 0xDF b (omega arith),
      ne_eqb b 0xE0 (omega arith),
      in_range-below 0xE1 0xEF b (omega arith),
      ne_eqb b 0xF0 (omega arith),
      in_range-below 0xF1 0xF3 b (omega arith),
      ne_eqb b 0xF4 (omega arith),
    )

clean-first_bytes : (ivs : Intervals) → list_all begins_one (first_bytes ivs) ≡ true
unfolding bytes_that_pass
clean-first_bytes ivs = all-filter begins_one (λ b. intersects (chars_with_first_byte b) ivs) (numbers_from 0 256) (λ b t. go b (is_in_range 0x80 0xBF b) refl t)
  where
    go : (b : ℕ) (c : Bool) → is_in_range 0x80 0xBF b ≡ c → intersects (chars_with_first_byte b) ivs ≡ true → not c ≡ true
    go b true e t =
        let r = true-in_range 0x80 0xBF b e in
        let none = begun_by-none b r.0 r.1 in
        let no : false ≡ true = rw none at t in no
    go b false e t = refl

pub is_scalar-of : (c : ℕ) → IsScalar c → is_scalar c ≡ true
is_scalar-of c h = go (scalar_cases c h)
  where
    go : (c < 55296) ⊎ ((57344 ≤ c) × (c < 1114112)) → is_scalar c ≡ true
    go (inl l) = or_left _ _ (in_range-true 0 0xD7FF c (omega arith) (omega arith))
    go (inr l) = or_right (is_in_range 0 0xD7FF c) _ (in_range-true 0xE000 0x10_FFFF c l.0 (let u = l.1 in omega arith))

clean-bytes : (cs bytes : List ℕ) → all_scalars cs ≡ true → encode_utf8_all cs ≡ bytes → list_all begins_one (take 1 bytes) ≡ true
clean-bytes [] bytes s e = rw (← e) refl
clean-bytes (c ∷ cs) bytes s e =
    let f = first_of_char c (is_scalar-of c (and-left _ _ s)) in
    rw (← e, f.is) (and_from (begins_one f.byte) true (rw f.lead.begins) refl)

clean-sequence_of : (bytes : List ℕ) → list_all begins_one (take 1 bytes) ≡ true → Clean (byte_sequence_predicate bytes)
clean-sequence_of [] h = tt
clean-sequence_of (b ∷ bs) h = h

clean-text : (bytes : List ℕ) → is_utf8 bytes ≡ true → Clean (byte_sequence_predicate bytes)
unfolding is_utf8
clean-text bytes u =
    clean-sequence_of bytes (clean-bytes (chars bytes) bytes (and-left _ _ u) ((bytes_eq-Decides (encode_utf8_all (chars bytes)) bytes).0 (and-right _ _ u)))

clean-byte_set : (members : List ℕ) → list_all (λ b. nat_lt b 128) members ≡ true → list_all begins_one (bytes_that_pass (contains members)) ≡ true
unfolding bytes_that_pass
clean-byte_set members h =
    all-filter begins_one (contains members) (numbers_from 0 256)
    (λ b t. let low = ltb-true b 128 (all-contains (λ c. nat_lt c 128) members b h t) in rw (in_range-below 0x80 0xBF b low))

clean : (node : Node) → IsTrue (every_node_passes has_text_in_sequence node) → IsTrue (every_node_passes set_sizes_and_characters_fit_instructions node) → Clean (abstract_start_predicate node)
unfolding abstract_start_predicate
clean (byte_sequence bytes) h k = clean-text bytes (and-right (nat_lt 0 (length bytes)) _ h)
clean (byte_set members) h k = clean-byte_set members (and-right (nat_le (length members) 4) _ k)
clean (char_set members) h k = clean-first_bytes (map (λ c. (c, c)) members)
clean (bracket contents) h k = clean-first_bytes (code_points_of_class contents)
clean (cat first rest) h k =
    clean-then (abstract_start_predicate first) (abstract_start_predicate rest) (clean first (and-left _ _ h) (and-left _ _ k)) (clean rest (and-right _ _ h) (and-right _ _ k))
clean (alt left right) h k =
    clean-join (abstract_start_predicate left) (abstract_start_predicate right) (clean left (and-left _ _ h) (and-left _ _ k)) (clean right (and-right _ _ h) (and-right _ _ k))
clean (capture_group id name contents) h k = clean contents h k
clean (loop q start_group end_group loopee) h k = clean-if (nat_lt 0 q.min) (abstract_start_predicate loopee) (clean loopee h k)
clean (loop_1_char_body q loopee) h k = clean-if (nat_lt 0 q.min) (abstract_start_predicate loopee) (clean loopee h k)
clean _ h k = tt

clean-start : (b : AbstractStartPredicate) → Clean b → IsTrue (begins_characters (resolved_start_predicate b))
clean-start open_ended h = refl
clean-start arbitrary h = refl
clean-start (sequence []) h = refl
clean-start (sequence (b ∷ [])) h = h
clean-start (sequence (b ∷ c ∷ bs)) h = h
clean-start (one_of []) h = refl
clean-start (one_of (b ∷ bs)) h = h

predicate-bytes_begin_characters : (tree : Tree) → IsWellFormed tree.root → IsTrue (begins_characters (start_predicate tree))
unfolding start_predicate
predicate-bytes_begin_characters tree w = go (not tree.flags.multiline && is_anchored tree.root)
  where
    go : (b : Bool) → IsTrue (begins_characters (if b then start_anchored else resolved_start_predicate (abstract_start_predicate tree.root)))
    go true = refl
    go false = clean-start (abstract_start_predicate tree.root) (clean tree.root (clauses tree.root w).sequences (clauses tree.root w).sets)

filled-start : (b : AbstractStartPredicate) → IsTrue (has_nonempty_bytes (resolved_start_predicate b))
filled-start open_ended = refl
filled-start arbitrary = refl
filled-start (sequence []) = refl
filled-start (sequence (b ∷ [])) = refl
filled-start (sequence (b ∷ c ∷ bs)) = refl
filled-start (one_of []) = refl
filled-start (one_of (b ∷ bs)) = refl

predicate-filled : (tree : Tree) → IsTrue (has_nonempty_bytes (start_predicate tree))
unfolding start_predicate
predicate-filled tree = go (not tree.flags.multiline && is_anchored tree.root)
  where
    go : (b : Bool) → IsTrue (has_nonempty_bytes (if b then start_anchored else resolved_start_predicate (abstract_start_predicate tree.root)))
    go true = refl
    go false = filled-start (abstract_start_predicate tree.root)

pub predicate-sound : (tree : Tree) → IsWellFormed tree.root → IsSoundStartPredicateOf (start_predicate tree) tree.root
predicate-sound tree w = record { holds = predicate-holds tree w; bytes_begin_characters = predicate-bytes_begin_characters tree w; filled = predicate-filled tree }
