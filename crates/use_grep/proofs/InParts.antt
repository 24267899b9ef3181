-- If a local tree has a match in a part of a text, it has one in the whole text.
use Rattle.std.proofs.Common.{◌≡◌, ◌⊎◌, ℕ, zero, suc, ◌+◌, ◌-◌, ◌<◌, ◌≤◌, Bool, true, false, not, ◌&&◌, List, [], ◌∷◌, ◌++◌, length, map, Option, Some, None, refl, ap, sym, ◌∙◌, filter, flat_map}
use Rattle.std.proofs.Common.{arith, subst, option_map, option_and_then, append-nil, append_assoc, get_or, lit<}
use Rattle.std.specs.Str.{chars}
use Rattle.std.specs.Prelude.{if◌then◌else◌, nat_le, nat_lt, ◌==◌, slice_get, is_some, IsUtf8, eqb}
use Rattle.std.specs.List.{join_with_byte, slice_split, position_or_len, before_first, after_first}
use Rattle.std.specs.Option.{option_or}
use mathlib.Core.Logic.{inl, inr}
use Rattle.std.proofs.lemmas.Bool.{eqb-false, eqb-true, cases_lt}
use Rattle.std.proofs.lemmas.List.{length-append, length-drop}
use Rattle.std.proofs.lemmas.Str.{chars-append, IsUtf8-from_ascii, IsUtf8-take, IsUtf8-drop, IsCharBoundary-before_ascii, IsCharBoundary-after_ascii}
use Rattle.std.proofs.lemmas.Str.Ascii.{IsAscii-cons, IsAscii-nil}
use Rattle.std.proofs.lemmas.List.Splits.{join_with_byte-slice_split, slice_split_first, slice_split_none}
use Rattle.std.proofs.lemmas.List.Sums.{passes_at_first, fails_before_first}
use Rattle.regex_meaning.specs.Tree.{Quantifier, Node, empty, goal, char, char_set, byte_set, byte_sequence, cat, end_of_cat, alt, bracket, string_set, match_any, match_any_except_line_terminator}
use Rattle.regex_meaning.specs.Tree.{anchor, word_boundary, capture_group, back_ref, lookaround, loop, loop_1_char_body}
use Rattle.regex_meaning.specs.Text.{Text, character_after, character_before, is_word_char, rightwards, utf8_text}
use Rattle.regex_meaning.specs.CodeUnitOffsets.{HasRisingPlaceOffsets, place_at}
use Rattle.regex_meaning.specs.FirstAndAllMatches.{Found, no_groups, first_outcome, match_at, first_match, first_match_among}
use Rattle.regex_meaning.specs.MatchGroupsByNumberAndName.{Answer, answer, answers_from}
use Rattle.regex_meaning.specs.SearchAnswers.{first_answer, next_start, answer_then_list}
use Rattle.regex_meaning.proofs.SearchAnswersLemmas.{answers-go_on}
use Rattle.regex_meaning.proofs.CodeUnitOffsetsLemmas.{place_at-offset, utf8_text-IsText}
use Rattle.regex_meaning.specs.Outcomes.{Groups, Outcome, Repetition, repetition, bounded_repeat, outcomes, captured, with_groups_cleared, passes_empty_check, exclusive_or, preferred, max_iterations}
use Rattle.regex_meaning.specs.Outcomes.{one_character, is_at_word_boundary, is_some_and}
use Rattle.regex_meaning.proofs.EachElementLemmas.{Each, Each-append, Each-map, Each-when, Each-flat_map, Each-image}
use Rattle.regex_meaning.proofs.BoolLemmas.{and-left, and-right}
use Rattle.regex_meaning.proofs.ListLemmas.{get-behind}
use Rattle.use_grep.specs.Local.{is_local}

-- ---- Lists with an element that has a property

abbrev Has : {A : Type 0} → (A → Type 0) → List A → Type 0
Has P [] = ⊥
Has P (x ∷ xs) = P x ⊎ Has P xs

module _ {A : Type 0} (P : A → Type 0) where
  Has-left : (xs ys : List A) → Has P xs → Has P (xs ++ ys)
  Has-left [] ys h = absurd h
  Has-left (x ∷ xs) ys (inl h) = inl h
  Has-left (x ∷ xs) ys (inr h) = inr (Has-left xs ys h)

  Has-right : (xs ys : List A) → Has P ys → Has P (xs ++ ys)
  Has-right [] ys h = h
  Has-right (x ∷ xs) ys h = inr (Has-right xs ys h)

  Has-here : (b : Bool) (x : A) (xs : List A) → b ≡ true → P x → Has P (if b then x ∷ xs else xs)
  Has-here true x xs e p = inl p
  Has-here false x xs e p = cc e

  Has-later : (b : Bool) (x : A) (xs : List A) → Has P xs → Has P (if b then x ∷ xs else xs)
  Has-later true x xs h = inr h
  Has-later false x xs h = h

  Has-filter : (test : A → Bool) → ((x : A) → P x → test x ≡ true) → (xs : List A) → Has P xs → Has P (filter test xs)
  Has-filter test h [] k = absurd k
  Has-filter test h (x ∷ xs) (inl p) = Has-here (test x) x (filter test xs) (h x p) p
  Has-filter test h (x ∷ xs) (inr k) = Has-later (test x) x (filter test xs) (Has-filter test h xs k)

  -- A property of the elements of a list that pass a test.
  Each-keep : (b : Bool) (x : A) (xs : List A) → (b ≡ true → P x) → Each P xs → Each P (if b then x ∷ xs else xs)
  Each-keep true x xs h k = (h refl, k)
  Each-keep false x xs h k = k

module _ {A B : Type 0} (P : A → Type 0) (Q : B → Type 0) where
  Has-flat_map : (f : A → List B) → ((x : A) → P x → Has Q (f x)) → (xs : List A) → Has P xs → Has Q (flat_map f xs)
  Has-flat_map f h [] k = absurd k
  Has-flat_map f h (x ∷ xs) (inl p) = Has-left Q (f x) (flat_map f xs) (h x p)
  Has-flat_map f h (x ∷ xs) (inr k) = Has-right Q (f x) (flat_map f xs) (Has-flat_map f h xs k)

  Has-image : (f : A → B) → ((x : A) → P x → Q (f x)) → (xs : List A) → Has P xs → Has Q (map f xs)
  Has-image f h [] k = absurd k
  Has-image f h (x ∷ xs) (inl p) = inl (h x p)
  Has-image f h (x ∷ xs) (inr k) = inr (Has-image f h xs k)

-- A property that depends on an index, for each element and all indices.
Each-under : {A I : Type 0} (R : I → Type 0) (P : I → A → Type 0) (xs : List A) → ((i : I) → R i → Each (P i) xs)
    → Each (λ x. (i : I) → R i → P i x) xs
Each-under R P [] h = tt
Each-under R P (x ∷ xs) h = (λ i r. (h i r).0, Each-under R P xs (λ i r. (h i r).1))

-- ---- Outcomes that end a number of characters later

module _ (shift : ℕ) where
  abbrev EndsBehind : (end : ℕ) → Outcome → Type 0
  EndsBehind end o = o.end ≡ shift + end

  -- For each outcome of the first list, the second list has an outcome that ends `shift` characters
  -- later.
  abbrev AreAmong : (os ps : List Outcome) → Type 0
  AreAmong os ps = Each (λ o. Has (EndsBehind o.end) ps) os

  append-among : (os os' ps ps' : List Outcome) → AreAmong os ps → AreAmong os' ps' → AreAmong (os ++ os') (ps ++ ps')
  append-among os os' ps ps' h k =
      Each-append _ os os'
      (Each-map _ _ (λ o has. Has-left (EndsBehind o.end) ps ps' has) os h)
      (Each-map _ _ (λ o has. Has-right (EndsBehind o.end) ps ps' has) os' k)

  preferred-among : (greedy : Bool) (os os' ps ps' : List Outcome) → AreAmong os ps → AreAmong os' ps'
      → AreAmong (preferred greedy os os') (preferred greedy ps ps')
  preferred-among true os os' ps ps' h k = append-among os os' ps ps' h k
  preferred-among false os os' ps ps' h k = append-among os' os ps' ps k h

  if-among : (b : Bool) (os ps : List Outcome) → AreAmong os ps → AreAmong (if b then os else []) (if b then ps else [])
  if-among true os ps h = h
  if-among false os ps h = tt

  chain-among : (f g : Outcome → List Outcome) → ((o p : Outcome) → EndsBehind o.end p → AreAmong (f o) (g p))
      → (os ps : List Outcome) → AreAmong os ps → AreAmong (flat_map f os) (flat_map g ps)
  chain-among f g h os ps k =
      Each-flat_map (λ (o : Outcome). Has (EndsBehind o.end) ps) (λ (x : Outcome). Has (EndsBehind x.end) (flat_map g ps)) f
      (λ o has. Each-map _ _ (λ x all. Has-flat_map (EndsBehind o.end) (EndsBehind x.end) g all ps has) (f o)
      (Each-under (EndsBehind o.end) (λ (p x : Outcome). Has (EndsBehind x.end) (g p)) (f o) (λ p e. h o p e)))
      os k

  filter-among : (keep keep' : Outcome → Bool) → ((o p : Outcome) → EndsBehind o.end p → keep o ≡ true → keep' p ≡ true)
      → (os ps : List Outcome) → AreAmong os ps → AreAmong (filter keep os) (filter keep' ps)
  filter-among keep keep' h [] ps k = tt
  filter-among keep keep' h (o ∷ os) ps k =
      Each-keep _ (keep o) o (filter keep os) (λ kept. Has-filter (EndsBehind o.end) keep' (λ p e. h o p e kept) ps k.0)
      (filter-among keep keep' h os ps k.1)

  map-among : (f g : Outcome → Outcome) → ((o p : Outcome) → EndsBehind o.end p → EndsBehind (f o).end (g p))
      → (os ps : List Outcome) → AreAmong os ps → AreAmong (map f os) (map g ps)
  map-among f g h os ps k =
      Each-image (λ (o : Outcome). Has (EndsBehind o.end) ps) (λ (x : Outcome). Has (EndsBehind x.end) (map g ps)) f
      (λ o has. Has-image (EndsBehind o.end) (EndsBehind (f o).end) g (λ p e. h o p e) ps has) os k

  here-among : (place : ℕ) (g g' : Groups)
      → AreAmong (record { end = place; groups = g } ∷ []) (record { end = shift + place; groups = g' } ∷ [])
  here-among place g g' = (inl refl, tt)

-- ---- Loops

shifted-eqb : (s a b : ℕ) → (a == b) ≡ false → (s + a == s + b) ≡ false
shifted-eqb s a b e = go (s + a == s + b) refl
  where
    go : (c : Bool) → (s + a == s + b) ≡ c → c ≡ false
    go true h = let same : s + a ≡ s + b = eqb-true (s + a) (s + b) h in absurd (eqb-false a b e (omega arith))
    go false h = refl

still-counts : (s a b : ℕ) (c : Bool) → not (a == b && c) ≡ true → not (s + a == s + b && c) ≡ true
still-counts s a b c h = go (a == b) refl h
  where
    go : (d : Bool) → (a == b) ≡ d → not (d && c) ≡ true → not (s + a == s + b && c) ≡ true
    go true e k = by c k
      where
        by : (c : Bool) → not c ≡ true → not (s + a == s + b && c) ≡ true
        by true k = cc k
        by false k = any (s + a == s + b)
          where
            any : (x : Bool) → not (x && false) ≡ true
            any true = refl
            any false = refl
    go false e k = rw (shifted-eqb s a b e) refl

module _ (shift : ℕ) (q : Quantifier) (a b : ℕ → Groups → List Outcome)
    (among : (place : ℕ) (g g' : Groups) → AreAmong shift (a place g) (b (shift + place) g')) where
  abbrev r : Repetition Outcome
  r = repetition q a

  abbrev r' : Repetition Outcome
  r' = repetition q b

  counts-among : (k place : ℕ) (o p : Outcome) → EndsBehind shift o.end p → passes_empty_check r k place o ≡ true → passes_empty_check r' k (shift + place) p ≡ true
  counts-among k place o p e h = rw e (still-counts shift o.end place (nat_lt q.min (k + 1)) h)

  rounds-among : (n m k place : ℕ) (g g' : Groups) → n ≤ m → AreAmong shift (bounded_repeat r n k place g) (bounded_repeat r' m k (shift + place) g')
  unfolding bounded_repeat
  rounds-among zero m k place g g' le = tt
  rounds-among (suc n) zero k place g g' le = absurd (omega arith)
  rounds-among (suc n) (suc m) k place g g' le =
      preferred-among shift q.greedy _ _ _ _
      (if-among shift (nat_lt k (max_iterations q)) _ _
      (chain-among shift _ _ (λ o p e. rw e (rounds-among n m (k + 1) o.end o.groups p.groups (omega arith))) _ _
      (filter-among shift (passes_empty_check r k place) (passes_empty_check r' k (shift + place)) (counts-among k place) _ _ (among place g g'))))
      (if-among shift (nat_le q.min k) _ _ (here-among shift place g g'))

-- ---- Trees

-- The text `s` is a part of the text `t`, after `shift` characters, and no word extends beyond its
-- ends.
pub record IsPart (shift : ℕ) (s t : Text) : Type 0 where
  pub same : (place c : ℕ) → slice_get s.characters place ≡ Some c → slice_get t.characters (shift + place) ≡ Some c
  pub longer : shift + length s.characters ≤ length t.characters
  pub begins : (u : Bool) → is_some_and (character_before t shift) (is_word_char u) ≡ false
  pub ends : (u : Bool) → is_some_and (character_after t (shift + length s.characters)) (is_word_char u) ≡ false

get-past : (xs : List ℕ) (i : ℕ) → length xs ≤ i → slice_get xs i ≡ None
get-past [] i le = refl
get-past (x ∷ xs) zero le = absurd (omega arith)
get-past (x ∷ xs) (suc i) le = get-past xs i (omega arith)

get-none : (xs : List ℕ) (i : ℕ) → slice_get xs i ≡ None → length xs ≤ i
get-none [] i h = omega arith
get-none (x ∷ xs) zero h = cc h
get-none (x ∷ xs) (suc i) h = let le = get-none xs i h in omega (arith, le)

-- ---- Word boundaries

module _ (shift : ℕ) (s t : Text) (part : IsPart shift s t) (u : Bool) where
  abbrev is_word : ℕ → Bool
  is_word = is_word_char u

  read-word : (place : ℕ) (o : Option ℕ) → slice_get s.characters place ≡ o
      → (length s.characters ≤ place → is_some_and (slice_get t.characters (shift + place)) is_word ≡ false)
      → is_some_and (slice_get t.characters (shift + place)) is_word ≡ is_some_and o is_word
  read-word place None e past = past (get-none s.characters place e)
  read-word place (Some c) e past = ap (λ o. is_some_and o is_word) (part.same place c e)

  word-after : (place : ℕ) → place ≤ length s.characters
      → is_some_and (character_after t (shift + place)) is_word ≡ is_some_and (character_after s place) is_word
  word-after place le =
      read-word place (slice_get s.characters place) refl (λ past.
      let at : place ≡ length s.characters = omega arith in
      ap (λ p. is_some_and (slice_get t.characters (shift + p)) is_word) at ∙ part.ends u)

  word-before : (place : ℕ) → place ≤ length s.characters
      → is_some_and (character_before t (shift + place)) is_word ≡ is_some_and (character_before s place) is_word
  word-before zero le =
      let at : shift + 0 ≡ shift = omega arith in
      ap (λ p. is_some_and (character_before t p) is_word) at ∙ part.begins u
  word-before (suc place) le =
      let at : shift + suc place ≡ suc (shift + place) = omega arith in
      ap (λ p. is_some_and (character_before t p) is_word) at
      ∙ read-word place (slice_get s.characters place) refl (λ past. absurd (omega arith))

  -- There is no word boundary past the end of a text.
  none-past : (place : ℕ) → length s.characters < place → is_at_word_boundary s u place ≡ true → ⊥
  none-past zero past h = absurd (omega arith)
  none-past (suc place) past h =
      let before : slice_get s.characters place ≡ None = get-past s.characters place (omega arith) in
      let after : slice_get s.characters (suc place) ≡ None = get-past s.characters (suc place) (omega arith) in
      let never : true ≡ false = sym h
      ∙ ap (λ o. exclusive_or (is_some_and o is_word) (is_some_and (slice_get s.characters (suc place)) is_word)) before
      ∙ ap (λ o. is_some_and o is_word) after in
      absurd (cc)

  boundary-among : (place : ℕ) → is_at_word_boundary s u place ≡ true → is_at_word_boundary t u (shift + place) ≡ true
  boundary-among place h = elim (cases_lt (length s.characters) place) [
    | inl past ↦ absurd (none-past place past h)
    | inr le ↦
        ap (λ b. exclusive_or b (is_some_and (character_after t (shift + place)) is_word)) (word-before place le)
        ∙ ap (λ b. exclusive_or (is_some_and (character_before s place) is_word) b) (word-after place le)
        ∙ h
  ]

-- ---- Nodes

some_and : (test : ℕ → Bool) (o : Option ℕ) → is_some_and o test ≡ true → (c : ℕ) × (o ≡ Some c) × (test c ≡ true)
some_and test None h = cc h
some_and test (Some c) h = (c, refl, h)

module _ (shift : ℕ) (s t : Text) (part : IsPart shift s t) where
  one_character-among : (test : ℕ → Bool) (place : ℕ) (g g' : Groups)
      → AreAmong shift (one_character s test rightwards place g) (one_character t test rightwards (shift + place) g')
  one_character-among test place g g' =
      Each-when _ (is_some_and (slice_get s.characters place) test) _ (λ h.
      let read = some_and test (slice_get s.characters place) h in
      let also : is_some_and (slice_get t.characters (shift + place)) test ≡ true = rw (part.same place read.0 read.1) read.2 in
      Has-here (EndsBehind shift (place + 1)) _ _ [] also (omega arith))

  outcomes-among : (node : Node) → is_local node ≡ true → (place : ℕ) (g g' : Groups)
      → AreAmong shift (outcomes s node rightwards place g) (outcomes t node rightwards (shift + place) g')
  unfolding outcomes
  outcomes-among empty h place g g' = here-among shift place g g'
  outcomes-among goal h place g g' = here-among shift place g g'
  outcomes-among end_of_cat h place g g' = here-among shift place g g'
  outcomes-among (char c) h place g g' = one_character-among _ place g g'
  outcomes-among (char_set members) h place g g' = one_character-among _ place g g'
  outcomes-among (byte_set members) h place g g' = one_character-among _ place g g'
  outcomes-among (bracket contents) h place g g' = one_character-among _ place g g'
  outcomes-among match_any h place g g' = one_character-among _ place g g'
  outcomes-among match_any_except_line_terminator h place g g' = one_character-among _ place g g'
  outcomes-among (byte_sequence bytes) h place g g' = cc h
  outcomes-among (string_set strings icase) h place g g' = cc h
  outcomes-among (anchor type multiline) h place g g' = cc h
  outcomes-among (word_boundary true u) h place g g' = cc h
  outcomes-among (word_boundary false u) h place g g' =
      Each-when _ (is_at_word_boundary s u place) _ (λ at.
      Has-here (EndsBehind shift place) _ _ [] (boundary-among shift s t part u place at) refl)
  outcomes-among (back_ref group icase) h place g g' = cc h
  outcomes-among (lookaround l contents) h place g g' = cc h
  outcomes-among (cat first rest) h place g g' =
      chain-among shift _ _ (λ o p e. rw e (outcomes-among rest (and-right (is_local first) (is_local rest) h) o.end o.groups p.groups)) _ _
      (outcomes-among first (and-left (is_local first) (is_local rest) h) place g g')
  outcomes-among (alt left right) h place g g' =
      append-among shift _ _ _ _ (outcomes-among left (and-left (is_local left) (is_local right) h) place g g')
      (outcomes-among right (and-right (is_local left) (is_local right) h) place g g')
  outcomes-among (capture_group id name contents) h place g g' =
      map-among shift (captured id place) (captured id (shift + place)) (λ o p e. e) _ _
      (outcomes-among contents h place (with_groups_cleared id 1 g) (with_groups_cleared id 1 g'))
  outcomes-among (loop q start_group end_group loopee) h place g g' =
      rounds-among shift q _ _
      (λ p k k'. outcomes-among loopee h p (with_groups_cleared start_group (end_group - start_group) k) (with_groups_cleared start_group (end_group - start_group) k'))
      _ _ 0 place g g' (enough q.min place)
    where
      enough : (least place : ℕ) → least - 0 + (length s.characters - place) + 1 ≤ least - 0 + (length t.characters - (shift + place)) + 1
      enough least place = let l = part.longer in omega arith
  outcomes-among (loop_1_char_body q loopee) h place g g' =
      rounds-among shift q _ _ (λ p k k'. outcomes-among loopee h p k k') _ _ 0 place g g' (enough q.min place)
    where
      enough : (least place : ℕ) → least - 0 + (length s.characters - place) + 1 ≤ least - 0 + (length t.characters - (shift + place)) + 1
      enough least place = let l = part.longer in omega arith

-- ---- Matches

none-of : (start : ℕ) (os : List Outcome) → first_outcome start os ≡ None → os ≡ []
none-of start [] h = refl
none-of start (o ∷ os) h = cc h

nothing-among : (shift : ℕ) (os : List Outcome) → AreAmong shift os [] → os ≡ []
nothing-among shift [] h = refl
nothing-among shift (o ∷ os) h = absurd h.0

or-none : (a b : Option Found) → option_or a b ≡ None → (a ≡ None) × (b ≡ None)
or-none None b h = (refl, h)
or-none (Some a) b h = cc h

module _ (root : Node) (text : Text) where
  -- If no place in a range has a match, then no single place in it has one.
  none-from : (n from : ℕ) → first_match_among root text n from ≡ None → (place : ℕ) → from ≤ place → place < from + n → match_at root text place ≡ None
  unfolding first_match_among
  none-from zero from h place le less = absurd (omega arith)
  none-from (suc n) from h place le less =
      let both = or-none (match_at root text from) (first_match_among root text n (from + 1)) h in
      elim (cases_lt from place) [
        | inl l ↦ none-from n (from + 1) both.1 place (omega arith) (omega arith)
        | inr l ↦ let same : place ≡ from = omega arith in rw same both.0
      ]

  none-all : (n from : ℕ) → ((place : ℕ) → place < from + n → match_at root text place ≡ None) → first_match_among root text n from ≡ None
  unfolding first_match_among
  none-all zero from h = refl
  none-all (suc n) from h = rw (h from (omega arith), none-all n (from + 1) (λ place l. h place (omega arith))) refl

  map-some : (m : Option Found) → is_some (option_map (answer root text) m) ≡ is_some m
  map-some None = refl
  map-some (Some m) = refl

  head-some : (m : Option Answer) (next : Option ℕ) → is_some (slice_get (answer_then_list root text m next) 0) ≡ is_some m
  head-some None next = refl
  head-some (Some m) next = refl

  at-left_end : HasRisingPlaceOffsets text → place_at text 0 ≡ Some 0
  at-left_end is = ap (place_at text) (sym is.from_zero) ∙ place_at-offset text 0 is (omega arith)

  -- There is an answer if there is a match.
  pub some-answer : HasRisingPlaceOffsets text → is_some (slice_get (answers_from root text 0) 0) ≡ is_some (first_match root text 0)
  some-answer is =
      ap (λ (all : List Answer). is_some (slice_get all 0)) (answers-go_on root text is 0)
      ∙ head-some (first_answer root text 0) (next_start root text 0)
      ∙ ap (λ (at : Option ℕ). is_some (option_map (answer root text) (option_and_then (first_match root text) at))) (at-left_end is)
      ∙ map-some (first_match root text 0)

is-none : {A : Type 0} (m : Option A) → is_some m ≡ false → m ≡ None
is-none None h = refl
is-none (Some a) h = cc h

module _ (root : Node) (local : is_local root ≡ true) (shift : ℕ) (s t : Text) (part : IsPart shift s t) where
  none-at : (place : ℕ) → match_at root t (shift + place) ≡ None → match_at root s place ≡ None
  none-at place h =
      let none = none-of (shift + place) (outcomes t root rightwards (shift + place) (no_groups root)) h in
      let among = outcomes-among shift s t part root local place (no_groups root) (no_groups root) in
      ap (first_outcome place) (nothing-among shift _ (subst (AreAmong shift (outcomes s root rightwards place (no_groups root))) none among))

  none-first : first_match root t 0 ≡ None → first_match root s 0 ≡ None
  none-first h =
      let longer = part.longer in
      none-all root s (length s.characters + 1 - 0) 0 (λ place l.
      none-at place (none-from root t (length t.characters + 1 - 0) 0 h (shift + place) (omega arith) (omega arith)))

  -- If a text has no match, a part of it has none.
  pub none-in_part : HasRisingPlaceOffsets s → HasRisingPlaceOffsets t → is_some (slice_get (answers_from root t 0) 0) ≡ false → is_some (slice_get (answers_from root s 0) 0) ≡ false
  none-in_part is_s is_t h =
      some-answer root s is_s ∙ ap is_some (none-first (is-none (first_match root t 0) (sym (some-answer root t is_t) ∙ h)))

-- ---- Lines

get-left : (xs ys : List ℕ) (i c : ℕ) → slice_get xs i ≡ Some c → slice_get (xs ++ ys) i ≡ Some c
get-left [] ys i c h = cc h
get-left (x ∷ xs) ys zero c h = h
get-left (x ∷ xs) ys (suc i) c h = get-left xs ys i c h

get-at : (xs ys : List ℕ) → slice_get (xs ++ ys) (length xs) ≡ slice_get ys 0
get-at xs ys = let none : length xs ≡ length xs + 0 = omega arith in ap (slice_get (xs ++ ys)) none ∙ get-behind xs ys 0

-- The characters are empty, or the last one is a line break. In the next definition, it is the
-- first one.
abbrev EndInBreak : List ℕ → Type 0
EndInBreak cs = (cs ≡ []) ⊎ ((ds : List ℕ) × (cs ≡ ds ++ 10 ∷ []))

abbrev BeginInBreak : List ℕ → Type 0
BeginInBreak cs = (cs ≡ []) ⊎ ((ds : List ℕ) × (cs ≡ 10 ∷ ds))

no-word : (u : Bool) → is_word_char u 10 ≡ false
no-word true = refl
no-word false = refl

module _ (u : Bool) (t : Text) where
  no-word-before : (before more : List ℕ) → t.characters ≡ before ++ more → EndInBreak before
      → is_some_and (character_before t (length before)) (is_word_char u) ≡ false
  no-word-before before more whole (inl none) = ap (λ (cs : List ℕ). is_some_and (character_before t (length cs)) (is_word_char u)) none
  no-word-before before more whole (inr h) =
      let one = length-append h.0 (10 ∷ []) in
      let long : length before ≡ suc (length h.0) = ap length h.1 ∙ omega (arith, one) in
      ap (λ n. is_some_and (character_before t n) (is_word_char u)) long
      ∙ ap (λ (cs : List ℕ). is_some_and (slice_get cs (length h.0)) (is_word_char u))
      (whole ∙ ap (λ (cs : List ℕ). cs ++ more) h.1 ∙ append_assoc h.0 (10 ∷ []) more)
      ∙ ap (λ o. is_some_and o (is_word_char u)) (get-at h.0 (10 ∷ more))
      ∙ no-word u

  first-no-word : (behind : List ℕ) → BeginInBreak behind → is_some_and (slice_get behind 0) (is_word_char u) ≡ false
  first-no-word behind (inl none) = ap (λ (cs : List ℕ). is_some_and (slice_get cs 0) (is_word_char u)) none
  first-no-word behind (inr h) = ap (λ (cs : List ℕ). is_some_and (slice_get cs 0) (is_word_char u)) h.1 ∙ no-word u

  no-word-after : (before line behind : List ℕ) → t.characters ≡ before ++ (line ++ behind) → BeginInBreak behind
      → is_some_and (character_after t (length before + length line)) (is_word_char u) ≡ false
  no-word-after before line behind whole h =
      ap (λ (cs : List ℕ). is_some_and (slice_get cs (length before + length line)) (is_word_char u)) whole
      ∙ ap (λ o. is_some_and o (is_word_char u)) (get-behind before (line ++ behind) (length line) ∙ get-at line behind)
      ∙ first-no-word behind h

-- The characters of a line are in a text, as one or several whole lines.
pub record StandsIn (line text : List ℕ) : Type 0 where
  pub before : List ℕ
  pub behind : List ℕ
  pub whole : chars text ≡ before ++ (chars line ++ behind)
  pub begins : EndInBreak before
  pub ends : BeginInBreak behind

part-of : (line text : List ℕ) (unicode : Bool) (st : StandsIn line text) → IsPart (length st.before) (utf8_text line unicode) (utf8_text text unicode)
part-of line text unicode st = record {
  same = λ place c h. rw st.whole (get-behind st.before (chars line ++ st.behind) place ∙ get-left (chars line) st.behind place c h);
  longer = rw st.whole (
      let one = length-append st.before (chars line ++ st.behind) in
      let two = length-append (chars line) st.behind in omega (arith, one, two));
  begins = λ u. no-word-before u (utf8_text text unicode) st.before (chars line ++ st.behind) st.whole st.begins;
  ends = λ u. no-word-after u (utf8_text text unicode) st.before (chars line) st.behind st.whole st.ends;
}

-- A line is in the text that begins with it.
stands-first : (line rest : List ℕ) → IsUtf8 line → BeginInBreak (chars rest) → StandsIn line (line ++ rest)
stands-first line rest is ends = record { before = []; behind = chars rest; whole = chars-append line rest is; begins = inl refl; ends = ends }

one_break : IsUtf8 (10 ∷ [])
one_break = IsUtf8-from_ascii (10 ∷ []) (IsAscii-cons 10 [] (lit< tt) IsAscii-nil)

no-chars : chars [] ≡ []
unfolding chars
no-chars = refl

break-char : chars (10 ∷ []) ≡ 10 ∷ []
unfolding chars
break-char = refl

more-begin : (text : List ℕ) → BeginInBreak (chars (10 ∷ text))
more-begin text = inr (chars text, chars-append (10 ∷ []) text one_break ∙ ap (λ cs. cs ++ chars text) break-char)

more-end : (first before : List ℕ) → EndInBreak before → EndInBreak (first ++ (chars (10 ∷ []) ++ before))
more-end first before (inl none) = inr (first, ap (λ cs. first ++ (chars (10 ∷ []) ++ cs)) none ∙ ap (λ cs. first ++ cs) (append-nil (chars (10 ∷ [])) ∙ break-char))
more-end first before (inr h) = inr (
  first ++ (chars (10 ∷ []) ++ h.0),
  ap (λ cs. first ++ (chars (10 ∷ []) ++ cs)) h.1
      ∙ ap (λ cs. first ++ cs) (sym (append_assoc (chars (10 ∷ [])) h.0 (10 ∷ [])))
      ∙ sym (append_assoc first (chars (10 ∷ []) ++ h.0) (10 ∷ [])),
)

stands-later : (line first text : List ℕ) → IsUtf8 first → StandsIn line text → StandsIn line (first ++ (10 ∷ text))
stands-later line first text is st = record {
  before = chars first ++ (chars (10 ∷ []) ++ st.before);
  behind = st.behind;
  begins = more-end (chars first) st.before st.begins;
  ends = st.ends;
  whole =
      chars-append first (10 ∷ text) is
      ∙ ap (λ cs. chars first ++ cs) (chars-append (10 ∷ []) text one_break ∙ ap (λ cs. chars (10 ∷ []) ++ cs) st.whole)
      ∙ ap (λ cs. chars first ++ cs) (sym (append_assoc (chars (10 ∷ [])) st.before (chars line ++ st.behind)))
      ∙ sym (append_assoc (chars first) (chars (10 ∷ []) ++ st.before) (chars line ++ st.behind));
}

-- Each line of a text is in the text.
all-stand : (lines : List (List ℕ)) → Each IsUtf8 lines → Each (λ line. StandsIn line (join_with_byte 10 lines)) lines
all-stand [] h = tt
all-stand (line ∷ []) h = (subst (StandsIn line) (append-nil line) (stands-first line [] h.0 (inl no-chars)), tt)
all-stand (line ∷ next ∷ lines) h = (
  stands-first line (10 ∷ join_with_byte 10 (next ∷ lines)) h.0 (more-begin (join_with_byte 10 (next ∷ lines))),
  Each-map _ _ (λ other st. stands-later other line (join_with_byte 10 (next ∷ lines)) h.0 st) (next ∷ lines) (all-stand (next ∷ lines) h.1),
)

-- ---- Lines of a text

abbrev is_break : ℕ → Bool
is_break b = eqb b 10

abbrev lines : (text : List ℕ) → List (List ℕ)
lines text = slice_split is_break text

-- A line break is ASCII, so the parts before and after it are UTF-8.
module _ (text : List ℕ) (is : IsUtf8 text) (inside : position_or_len is_break text < length text) where
  abbrev at : ℕ
  at = position_or_len is_break text

  is-ascii : get_or text at 0 < 128
  is-ascii = let same : get_or text at 0 ≡ 10 = eqb-true (get_or text at 0) 10 (passes_at_first is_break text 0 inside) in omega arith

  before-is : IsUtf8 (before_first is_break text)
  before-is = IsUtf8-take text at is (IsCharBoundary-before_ascii text at inside is-ascii)

  behind-is : IsUtf8 (after_first is_break text)
  behind-is = IsUtf8-drop text (at + 1) is (IsCharBoundary-after_ascii text at is inside is-ascii)

one-line : (text : List ℕ) → length text ≤ position_or_len is_break text → IsUtf8 text → Each IsUtf8 (lines text)
one-line text past is =
    rw (slice_split_none is_break text (λ k d less. fails_before_first is_break text k d (omega arith))) (is, tt)

lines-are : (n : ℕ) (text : List ℕ) → length text ≤ n → IsUtf8 text → Each IsUtf8 (lines text)
lines-are zero text le is = one-line text (omega arith) is
lines-are (suc n) text le is = elim (cases_lt (position_or_len is_break text) (length text)) [
  | inl inside ↦
      let shorter = length-drop (position_or_len is_break text + 1) text in
      rw (slice_split_first is_break text 0 inside)
      (before-is text is inside, lines-are n (after_first is_break text) (omega (arith, shorter)) (behind-is text is inside))
  | inr past ↦ one-line text past is
]

lines-stand : (text : List ℕ) → IsUtf8 text → Each (λ line. StandsIn line text) (lines text)
lines-stand text is =
    subst (λ t. Each (λ line. StandsIn line t) (lines text)) (join_with_byte-slice_split 10 text)
    (all-stand (lines text) (lines-are (length text) text (omega arith) is))

-- If a text has no match of a local tree, none of its lines has one.
pub lines-have_none : (root : Node) (unicode : Bool) (text : List ℕ) → is_local root ≡ true → IsUtf8 text
    → is_some (slice_get (answers_from root (utf8_text text unicode) 0) 0) ≡ false
    → Each (λ line. is_some (slice_get (answers_from root (utf8_text line unicode) 0) 0) ≡ false) (lines text)
lines-have_none root unicode text local is none =
    Each-map _ _
    (λ line st. none-in_part root local (length st.before) (utf8_text line unicode) (utf8_text text unicode) (part-of line text unicode st)
    (utf8_text-IsText line unicode) (utf8_text-IsText text unicode) none)
    (lines text) (lines-stand text is)
