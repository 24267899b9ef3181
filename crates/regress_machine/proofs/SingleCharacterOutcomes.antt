-- The code of a character, a set of characters or a class finds the outcomes of that node.
use Rattle.std.proofs.Common.{◌≡◌, ℕ, zero, suc, ◌+◌, ◌-◌, ◌<◌, ◌≤◌, List, [], ◌∷◌, length, map, filter, Option, Some, None, Bool, true, false, not, ◌||◌, refl, ap, ◌∙◌, sym, arith, slice_get}
use Rattle.std.specs.Prelude.{if◌then◌else◌, nat_eq, nat_lt, replicate, option_and_then, MatchBool}
use Rattle.std.specs.List.{list_all}
use Rattle.std.specs.Int.{is_in_range}
use Rattle.std.proofs.lemmas.List.Folds.{list_any-append}
use Rattle.regex_meaning.specs.NumberListHelpers.{contains, numbers_from}
use Rattle.regex_meaning.specs.Tree.{Intervals, BracketContents, char, char_set, byte_set, bracket, match_any, match_any_except_line_terminator}
use Rattle.regex_meaning.specs.Text.{Text, Direction, next_character, moved}
use Rattle.regex_meaning.specs.CodeUnitOffsets.{HasRisingPlaceOffsets}
use Rattle.regex_meaning.specs.Outcomes.{Groups, Outcome, accepts, exclusive_or, in_intervals, is_some_and, one_character, outcomes}
use Rattle.regex_meaning.specs.StartPredicate.{bytes_that_pass}
use Rattle.regex_meaning.specs.OutcomesWithStepTicks.{TickOrOutcome, tick, pair, outcomes_replaced_by_lists, ticked}
use Rattle.regex_meaning.specs.CompilationRelation.{Program, Insn, Counters, counters_after_insn, HasInsnsBetween, IsCode, JustFail, Char, CharSet, ByteSet, AsciiBracket, Bracket, MatchAny}
use Rattle.regex_meaning.specs.CompilationRelation.{MatchAnyExceptLineTerminator, padded, char_set_insn, byte_set_insn, is_uninverted_ascii_class}
use Rattle.regex_meaning.proofs.FirstByteOfCharacter.{true-in_range, contains-bytes_where}
use Rattle.regress_machine.specs.Machine.{LoopData, State, running, with_some, read_one, act_on}
use Rattle.regress_machine.proofs.ThreadYieldLemmas.{Ending, Yields, yields_none, yields_same, yields_turn}
use Rattle.regress_machine.proofs.NodeCodeOutcomes.{state_at, Enters, GoesOn, Finds, Rising, act_at, one_character_finds}
use Rattle.std.proofs.lemmas.Bool.{false_from_ne_true, not-true, ltb-true, eqb-true}
use Rattle.regex_meaning.proofs.BoolLemmas.{and-left, and-right}

-- ---- Tests

pub is_some_and-same : (o : Option ℕ) (f g : ℕ → Bool) → ((c : ℕ) → f c ≡ g c) → is_some_and o f ≡ is_some_and o g
is_some_and-same None f g h = refl
is_some_and-same (Some c) f g h = h c

pub is_some_and-none : (o : Option ℕ) → is_some_and o (λ c. false) ≡ false
is_some_and-none None = refl
is_some_and-none (Some c) = refl

-- A test of members does not change if some of these members are tested again.
or_again : (a b z : Bool) → (z ≡ true → a ≡ true) → ((a || b) || z) ≡ (a || b)
or_again true b z h = refl
or_again false true z h = refl
or_again false false true h = sym (h refl)
or_again false false false h = refl

contains-replicate : (n first c : ℕ) → contains (replicate n first) c ≡ true → nat_eq c first ≡ true
contains-replicate zero first c h = cc
contains-replicate (suc n) first c h = go (nat_eq c first) h (contains-replicate n first c)
  where
    go : (b : Bool) → (b || contains (replicate n first) c) ≡ true → (contains (replicate n first) c ≡ true → b ≡ true) → b ≡ true
    go true h k = refl
    go false h k = k h

pub contains-padded : (first : ℕ) (rest : List ℕ) (c : ℕ) → contains (padded first rest) c ≡ contains (first ∷ rest) c
contains-padded first rest c =
    let n = 3 - length rest in
    list_any-append (nat_eq c) (first ∷ rest) (replicate n first)
    ∙ or_again (nat_eq c first) (contains rest c) (contains (replicate n first) c) (contains-replicate n first c)

-- ---- Sets of bytes

contains-filter_none : (test : ℕ → Bool) (c : ℕ) (xs : List ℕ) → contains (filter test xs) c ≡ true → test c ≡ true
contains-filter_none test c [] h = cc
contains-filter_none test c (x ∷ xs) h = go (test x) refl h (contains-filter_none test c xs)
  where
    at_head : (b : Bool) → nat_eq c x ≡ b → test x ≡ true → (b || contains (filter test xs) c) ≡ true → (contains (filter test xs) c ≡ true → test c ≡ true) → test c ≡ true
    at_head true e t h k = rw (eqb-true c x e) t
    at_head false e t h k = k h

    go : (b : Bool) → test x ≡ b → contains (if b then x ∷ filter test xs else filter test xs) c ≡ true → (contains (filter test xs) c ≡ true → test c ≡ true) → test c ≡ true
    go true e h k = at_head (nat_eq c x) refl e h k
    go false e h k = k h

-- A test that only bytes pass is membership in the bytes that pass it.
pub contains-bytes_same : (test : ℕ → Bool) → ((c : ℕ) → test c ≡ true → c < 256) → (c : ℕ) → contains (bytes_that_pass test) c ≡ test c
unfolding bytes_that_pass
contains-bytes_same test low c = go (test c) refl
  where
    go : (b : Bool) → test c ≡ b → contains (bytes_that_pass test) c ≡ b
    go true e = contains-bytes_where test c (low c e) e
    go false e = false_from_ne_true (contains (bytes_that_pass test) c) (λ h. cc (contains-filter_none test c (numbers_from 0 256) h, e))

low_intervals : (ivs : Intervals) (c : ℕ) → list_all (λ i. nat_lt i.1 128 || nat_lt i.1 i.0) ivs ≡ true → in_intervals ivs c ≡ true → c < 256
low_intervals [] c h t = cc
low_intervals (i ∷ ivs) c h t =
    go (is_in_range i.0 i.1 c) refl t (λ later. low_intervals ivs c (and-right (nat_lt i.1 128 || nat_lt i.1 i.0) _ h) later)
  where
    low : (b : Bool) → nat_lt i.1 128 ≡ b → (b || nat_lt i.1 i.0) ≡ true → (i.0 ≤ c) × (c ≤ i.1) → c < 256
    low true e h r = let l = ltb-true i.1 128 e in omega (arith, r.0, r.1)
    low false e h r = let l = ltb-true i.1 i.0 h in absurd (omega (arith, r.0, r.1))

    go : (b : Bool) → is_in_range i.0 i.1 c ≡ b → (b || in_intervals ivs c) ≡ true → (in_intervals ivs c ≡ true → c < 256) → c < 256
    go true e t later = low (nat_lt i.1 128) refl (and-left (nat_lt i.1 128 || nat_lt i.1 i.0) _ h) (true-in_range i.0 i.1 c e)
    go false e t later = later t

pub ascii_accepts : (contents : BracketContents) → is_uninverted_ascii_class contents ≡ true → (c : ℕ)
    → contains (bytes_that_pass (in_intervals contents.intervals)) c ≡ accepts (bracket contents) c
ascii_accepts contents h c =
    let plain = not-true contents.invert (and-left (not contents.invert) _ h) in
    let low = and-right (not contents.invert) (list_all (λ i. nat_lt i.1 128 || nat_lt i.1 i.0) contents.intervals) h in
    contains-bytes_same (in_intervals contents.intervals) (λ c t. low_intervals contents.intervals c low t) c
    ∙ ap (λ b. exclusive_or b (in_intervals contents.intervals c)) (sym plain)

module _ (program : Program) (text : Text) (is_text : HasRisingPlaceOffsets text) where
  -- These are the items of a node of one character: a tick, and an outcome if it is accepted.
  abbrev pub one_items : (ℕ → Bool) → Direction → ℕ → Groups → List TickOrOutcome
  one_items test d p g = tick ∷ map pair (one_character text test d p g)

  -- An instruction that tests as the node accepts yields the items of the node.
  pub same_test_finds : (d : Direction) (test accepted : ℕ → Bool) (i : Insn) (E : Ending) (m n : Counters) (p : ℕ) (ids : List ℕ) (g : Groups) (s : List ℕ) (ls : List LoopData) (k : Outcome → List TickOrOutcome)
      → ((c : ℕ) → test c ≡ accepted c) → ((t : State) → act_on program text d (Some i) t ≡ read_one text test d t)
      → HasInsnsBetween program (i ∷ []) m n → Enters program text is_text p g s ls n.loop → GoesOn program text is_text d E n.insn p ids m.loop n.loop g s ls k
      → Yields program text d E (running (state_at program text is_text m.insn p g s ls) ∷ []) (outcomes_replaced_by_lists (one_items accepted d p g) k)
  same_test_finds d test accepted i E m n p ids g s ls k same is has enters on =
      let o : Outcome = record { end = moved text d 1 p; groups = g } in
      yields_same program text d E _ _ _
      (ap (λ b. outcomes_replaced_by_lists (tick ∷ map pair (if b then o ∷ [] else [])) k) (is_some_and-same (next_character text d p) test accepted same))
      (one_character_finds program text is_text d test i E m n p ids g s ls k is has enters on)

  -- An instruction that always fails yields a tick and no outcome.
  pub fail_finds : (d : Direction) (E : Ending) (m n : Counters) (p : ℕ) (g : Groups) (s : List ℕ) (ls : List LoopData) (k : Outcome → List TickOrOutcome)
      → HasInsnsBetween program (JustFail ∷ []) m n → Yields program text d E (running (state_at program text is_text m.insn p g s ls) ∷ []) (tick ∷ [])
  fail_finds d E m n p g s ls k has =
      let t = state_at program text is_text m.insn p g s ls in
      yields_turn program text d E t [] [] (act_at program text is_text d t JustFail has.0) (yields_none program text d E)

  pub none_finds : (d : Direction) (E : Ending) (m n : Counters) (p : ℕ) (g : Groups) (s : List ℕ) (ls : List LoopData) (k : Outcome → List TickOrOutcome)
      → HasInsnsBetween program (JustFail ∷ []) m n
      → Yields program text d E (running (state_at program text is_text m.insn p g s ls) ∷ []) (outcomes_replaced_by_lists (one_items (λ c. false) d p g) k)
  none_finds d E m n p g s ls k has =
      let o : Outcome = record { end = moved text d 1 p; groups = g } in
      yields_same program text d E _ _ _
      (ap (λ b. outcomes_replaced_by_lists (tick ∷ map pair (if b then o ∷ [] else [])) k) (sym (is_some_and-none (next_character text d p))))
      (fail_finds d E m n p g s ls k has)

  pub char_finds : (d : Direction) (behind : Bool) (c : ℕ) → Finds program text is_text d behind (char c)
  unfolding IsCode ticked outcomes
  char_finds d behind c E m n p g s ls k code enters on =
      same_test_finds d (accepts (char c)) (accepts (char c)) (Char c) E m n p [] g s ls k (λ c. refl) (λ t. refl) code enters on

  pub char_set_finds : (d : Direction) (behind : Bool) (members : List ℕ) → Finds program text is_text d behind (char_set members)
  unfolding IsCode ticked outcomes
  char_set_finds d behind [] E m n p g s ls k code enters on = none_finds d E m n p g s ls k code
  char_set_finds d behind (c ∷ members) E m n p g s ls k code enters on =
      same_test_finds d (contains (padded c members)) (accepts (char_set (c ∷ members))) (CharSet (padded c members)) E m n p [] g s ls k
      (contains-padded c members) (λ t. refl) code enters on

  -- The code of a set of two or more bytes finds the outcomes of that node.
  pub byte_pair_finds : (d : Direction) (behind : Bool) (b c : ℕ) (bytes : List ℕ) → Finds program text is_text d behind (byte_set (b ∷ c ∷ bytes))
  unfolding IsCode ticked outcomes
  byte_pair_finds d behind b c bytes E m n p g s ls k code enters on =
      let members = b ∷ c ∷ bytes in
      same_test_finds d (accepts (byte_set members)) (accepts (byte_set members)) (ByteSet members) E m n p [] g s ls k (λ c. refl) (λ t. refl) code enters on

  pub match_any_finds : (d : Direction) (behind : Bool) → Finds program text is_text d behind match_any
  unfolding IsCode ticked outcomes
  match_any_finds d behind E m n p g s ls k code enters on =
      same_test_finds d (accepts match_any) (accepts match_any) MatchAny E m n p [] g s ls k (λ c. refl) (λ t. refl) code enters on

  pub match_any_except_line_terminator_finds : (d : Direction) (behind : Bool) → Finds program text is_text d behind match_any_except_line_terminator
  unfolding IsCode ticked outcomes
  match_any_except_line_terminator_finds d behind E m n p g s ls k code enters on =
      same_test_finds d (accepts match_any_except_line_terminator) (accepts match_any_except_line_terminator) MatchAnyExceptLineTerminator E m n p [] g s ls k
      (λ c. refl) (λ t. refl) code enters on

  -- ---- Brackets

  abbrev BracketYields : Direction → BracketContents → Ending → (m n : Counters) (p : ℕ) → Groups → List ℕ → List LoopData → (Outcome → List TickOrOutcome) → Type 0
  BracketYields d contents E m n p g s ls k =
      Yields program text d E (running (state_at program text is_text m.insn p g s ls) ∷ []) (outcomes_replaced_by_lists (one_items (accepts (bracket contents)) d p g) k)

  ascii_bracket_finds : (d : Direction) (contents : BracketContents) (E : Ending) (m n : Counters) (p : ℕ) (g : Groups) (s : List ℕ) (ls : List LoopData) (k : Outcome → List TickOrOutcome)
      → is_uninverted_ascii_class contents ≡ true → HasInsnsBetween program (AsciiBracket (bytes_that_pass (in_intervals contents.intervals)) ∷ []) m n
      → Enters program text is_text p g s ls n.loop → GoesOn program text is_text d E n.insn p [] m.loop n.loop g s ls k → BracketYields d contents E m n p g s ls k
  ascii_bracket_finds d contents E m n p g s ls k ascii code enters on =
      let members = bytes_that_pass (in_intervals contents.intervals) in
      same_test_finds d (contains members) (accepts (bracket contents)) (AsciiBracket members) E m n p [] g s ls k (ascii_accepts contents ascii) (λ t. refl) code enters on

  listed_bracket_finds : (d : Direction) (contents : BracketContents) (E : Ending) (m n : Counters) (p : ℕ) (g : Groups) (s : List ℕ) (ls : List LoopData) (k : Outcome → List TickOrOutcome)
      → HasInsnsBetween program (Bracket m.bracket ∷ []) (record m { bracket = m.bracket + 1 }) n → slice_get program.brackets m.bracket ≡ Some contents
      → Enters program text is_text p g s ls n.loop → GoesOn program text is_text d E n.insn p [] m.loop n.loop g s ls k → BracketYields d contents E m n p g s ls k
  listed_bracket_finds d contents E m n p g s ls k code listed enters on =
      same_test_finds d (accepts (bracket contents)) (accepts (bracket contents)) (Bracket m.bracket) E (record m { bracket = m.bracket + 1 }) n p [] g s ls k (λ c. refl)
      (λ t. ap (λ o. with_some (option_and_then (λ (contents : BracketContents). Some (λ c. exclusive_or contents.invert (in_intervals contents.intervals c))) o) (λ test. read_one text test d t)) listed)
      code enters on

  pub bracket_finds : (d : Direction) (behind : Bool) (contents : BracketContents) → Finds program text is_text d behind (bracket contents)
  unfolding IsCode ticked outcomes
  bracket_finds d behind contents E m n p g s ls k code enters on = by (is_uninverted_ascii_class contents) refl code
    where
      by : (b : Bool) → is_uninverted_ascii_class contents ≡ b
          → MatchBool b (HasInsnsBetween program (AsciiBracket (bytes_that_pass (in_intervals contents.intervals)) ∷ []) m n)
          (HasInsnsBetween program (Bracket m.bracket ∷ []) (record m { bracket = m.bracket + 1 }) n × (slice_get program.brackets m.bracket ≡ Some contents))
          → BracketYields d contents E m n p g s ls k
      by true e code = ascii_bracket_finds d contents E m n p g s ls k e code enters on
      by false e code = listed_bracket_finds d contents E m n p g s ls k code.0 code.1 enters on

  -- ---- The numbers of loops do not fall

  pub insns_rising : (is : List Insn) (m n : Counters) → HasInsnsBetween program is m n → m.loop ≤ n.loop
  insns_rising [] m n has = let same = ap (λ (m : Counters). m.loop) has in omega (arith, same)
  insns_rising (i ∷ is) m n has = insns_rising is (counters_after_insn m) n has.1

  pub char_rising : (behind : Bool) (c : ℕ) → Rising program text is_text behind (char c)
  unfolding IsCode
  char_rising behind c m n code = insns_rising (Char c ∷ []) m n code

  pub char_set_rising : (behind : Bool) (members : List ℕ) → Rising program text is_text behind (char_set members)
  unfolding IsCode
  char_set_rising behind members m n code = insns_rising (char_set_insn members ∷ []) m n code

  pub byte_set_rising : (behind : Bool) (members : List ℕ) → Rising program text is_text behind (byte_set members)
  unfolding IsCode
  byte_set_rising behind members m n code = insns_rising (byte_set_insn members ∷ []) m n code

  pub match_any_rising : (behind : Bool) → Rising program text is_text behind match_any
  unfolding IsCode
  match_any_rising behind m n code = insns_rising (MatchAny ∷ []) m n code

  pub match_any_except_line_terminator_rising : (behind : Bool) → Rising program text is_text behind match_any_except_line_terminator
  unfolding IsCode
  match_any_except_line_terminator_rising behind m n code = insns_rising (MatchAnyExceptLineTerminator ∷ []) m n code

  pub bracket_rising : (behind : Bool) (contents : BracketContents) → Rising program text is_text behind (bracket contents)
  unfolding IsCode
  bracket_rising behind contents m n code = by (is_uninverted_ascii_class contents) code
    where
      by : (b : Bool) → MatchBool b (HasInsnsBetween program (AsciiBracket (bytes_that_pass (in_intervals contents.intervals)) ∷ []) m n)
          (HasInsnsBetween program (Bracket m.bracket ∷ []) (record m { bracket = m.bracket + 1 }) n × (slice_get program.brackets m.bracket ≡ Some contents))
          → m.loop ≤ n.loop
      by true code = insns_rising (AsciiBracket (bytes_that_pass (in_intervals contents.intervals)) ∷ []) m n code
      by false code = insns_rising (Bracket m.bracket ∷ []) (record m { bracket = m.bracket + 1 }) n code.0
