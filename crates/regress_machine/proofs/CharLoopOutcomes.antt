-- The code of a char loop finds the outcomes of that node, the preferred one first.
use Rattle.std.proofs.Common.{◌≡◌, ℕ, ◌+◌, ◌-◌, ◌<◌, ◌≤◌, min, List, [], ◌∷◌, ◌++◌, map, take, Bool, true, false, refl, ap, ◌∙◌, sym, subst, arith, append-nil, cond}
use Rattle.std.specs.Prelude.{if◌then◌else◌, nat_le, nat_eq, ◌&&◌, chars}
use Rattle.std.specs.List.{prefix_len}
use Rattle.std.proofs.lemmas.List.Sums.{prefix_len-le-length}
use lib.Pointwise.{pointwise}
use Rattle.regex_meaning.specs.NumberListHelpers.{numbers_from}
use Rattle.regex_meaning.specs.Laws.{Each, IsAtOrAheadInDirection}
use Rattle.regex_meaning.specs.Tree.{Quantifier, Node, char, char_set, byte_set, byte_sequence, bracket, match_any, match_any_except_line_terminator, loop_1_char_body, group_ids}
use Rattle.regex_meaning.specs.Text.{Text, Direction, rightwards, leftwards, last_place, next_character, moved, characters_ahead, next_characters}
use Rattle.regex_meaning.specs.CodeUnitOffsets.{HasRisingPlaceOffsets, offset, place_at}
use Rattle.regex_meaning.specs.Outcomes.{Groups, Outcome, accepts, is_some_and, max_iterations, repetition, repeat, one_character, spelled, outcomes}
use Rattle.regex_meaning.specs.WellFormedTrees.{is_one_character, has_text_in_sequence, set_sizes_and_characters_fit_instructions}
use Rattle.regex_meaning.specs.OutcomesWithStepTicks.{TickOrOutcome, tick, ticks, outcomes_replaced_by_lists, with_ticks_between, nearest_first, body_attempts, ticked}
use Rattle.regex_meaning.specs.CompilationRelation.{Program, Counters, counters_after_insn, HasInsnAt, IsCode, Loop1CharBody}
use Rattle.regex_meaning.proofs.EachElementLemmas.{Each-map, Each-drop, Each-take, Each-reverse}
use Rattle.regex_meaning.proofs.CodeUnitOffsetsLemmas.{place_at-offset}
use Rattle.regress_machine.specs.Machine.{LoopData, State, running, waiting, first_running_and_others_waiting, with_some, char_loop_states, scan, scans, act}
use Rattle.regress_machine.specs.TextsForBytePrograms.{HasUtf8CharactersAndOffsets, tree_contains_byte_nodes}
use Rattle.regress_machine.proofs.ThreadYieldLemmas.{Ending, Yields, yields_none, yields_append, yields_same, yields_wait, yields_scan}
use Rattle.regress_machine.proofs.UnchangedGroupsAndLoops.{kept_itself}
use Rattle.regress_machine.proofs.NodeCodeOutcomes.{and_then-ticks, state_at, Enters, GoesOn, Finds, Rising, act_at, inside_by}
use Rattle.regress_machine.proofs.NearestCharacterLemmas.{Beside, nothing_left, one_more, beside, length-nearest, in_text_order, characters_beside-nearest}
use Rattle.regress_machine.proofs.CharLoopRepetitions.{in_turns, numbers_between, outcome_at, run, repeat_run}
use Rattle.regress_machine.proofs.SingleCharacterTests.{one_of_length, ReadsOne, reads_one}
use Rattle.std.proofs.lemmas.Bool.{le-leb}

-- ---- Lists

pub prefix_len-same : (f g : ℕ → Bool) (xs : List ℕ) → Each (λ c. f c ≡ g c) xs → prefix_len f xs ≡ prefix_len g xs
prefix_len-same f g [] h = refl
prefix_len-same f g (x ∷ xs) h = ap (λ b. cond b (1 + prefix_len f xs) 0) h.0 ∙ ap (λ n. cond (g x) (1 + n) 0) (prefix_len-same f g xs h.1)

pub each_nearest : (P : ℕ → Type 0) (text : Text) (d : Direction) (p : ℕ) → Each P text.characters → Each P (nearest_first text d p)
each_nearest P text rightwards p h = Each-drop P p text.characters h
each_nearest P text leftwards p h = Each-reverse P (take p text.characters) (Each-take P p text.characters h)

-- ---- A sequence of one character

pub spelled_one : (text : Text) (c : ℕ) (d : Direction) (p : ℕ) (g : Groups) → p ≤ last_place text
    → spelled text nat_eq (c ∷ []) d p g ≡ one_character text (λ e. pointwise nat_eq (c ∷ []) (e ∷ [])) d p g
spelled_one text c d p g inside = ap (λ b. if b then record { end = moved text d 1 p; groups = g } ∷ [] else []) (go (beside text d p inside))
  where
    in_order : (d : Direction) (e : ℕ) → in_text_order text d (e ∷ []) ≡ e ∷ []
    in_order rightwards e = refl
    in_order leftwards e = refl

    go : Beside text d p → (nat_le 1 (characters_ahead text d p) && pointwise nat_eq (c ∷ []) (next_characters text d 1 p))
        ≡ is_some_and (next_character text d p) (λ e. pointwise nat_eq (c ∷ []) (e ∷ []))
    go (nothing_left none nothing left) =
        ap (λ n. nat_le 1 n && pointwise nat_eq (c ∷ []) (next_characters text d 1 p)) left
        ∙ sym (ap (λ o. is_some_and o (λ e. pointwise nat_eq (c ∷ []) (e ∷ []))) none)
    go (one_more e is rest left within) =
        ap (λ b. b && pointwise nat_eq (c ∷ []) (next_characters text d 1 p)) (le-leb 1 (characters_ahead text d p) (omega arith))
        ∙ ap (pointwise nat_eq (c ∷ []))
        (characters_beside-nearest text d 1 p inside (omega arith) ∙ ap (λ (l : List ℕ). in_text_order text d (take 1 l)) rest ∙ in_order d e)
        ∙ sym (ap (λ o. is_some_and o (λ e. pointwise nat_eq (c ∷ []) (e ∷ []))) is)

-- A body of one character finds what that character's test says.
pub body_is_one : (text : Text) (d : Direction) (node : Node) → is_one_character node ≡ true → (p : ℕ) (g : Groups) → p ≤ last_place text
    → outcomes text node d p g ≡ one_character text (accepts node) d p g
unfolding outcomes
body_is_one text d (char c) one p g inside = refl
body_is_one text d (char_set members) one p g inside = refl
body_is_one text d (byte_set members) one p g inside = refl
body_is_one text d (bracket contents) one p g inside = refl
body_is_one text d match_any one p g inside = refl
body_is_one text d match_any_except_line_terminator one p g inside = refl
body_is_one text d (byte_sequence bytes) one p g inside =
    let c = one_of_length (chars bytes) one in
    ap (λ (cs : List ℕ). spelled text nat_eq cs d p g) c.1 ∙ spelled_one text c.0 d p g inside
    ∙ ap (λ (cs : List ℕ). one_character text (λ e. pointwise nat_eq cs (e ∷ [])) d p g) (sym c.1)
body_is_one text d _ one p g inside = cc

module _ (program : Program) (text : Text) (is_text : HasRisingPlaceOffsets text) where
  -- The first thread runs and the others wait, so a tick stands between the items of two threads.
  turns_yield : (d : Direction) (E : Ending) (st : ℕ → State) (out : ℕ → Outcome) (k : Outcome → List TickOrOutcome) (ns : List ℕ)
      → Each (λ n. Yields program text d E (running (st n) ∷ []) (k (out n))) ns
      → Yields program text d E (first_running_and_others_waiting (map st ns)) (outcomes_replaced_by_lists (with_ticks_between (map out ns)) k)
  turns_yield d E st out k [] h = yields_none program text d E
  turns_yield d E st out k (n ∷ []) h = yields_same program text d E _ _ _ (sym (append-nil (k (out n)))) h.0
  turns_yield d E st out k (n ∷ m ∷ ns) h =
      let items = outcomes_replaced_by_lists (with_ticks_between (map out (m ∷ ns))) k in
      yields_append program text d E (running (st n) ∷ []) (waiting (st m) ∷ map waiting (map st ns)) (k (out n)) (tick ∷ items) h.0
      (yields_wait program text d E (st m) (map waiting (map st ns)) items (turns_yield d E st out k (m ∷ ns) h.1))

  each_in_turns : (P : ℕ → Type 0) (greedy : Bool) (ns : List ℕ) → Each P ns → Each P (in_turns greedy ns)
  each_in_turns P true ns h = Each-reverse P ns h
  each_in_turns P false ns h = h

  -- A place behind `n` of the characters ahead lies onward in the direction.
  pub reached_behind : (d : Direction) (n p : ℕ) (g : Groups) → p ≤ last_place text → n ≤ characters_ahead text d p → IsAtOrAheadInDirection text d p (moved text d n p)
  reached_behind rightwards n p g inside few = (omega arith, omega arith)
  reached_behind leftwards n p g inside few = (omega arith, tt)

  -- The code of a char loop finds the places behind accepted characters, the preferred one first.
  runs_find : (d : Direction) (q : Quantifier) (node : Node) (E : Ending) (m n : Counters) (p : ℕ) (ids : List ℕ) (g : Groups) (s : List ℕ) (ls : List LoopData) (k : Outcome → List TickOrOutcome)
      → is_one_character node ≡ true → HasInsnAt program m (Loop1CharBody q.min (max_iterations q) q.greedy) → ReadsOne program text node (counters_after_insn m) n
      → Enters program text is_text p g s ls n.loop → GoesOn program text is_text d E n.insn p ids m.loop n.loop g s ls k
      → Yields program text d E (running (state_at program text is_text m.insn p g s ls) ∷ [])
      (tick ∷ (ticks (body_attempts text q node d p) ++ outcomes_replaced_by_lists (with_ticks_between (repeat text (repetition q (outcomes text node d)) d 0 p g)) k))
  runs_find d q node E m n p ids g s ls k one has reads enters on =
      let most = max_iterations q in
      let t = state_at program text is_text m.insn p g s ls in
      let near = nearest_first text d p in
      let len = prefix_len (accepts node) near in
      let same_len : prefix_len reads.test near ≡ len =
      prefix_len-same reads.test (accepts node) near (each_nearest (λ c. reads.test c ≡ accepts node c) text d p reads.same) in
      let ns = in_turns q.greedy (numbers_from q.min (min most len + 1 - q.min)) in
      let st : ℕ → State = λ (i : ℕ). record t { ip = m.insn + 2; pos = offset text (moved text d i p) } in
      let few = prefix_len-le-length (accepts node) near in
      let left = length-nearest text d p enters.inside in
      let end : n.insn ≡ m.insn + 2 = let e = reads.end in omega (arith, e) in
      let turn : act program text d t ≡ scans (min most (len + 1)) (first_running_and_others_waiting (map st ns)) =
      act_at program text is_text d t (Loop1CharBody q.min most q.greedy) has
      ∙ ap (λ o. with_some o (λ test. with_some (place_at text t.pos) (λ p. scan text q.min most q.greedy test d p t))) reads.test_is
      ∙ ap (λ o. with_some o (λ p. scan text q.min most q.greedy reads.test d p t)) (place_at-offset text p is_text enters.inside)
      ∙ ap (λ i. scans (min most (i + 1)) (first_running_and_others_waiting (char_loop_states text q.greedy d q.min (min most i) p t))) same_len in
      let yields : Each (λ i. Yields program text d E (running (st i) ∷ []) (k (outcome_at text d p g i))) ns =
      each_in_turns (λ i. Yields program text d E (running (st i) ∷ []) (k (outcome_at text d p g i))) q.greedy (numbers_from q.min (min most len + 1 - q.min))
      (Each-map (λ i. (q.min ≤ i) × (i < q.min + (min most len + 1 - q.min))) (λ i. Yields program text d E (running (st i) ∷ []) (k (outcome_at text d p g i)))
      (λ i between.
      let enough : i ≤ characters_ahead text d p = omega (arith, between.0, between.1, few, left) in
      let onward = reached_behind d i p g enters.inside enough in
      subst (λ (ip : ℕ). Yields program text d E (running (state_at program text is_text ip (moved text d i p) g s ls) ∷ []) (k (outcome_at text d p g i))) end
      (on.at (outcome_at text d p g i) s ls
      (record { onward = onward; inside = inside_by program text is_text d p (moved text d i p) enters.inside onward; same_groups = refl; fit = enters.fit })
      (kept_itself ids m.loop n.loop s ls)))
      (numbers_from q.min (min most len + 1 - q.min)) (numbers_between q.min (min most len + 1 - q.min))) in
      yields_same program text d E _ _ _
      (ap (λ os. tick ∷ (ticks (min most (len + 1)) ++ outcomes_replaced_by_lists (with_ticks_between os) k))
      (sym (repeat_run text d (accepts node) (repetition q (outcomes text node d)) (body_is_one text d node one) p g enters.inside)))
      (yields_scan program text d E t (min most (len + 1)) (first_running_and_others_waiting (map st ns)) (outcomes_replaced_by_lists (with_ticks_between (run text d p g ns)) k) turn
      (turns_yield d E st (outcome_at text d p g) k ns yields))

  pub loop_1_char_body_finds : (d : Direction) (behind : Bool) (q : Quantifier) (loopee : Node) → is_one_character loopee ≡ true → has_text_in_sequence loopee ≡ true
      → set_sizes_and_characters_fit_instructions loopee ≡ true → (tree_contains_byte_nodes loopee ≡ true → HasUtf8CharactersAndOffsets text) → Finds program text is_text d behind (loop_1_char_body q loopee)
  unfolding IsCode ticked outcomes
  loop_1_char_body_finds d behind q loopee one spelt fits reads E m n p g s ls k code enters on =
      yields_same program text d E _ _ _
      (ap (λ (l : List TickOrOutcome). tick ∷ l) (sym (and_then-ticks (body_attempts text q loopee d p) (with_ticks_between (repeat text (repetition q (outcomes text loopee d)) d 0 p g)) k)))
      (runs_find d q loopee E m n p (group_ids loopee) g s ls k one code.0 (reads_one program text behind loopee one spelt fits reads (counters_after_insn m) n code.1) enters on)

  pub loop_1_char_body_rising : (behind : Bool) (q : Quantifier) (loopee : Node) → Rising program text is_text behind loopee → Rising program text is_text behind (loop_1_char_body q loopee)
  unfolding IsCode
  loop_1_char_body_rising behind q loopee rise m n code = rise (counters_after_insn m) n code.1
