-- The code of a set of strings finds the outcomes of that node.
use Rattle.std.proofs.Common.{◌≡◌, ℕ, ◌+◌, ◌≤◌, List, [], ◌∷◌, ◌++◌, length, map, Some, Bool, true, false, refl, ap, ◌∙◌, sym, subst, arith, add-one, append-nil, slice_get}
use Rattle.std.specs.Prelude.{if◌then◌else◌, nat_eq, ◌==◌, ◌&&◌}
use Rattle.regex_meaning.specs.NumberListHelpers.{contains}
use Rattle.regex_meaning.specs.Laws.{IsAtOrAheadInDirection}
use Rattle.regex_meaning.specs.Tree.{string_set}
use Rattle.regex_meaning.specs.Text.{Text, Direction, rightwards, leftwards, last_place, next_character, moved, characters_ahead, expand_code_point}
use Rattle.regex_meaning.specs.CodeUnitOffsets.{HasRisingPlaceOffsets}
use Rattle.regex_meaning.specs.Outcomes.{Groups, Outcome, is_some_and, is_case_variant, spelled}
use Rattle.regex_meaning.specs.OutcomesWithStepTicks.{TickOrOutcome, tick, pair, ticks, number_of_compared_elements, outcomes_replaced_by_lists, ticks_before_outcomes, nearest_first}
use Rattle.regex_meaning.specs.OutcomesWithStepTicks.{compared_code_point_count, ticked_string, ticked_strings, ticked}
use Rattle.regex_meaning.specs.CompilationRelation.{Program, Insn, Counters, counters_after_insn, HasInsnAt, HasInsnsBetween, IsCode, IsStringCode, AreStringsCode, JustFail, Char, CharSet, Alt, Jump}
use Rattle.regex_meaning.specs.CompilationRelation.{padded, reversed_if_in_lookbehind, case_variants_insn}
use Rattle.regex_meaning.proofs.CodeUnitOffsetsLemmas.{place_at-offset}
use Rattle.regress_machine.specs.Machine.{LoopData, State, running, waiting, with_some, go_if, next_insn_at_place, read_one, act_on, act}
use Rattle.regress_machine.proofs.ThreadYieldLemmas.{Ending, Yields, yields_none, yields_append, yields_same, yields_turn, yields_wait}
use Rattle.regress_machine.proofs.UnchangedGroupsAndLoops.{kept_itself}
use Rattle.regress_machine.proofs.NodeCodeOutcomes.{and_then-append, and_then-pairs, and_then-ticks, direction_at, state_at, Finds, Rising, act_at, inside_by}
use Rattle.regress_machine.proofs.SingleCharacterOutcomes.{contains-padded, is_some_and-same, is_some_and-none, fail_finds, insns_rising}
use Rattle.regress_machine.proofs.NearestCharacterLemmas.{Beside, nothing_left, one_more, beside, length-nearest, moved-suc, moved-zero}
use Rattle.regress_machine.proofs.SingleCharacterTests.{or_false}
use Rattle.regress_machine.proofs.CharLoopOutcomes.{reached_behind}
use Rattle.regress_machine.proofs.AdjacentCharacterLemmas.{stands, stands-length, in_reading_order, length-reading, beside-stands}
use Rattle.regex_meaning.proofs.BoolLemmas.{same-truth}
use Rattle.std.proofs.lemmas.Bool.{or_left, eq-eqb, eqb-true}

-- ---- Items

-- One more tick before `n` ticks makes `n + 1` ticks.
pub tried_more : (n : ℕ) (xs : List TickOrOutcome) → tick ∷ (ticks n ++ xs) ≡ ticks (n + 1) ++ xs
tried_more n xs = ap (λ m. ticks m ++ xs) (sym (add-one n))

-- These are the items if a test holds, and no items otherwise.
abbrev pub items_if : Bool → List TickOrOutcome → List TickOrOutcome
items_if true items = items
items_if false items = []

pub items_if-pair : (b : Bool) (o : Outcome) (k : Outcome → List TickOrOutcome) → outcomes_replaced_by_lists (map pair (if b then o ∷ [] else [])) k ≡ items_if b (k o)
items_if-pair true o k = append-nil (k o)
items_if-pair false o k = refl

pub same_number : (c d : ℕ) → (c == d) ≡ contains (c ∷ []) d
same_number c d =
    same-truth (c == d) (contains (c ∷ []) d) (λ h. or_left (nat_eq d c) false (eq-eqb d c (sym (eqb-true c d h))))
    (λ h. eq-eqb c d (sym (eqb-true d c (or_false (nat_eq d c) h))))

module _ (program : Program) (text : Text) (is_text : HasRisingPlaceOffsets text) where
  in_order : (behind : Bool) (cs : List ℕ) → in_reading_order text (direction_at behind) cs ≡ reversed_if_in_lookbehind behind cs
  in_order true cs = refl
  in_order false cs = refl

  -- ---- One code point

  module _ (d : Direction) (g : Groups) (s : List ℕ) (ls : List LoopData) where
    abbrev at : (ip p : ℕ) → State
    at ip p = state_at program text is_text ip p g s ls

    -- The instruction at `ip` reads one character that passes the test.
    abbrev Reads : (ip p : ℕ) → (ℕ → Bool) → Type 0
    Reads ip p test = act program text d (at ip p) ≡ go_if (is_some_and (next_character text d p) test) (at (ip + 1) (moved text d 1 p))

    reads_by : (i : Insn) (test accepted : ℕ → Bool) (ip p : ℕ) → p ≤ last_place text → slice_get program.insns ip ≡ Some i
        → ((t : State) → act_on program text d (Some i) t ≡ read_one text test d t) → ((c : ℕ) → test c ≡ accepted c) → Reads ip p accepted
    reads_by i test accepted ip p inside has is same =
        let t = at ip p in
        act_at program text is_text d t i has ∙ is t
        ∙ ap (λ q. with_some q (λ p. go_if (is_some_and (next_character text d p) test) (next_insn_at_place text (moved text d 1 p) t))) (place_at-offset text p is_text inside)
        ∙ ap (λ b. go_if b (at (ip + 1) (moved text d 1 p))) (is_some_and-same (next_character text d p) test accepted same)

    spelling_reads : (members : List ℕ) (ip p : ℕ) → p ≤ last_place text → slice_get program.insns ip ≡ Some (case_variants_insn members) → Reads ip p (contains members)
    spelling_reads [] ip p inside has =
        act_at program text is_text d (at ip p) JustFail has
        ∙ ap (λ b. go_if b (at (ip + 1) (moved text d 1 p))) (sym (is_some_and-none (next_character text d p)))
    spelling_reads (c ∷ []) ip p inside has = reads_by (Char c) (λ e. c == e) (contains (c ∷ [])) ip p inside has (λ t. refl) (same_number c)
    spelling_reads (c ∷ e ∷ more) ip p inside has =
        reads_by (CharSet (padded c (e ∷ more))) (contains (padded c (e ∷ more))) (contains (c ∷ e ∷ more)) ip p inside has (λ t. refl) (contains-padded c (e ∷ more))

    -- ---- Successive instructions

    module _ (E : Ending) (same : ℕ → ℕ → Bool) (insn_of : ℕ → Insn)
        (reads : (c ip p : ℕ) → p ≤ last_place text → slice_get program.insns ip ≡ Some (insn_of c) → Reads ip p (same c)) where
      -- The instructions from `ip` on yield a tick per compared character, then what follows.
      abbrev RowYields : (ip end : ℕ) → List ℕ → (p : ℕ) → List TickOrOutcome → Type 0
      RowYields ip end cs p items =
          (stands same cs (nearest_first text d p) ≡ true → Yields program text d E (running (at end (moved text d (length cs) p)) ∷ []) items)
          → Yields program text d E (running (at ip p) ∷ [])
          (ticks (number_of_compared_elements same cs (nearest_first text d p)) ++ items_if (stands same cs (nearest_first text d p)) items)

      step_yields : (c : ℕ) (cs : List ℕ) (ip end p : ℕ) (items : List TickOrOutcome) → p ≤ last_place text → slice_get program.insns ip ≡ Some (insn_of c)
          → ((q : ℕ) → q ≤ last_place text → RowYields (ip + 1) end cs q items) → RowYields ip end (c ∷ cs) p items
      step_yields c cs ip end p items inside has later behind = go (beside text d p inside)
        where
          fails : is_some_and (next_character text d p) (same c) ≡ false → Yields program text d E (running (at ip p) ∷ []) (tick ∷ [])
          fails e =
              yields_turn program text d E (at ip p) [] [] (reads c ip p inside has ∙ ap (λ b. go_if b (at (ip + 1) (moved text d 1 p))) e) (yields_none program text d E)

          by : (e : ℕ) (b : Bool) → same c e ≡ b → next_character text d p ≡ Some e
              → nearest_first text d p ≡ e ∷ nearest_first text d (moved text d 1 p) → moved text d 1 p ≤ last_place text
              → Yields program text d E (running (at ip p) ∷ [])
              (ticks (if b then number_of_compared_elements same cs (nearest_first text d (moved text d 1 p)) + 1 else 1) ++ items_if (b && stands same cs (nearest_first text d (moved text d 1 p))) items)
          by e true is counters_after_insn rest within =
              let q = moved text d 1 p in
              let near = nearest_first text d q in
              yields_same program text d E _ _ _ (tried_more (number_of_compared_elements same cs near) (items_if (stands same cs near) items))
              (yields_turn program text d E (at ip p) (running (at (ip + 1) q) ∷ []) (ticks (number_of_compared_elements same cs near) ++ items_if (stands same cs near) items)
              (reads c ip p inside has ∙ ap (λ o. go_if (is_some_and o (same c)) (at (ip + 1) q)) counters_after_insn ∙ ap (λ b. go_if b (at (ip + 1) q)) is)
              (later q within
              (λ h. subst (λ (r : ℕ). Yields program text d E (running (at end r) ∷ []) items) (sym (moved-suc text d (length cs) p))
              (behind (ap (stands same (c ∷ cs)) rest ∙ ap (λ b. b && stands same cs near) is ∙ h)))))
          by e false is counters_after_insn rest within = fails (ap (λ o. is_some_and o (same c)) counters_after_insn ∙ is)

          go : Beside text d p → Yields program text d E (running (at ip p) ∷ []) (ticks (number_of_compared_elements same (c ∷ cs) (nearest_first text d p)) ++ items_if (stands same (c ∷ cs) (nearest_first text d p)) items)
          go (nothing_left none nothing left) =
              yields_same program text d E _ _ _ (ap (λ near. ticks (number_of_compared_elements same (c ∷ cs) near) ++ items_if (stands same (c ∷ cs) near) items) (sym nothing))
              (fails (ap (λ o. is_some_and o (same c)) none))
          go (one_more e is rest left within) =
              yields_same program text d E _ _ _ (ap (λ near. ticks (number_of_compared_elements same (c ∷ cs) near) ++ items_if (stands same (c ∷ cs) near) items) (sym rest))
              (by e (same c e) refl is rest within)

      row_yields : (cs : List ℕ) (m n : Counters) (p : ℕ) (items : List TickOrOutcome) → p ≤ last_place text → HasInsnsBetween program (map insn_of cs) m n
          → RowYields m.insn n.insn cs p items
      row_yields [] m n p items inside has behind =
          subst (λ (ip : ℕ). Yields program text d E (running (at ip p) ∷ []) items) (sym (ap (λ (m : Counters). m.insn) has))
          (subst (λ (q : ℕ). Yields program text d E (running (at n.insn q) ∷ []) items) (moved-zero text d p) (behind refl))
      row_yields (c ∷ cs) m n p items inside has behind =
          step_yields c cs m.insn n.insn p items inside has.0 (λ q within. row_yields cs (counters_after_insn m) n q items within has.1) behind

    -- ---- Strings

    module _ (E : Ending) (k : Outcome → List TickOrOutcome) (p : ℕ) (inside : p ≤ last_place text) where
      -- From this instruction on, each place that was reached yields what `k` says of it.
      abbrev pub Behind : (end : ℕ) → Type 0
      Behind end = (q : ℕ) → IsAtOrAheadInDirection text d p q → q ≤ last_place text → Yields program text d E (running (at end q) ∷ []) (k (record { end = q; groups = g }))

      tries_are : (icase : Bool) (string : List ℕ) → compared_code_point_count text icase string d p ≡ number_of_compared_elements (is_case_variant text icase) (in_reading_order text d string) (nearest_first text d p)
      tries_are icase string = go d
        where
          go : (d : Direction) → compared_code_point_count text icase string d p ≡ number_of_compared_elements (is_case_variant text icase) (in_reading_order text d string) (nearest_first text d p)
          go rightwards = refl
          go leftwards = refl

      string_yields : (icase : Bool) (string : List ℕ) (m n : Counters) → text.unicode ≡ program.flags.unicode
          → HasInsnsBetween program (map (λ c. case_variants_insn (expand_code_point c icase program.flags.unicode)) (in_reading_order text d string)) m n
          → Behind n.insn → Yields program text d E (running (at m.insn p) ∷ []) (outcomes_replaced_by_lists (ticked_string text icase string d p g) k)
      string_yields icase string m n unicode has behind =
          let same = is_case_variant text icase in
          let cs = in_reading_order text d string in
          let near = nearest_first text d p in
          let long = length-reading text d string in
          let o : Outcome = record { end = moved text d (length string) p; groups = g } in
          yields_same program text d E _ _ _
          (ap (λ n. ticks n ++ items_if (stands same cs near) (k o)) (sym (tries_are icase string))
          ∙ ap (λ b. ticks (compared_code_point_count text icase string d p) ++ items_if b (k o)) (sym (beside-stands text same string d p inside))
          ∙ ap (λ (l : List TickOrOutcome). ticks (compared_code_point_count text icase string d p) ++ l) (sym (items_if-pair _ o k))
          ∙ sym (and_then-ticks (compared_code_point_count text icase string d p) (map pair (spelled text same string d p g)) k))
          (row_yields E same (λ c. case_variants_insn (expand_code_point c icase program.flags.unicode))
          (λ c ip q within state_with_ip. subst (λ (u : Bool). Reads ip q (contains (expand_code_point c icase u))) (sym unicode)
          (spelling_reads (expand_code_point c icase program.flags.unicode) ip q within state_with_ip))
          cs m n p (k o) inside has
          (λ all.
          let enough = stands-length same cs near all in
          let left = length-nearest text d p inside in
          let few : length string ≤ characters_ahead text d p = omega (arith, enough, left, long) in
          let onward = reached_behind program text is_text d (length string) p g inside few in
          subst (λ (i : ℕ). Yields program text d E (running (at n.insn (moved text d i p)) ∷ []) (k o)) (sym long)
          (behind (moved text d (length string) p) onward (inside_by program text is_text d p (moved text d (length string) p) inside onward))))

      -- The code consists of the strings' instructions in reading order.
      abbrev AreStrings : (icase : Bool) → List (List ℕ) → (m n : Counters) → Type 0
      AreStrings icase [] m n = HasInsnsBetween program (JustFail ∷ []) m n
      AreStrings icase (x ∷ []) m n = HasInsnsBetween program (map (λ c. case_variants_insn (expand_code_point c icase program.flags.unicode)) (in_reading_order text d x)) m n
      AreStrings icase (x ∷ y ∷ more) m n =
          (j : Counters) × HasInsnAt program m (Alt (j.insn + 1))
          × HasInsnsBetween program (map (λ c. case_variants_insn (expand_code_point c icase program.flags.unicode)) (in_reading_order text d x)) (counters_after_insn m) j
          × HasInsnAt program j (Jump n.insn) × AreStrings icase (y ∷ more) (counters_after_insn j) n

    strings_yield : (E : Ending) (k : Outcome → List TickOrOutcome) (p : ℕ) (inside : p ≤ last_place text) (icase : Bool) (strings : List (List ℕ)) (m n : Counters)
        → text.unicode ≡ program.flags.unicode → AreStrings E k p inside icase strings m n → Behind E k p inside n.insn
        → Yields program text d E (running (at m.insn p) ∷ []) (outcomes_replaced_by_lists (ticked_strings text icase strings d p g) k)
    strings_yield E k p inside icase [] m n unicode code behind = fail_finds program text is_text d E m n p g s ls k code
    strings_yield E k p inside icase (x ∷ []) m n unicode code behind = string_yields E k p inside icase x m n unicode code behind
    strings_yield E k p inside icase (x ∷ y ∷ more) m n unicode code behind =
        let j = code.0 in
        let left = ticked_string text icase x d p g in
        let right = ticked_strings text icase (y ∷ more) d p g in
        let in_left = outcomes_replaced_by_lists left (λ o. tick ∷ k o) in
        let in_right = outcomes_replaced_by_lists right k in
        let t = at m.insn p in
        let u = at (m.insn + 1) p in
        let v = at (j.insn + 1) p in
        yields_turn program text d E t (running u ∷ waiting v ∷ []) _ (act_at program text is_text d t (Alt (j.insn + 1)) code.1)
        (yields_same program text d E _ (in_left ++ (tick ∷ in_right)) _
        (ap (λ (l : List TickOrOutcome). l ++ (tick ∷ in_right)) (sym (and_then-pairs left k)) ∙ sym (and_then-append (ticks_before_outcomes left) (tick ∷ right) k))
        (yields_append program text d E (running u ∷ []) (waiting v ∷ []) in_left (tick ∷ in_right)
        (string_yields E (λ o. tick ∷ k o) p inside icase x (counters_after_insn m) j unicode code.2
        (λ q onward within.
        yields_turn program text d E (at j.insn q) (running (at n.insn q) ∷ []) (k (record { end = q; groups = g }))
        (act_at program text is_text d (at j.insn q) (Jump n.insn) code.3) (behind q onward within)))
        (yields_wait program text d E v [] in_right (strings_yield E k p inside icase (y ∷ more) (counters_after_insn j) n unicode code.4 behind))))

  -- ---- The node

  read_in_order : (behind icase : Bool) (string : List ℕ) (m n : Counters) → IsStringCode program icase behind string m n
      → HasInsnsBetween program (map (λ c. case_variants_insn (expand_code_point c icase program.flags.unicode)) (in_reading_order text (direction_at behind) string)) m n
  read_in_order behind icase string m n code =
      subst (λ (cs : List ℕ). HasInsnsBetween program (map (λ c. case_variants_insn (expand_code_point c icase program.flags.unicode)) cs) m n) (sym (in_order behind string)) code

  are_strings : (behind : Bool) (g : Groups) (s : List ℕ) (ls : List LoopData) (E : Ending) (k : Outcome → List TickOrOutcome) (p : ℕ) (inside : p ≤ last_place text) (icase : Bool)
      (strings : List (List ℕ)) (m n : Counters) → AreStringsCode program icase behind strings m n
      → AreStrings (direction_at behind) g s ls E k p inside icase strings m n
  are_strings behind g s ls E k p inside icase [] m n code = code
  are_strings behind g s ls E k p inside icase (x ∷ []) m n code = read_in_order behind icase x m n code
  are_strings behind g s ls E k p inside icase (x ∷ y ∷ more) m n code = (
    code.0,
    code.1,
    read_in_order behind icase x (counters_after_insn m) code.0 code.2,
    code.3,
    are_strings behind g s ls E k p inside icase (y ∷ more) (counters_after_insn code.0) n code.4,
  )

  in_direction_finds : (behind : Bool) (strings : List (List ℕ)) (icase : Bool) → text.unicode ≡ program.flags.unicode
      → Finds program text is_text (direction_at behind) behind (string_set strings icase)
  unfolding IsCode ticked
  in_direction_finds behind strings icase unicode E m n p g s ls k code enters on =
      let d = direction_at behind in
      strings_yield d g s ls E k p enters.inside icase strings m n unicode (are_strings behind g s ls E k p enters.inside icase strings m n code)
      (λ q onward within.
      on.at (record { end = q; groups = g }) s ls (record { onward = onward; inside = within; same_groups = refl; fit = enters.fit })
      (kept_itself [] m.loop n.loop s ls))

  -- The code of a set of strings finds its outcomes in the direction that it was compiled for.
  pub string_set_finds : (d : Direction) (behind : Bool) (strings : List (List ℕ)) (icase : Bool) → d ≡ direction_at behind → text.unicode ≡ program.flags.unicode
      → Finds program text is_text d behind (string_set strings icase)
  string_set_finds d behind strings icase same unicode =
      subst (λ (d : Direction). Finds program text is_text d behind (string_set strings icase)) (sym same) (in_direction_finds behind strings icase unicode)

  strings_rising : (behind icase : Bool) (strings : List (List ℕ)) (m n : Counters) → AreStringsCode program icase behind strings m n → m.loop ≤ n.loop
  strings_rising behind icase [] m n code = insns_rising program text is_text (JustFail ∷ []) m n code
  strings_rising behind icase (x ∷ []) m n code =
      insns_rising program text is_text (map (λ c. case_variants_insn (expand_code_point c icase program.flags.unicode)) (reversed_if_in_lookbehind behind x)) m n code
  strings_rising behind icase (x ∷ y ∷ more) m n code =
      let first = insns_rising program text is_text (map (λ c. case_variants_insn (expand_code_point c icase program.flags.unicode)) (reversed_if_in_lookbehind behind x)) (counters_after_insn m) code.0 code.2 in
      let later = strings_rising behind icase (y ∷ more) (counters_after_insn code.0) n code.4 in
      omega (arith, first, later)

  pub string_set_rising : (behind : Bool) (strings : List (List ℕ)) (icase : Bool) → Rising program text is_text behind (string_set strings icase)
  unfolding IsCode
  string_set_rising behind strings icase m n code = strings_rising behind icase strings m n code
