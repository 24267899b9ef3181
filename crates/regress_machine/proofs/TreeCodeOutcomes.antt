-- A search of the code of a well-formed tree ends with the tree's first outcome.
use Rattle.std.proofs.Common.{◌≡◌, ℕ, ◌-◌, ◌<◌, ◌≤◌, List, [], ◌∷◌, length, replicate, Option, Some, None, Bool, true, false, refl, ap, ◌∙◌, sym, subst, arith, eqb-true}
use Rattle.std.proofs.lemmas.List.{length-replicate}
use Rattle.std.specs.Prelude.{option_map, if◌then◌else◌, ◌==◌}
use Rattle.regex_meaning.specs.Tree.{Node, empty, goal, char, char_set, byte_set, byte_sequence, cat, end_of_cat, alt, bracket, string_set, match_any, match_any_except_line_terminator, anchor}
use Rattle.regex_meaning.specs.Tree.{word_boundary, capture_group, back_ref, lookaround, loop, loop_1_char_body, group_ids, Flags, Tree}
use Rattle.regex_meaning.specs.Text.{Text, Direction, rightwards, last_place}
use Rattle.regex_meaning.specs.CodeUnitOffsets.{HasRisingPlaceOffsets, offset}
use Rattle.regex_meaning.specs.Outcomes.{Groups, Outcome, direction_of, outcomes}
use Rattle.regex_meaning.specs.FirstAndAllMatches.{no_groups}
use Rattle.regex_meaning.specs.OutcomesWithStepTicks.{TickOrOutcome, tick, pair, outcomes_replaced_by_lists, ticked, items_at}
use Rattle.regex_meaning.specs.WellFormedTrees.{number_of_goal_nodes, is_end_of_cat, ends_in_goal}
use Rattle.regex_meaning.specs.CompilationRelation.{Program, Counters, counters_after_insn, counters_at_start, IsCode, Goal, anchor_insn, word_boundary_insn, BackRef}
use Rattle.regress_machine.specs.Machine.{LoopData, State, running, result_without_threads, search}
use Rattle.regress_machine.specs.SearchFindsFirstOutcomeAtPlace.{state_before_first_insn, end_in_offsets, end_and_groups_of_state, first_outcome_among_ticks, TreeProgramCanSearchText}
use Rattle.regress_machine.specs.SearchFindsFirstOutcomeAtPlace.{sufficient_turns_at, FindsFirstOutcome}
use Rattle.regress_machine.proofs.MachineSearchLemmas.{search_enough}
use Rattle.regress_machine.proofs.ThreadYieldLemmas.{Ending, EndIs, found_first, Yields, yields_same, yields_end}
use Rattle.regress_machine.proofs.NodeCodeOutcomes.{direction_at, state_at, RangeFits, Enters, act_at, Finds, Rising, nothing_finds, cat_finds, alt_finds}
use Rattle.regress_machine.proofs.SingleCharacterOutcomes.{char_finds, char_set_finds, match_any_finds, match_any_except_line_terminator_finds, bracket_finds, insns_rising, char_rising}
use Rattle.regress_machine.proofs.SingleCharacterOutcomes.{char_set_rising, byte_set_rising, match_any_rising, match_any_except_line_terminator_rising, bracket_rising}
use Rattle.regress_machine.proofs.GroupAndAssertionOutcomes.{anchor_finds, word_boundary_finds, back_ref_finds, capture_group_finds}
use Rattle.regress_machine.proofs.LookaroundOutcomes.{lookaround_finds}
use Rattle.regress_machine.proofs.LoopOutcomes.{loop_finds, loop_rising}
use Rattle.regress_machine.proofs.CharLoopOutcomes.{loop_1_char_body_finds, loop_1_char_body_rising}
use Rattle.regress_machine.proofs.StringSetOutcomes.{string_set_finds, string_set_rising}
use Rattle.regress_machine.proofs.ByteNodeOutcomes.{byte_set_finds, byte_sequence_finds, byte_sequence_rising}
use Rattle.regress_machine.proofs.WellFormedNodeLemmas.{Ready, root_ready}
use Rattle.regex_meaning.proofs.WellFormedTreesLemmas.{clauses}
use Rattle.regex_meaning.proofs.ListLemmas.{map-replicate}
use Rattle.regex_meaning.proofs.EachElementLemmas.{Each-replicate}
use Rattle.regex_meaning.proofs.BoolLemmas.{and-left, and-right}

and_then-itself : (items : List TickOrOutcome) → outcomes_replaced_by_lists items (λ o. pair o ∷ []) ≡ items
and_then-itself [] = refl
and_then-itself (tick ∷ items) = ap (λ (l : List TickOrOutcome). tick ∷ l) (and_then-itself items)
and_then-itself (pair o ∷ items) = ap (λ (l : List TickOrOutcome). pair o ∷ l) (and_then-itself items)

-- A node that ends in a goal contains a goal.
goal_inside : (node : Node) → ends_in_goal node ≡ true → 1 ≤ number_of_goal_nodes node
goal_inside goal h = omega arith
goal_inside (cat first rest) h = by (is_end_of_cat rest) h (goal_inside first) (goal_inside rest)
  where
    by : (b : Bool) → (if b then ends_in_goal first else ends_in_goal rest) ≡ true → (ends_in_goal first ≡ true → 1 ≤ number_of_goal_nodes first)
        → (ends_in_goal rest ≡ true → 1 ≤ number_of_goal_nodes rest) → 1 ≤ number_of_goal_nodes (cat first rest)
    by true h f r = let a = f h in omega arith
    by false h f r = let a = r h in omega arith
goal_inside _ h = cc

module _ (program : Program) (text : Text) (is_text : HasRisingPlaceOffsets text) where
  -- The number of loops does not fall over the code of a node.
  tree_rising : (behind : Bool) (node : Node) → Ready text program.groups node → Rising program text is_text behind node
  unfolding IsCode
  tree_rising behind empty r m n code = let e = ap (λ (m : Counters). m.loop) code in omega (arith, e)
  tree_rising behind goal r m n code = insns_rising program text is_text (Goal ∷ []) m n code
  tree_rising behind (char c) r m n code = char_rising program text is_text behind c m n code
  tree_rising behind (char_set members) r m n code = char_set_rising program text is_text behind members m n code
  tree_rising behind (byte_set members) r m n code = byte_set_rising program text is_text behind members m n code
  tree_rising behind (byte_sequence bytes) r m n code = byte_sequence_rising program text is_text behind bytes m n code
  tree_rising behind (cat first rest) r m n code =
      let a = tree_rising behind first r.0 m code.0 code.1 in let b = tree_rising behind rest r.1 code.0 n code.2 in omega (arith, a, b)
  tree_rising behind end_of_cat r m n code = let e = ap (λ (m : Counters). m.loop) code in omega (arith, e)
  tree_rising behind (alt left right) r m n code =
      let a = tree_rising behind left r.0 (counters_after_insn m) code.0 code.2 in let b = tree_rising behind right r.1 (counters_after_insn code.0) n code.4 in omega (arith, a, b)
  tree_rising behind (bracket contents) r m n code = bracket_rising program text is_text behind contents m n code
  tree_rising behind (string_set strings icase) r m n code = string_set_rising program text is_text behind strings icase m n code
  tree_rising behind match_any r m n code = match_any_rising program text is_text behind m n code
  tree_rising behind match_any_except_line_terminator r m n code = match_any_except_line_terminator_rising program text is_text behind m n code
  tree_rising behind (anchor type multiline) r m n code = insns_rising program text is_text (anchor_insn type multiline ∷ []) m n code
  tree_rising behind (word_boundary invert unicode_icase) r m n code = insns_rising program text is_text (word_boundary_insn invert unicode_icase ∷ []) m n code
  tree_rising behind (capture_group id name contents) r m n code =
      let a = tree_rising behind contents r.2 (counters_after_insn m) code.0 code.2 in let e = ap (λ (m : Counters). m.loop) code.3.1 in omega (arith, a, e)
  tree_rising behind (back_ref group icase) r m n code = insns_rising program text is_text (BackRef (group - 1) icase ∷ []) m n code
  tree_rising behind (lookaround l contents) r m n code =
      let a = tree_rising l.backwards contents r (counters_after_insn m) code.0 code.2 in let e = ap (λ (m : Counters). m.loop) code.3.1 in omega (arith, a, e)
  tree_rising behind (loop q first end loopee) r m n code =
      loop_rising program text is_text behind q first end loopee (tree_rising behind loopee r.1) m n code
  tree_rising behind (loop_1_char_body q loopee) r m n code =
      loop_1_char_body_rising program text is_text behind q loopee (tree_rising behind loopee r.4) m n code

  -- The state at the end has the end and the groups of the outcome.
  abbrev pub AtEnd : Ending
  AtEnd o t = end_and_groups_of_state t ≡ end_in_offsets text o

  module _ (unicode : text.unicode ≡ program.flags.unicode) where
    -- The code of a node without a goal finds the outcomes of that node.
    tree_finds : (d : Direction) (behind : Bool) → d ≡ direction_at behind → (node : Node) → Ready text program.groups node → number_of_goal_nodes node ≡ 0 → Finds program text is_text d behind node
    unfolding IsCode ticked outcomes
    tree_finds d behind ahead empty r h E m n p g s ls k code enters on = nothing_finds program text is_text d E m n p [] g s ls k code enters on
    tree_finds d behind ahead goal r h E m n p g s ls k code enters on = cc
    tree_finds d behind ahead (char c) r h E m n p g s ls k code enters on = char_finds program text is_text d behind c E m n p g s ls k code enters on
    tree_finds d behind ahead (char_set members) r h E m n p g s ls k code enters on = char_set_finds program text is_text d behind members E m n p g s ls k code enters on
    tree_finds d behind ahead (byte_set members) r h E m n p g s ls k code enters on =
        byte_set_finds program text is_text d behind members r.0 r.1 E m n p g s ls k code enters on
    tree_finds d behind ahead (byte_sequence bytes) r h E m n p g s ls k code enters on =
        byte_sequence_finds program text is_text d behind bytes ahead r.0 r.1 E m n p g s ls k code enters on
    tree_finds d behind ahead (cat first rest) r h E m n p g s ls k code enters on =
        cat_finds program text is_text d behind first rest (tree_rising behind first r.0) (tree_rising behind rest r.1)
        (tree_finds d behind ahead first r.0 (omega arith)) (tree_finds d behind ahead rest r.1 (omega arith)) E m n p g s ls k code enters on
    tree_finds d behind ahead end_of_cat r h E m n p g s ls k code enters on = nothing_finds program text is_text d E m n p [] g s ls k code enters on
    tree_finds d behind ahead (alt left right) r h E m n p g s ls k code enters on =
        alt_finds program text is_text d behind left right (tree_rising behind left r.0) (tree_rising behind right r.1)
        (tree_finds d behind ahead left r.0 (omega arith)) (tree_finds d behind ahead right r.1 (omega arith)) E m n p g s ls k code enters on
    tree_finds d behind ahead (bracket contents) r h E m n p g s ls k code enters on = bracket_finds program text is_text d behind contents E m n p g s ls k code enters on
    tree_finds d behind ahead (string_set strings icase) r h E m n p g s ls k code enters on =
        string_set_finds program text is_text d behind strings icase ahead unicode E m n p g s ls k code enters on
    tree_finds d behind ahead match_any r h E m n p g s ls k code enters on = match_any_finds program text is_text d behind E m n p g s ls k code enters on
    tree_finds d behind ahead match_any_except_line_terminator r h E m n p g s ls k code enters on =
        match_any_except_line_terminator_finds program text is_text d behind E m n p g s ls k code enters on
    tree_finds d behind ahead (anchor type multiline) r h E m n p g s ls k code enters on = anchor_finds program text is_text d behind type multiline E m n p g s ls k code enters on
    tree_finds d behind ahead (word_boundary invert unicode_icase) r h E m n p g s ls k code enters on =
        word_boundary_finds program text is_text d behind invert unicode_icase E m n p g s ls k code enters on
    tree_finds d behind ahead (capture_group id name contents) r h E m n p g s ls k code enters on =
        capture_group_finds program text is_text d behind id name contents (tree_finds d behind ahead contents r.2 (omega arith)) E m n p g s ls k
        (subst (λ x. id < x) (sym enters.groups) r.0) r.1 code enters on
    tree_finds d behind ahead (back_ref group icase) r h E m n p g s ls k code enters on =
        back_ref_finds program text is_text d behind group icase E m n p g s ls k (subst (λ x. group - 1 < x) (sym enters.groups) r) code enters on
    tree_finds d behind ahead (lookaround l contents) r h E m n p g s ls k code enters on =
        lookaround_finds program text is_text d behind l contents (tree_finds (direction_of l) l.backwards refl contents r (omega arith)) E m n p g s ls k code enters on
    tree_finds d behind ahead (loop q first end loopee) r h E m n p g s ls k code enters on =
        loop_finds program text is_text d behind q first end loopee (tree_finds d behind ahead loopee r.1 (omega arith)) (tree_rising behind loopee r.1) E m n p g s ls k
        (λ i le less. subst (λ x. i < x) (sym enters.groups) (r.0 i le less)) code enters on
    tree_finds d behind ahead (loop_1_char_body q loopee) r h E m n p g s ls k code enters on =
        loop_1_char_body_finds program text is_text d behind q loopee r.0 r.1 r.2 r.3 E m n p g s ls k code enters on

    -- The code of a node that ends in its only goal yields the node's items.
    root_finds : (node : Node) → Ready text program.groups node → ends_in_goal node ≡ true → number_of_goal_nodes node ≡ 1
        → (m n : Counters) (p : ℕ) (g : Groups) (s : List ℕ) (ls : List LoopData) → IsCode program false node m n → Enters program text is_text p g s ls n.loop
        → Yields program text rightwards AtEnd (running (state_at program text is_text m.insn p g s ls) ∷ []) (ticked text node rightwards p g)
    unfolding IsCode ticked outcomes
    root_finds goal r h one m n p g s ls code enters =
        let t = state_at program text is_text m.insn p g s ls in
        yields_end program text rightwards AtEnd t (record { end = p; groups = g }) (act_at program text is_text rightwards t Goal code.0) refl
    root_finds (cat first end_of_cat) r h one m n p g s ls code enters =
        let e = ap (λ (m : Counters). m.loop) code.2 in
        yields_same program text rightwards AtEnd _ _ _ (sym (and_then-itself (ticked text first rightwards p g)))
        (root_finds first r.0 h (omega arith) m code.0 p g s ls code.1
        (record { inside = enters.inside; fit = enters.fit; groups = enters.groups; starts = enters.starts; loops = omega (arith, e, enters.loops) }))
    root_finds (cat first rest) r h one m n p g s ls code enters =
        let some = goal_inside rest h in
        let rising = tree_rising false rest r.1 code.0 n code.2 in
        tree_finds rightwards false refl first r.0 (omega arith) AtEnd m code.0 p g s ls (λ o. ticked text rest rightwards o.end o.groups) code.1
        (record { inside = enters.inside; fit = enters.fit; groups = enters.groups; starts = enters.starts; loops = omega (arith, rising, enters.loops) })
        (record {
          at = λ o s' ls' reached kept.
              root_finds rest r.1 h (omega arith) code.0 n o.end o.groups s' ls' code.2
              (record {
                inside = reached.inside;
                fit = reached.fit;
                groups = reached.same_groups ∙ enters.groups;
                starts = kept.starts_length ∙ enters.starts ∙ sym reached.same_groups;
                loops = omega (arith, kept.loops_length, enters.loops);
              });
        })
    root_finds _ r h one m n p g s ls code enters = cc

same_end : (text : Text) (first : Option Outcome) (e : Option State) → EndIs (λ o t. end_and_groups_of_state t ≡ end_in_offsets text o) first e
    → option_map end_and_groups_of_state e ≡ option_map (end_in_offsets text) first
same_end text None e is = ap (option_map end_and_groups_of_state) is
same_end text (Some o) e is = ap (option_map end_and_groups_of_state) is.1 ∙ ap Some is.2

pub searches-find : (program : Program) (tree : Tree) (text : Text) → TreeProgramCanSearchText program tree text → (place : ℕ) → place ≤ last_place text
    → FindsFirstOutcome program tree text place
unfolding search
searches-find program tree text can place inside =
    let root = tree.root in
    let none : Option (ℕ × ℕ) = None in
    let n = length (group_ids root) in
    let same : program.groups ≡ n = can.code.groups in
    let g = no_groups root in
    let at = offset text place in
    let starts : List ℕ = replicate program.groups at in
    let fresh : LoopData = record { iters = 0; entry = at } in
    let loops = replicate program.loops fresh in
    let len_g : length g ≡ program.groups = length-replicate n none ∙ sym same in
    let len_s : length starts ≡ program.groups = length-replicate program.groups at in
    let len_l : length loops ≡ program.loops = length-replicate program.loops fresh in
    let ready = subst (λ n. Ready text n root) (sym same) (root_ready text root can.well_formed can.bytes) in
    let last : Counters = record { insn = length program.insns; loop = program.loops; bracket = length program.brackets } in
    let items = items_at tree text place in
    let unicode : text.unicode ≡ program.flags.unicode = can.unicode ∙ ap (λ (f : Flags). f.unicode) (sym can.code.flags) in
    let y = root_finds program text can.is_text unicode root ready (and-right (number_of_goal_nodes root == 1) (ends_in_goal root) (clauses root can.well_formed).goal_last)
    (eqb-true (number_of_goal_nodes root) 1 (and-left (number_of_goal_nodes root == 1) (ends_in_goal root) (clauses root can.well_formed).goal_last)) counters_at_start last place g starts loops can.code.code
    (record { inside = inside; fit = Each-replicate (RangeFits program text can.is_text) n none tt; groups = len_g; starts = len_s ∙ sym len_g; loops = omega (arith, len_l) }) in
    let s0 = state_at program text can.is_text 0 place g starts loops in
    let begins : s0 ≡ state_before_first_insn program (offset text place) =
    ap (λ h. record s0 { groups = h }) (map-replicate (option_map (λ (r : ℕ × ℕ). (offset text r.0, offset text r.1))) n none ∙ ap (λ n. replicate n none) (sym same)) in
    let a = y.finds 0 [] result_without_threads refl in
    let found = found_first (AtEnd program text can.is_text) items a.1.0 a.1.2 in
    record {
      found = a.1.0;
      searches =
          subst (λ s. search program text (sufficient_turns_at tree text place) rightwards (running s ∷ []) ≡ Some a.1.0) begins
          (search_enough program text a.0 (sufficient_turns_at tree text place) rightwards (running s0 ∷ []) a.1.0 a.1.1 (omega (arith, found.0)));
      steps = found.0;
      end = same_end text (first_outcome_among_ticks items) a.1.0.end found.1;
    }
