-- The effects of instructions on states of the executor, as effects of the abstract machine.
use Rattle.std.specs.Prelude.{◌≡◌, ℕ, ◌++◌, ◌∷◌, [], Bool, List, map, Option, Some, option_map, slice_get, if◌then◌else◌}
use Rattle.regex_meaning.specs.Tree.{Sameness}
use Rattle.regex_meaning.specs.Text.{Text}
use Rattle.regex_meaning.specs.CodeUnitOffsets.{place_at}
use Rattle.regex_meaning.specs.Outcomes.{Groups}
use Rattle.regex_pattern_front.specs.declared.ir.Regex.{Regex}
use Rattle.regex_pattern_front.specs.AstToSpecTree.{tree_of}
use Rattle.regress_input.specs.CharAndByteReadsFromOffset.{direction_of_forward_flag}
use Rattle.regress_program.specs.CompilationOfTreesAsFunction.{compiled}
use Rattle.regress_program.specs.InsnsAsSpec.{insn_as_spec_insn}
use Rattle.regress_program.specs.declared.instructions.Insn.{Insn}
use Rattle.regress_machine.specs.Machine as machine
use Rattle.regress_machine.specs.Machine.{Found, Next, act, act_on, read_group, scan, with_some}
use Rattle.regress_machine.specs.SearchFindsFirstOutcomeAtPlace.{end_and_groups_of_state}
use Rattle.regress_machine.specs.InsnEffects.{state_after_char_loop_to_offset, end_of_search, IsReached}
use Rattle.regress_search.specs.AttemptsAndStarts.{search_from}
use Rattle.regress_search.specs.OffsetsAfterMatchedInsns.{char_test_of_insn}
use Rattle.regress_pikevm.specs.declared.pikevm.char_loops.CharLoopBoundsAndGreed.{CharLoopBoundsAndGreed}
use Rattle.regress_pikevm.specs.declared.pikevm.states.State.{State}
use Rattle.regress_pikevm.specs.States.{groups_as_offset_ranges, offset_range_of_group, machine_state_of}

module _ {P : Type 0} (offset : P → ℕ) where
  -- States of the executor as states of the abstract machine.
  abbrev pub machine_states_of : List (State P) → List machine.State
  machine_states_of states = map (λ s. machine_state_of offset s) states

  module _ (re : Regex) (text : Text) (forward : Bool) where
    -- The effect of executing the instruction at a state.
    abbrev pub machine_effect_at_state : State P → Next
    machine_effect_at_state s =
        act (compiled (tree_of re)) text (direction_of_forward_flag forward) (machine_state_of offset s)

    -- The effect of executing a given instruction in a state.
    abbrev pub effect_of_insn : Insn → State P → Next
    effect_of_insn insn s = act_on (compiled (tree_of re)) text (direction_of_forward_flag forward)
        (Some (insn_as_spec_insn insn)) (machine_state_of offset s)

    -- The effect of a char loop whose body is the given instruction.
    abbrev pub effect_of_char_loop : CharLoopBoundsAndGreed → Insn → State P → Next
    effect_of_char_loop run insn s =
        with_some (char_test_of_insn re insn) (λ test. with_some (place_at text (offset s.pos)) (λ p.
        scan text run.min_iters run.max_iters run.greedy test (direction_of_forward_flag forward) p
        (machine_state_of offset s)))

    -- The loop tests `tries` characters, and `states` are the states at its exits.
    abbrev pub LoopExitsAreStates : CharLoopBoundsAndGreed → Insn → State P → (tries : ℕ) → List (State P) → Type 0
    LoopExitsAreStates run insn s tries states =
        (test : ℕ → Bool) (p : ℕ) → char_test_of_insn re insn ≡ Some test → place_at text (offset s.pos) ≡ Some p
        → IsReached text test (direction_of_forward_flag forward) run.min_iters run.max_iters p
        (machine_state_of offset s)
        tries (machine_states_of states)

    -- The result of a search from a state, as part of an attempt at the offset `at`.
    abbrev pub search_from_state : (at : ℕ) → State P → Option Found
    search_from_state at s =
        search_from (tree_of re) text at (direction_of_forward_flag forward) (machine_state_of offset s)

    -- `end` is the state with which the search from `s` ends. `None` if the search finds no end.
    abbrev pub SearchEndsWithState : (at : ℕ) → State P → Option (State P) → Type 0
    SearchEndsWithState at s end =
        option_map (λ e. machine_state_of offset e) end ≡ end_of_search (search_from_state at s)

  -- The end offset and the groups of the state with which a search ended. `None` if it found no
  -- end.
  abbrev pub end_and_groups : Option (State P) → Option (ℕ × Groups)
  end_and_groups end = option_map (λ e. end_and_groups_of_state (machine_state_of offset e)) end

  module _ (text : Text) (forward : Bool) (same : Sameness) where
    -- The effect of a backreference to a range.
    abbrev pub effect_of_range_backref : Option (P × P) → State P → Next
    effect_of_range_backref range s =
        read_group text same (direction_of_forward_flag forward) (offset_range_of_group offset range)
        (machine_state_of offset s)

    -- The effect of a backreference to a group.
    abbrev pub effect_of_backref : (group : ℕ) → State P → Next
    effect_of_backref group s = with_some (slice_get (groups_as_offset_ranges offset s.groups.items) group)
        (λ range. read_group text same (direction_of_forward_flag forward) range (machine_state_of offset s))

  -- If `wanted`, the exit state of the char loop at position `at` is pushed onto `old`. Otherwise
  -- nothing is pushed.
  abbrev pub PushesExitIfWanted : (wanted : Bool) → (at : P) → State P → (old new : List (State P)) → Type 0
  PushesExitIfWanted wanted at s old new =
      machine_states_of new ≡ (if wanted then machine_states_of old ++ state_after_char_loop_to_offset (offset at)
      (machine_state_of offset s) ∷ [] else machine_states_of old)
