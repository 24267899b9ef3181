-- Pending parts: the parts of the code that are still to be emitted.
use Rattle.std.specs.Prelude.{◌≡◌, ℕ, ◌+◌, ◌*◌, ◌<◌, ◌^◌, Bool, true, ◌&&◌, List, [], ◌∷◌, length, nat_lt, Vec}
use Rattle.std.specs.List.{list_all}
use Rattle.regex_meaning.specs.Tree.{Lookaround, Node as TreeNode, every_node_passes}
use Rattle.regex_meaning.specs.CompilationRelation.{Alt, EnterLoop, EndCaptureGroup, Goal, Jump, LoopAgain, lookaround_insn}
use Rattle.regex_meaning.specs.WellFormedTrees.{set_sizes_and_characters_fit_instructions}
use Rattle.regex_pattern_front.specs.AstToSpecTree.{spec_node_of}
use Rattle.regex_pattern_front.specs.declared.ir.Node as ir
use Rattle.regress_program.specs.declared.instructions.LoopFields.{LoopFields}
use Rattle.regress_program.specs.LeafNodesAndOptimizableLoops.{spec_cat_of_children}
use Rattle.regress_program.specs.InnerNodeCountMeasure.{inner_node_count}
use Rattle.regress_program.specs.EmitterStateAndAppendedCode.{EmitterState, emitter_state, with_code, with_insn_appended, with_insn_at, node_with_char_loops_if_enabled, lookaround_as_spec}
use Rattle.regress_program.specs.declared.emit.emitter.Emitter.{Emitter}
use Rattle.regress_program.specs.declared.emit.emitter.EmitMode.{EmitMode}
use Rattle.regress_program.specs.declared.emit.nested_nodes.UnemittedCodePart.{UnemittedCodePart}
use Rattle.regress_program.specs.declared.emit.nested_nodes.UnemittedCodePart.TheVariants.{Node, Row, Others, Jump as JumpLeft, GroupEnd, LookaroundEnd, LoopEnd}

-- ---- The effect of each part

-- Sets the target of the jump at an index to the current end of the code.
abbrev pub with_jump : (place : ℕ) → EmitterState → EmitterState
with_jump place s = with_insn_at place (Jump (length s.insns)) s

-- Ends an alternative with a jump, and sets the target of the branch before it to the next
-- alternative.
abbrev pub with_arm_end : (branch : ℕ) → EmitterState → EmitterState
with_arm_end branch s =
    let t = with_insn_appended (Jump 0) s in
    with_insn_at branch (Alt (length t.insns)) t

-- Emits the other alternatives, and sets the target of the jump before them to their end.
abbrev pub with_alternatives_emitted : (unicode behind : Bool) → (branch : ℕ) → (others : TreeNode) → EmitterState
    → EmitterState
with_alternatives_emitted unicode behind branch others s =
    with_jump (length s.insns) (with_code unicode behind others (with_arm_end branch s))

-- Ends a lookaround with `Goal`, and sets the continuation in its first instruction to the current
-- end.
abbrev pub with_lookaround_end : Lookaround → (head : ℕ) → EmitterState → EmitterState
with_lookaround_end l head s =
    let t = with_insn_appended Goal s in
    with_insn_at head (lookaround_insn l (length t.insns)) t

-- Ends a loop with `LoopAgain`, and sets the exit in its first instruction to the current end.
abbrev pub with_loop_end : LoopFields → (begin : ℕ) → EmitterState → EmitterState
with_loop_end f begin s =
    let t = with_insn_appended (LoopAgain begin) s in
    with_insn_at begin (EnterLoop (record {
      loop_id =
          f.loop_id;
      min_iters = f.min_iters;
      max_iters = f.max_iters;
      greedy = f.greedy;
      exit = length t.insns;
    })) t

-- The state after a pending part was emitted.
unfoldable pub with_pending : UnemittedCodePart → EmitterState → EmitterState
with_pending (Node mode node) s =
    with_code mode.unicode mode.behind (node_with_char_loops_if_enabled mode.narrow (spec_node_of node.now)) s
with_pending (Row mode nodes) s =
    with_code mode.unicode mode.behind (node_with_char_loops_if_enabled mode.narrow (spec_cat_of_children nodes.now)) s
with_pending (Others mode branch others) s = with_alternatives_emitted mode.unicode mode.behind branch
    (node_with_char_loops_if_enabled mode.narrow (spec_node_of others.now)) s
with_pending (JumpLeft place) s = with_jump place s
with_pending (GroupEnd id) s = with_insn_appended (EndCaptureGroup id) s
with_pending (LookaroundEnd look head) s = with_lookaround_end (lookaround_as_spec look) head s
with_pending (LoopEnd fields begin) s = with_loop_end fields begin s

-- The state after all pending parts were emitted, beginning with the last one.
abbrev pub with_all_pending : List UnemittedCodePart → EmitterState → EmitterState
with_all_pending [] s = s
with_all_pending (r ∷ rest) s = with_pending r (with_all_pending rest s)

-- ---- The precondition of each part

-- The sets in the part's nodes fit instructions, and its indices are less than `end`.
unfoldable pub is_emittable : (end : ℕ) → UnemittedCodePart → Bool
is_emittable end (Node mode node) = every_node_passes set_sizes_and_characters_fit_instructions (spec_node_of node.now)
is_emittable end (Row mode nodes) =
    every_node_passes set_sizes_and_characters_fit_instructions (spec_cat_of_children nodes.now)
is_emittable end (Others mode branch others) =
    nat_lt branch end && every_node_passes set_sizes_and_characters_fit_instructions (spec_node_of others.now)
is_emittable end (JumpLeft place) = nat_lt place end
is_emittable end (GroupEnd id) = true
is_emittable end (LookaroundEnd look head) = nat_lt head end
is_emittable end (LoopEnd fields begin) = nat_lt begin end

-- All pending parts are emittable.
abbrev pub are_emittable : (end : ℕ) → List UnemittedCodePart → Bool
are_emittable end rest = list_all (is_emittable end) rest

-- The indexes of the instructions and loops are in range.
pub record FitsIndexWidths (s : EmitterState) : Type 0 where
  pub insns : length s.insns < 2 ^ 32
  pub loops : s.loops < 2 ^ 16

-- The part can be emitted in a state.
pub record CanEmitPendingPart (r : UnemittedCodePart) (s : EmitterState) : Type 0 where
  pub ready : is_emittable (length s.insns) r ≡ true
  pub room : FitsIndexWidths (with_pending r s)

-- ---- The measure

-- The measure of the code of a node.
abbrev pub node_measure : TreeNode → ℕ
node_measure node = 5 * inner_node_count node + 2

-- The measure of a pending part.
unfoldable pub pending_measure : UnemittedCodePart → ℕ
pending_measure (Node mode node) = node_measure (node_with_char_loops_if_enabled mode.narrow (spec_node_of node.now))
pending_measure (Row mode nodes) =
    5 * inner_node_count (node_with_char_loops_if_enabled mode.narrow (spec_cat_of_children nodes.now)) + 1
pending_measure (Others mode branch others) =
    node_measure (node_with_char_loops_if_enabled mode.narrow (spec_node_of others.now)) + 2
pending_measure _ = 1

-- The sum of the measures of the pending parts.
abbrev pub total_measure : List UnemittedCodePart → ℕ
total_measure [] = 0
total_measure (r ∷ rest) = pending_measure r + total_measure rest

-- ---- The effect of a step

-- A program that is being built, and its pending parts.
pub record EmitWork : Type 0 where
  pub state : EmitterState
  pub rest : List UnemittedCodePart

-- The emission of something began: the parts that remain of it were put before the rest, and
-- emitting all of them has the given effect. The measure grew by less than `cost`.
pub record ExpandsPending (effect : EmitterState → EmitterState) (cost : ℕ) (before after : EmitWork) : Type 0 where
  pub code : with_all_pending after.rest after.state ≡ with_all_pending before.rest (effect before.state)
  pub ready : are_emittable (length before.state.insns) before.rest ≡ true
      → are_emittable (length after.state.insns) after.rest ≡ true
  pub less : total_measure after.rest < total_measure before.rest + cost

-- A pending part was emitted, or its emission began.
abbrev pub PendingPartIsEmittedOrBegun : UnemittedCodePart → (before after : EmitWork) → Type 0
PendingPartIsEmittedOrBegun r before after = ExpandsPending (with_pending r) (pending_measure r) before after

-- The emission of a node began.
abbrev pub BeginsEmittingNode : EmitMode → TreeNode → (before after : EmitWork) → Type 0
BeginsEmittingNode mode node before after =
    ExpandsPending (with_code mode.unicode mode.behind node) (node_measure node) before after

-- The emission of the alternatives after the first began.
abbrev pub BeginsEmittingAlternatives : EmitMode → (branch : ℕ) → TreeNode → (before after : EmitWork) → Type 0
BeginsEmittingAlternatives mode branch others before after =
    ExpandsPending (with_alternatives_emitted mode.unicode mode.behind branch others) (node_measure others + 2) before
    after

-- The emission of a list of nodes began.
abbrev pub BeginsEmittingNodeList : EmitMode → List ir.Node → (before after : EmitWork) → Type 0
BeginsEmittingNodeList mode nodes before after =
    let row = node_with_char_loops_if_enabled mode.narrow (spec_cat_of_children nodes) in
    ExpandsPending (with_code mode.unicode mode.behind row) (5 * inner_node_count row + 1) before after

-- The state of an emitter, and its pending parts.
abbrev pub emitter_and_pending_parts : {A : Type 0} → Emitter → Vec UnemittedCodePart A → EmitWork
emitter_and_pending_parts e rest = record { state = emitter_state e; rest = rest.items }
