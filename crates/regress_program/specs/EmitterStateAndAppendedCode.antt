-- The state of an emitter, and the code that it appends.
use Rattle.std.specs.Prelude.{◌≡◌, ℕ, ◌+◌, ◌<◌, ◌^◌, Bool, ◌&&◌, if◌then◌else◌, List, [], ◌∷◌, ◌++◌, map, length, slice_set, Vec}
use Rattle.regex_meaning.specs.Tree.{BracketContents, Lookaround, Node, cat, alt, capture_group, lookaround, loop, loop_1_char_body, Tree}
use Rattle.regex_meaning.specs.CompilationRelation.{Insn}
use Rattle.regex_pattern_front.specs.OptimizedTrees.{reads_one_character}
use Rattle.regex_pattern_front.specs.AstToSpecTree.{class_as_spec, spec_node_of}
use Rattle.regress_program.specs.InsnsAsSpec.{insn_as_spec_insn}
use Rattle.regress_program.specs.CompilationOfTreesAsFunction.{node_insn_count, loop_count, brackets_of, code_of}
use Rattle.regress_program.specs.declared.emit.emitter.Emitter.{Emitter}
use Rattle.regress_program.specs.declared.emit.emitter.EmitMode.{EmitMode}
use Rattle.regex_pattern_front.specs.declared.ir.Node as ir
use Rattle.regress_program.specs.declared.emit.emitter.LookaroundFields as declared

-- The instructions, the number of loops, and the brackets emitted so far.
pub record EmitterState : Type 0 where
  pub insns : List Insn
  pub loops : ℕ
  pub brackets : List BracketContents

-- The state of an emitter.
abbrev pub emitter_state : Emitter → EmitterState
emitter_state e = record {
  insns = map insn_as_spec_insn e.insns.items;
  loops = e.loops;
  brackets = map class_as_spec
      e.brackets.items;
}

-- The state of an emitter before the first instruction.
abbrev pub empty_state : EmitterState
empty_state = record { insns = []; loops = 0; brackets = [] }

-- The state with an instruction appended.
abbrev pub with_insn_appended : Insn → EmitterState → EmitterState
with_insn_appended x s = record { insns = s.insns ++ x ∷ []; loops = s.loops; brackets = s.brackets }

-- The state with instructions appended.
abbrev pub with_insns_appended : List Insn → EmitterState → EmitterState
with_insns_appended xs s = record { insns = s.insns ++ xs; loops = s.loops; brackets = s.brackets }

-- The state with one more loop.
abbrev pub with_loop : EmitterState → EmitterState
with_loop s = record { insns = s.insns; loops = s.loops + 1; brackets = s.brackets }

-- The state with a bracket appended.
abbrev pub with_bracket_table_entry : BracketContents → EmitterState → EmitterState
with_bracket_table_entry contents s =
    record { insns = s.insns; loops = s.loops; brackets = s.brackets ++ contents ∷ [] }

-- The state with the instruction at an index replaced.
abbrev pub with_insn_at : (place : ℕ) → Insn → EmitterState → EmitterState
with_insn_at place x s = record { insns = slice_set s.insns place x; loops = s.loops; brackets = s.brackets }

-- The state with the code of a node appended.
abbrev pub with_code : (unicode behind : Bool) → Node → EmitterState → EmitterState
with_code unicode behind node s = record {
  insns = s.insns ++ code_of unicode behind node (length s.insns) s.loops (length s.brackets);
  loops = s.loops + loop_count node;
  brackets = s.brackets ++ brackets_of node;
}

-- The emitter `after` is `before` with the code of the node appended.
abbrev pub IsEmitted : EmitMode → Node → (before after : Emitter) → Type 0
IsEmitted mode node before after = emitter_state after ≡ with_code mode.unicode mode.behind node (emitter_state before)

-- The strings of a set, each as a list of code points.
abbrev pub strings_as_code_points : {R : Type 0} → List (Vec ℕ R) → List (List ℕ)
strings_as_code_points strings = map (λ s. s.items) strings

-- A declared lookaround as the tree's.
abbrev pub lookaround_as_spec : declared.LookaroundFields → Lookaround
lookaround_as_spec l =
    record { negate = l.negate; backwards = l.backwards; start_group = l.start_group; end_group = l.end_group }

-- The node whose code is emitted. If `narrow` is set, each loop over a node that reads one
-- character becomes a char loop, and otherwise the node is unchanged.
unfoldable pub node_with_char_loops_if_enabled : (narrow : Bool) → Node → Node
node_with_char_loops_if_enabled narrow (cat first rest) =
    cat (node_with_char_loops_if_enabled narrow first) (node_with_char_loops_if_enabled narrow rest)
node_with_char_loops_if_enabled narrow (alt left right) =
    alt (node_with_char_loops_if_enabled narrow left) (node_with_char_loops_if_enabled narrow right)
node_with_char_loops_if_enabled narrow (capture_group id name contents) =
    capture_group id name (node_with_char_loops_if_enabled narrow contents)
node_with_char_loops_if_enabled narrow (lookaround l contents) =
    lookaround l (node_with_char_loops_if_enabled narrow contents)
node_with_char_loops_if_enabled narrow (loop q start_group end_group loopee) =
    if narrow && reads_one_character loopee
    then loop_1_char_body q (node_with_char_loops_if_enabled narrow loopee)
    else loop q start_group end_group (node_with_char_loops_if_enabled narrow loopee)
node_with_char_loops_if_enabled narrow (loop_1_char_body q loopee) =
    loop_1_char_body q (node_with_char_loops_if_enabled narrow loopee)
node_with_char_loops_if_enabled narrow node = node

-- The node whose code is emitted for a declared node, in a mode.
abbrev pub node_to_emit_in_mode : EmitMode → ir.Node → Node
node_to_emit_in_mode mode node = node_with_char_loops_if_enabled mode.narrow (spec_node_of node)

-- The tree whose code is emitted.
abbrev pub tree_with_char_loops : (narrow : Bool) → Tree → Tree
tree_with_char_loops narrow tree =
    record { root = node_with_char_loops_if_enabled narrow tree.root; flags = tree.flags }

-- The indexes of the instructions and loops that the node adds are in range.
pub record HasIndexRoomForNode (s : EmitterState) (node : Node) : Type 0 where
  pub insns : length s.insns + node_insn_count node < 2 ^ 32
  pub loops : s.loops + loop_count node < 2 ^ 16
