use Rattle.std.proofs.Common.{◌≡◌, ◌+◌, ◌*◌, ◌∙◌, ap, [], sym, arith}
use Rattle.std.proofs.lemmas.Result.{IfOk-weaker}
use Rattle.regex_meaning.specs.Tree.{capture_group}
use Rattle.regex_pattern_front.specs.AstToSpecTree.{spec_node_of}
use Rattle.regress_program.specs.LeafNodesAndOptimizableLoops.{spec_cat_of_children}
use Rattle.regress_program.specs.CompilationOfTreesAsFunction.{code_of, loop_count, brackets_of}
use Rattle.regress_program.specs.InnerNodeCountMeasure.{inner_node_count}
use Rattle.regress_program.specs.EmitterStateAndAppendedCode.{HasIndexRoomForNode, node_with_char_loops_if_enabled, emitter_state, with_code}
use Rattle.regress_program.specs.PendingEmission.{node_measure}
use Rattle.regress_program.proofs.AppendedCodeLemmas.{room-unnamed}
use Rattle.regress_program.proofs.NodeKindLemmas.{leaf-left}
use Rattle.regress_program.proofs.NodeListLemmas.{spec_node_of-Cat}
use Rattle.regress_program.proofs.CharLoopNodeLemmas.{shaped-leaf}
use Rattle.regress_program.proofs.PendingEmissionLemmas.{begun-cheap, begun-whole, grows-code}
use Rattle.regress_program.proofs.emit.emitter.Emitter.begin.Goals as goal

pub begin_group-requires-clause-room : goal.begin_group-requires-clause-room
unfolding spec_node_of node_with_char_loops_if_enabled
begin_group-requires-clause-room c =
    let is = ap spec_node_of c.in-CaptureGroup.is in
    let inside = spec_node_of c.in-CaptureGroup.contents.value in
    let room : HasIndexRoomForNode (emitter_state c.args.self.now) (capture_group c.in-CaptureGroup.id [] (node_with_char_loops_if_enabled c.args.mode.narrow inside)) = room-unnamed _ _ _ _ (rw is at c.requires.room) in
    rw c.deref-in-CaptureGroup.ensures room

pub begin_node_list-requires-clause-sets : goal.begin_node_list-requires-clause-sets
begin_node_list-requires-clause-sets c =
    let same : spec_node_of c.args.node.now ≡ spec_cat_of_children c.deref.result.now = ap spec_node_of c.in-Cat.is ∙ spec_node_of-Cat c.in-Cat.nodes ∙ ap spec_cat_of_children (sym c.deref.ensures.value) in
    rw same at c.requires.sets

pub begin_node_list-requires-clause-room : goal.begin_node_list-requires-clause-room
begin_node_list-requires-clause-room c =
    let same : spec_node_of c.args.node.now ≡ spec_cat_of_children c.deref.result.now = ap spec_node_of c.in-Cat.is ∙ spec_node_of-Cat c.in-Cat.nodes ∙ ap spec_cat_of_children (sym c.deref.ensures.value) in
    rw same at c.requires.room

pub returns-in-Cat : goal.returns-in-Cat
returns-in-Cat c =
    let m = c.args.mode in
    let row = node_with_char_loops_if_enabled m.narrow (spec_cat_of_children c.deref.result.now) in
    let same : spec_node_of c.args.node.now ≡ spec_cat_of_children c.deref.result.now = ap spec_node_of c.in-Cat.is ∙ spec_node_of-Cat c.in-Cat.nodes ∙ ap spec_cat_of_children (sym c.deref.ensures.value) in
    rw same
    (IfOk-weaker c.begin_node_list.result _ _ (λ _ b. begun-cheap (with_code m.unicode m.behind row) (5 * inner_node_count row + 1) (node_measure row) _ _ b (omega arith)) c.begin_node_list.ensures)

pub returns-in-CaptureGroup : goal.returns-in-CaptureGroup
unfolding spec_node_of node_with_char_loops_if_enabled code_of loop_count brackets_of inner_node_count
returns-in-CaptureGroup c = rw (c.in-CaptureGroup.is, ← c.deref-in-CaptureGroup.ensures) c.begin_group.ensures

pub emit_leaf-requires : goal.emit_leaf-requires
emit_leaf-requires c =
    let d = c.in_default in
    let leaf = leaf-left c.args.node.now d.not-Cat d.not-Alt d.not-CaptureGroup d.not-LookaroundAssertion d.not-Loop d.not-Loop1CharBody in
    record {
      leaf = leaf;
      sets = c.requires.sets;
      room = rw (shaped-leaf c.args.mode.narrow (spec_node_of c.args.node.now) leaf) at c.requires.room;
    }

pub returns-in_default : goal.returns-in_default
returns-in_default c =
    let d = c.in_default in
    let m = c.args.mode in
    let leaf = leaf-left c.args.node.now d.not-Cat d.not-Alt d.not-CaptureGroup d.not-LookaroundAssertion d.not-Loop d.not-Loop1CharBody in
    let n = spec_node_of c.args.node.now in
    let s = emitter_state c.args.self.now in
    let t = emitter_state c.emit_leaf.new.self in
    rw (shaped-leaf m.narrow n leaf)
    (IfOk-weaker c.emit_leaf.result _ _
    (λ _ e. begun-whole (with_code m.unicode m.behind n) (node_measure n) c.args.rest.now.items s t e (rw e (grows-code m.unicode m.behind n s)) (omega arith))
    c.emit_leaf.ensures)
