use Rattle.std.proofs.Common.{◌∙◌, ap, arith, length}
use Rattle.std.proofs.lemmas.Bool.{ltb-true}
use Rattle.std.proofs.lemmas.Result.{IfOk-weaker}
use Rattle.regex_meaning.specs.CompilationRelation.{Goal, Jump as JumpInsn, LoopAgain}
use Rattle.regex_meaning.proofs.BoolLemmas.{and-left, and-right}
use Rattle.regex_pattern_front.specs.AstToSpecTree.{spec_node_of}
use Rattle.regress_program.specs.LeafNodesAndOptimizableLoops.{spec_cat_of_children}
use Rattle.regress_program.specs.EmitterStateAndAppendedCode.{node_with_char_loops_if_enabled, emitter_state, with_insn_at}
use Rattle.regress_program.specs.PendingEmission.{is_emittable, pending_measure, with_pending}
use Rattle.regress_program.specs.declared.emit.nested_nodes.UnemittedCodePart.TheVariants.{Jump, GroupEnd, LookaroundEnd, LoopEnd}
use Rattle.regress_program.proofs.PendingEmissionLemmas.{end-room, jump-room, put-whole, room-of}
use Rattle.regress_program.proofs.emit.emitter.Emitter.emit_pending.Goals as goal

pub begin-requires-clause-sets : goal.begin-requires-clause-sets
unfolding is_emittable
begin-requires-clause-sets c = rw c.in-Node.is at c.requires.ready

pub begin-requires-clause-room : goal.begin-requires-clause-room
unfolding with_pending
begin-requires-clause-room c =
    let m = c.in-Node.mode in
    room-of m.unicode m.behind (node_with_char_loops_if_enabled m.narrow (spec_node_of c.in-Node.node.now)) (emitter_state c.args.self.now) (rw c.in-Node.is at c.requires.room)

pub begin_node_list-requires-clause-sets : goal.begin_node_list-requires-clause-sets
unfolding is_emittable
begin_node_list-requires-clause-sets c = rw c.in-Row.is at c.requires.ready

pub begin_node_list-requires-clause-room : goal.begin_node_list-requires-clause-room
unfolding with_pending
begin_node_list-requires-clause-room c =
    let m = c.in-Row.mode in
    room-of m.unicode m.behind (node_with_char_loops_if_enabled m.narrow (spec_cat_of_children c.in-Row.nodes.now)) (emitter_state c.args.self.now) (rw c.in-Row.is at c.requires.room)

pub begin_other_arms-requires-clause-branch : goal.begin_other_arms-requires-clause-branch
unfolding is_emittable
begin_other_arms-requires-clause-branch c =
    ltb-true c.in-Others.branch (length (emitter_state c.args.self.now).insns) (and-left _ _ (rw c.in-Others.is at c.requires.ready))

pub begin_other_arms-requires-clause-sets : goal.begin_other_arms-requires-clause-sets
unfolding is_emittable
begin_other_arms-requires-clause-sets c = and-right _ _ (rw c.in-Others.is at c.requires.ready)

pub begin_other_arms-requires-clause-room : goal.begin_other_arms-requires-clause-room
unfolding with_pending
begin_other_arms-requires-clause-room c = rw c.in-Others.is at c.requires.room

pub next-target-requires : goal.next-target-requires
unfolding with_pending
next-target-requires c = jump-room c.in-Jump.place (emitter_state c.args.self.now) (rw c.in-Jump.is at c.requires.room)

pub replace_insn_at-requires : goal.replace_insn_at-requires
unfolding is_emittable
replace_insn_at-requires c = ltb-true c.in-Jump.place (length (emitter_state c.args.self.now).insns) (rw c.in-Jump.is at c.requires.ready)

pub end_lookaround-requires-clause-head : goal.end_lookaround-requires-clause-head
unfolding is_emittable
end_lookaround-requires-clause-head c =
    ltb-true c.in-LookaroundEnd.head (length (emitter_state c.args.self.now).insns) (rw c.in-LookaroundEnd.is at c.requires.ready)

pub end_lookaround-requires-clause-room : goal.end_lookaround-requires-clause-room
unfolding with_pending
end_lookaround-requires-clause-room c = end-room c.in-LookaroundEnd.head Goal _ (emitter_state c.args.self.now) (rw c.in-LookaroundEnd.is at c.requires.room)

pub end_loop-requires-clause-begin : goal.end_loop-requires-clause-begin
unfolding is_emittable
end_loop-requires-clause-begin c =
    ltb-true c.in-LoopEnd.begin (length (emitter_state c.args.self.now).insns) (rw c.in-LoopEnd.is at c.requires.ready)

pub end_loop-requires-clause-room : goal.end_loop-requires-clause-room
unfolding with_pending
end_loop-requires-clause-room c = end-room c.in-LoopEnd.begin (LoopAgain c.in-LoopEnd.begin) _ (emitter_state c.args.self.now) (rw c.in-LoopEnd.is at c.requires.room)

pub returns-in-Node : goal.returns-in-Node
unfolding with_pending pending_measure
returns-in-Node c = rw c.in-Node.is c.begin.ensures

pub returns-in-Row : goal.returns-in-Row
unfolding with_pending pending_measure
returns-in-Row c = rw c.in-Row.is c.begin_node_list.ensures

pub returns-in-Others : goal.returns-in-Others
unfolding with_pending pending_measure
returns-in-Others c = rw c.in-Others.is c.begin_other_arms.ensures

pub returns-in-Jump : goal.returns-in-Jump
unfolding with_pending pending_measure
returns-in-Jump c =
    let place = c.in-Jump.place in
    let s = emitter_state c.args.self.now in
    rw c.in-Jump.is
    (put-whole (Jump place) c.args.rest.now.items s (emitter_state c.replace_insn_at.new.self)
    (c.replace_insn_at.ensures ∙ ap (λ n. with_insn_at place (JumpInsn n) s) c.next-target.ensures) (omega arith))

pub returns-in-GroupEnd : goal.returns-in-GroupEnd
unfolding with_pending pending_measure
returns-in-GroupEnd c =
    rw c.in-GroupEnd.is
    (IfOk-weaker c.append_insn.result _ _ (λ _ is. put-whole (GroupEnd c.in-GroupEnd.id) c.args.rest.now.items (emitter_state c.args.self.now) (emitter_state c.append_insn.new.self) is (omega arith)) c.append_insn.ensures)

pub returns-in-LookaroundEnd : goal.returns-in-LookaroundEnd
unfolding with_pending pending_measure
returns-in-LookaroundEnd c =
    let r = LookaroundEnd c.in-LookaroundEnd.look c.in-LookaroundEnd.head in
    rw c.in-LookaroundEnd.is
    (IfOk-weaker c.end_lookaround.result _ _ (λ _ is. put-whole r c.args.rest.now.items (emitter_state c.args.self.now) (emitter_state c.end_lookaround.new.self) is (omega arith)) c.end_lookaround.ensures)

pub returns-in-LoopEnd : goal.returns-in-LoopEnd
unfolding with_pending pending_measure
returns-in-LoopEnd c =
    let r = LoopEnd c.in-LoopEnd.fields c.in-LoopEnd.begin in
    rw c.in-LoopEnd.is
    (IfOk-weaker c.end_loop.result _ _ (λ _ is. put-whole r c.args.rest.now.items (emitter_state c.args.self.now) (emitter_state c.end_loop.new.self) is (omega arith)) c.end_loop.ensures)
