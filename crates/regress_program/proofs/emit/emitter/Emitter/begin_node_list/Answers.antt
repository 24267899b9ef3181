use Rattle.std.proofs.Common.{◌≡◌, ◌+◌, ◌*◌, ◌∙◌, ◌∷◌, true, false, arith}
use Rattle.regex_pattern_front.specs.AstToSpecTree.{spec_node_of}
use Rattle.regress_program.specs.LeafNodesAndOptimizableLoops.{spec_cat_of_children, is_leaf}
use Rattle.regress_program.specs.InnerNodeCountMeasure.{inner_node_count}
use Rattle.regress_program.specs.EmitterStateAndAppendedCode.{node_with_char_loops_if_enabled, emitter_state, with_code}
use Rattle.regress_program.specs.PendingEmission.{pending_measure, is_emittable, with_pending}
use Rattle.regress_program.proofs.PendingEmissionLemmas.{begun-whole, begun-two, grows-code, grows-then, put-row, row-code, row-ended, row-less, row-light, row-room-first, row-room-rest, row-sets}
use Rattle.regress_program.proofs.emit.emitter.Emitter.begin_node_list.Goals as goal

pub emit_leaf-requires-clause-room : goal.emit_leaf-requires-clause-room
emit_leaf-requires-clause-room c =
    let leaf : is_leaf (spec_node_of c.in-Some.first.now) ≡ true = grind (arith, c.has_children.ensures, c.if-has_children.false) in
    row-room-first c.args.mode.narrow c.in-Some.first.now c.in-Some.others.now c.loop-first.left.now (emitter_state c.loop-first.self)
    c.in-Some.ensures.cases.0 leaf c.loop-first.invariant.room

pub loop-first-preserved : goal.loop-first-preserved
loop-first-preserved c =
    let m = c.args.mode in
    let first = c.in-Some.first.now in
    let others = c.in-Some.others.now in
    let nodes = c.loop-first.left.now in
    let i = c.loop-first.invariant in
    let s = emitter_state c.loop-first.self in
    let t = emitter_state c.emit_leaf.new.self in
    let is : nodes ≡ first ∷ others = c.in-Some.ensures.cases.0 in
    let leaf : is_leaf (spec_node_of first) ≡ true = grind (arith, c.has_children.ensures, c.if-has_children.false) in
    let code = c.in_ok-emit_leaf.ensures in
    record {
      rest = i.rest;
      grows = grows-then _ s t i.grows (rw code (grows-code m.unicode m.behind (spec_node_of first) s));
      sets = (row-sets first others nodes is i.sets).1;
      room = row-room-rest m.unicode m.behind m.narrow first others nodes s t is leaf i.room code;
      light = row-light m.narrow first others nodes _ is i.light;
      code = row-code m.unicode m.behind m.narrow first others nodes s t _ is leaf code i.code;
    }

pub returns : goal.returns
returns c =
    let m = c.args.mode in
    let row = node_with_char_loops_if_enabled m.narrow (spec_cat_of_children c.args.nodes.now) in
    let i = c.loop-first.invariant in
    let t = emitter_state c.loop-first.self in
    let whole = begun-whole (with_code m.unicode m.behind row) (5 * inner_node_count row + 1) c.args.rest.now.items (emitter_state c.args.self.now) t
    (row-ended m.unicode m.behind m.narrow c.loop-first.left.now t c.in_default.ensures.cases ∙ i.code) i.grows (omega arith) in
    rw i.rest whole

pub returns-then-has_children : goal.returns-then-has_children
unfolding with_pending is_emittable pending_measure
returns-then-has_children c =
    let m = c.args.mode in
    let nodes = c.loop-first.left.now in
    let row = node_with_char_loops_if_enabled m.narrow (spec_cat_of_children c.args.nodes.now) in
    let first = c.in-Some.first.now in
    let others = c.in-Some.others.now in
    let i = c.loop-first.invariant in
    let s = emitter_state c.args.self.now in
    let t = emitter_state c.loop-first.self in
    let is : nodes ≡ first ∷ others = c.in-Some.ensures.cases.0 in
    let sets = row-sets first others nodes is i.sets in
    begun-two (with_code m.unicode m.behind row) (5 * inner_node_count row + 1) c.args.rest.now.items c.push.new.self.items c.push-then-has_children.new.self.items _ _ s t
    (rw i.rest at c.in_ok-push.ensures.items) c.in_ok-push-2.ensures.items
    (put-row m.unicode m.behind m.narrow first others nodes t is ∙ i.code) i.grows sets.1 sets.0
    (omega (arith, row-less m.narrow first others nodes is, i.light))
