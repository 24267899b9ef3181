use Rattle.std.proofs.Common.{sym, subst, arith, map, Some, ◌+◌}
use Rattle.regex_meaning.proofs.CodeUnitOffsetsLemmas.{IsBoundary-place}
use Rattle.regex_pattern_front.specs.AstToSpecTree.{tree_of}
use Rattle.regress_input.specs.CharAndByteReadsFromOffset.{direction_of_forward_flag}
use Rattle.regress_program.specs.CompilationOfTreesAsFunction.{compiled}
use Rattle.regress_program.specs.InsnsAsSpec.{insn_as_spec_insn}
use Rattle.regress_machine.specs.Machine.{test_of}
use Rattle.regress_pikevm.specs.States.{machine_state_of}
use Rattle.regress_search.proofs.CharLoopReach.{IsReaching, reach-none, reach-most, reach-end, reach-more, reaching-boundary, some-of}
use Rattle.regress_pikevm.proofs.pikevm.char_loops.states_at_loop_exits.Goals as goal

pub characters-init : goal.characters-init
characters-init g c =
    let text = g.Input.InputIndexer.text c.args.searched.now.input in
    let offset = g.Input.Position.PositionType.offset in
    let s = machine_state_of offset c.args.state.now in
    record {
      boundary = c.requires.boundary;
      fits = omega arith;
      reaching = λ test p e f.
          subst (λ l. IsReaching text test (direction_of_forward_flag g.Dir.Direction.FORWARD) c.args.run.min_iters c.args.run.max_iters p s 0 (offset c.args.state.now.pos) (map (λ s. machine_state_of offset s) l)) (sym c.new-states.ensures.items)
          (reach-none text (g.met.Input.InputIndexer.is_text c.args.searched.now.input) test (direction_of_forward_flag g.Dir.Direction.FORWARD) c.args.run.min_iters c.args.run.max_iters p s f);
    }

pub returns-then-count-run : goal.returns-then-count-run
returns-then-count-run g c = λ test p e f.
    let offset = g.Input.Position.PositionType.offset in
    reach-most _ (g.met.Input.InputIndexer.is_text c.args.searched.now.input) test (direction_of_forward_flag g.Dir.Direction.FORWARD) c.args.run.min_iters c.args.run.max_iters p (machine_state_of offset c.args.state.now)
    c.characters.count (offset c.characters.at) _ _ (c.characters.invariant.reaching test p e f) c.in_ok-push_if_wanted.ensures c.if-count-run.true

pub consume_next_char_if_accepted-requires-clause-at : goal.consume_next_char_if_accepted-requires-clause-at
consume_next_char_if_accepted-requires-clause-at g c = c.characters.invariant.boundary

pub returns-then-not-consume_next_char_if_accepted : goal.returns-then-not-consume_next_char_if_accepted
returns-then-not-consume_next_char_if_accepted g c = λ test p e f.
    let offset = g.Input.Position.PositionType.offset in
    reach-end _ (g.met.Input.InputIndexer.is_text c.args.searched.now.input) test (direction_of_forward_flag g.Dir.Direction.FORWARD) c.args.run.min_iters c.args.run.max_iters p (machine_state_of offset c.args.state.now)
    c.characters.count (offset c.characters.at) (offset c.consume_next_char_if_accepted.new.pos) _ _ c.consume_next_char_if_accepted.result (c.characters.invariant.reaching test p e f) c.in_ok-push_if_wanted.ensures
    (omega (arith, c.characters.invariant.fits, c.if-count-run.false)) c.if-not-consume_next_char_if_accepted.true (c.consume_next_char_if_accepted.ensures test e)

pub characters-preserved : goal.characters-preserved
characters-preserved g c =
    let text = g.Input.InputIndexer.text c.args.searched.now.input in
    let is = g.met.Input.InputIndexer.is_text c.args.searched.now.input in
    let offset = g.Input.Position.PositionType.offset in
    let d = direction_of_forward_flag g.Dir.Direction.FORWARD in
    let s = machine_state_of offset c.args.state.now in
    let t = some-of (test_of (compiled (tree_of c.args.searched.now.program.now)) (Some (insn_as_spec_insn c.args.body))) c.requires.test in
    let p = IsBoundary-place text (offset c.args.state.now.pos) is c.requires.boundary in
    record {
      boundary =
          reaching-boundary text is t.0 d c.args.run.min_iters c.args.run.max_iters p.0 s (c.characters.count + 1) (offset c.consume_next_char_if_accepted.new.pos) _
          (reach-more text is t.0 d c.args.run.min_iters c.args.run.max_iters p.0 s c.characters.count (offset c.characters.at) (offset c.consume_next_char_if_accepted.new.pos) _ _ c.consume_next_char_if_accepted.result
          (c.characters.invariant.reaching t.0 p.0 t.1 p.1) c.in_ok-push_if_wanted.ensures c.if-not-consume_next_char_if_accepted.false (c.consume_next_char_if_accepted.ensures t.0 t.1));
      fits = omega (arith, c.characters.invariant.fits, c.if-count-run.false);
      reaching = λ test q e f.
          reach-more text is test d c.args.run.min_iters c.args.run.max_iters q s c.characters.count (offset c.characters.at) (offset c.consume_next_char_if_accepted.new.pos) _ _ c.consume_next_char_if_accepted.result
          (c.characters.invariant.reaching test q e f) c.in_ok-push_if_wanted.ensures c.if-not-consume_next_char_if_accepted.false (c.consume_next_char_if_accepted.ensures test e);
    }
