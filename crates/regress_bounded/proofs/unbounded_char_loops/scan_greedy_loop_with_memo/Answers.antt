use Rattle.std.proofs.Common.{◌∷◌, ◌++◌, [], sym, ap, ◌∙◌, subst, arith, inr}
use Rattle.std.specs.Prelude.{IfSome}
use Rattle.regress_input.proofs.BoundaryPositions.{boundary_inside}
use Rattle.regress_memo.specs.CheckedAnalysis.{IsRecordableMemoKey}
use Rattle.regress_memo.specs.MemoContents.{memo_key_as_spec}
use Rattle.regress_search.proofs.CharLoopReach.{some-of}
use Rattle.regress_search.specs.OffsetsAfterMatchedInsns.{char_test_of_insn}
use Rattle.regress_bounded.specs.declared.pending_stack.StackEntry.TheVariants.{Thread as AsThread}
use Rattle.regress_bounded.proofs.GreedyLoopScanLemmas.{further-by, key-some, place-kept, furthest-none, furthest-known, furthest-all, furthest-more}
use Rattle.regress_bounded.proofs.unbounded_char_loops.scan_greedy_loop_with_memo.Goals as goal

pub places-init : goal.places-init
places-init g c =
    record {
      boundary = c.requires.at;
      few = c.requires.few;
      paid = c.requires.paid;
      going = λ test place e h.
          furthest-none c.args.state.now c.requires.run c.requires.sound test place c.args.stack.now.items c.args.from h;
    }

pub overflow_add-count : goal.overflow_add-count
overflow_add-count g c =
    let text = g.Input.InputIndexer.text c.args.searched.now.input in
    let is = g.met.Input.InputIndexer.is_text c.args.searched.now.input in
    let fits = g.met.Input.InputIndexer.offsets_fit c.args.searched.now.input in
    let inside = boundary_inside text is (g.Input.Position.PositionType.offset c.places.at) c.places.invariant.boundary in
    let few = c.places.invariant.few in
    omega (arith, few, inside, fits)

-- the work left does not suffice
pub returns-then-progress-count-clause-paid : goal.returns-then-progress-count-clause-paid
returns-then-progress-count-clause-paid g c = c.places.invariant.paid

pub returns-then-progress-count-clause-scans : goal.returns-then-progress-count-clause-scans
returns-then-progress-count-clause-scans g c = λ test place e h. ((c.places.invariant.going test place e h).wait, inr c.if-progress-count.true)

pub unreachable-requires : goal.unreachable-requires
unreachable-requires g c =
    let is = g.met.Input.InputIndexer.is_text c.args.searched.now.input in
    let offset = g.Input.Position.PositionType.offset in
    let t = some-of (char_test_of_insn c.args.searched.now.program.now c.args.run.body) c.requires.test in
    key-some c.args.state.now c.requires.run c.requires.sound t.0 t.1 is (offset c.places.at) c.places.invariant.boundary
    c.key_at.result c.in_default.is c.key_at.ensures.key

pub fails-requires : goal.fails-requires
fails-requires g c =
    let text = g.Input.InputIndexer.text c.args.searched.now.input in
    let is = g.met.Input.InputIndexer.is_text c.args.searched.now.input in
    let offset = g.Input.Position.PositionType.offset in
    let m = c.args.progress.now.memo in
    let inside = boundary_inside text is (offset c.places.at) c.places.invariant.boundary in
    subst (λ found. IfSome found (λ k. IsRecordableMemoKey m.memo_analysis m.places (memo_key_as_spec k))) c.in-Some.is
    (c.key_at.ensures.bit (place-kept c.args.state.now c.requires.run c.requires.sound (offset c.places.at) inside))

pub returns-then-fails-clause-scans : goal.returns-then-fails-clause-scans
returns-then-fails-clause-scans g c = λ test place e h.
    furthest-known c.args.state.now c.requires.run c.requires.sound test e place c.args.stack.now.items c.places.stack.items c.places.at
    c.places.count c.key_at.result c.in-Some.key c.in-Some.is c.key_at.ensures.key (c.places.invariant.going test place e h) (sym c.fails.ensures ∙ c.if-fails.true) c.args.progress.now.left

pub consume_next_char_if_accepted-requires-clause-at : goal.consume_next_char_if_accepted-requires-clause-at
consume_next_char_if_accepted-requires-clause-at g c = c.places.invariant.boundary

pub returns-then-not-consume_next_char_if_accepted-clause-scans : goal.returns-then-not-consume_next_char_if_accepted-clause-scans
returns-then-not-consume_next_char_if_accepted-clause-scans g c = λ test place e h.
    let is = g.met.Input.InputIndexer.is_text c.args.searched.now.input in
    furthest-all c.args.state.now c.requires.run c.requires.sound test e place c.args.stack.now.items c.places.stack.items c.places.at
    c.places.count c.key_at.result c.in-Some.key c.in-Some.is c.key_at.ensures.key (c.places.invariant.going test place e h) (sym c.fails.ensures ∙ c.if-fails.false)
    c.in_ok-here.here c.in_ok-here.ensures c.consume_next_char_if_accepted.new.pos c.consume_next_char_if_accepted.result is c.if-not-consume_next_char_if_accepted.true (c.consume_next_char_if_accepted.ensures test e) c.push_entry.new.stack.items
    c.in_ok-push_entry.ensures c.args.progress.now.left

pub overflow_add-count-in-places : goal.overflow_add-count-in-places
overflow_add-count-in-places g c =
    let text = g.Input.InputIndexer.text c.args.searched.now.input in
    let is = g.met.Input.InputIndexer.is_text c.args.searched.now.input in
    let fits = g.met.Input.InputIndexer.offsets_fit c.args.searched.now.input in
    let inside = boundary_inside text is (g.Input.Position.PositionType.offset c.places.at) c.places.invariant.boundary in
    let few = c.places.invariant.few in
    omega (arith, few, inside, fits)

pub places-smaller : goal.places-smaller
places-smaller g c =
    let input = c.args.searched.now.input in
    let on = further-by g.Input.Position.PositionType.offset (g.Input.InputIndexer.text input) (g.met.Input.InputIndexer.is_text input) c.requires.test c.places.at c.consume_next_char_if_accepted.new.pos
    c.consume_next_char_if_accepted.result c.places.invariant.boundary c.if-not-consume_next_char_if_accepted.false c.consume_next_char_if_accepted.ensures in
    let more = on.more in
    let inside = on.inside in
    omega (arith, more, inside)

pub places-preserved : goal.places-preserved
places-preserved g c =
    let text = g.Input.InputIndexer.text c.args.searched.now.input in
    let is = g.met.Input.InputIndexer.is_text c.args.searched.now.input in
    let on = further-by g.Input.Position.PositionType.offset text is c.requires.test c.places.at c.consume_next_char_if_accepted.new.pos c.consume_next_char_if_accepted.result c.places.invariant.boundary
    c.if-not-consume_next_char_if_accepted.false c.consume_next_char_if_accepted.ensures in
    let more = on.more in
    let few = c.places.invariant.few in
    record {
      boundary = on.boundary;
      few = omega (arith, few, more);
      paid = (let enough = c.if-progress-count.false in omega (arith, enough));
      going = λ test place e h.
          furthest-more c.args.state.now c.requires.run c.requires.sound test e place c.args.stack.now.items c.places.stack.items c.places.at
          c.places.count c.key_at.result c.in-Some.key c.in-Some.is c.key_at.ensures.key (c.places.invariant.going test place e h) (sym c.fails.ensures ∙ c.if-fails.false)
          c.in_ok-here.here c.in_ok-here.ensures c.consume_next_char_if_accepted.new.pos c.consume_next_char_if_accepted.result is c.if-not-consume_next_char_if_accepted.false (c.consume_next_char_if_accepted.ensures test e) c.push_entry-in-places.new.stack.items
          (c.in_ok-push_entry-2.ensures ∙ ap (λ xs. xs ++ AsThread c.in_ok-here.here ∷ []) c.in_ok-push_entry.ensures);
    }
