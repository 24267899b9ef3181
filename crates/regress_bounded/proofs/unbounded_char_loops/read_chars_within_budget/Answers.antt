use Rattle.std.proofs.Common.{◌+◌, arith}
use Rattle.regex_meaning.proofs.CodeUnitOffsetsLemmas.{IsBoundary-place}
use Rattle.regress_search.proofs.CharLoopReach.{some-of}
use Rattle.regress_input.specs.CharAndByteReadsFromOffset.{direction_of_forward_flag}
use Rattle.regress_search.specs.OffsetsAfterMatchedInsns.{char_test_of_insn}
use Rattle.regress_bounded.proofs.CharLoopProgress.{past-none, past-more, past-all, past-boundary}
use Rattle.regress_bounded.proofs.unbounded_char_loops.read_chars_within_budget.Goals as goal

pub characters-init : goal.characters-init
characters-init g c =
    let text = g.Input.InputIndexer.text c.args.searched.now.input in
    let is = g.met.Input.InputIndexer.is_text c.args.searched.now.input in
    record {
      boundary = c.requires.at;
      few = omega arith;
      past = λ test place e f. past-none g.Input.Position.PositionType.offset text is (direction_of_forward_flag g.Dir.Direction.FORWARD) test place c.args.pos.now f;
    }

pub consume_next_char_if_accepted-requires-clause-at : goal.consume_next_char_if_accepted-requires-clause-at
consume_next_char_if_accepted-requires-clause-at g c = c.characters.invariant.boundary

pub characters-preserved : goal.characters-preserved
characters-preserved g c =
    let text = g.Input.InputIndexer.text c.args.searched.now.input in
    let is = g.met.Input.InputIndexer.is_text c.args.searched.now.input in
    let offset = g.Input.Position.PositionType.offset in
    let t = some-of (char_test_of_insn c.args.searched.now.program.now c.args.body) c.requires.test in
    let p = IsBoundary-place text (offset c.args.pos.now) is c.requires.at in
    record {
      boundary =
          past-boundary offset text is (direction_of_forward_flag g.Dir.Direction.FORWARD) t.0 p.0 (c.characters.count + 1) c.consume_next_char_if_accepted.new.pos
          (past-more offset text is (direction_of_forward_flag g.Dir.Direction.FORWARD) t.0 p.0 c.characters.count c.characters.pos c.consume_next_char_if_accepted.new.pos c.consume_next_char_if_accepted.result (c.characters.invariant.past t.0 p.0 t.1 p.1)
          c.if-not-consume_next_char_if_accepted.false (c.consume_next_char_if_accepted.ensures t.0 t.1));
      few = omega (arith, c.characters-test.true);
      past = λ test place e f.
          past-more offset text is (direction_of_forward_flag g.Dir.Direction.FORWARD) test place c.characters.count c.characters.pos c.consume_next_char_if_accepted.new.pos c.consume_next_char_if_accepted.result (c.characters.invariant.past test place e f)
          c.if-not-consume_next_char_if_accepted.false (c.consume_next_char_if_accepted.ensures test e);
    }

pub returns-after-characters-clause-at : goal.returns-after-characters-clause-at
returns-after-characters-clause-at g c = c.characters.invariant.boundary

pub returns-after-characters-clause-passed : goal.returns-after-characters-clause-passed
returns-after-characters-clause-passed g c = λ test place e f.
    let limit_is = c.chars_within_budget-limit.ensures in
    let few = c.characters.invariant.few in
    record {
      few = omega (arith, few, limit_is);
      past = c.characters.invariant.past test place e f;
      all = λ less. absurd (omega (arith, less, limit_is, c.characters-test.false));
    }

pub returns-then-not-consume_next_char_if_accepted-clause-at : goal.returns-then-not-consume_next_char_if_accepted-clause-at
returns-then-not-consume_next_char_if_accepted-clause-at g c = c.characters.invariant.boundary

pub returns-then-not-consume_next_char_if_accepted-clause-passed : goal.returns-then-not-consume_next_char_if_accepted-clause-passed
returns-then-not-consume_next_char_if_accepted-clause-passed g c = λ test place e f. record {
  few = (let limit_is = c.chars_within_budget-limit.ensures in let few = c.characters.invariant.few in omega (arith, few, limit_is));
  past = c.characters.invariant.past test place e f;
  all = λ less.
      past-all g.Input.Position.PositionType.offset (g.Input.InputIndexer.text c.args.searched.now.input) (g.met.Input.InputIndexer.is_text c.args.searched.now.input) (direction_of_forward_flag g.Dir.Direction.FORWARD) test place
      c.characters.count c.characters.pos (g.Input.Position.PositionType.offset c.consume_next_char_if_accepted.new.pos) c.consume_next_char_if_accepted.result (c.characters.invariant.past test place e f)
      c.if-not-consume_next_char_if_accepted.true (c.consume_next_char_if_accepted.ensures test e);
}
