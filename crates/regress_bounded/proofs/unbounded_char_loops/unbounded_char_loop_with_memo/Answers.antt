use Rattle.std.proofs.Common.{◌<◌, ◌^◌, ◌+◌, ◌-◌, ◌≤◌, min, arith}
use Rattle.regress_pikevm.specs.States.{machine_state_of}
use Rattle.regress_program.specs.CompilationOfTreesAsFunction.{compiled}
use Rattle.regex_pattern_front.specs.AstToSpecTree.{tree_of}
use Rattle.regress_bounded.proofs.GreedyLoopScanLemmas.{past-few}
use Rattle.regress_bounded.proofs.GreedyLoopTurnLemmas.{all-passed, met-few, met-over, met-goes}
use Rattle.regress_bounded.proofs.LazyLoopTurnsAndResumption.{PassesOver, reads-here, passes-over, passed-fits, run-which, at-least, short-goes, lazy-goes}
use Rattle.regress_bounded.proofs.BoundedStateLemmas.{knows, falls-short}
use Rattle.regress_bounded.proofs.StepResultLemmas.{goes-short}
use Rattle.regress_bounded.proofs.unbounded_char_loops.unbounded_char_loop_with_memo.Goals.{After-read_chars_within_budget-passed}
use Rattle.regress_bounded.proofs.unbounded_char_loops.unbounded_char_loop_with_memo.Given.{Over}
use Rattle.regress_bounded.proofs.unbounded_char_loops.unbounded_char_loop_with_memo.Goals as goal

pub read_chars_within_budget-passed-requires-clause-test : goal.read_chars_within_budget-passed-requires-clause-test
read_chars_within_budget-passed-requires-clause-test g c = (reads-here c.requires.run c.requires.stands).test

pub read_chars_within_budget-passed-requires-clause-at : goal.read_chars_within_budget-passed-requires-clause-at
read_chars_within_budget-passed-requires-clause-at g c = (reads-here c.requires.run c.requires.stands).at

-- what is passed over
passes : (g : Over) (c : After-read_chars_within_budget-passed g)
    → PassesOver g.Input.Position.PositionType.offset (compiled (tree_of c.args.searched.now.program.now)) (g.Input.InputIndexer.text c.args.searched.now.input) c.args.run
    (min c.args.run.least (c.args.progress.now.left - 1)) (machine_state_of g.Input.Position.PositionType.offset c.args.state) c.read_chars_within_budget-passed.result c.read_chars_within_budget-passed.new.pos
passes g c =
    passes-over c.requires.run c.requires.stands (g.met.Input.InputIndexer.is_text c.args.searched.now.input) (min c.args.run.least (c.args.progress.now.left - 1)) c.read_chars_within_budget-passed.result
    c.read_chars_within_budget-passed.new.pos c.read_chars_within_budget-passed.ensures.passed

few : (g : Over) (c : After-read_chars_within_budget-passed g) → min c.args.run.least (c.args.progress.now.left - 1) ≤ c.args.run.least
few g c = omega arith

fits : (g : Over) (c : After-read_chars_within_budget-passed g) → c.read_chars_within_budget-passed.result + 2 < 2 ^ 64
fits g c = passed-fits (passes g c) (g.met.Input.InputIndexer.is_text c.args.searched.now.input) (g.met.Input.InputIndexer.offsets_fit c.args.searched.now.input)

-- ---- There are too few characters

pub overflow_add-passed : goal.overflow_add-passed
overflow_add-passed g c = let few = fits g (goal.at.overflow_add-passed g c).After-read_chars_within_budget-passed in omega (arith, few)

pub returns-in_err-spend-clause-continues : goal.returns-in_err-spend-clause-continues
returns-in_err-spend-clause-continues g c = λ b h.
    let p = passes g (goal.at.returns-in_err-spend-clause-continues g c).After-read_chars_within_budget-passed in
    goes-short h c.args.stack.now.items c.spend.new.self c.from_residual.result c.in_err-spend.field-0.0 c.from_residual.ensures.1 c.in_err-spend.ensures.over.0
    (falls-short g.Input.Position.PositionType.offset (compiled (tree_of c.args.searched.now.program.now)) (g.Input.InputIndexer.text c.args.searched.now.input) b h
    (c.read_chars_within_budget-passed.result + 2) c.spend.new.self (at-least h p c.requires.run) c.in_err-spend.ensures.over.1)

pub returns-then-passed-run-clause-continues : goal.returns-then-passed-run-clause-continues
returns-then-passed-run-clause-continues g c = λ b h.
    short-goes h (passes g (goal.at.returns-then-passed-run-clause-continues g c).After-read_chars_within_budget-passed) c.requires.run c.if-passed-run.true c.spend.new.self c.spend.ensures.memo
    c.in_ok-spend.ensures.spent

-- ---- A greedy one

pub scan_greedy_loop_with_memo-requires-clause-sound : goal.scan_greedy_loop_with_memo-requires-clause-sound
scan_greedy_loop_with_memo-requires-clause-sound g c = knows c.requires.stands

pub scan_greedy_loop_with_memo-requires-clause-run : goal.scan_greedy_loop_with_memo-requires-clause-run
scan_greedy_loop_with_memo-requires-clause-run g c = run-which c.requires.run c.if-run.true

pub scan_greedy_loop_with_memo-requires-clause-test : goal.scan_greedy_loop_with_memo-requires-clause-test
scan_greedy_loop_with_memo-requires-clause-test g c = (reads-here c.requires.run c.requires.stands).test

pub scan_greedy_loop_with_memo-requires-clause-few : goal.scan_greedy_loop_with_memo-requires-clause-few
scan_greedy_loop_with_memo-requires-clause-few g c =
    let before = (goal.at.scan_greedy_loop_with_memo-requires-clause-few g c).After-read_chars_within_budget-passed in
    let p = passes g before in
    past-few g.Input.Position.PositionType.offset (g.Input.InputIndexer.text c.args.searched.now.input) (g.met.Input.InputIndexer.is_text c.args.searched.now.input) p.test p.place c.args.run.least
    c.read_chars_within_budget-passed.new.pos (all-passed p (few g before) c.if-passed-run.false)

pub scan_greedy_loop_with_memo-requires-clause-paid : goal.scan_greedy_loop_with_memo-requires-clause-paid
scan_greedy_loop_with_memo-requires-clause-paid g c =
    let most = (passes g (goal.at.scan_greedy_loop_with_memo-requires-clause-paid g c).After-read_chars_within_budget-passed).over.few in
    let le = c.if-passed-run.false in
    omega (arith, most, le)

pub overflow_add-count : goal.overflow_add-count
overflow_add-count g c =
    let before = (goal.at.overflow_add-count g c).After-read_chars_within_budget-passed in
    let n = met-few (passes g before) (few g before) c.if-passed-run.false c.args.progress.now c.args.stack.now.items c.scan_greedy_loop_with_memo.new.stack.items c.in_ok-next.next c.in_ok-next.count
    (g.met.Input.InputIndexer.is_text c.args.searched.now.input) c.in_ok-next.ensures.scans in
    let short = g.met.Input.InputIndexer.offsets_fit c.args.searched.now.input in
    omega (arith, n, short)

pub returns-in_err-spend-2-clause-continues : goal.returns-in_err-spend-2-clause-continues
returns-in_err-spend-2-clause-continues g c = λ b h.
    let before = (goal.at.returns-in_err-spend-2-clause-continues g c).After-read_chars_within_budget-passed in
    goes-short h c.scan_greedy_loop_with_memo.new.stack.items c.spend-then-run.new.self c.from_residual-in_err-spend-2.result c.in_err-spend-2.field-0.0 c.from_residual-in_err-spend-2.ensures.1
    c.in_err-spend-2.ensures.over.0
    (met-over h (run-which c.requires.run c.if-run.true) (passes g before) (few g before) c.if-passed-run.false c.scan_greedy_loop_with_memo.new.stack.items c.in_ok-next.next c.in_ok-next.count c.in_ok-next.ensures.scans
    c.spend-then-run.new.self c.in_err-spend-2.ensures.over.1)

pub returns-then-run-clause-continues : goal.returns-then-run-clause-continues
returns-then-run-clause-continues g c = λ b h.
    let before = (goal.at.returns-then-run-clause-continues g c).After-read_chars_within_budget-passed in
    met-goes h (run-which c.requires.run c.if-run.true) (passes g before) (few g before) c.if-passed-run.false c.scan_greedy_loop_with_memo.new.stack.items c.in_ok-next.next c.in_ok-next.count c.in_ok-next.ensures.scans
    c.spend-then-run.new.self c.spend-then-run.ensures.memo c.in_ok-spend-2.ensures.spent

-- ---- A lazy one

pub overflow_add-passed-2 : goal.overflow_add-passed-2
overflow_add-passed-2 g c = let few = fits g (goal.at.overflow_add-passed-2 g c).After-read_chars_within_budget-passed in omega (arith, few)

pub returns-in_err-spend-3-clause-continues : goal.returns-in_err-spend-3-clause-continues
returns-in_err-spend-3-clause-continues g c = λ b h.
    let p = passes g (goal.at.returns-in_err-spend-3-clause-continues g c).After-read_chars_within_budget-passed in
    goes-short h c.args.stack.now.items c.spend-2.new.self c.from_residual-in_err-spend-3.result c.in_err-spend-3.field-0.0 c.from_residual-in_err-spend-3.ensures.1 c.in_err-spend-3.ensures.over.0
    (falls-short g.Input.Position.PositionType.offset (compiled (tree_of c.args.searched.now.program.now)) (g.Input.InputIndexer.text c.args.searched.now.input) b h
    (c.read_chars_within_budget-passed.result + 2) c.spend-2.new.self (at-least h p c.requires.run) c.in_err-spend-3.ensures.over.1)

pub take_nearest_exit-requires-clause-test : goal.take_nearest_exit-requires-clause-test
take_nearest_exit-requires-clause-test g c = (reads-here c.requires.run c.requires.stands).test

pub returns-clause-continues : goal.returns-clause-continues
returns-clause-continues g c = λ b h.
    lazy-goes c.args.state h (run-which c.requires.run c.if-run.false) (passes g (goal.at.returns-clause-continues g c).After-read_chars_within_budget-passed) c.if-passed-run.false c.in_ok-next-2.next
    c.take_nearest_exit.new.stack.items c.in_ok-next-2.ensures c.spend-2.new.self c.spend-2.ensures.memo c.in_ok-spend-3.ensures.spent
