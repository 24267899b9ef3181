use Rattle.std.proofs.Common.{◌≤◌, ◌<◌, ◌^◌, ◌+◌, ◌-◌, min, length, ap, sym, ◌∙◌, subst, arith, rules}
use Rattle.std.specs.Prelude.{is_some}
use Rattle.regex_meaning.specs.CodeUnitOffsets.{units}
use Rattle.regex_meaning.proofs.CodeUnitOffsetsLemmas.{offset-place_at}
use Rattle.regex_pattern_front.specs.AstToSpecTree.{tree_of}
use Rattle.regress_machine.specs.Machine.{test_of, act}
use Rattle.regress_input.specs.CharAndByteReadsFromOffset.{direction_of_forward_flag}
use Rattle.regress_program.specs.CompilationOfTreesAsFunction.{compiled}
use Rattle.regress_pikevm.specs.States.{machine_state_of}
use Rattle.regress_bounded.specs.BudgetSpending.{IsWorkOrMoreThanLeft}
use Rattle.regress_bounded.specs.CostsOfSearchEvents.{work_of_machine_step}
use Rattle.regress_bounded.specs.BoundedState.{HasPassedRequiredChars}
use Rattle.regress_bounded.proofs.CharLoopBodyInsns.{body-spelled}
use Rattle.regress_bounded.proofs.LazyLoopTurnsAndResumption.{few-passed}
use Rattle.regress_bounded.proofs.ThreadTurnLemmas.{ReadsUpTo, can-below, can-insn, reads-up-to, other-work, run-work}
use Rattle.regress_bounded.proofs.step_work.work_of_step.Goals.{In-Some, After-read_chars_within_budget-passed}
use Rattle.regress_bounded.proofs.step_work.work_of_step.Given.{Over}
use Rattle.regress_bounded.proofs.step_work.work_of_step.Goals as goal

pub bounds-insns-state : goal.bounds-insns-state
bounds-insns-state g c = can-below c.args.searched.now.program.now (g.Input.InputIndexer.text c.args.searched.now.input) (direction_of_forward_flag g.Dir.Direction.FORWARD) c.args.insns.now c.requires.code _ c.requires.executable

pub offset_bounds-insns-state : goal.offset_bounds-insns-state
offset_bounds-insns-state g c =
    let below : c.args.state.now.ip < length c.args.insns.now =
    can-below c.args.searched.now.program.now (g.Input.InputIndexer.text c.args.searched.now.input) (direction_of_forward_flag g.Dir.Direction.FORWARD) c.args.insns.now c.requires.code (machine_state_of g.Input.Position.PositionType.offset c.args.state.now) c.requires.executable in
    search rules

-- ---- No run

pub returns-in_default : goal.returns-in_default
returns-in_default g c =
    other-work (compiled (tree_of c.args.searched.now.program.now)) (g.Input.InputIndexer.text c.args.searched.now.input) (direction_of_forward_flag g.Dir.Direction.FORWARD) (machine_state_of g.Input.Position.PositionType.offset c.args.state.now) _
    (can-insn c.args.searched.now.program.now (g.Input.InputIndexer.text c.args.searched.now.input) (direction_of_forward_flag g.Dir.Direction.FORWARD) c.args.insns.now c.requires.code (machine_state_of g.Input.Position.PositionType.offset c.args.state.now) c.requires.executable
    c.index-insns-state.result c.index-insns-state.is)
    (sym c.in_default.is ∙ c.char_loop_max.ensures) c.args.progress.now.left

-- ---- A run

there : (g : Over) (c : In-Some g)
    → ReadsUpTo c.args.searched.now.program.now (g.Input.InputIndexer.text c.args.searched.now.input) (direction_of_forward_flag g.Dir.Direction.FORWARD) c.args.insns.now c.requires.code (machine_state_of g.Input.Position.PositionType.offset c.args.state.now) c.requires.executable
    c.in-Some.most
there g c =
    reads-up-to c.args.searched.now.program.now (g.Input.InputIndexer.text c.args.searched.now.input) (direction_of_forward_flag g.Dir.Direction.FORWARD) c.args.insns.now c.requires.code (machine_state_of g.Input.Position.PositionType.offset c.args.state.now) c.requires.executable
    c.index-insns-state.result c.index-insns-state.is c.in-Some.most (sym c.in-Some.is ∙ c.char_loop_max.ensures)

pub overflow_add-state : goal.overflow_add-state
overflow_add-state g c =
    let below = (there g (goal.at.overflow_add-state g c).In-Some).reads.below in
    let short : length c.args.insns.now < 2 ^ 64 = search rules in
    omega (arith, below, short)

pub bounds-insns-state-2 : goal.bounds-insns-state-2
bounds-insns-state-2 g c = (there g (goal.at.bounds-insns-state-2 g c).In-Some).reads.below

pub offset_bounds-insns-state-2 : goal.offset_bounds-insns-state-2
offset_bounds-insns-state-2 g c =
    let below : c.args.state.now.ip + 1 < length c.args.insns.now = (there g (goal.at.offset_bounds-insns-state-2 g c).In-Some).reads.below in
    search rules

pub read_chars_within_budget-passed-requires-clause-test : goal.read_chars_within_budget-passed-requires-clause-test
read_chars_within_budget-passed-requires-clause-test g c =
    let r = (there g (goal.at.read_chars_within_budget-passed-requires-clause-test g c).In-Some).reads in
    ap is_some (sym (ap (test_of (compiled (tree_of c.args.searched.now.program.now))) (r.body c.index-insns-state-2.result c.index-insns-state-2.is)) ∙ r.at.body)

pub read_chars_within_budget-passed-requires-clause-at : goal.read_chars_within_budget-passed-requires-clause-at
read_chars_within_budget-passed-requires-clause-at g c = ap is_some (there g (goal.at.read_chars_within_budget-passed-requires-clause-at g c).In-Some).reads.at.at

pub read_chars_within_budget-passed-requires-clause-bytes : goal.read_chars_within_budget-passed-requires-clause-bytes
read_chars_within_budget-passed-requires-clause-bytes g c =
    body-spelled c.args.searched.now.program.now c.args.searched.now.bytes c.args.state.now.ip c.index-insns-state-2.result
    ((there g (goal.at.read_chars_within_budget-passed-requires-clause-bytes g c).In-Some).reads.body c.index-insns-state-2.result c.index-insns-state-2.is)

-- what is passed over
passes : (g : Over) (c : After-read_chars_within_budget-passed g) (run : ReadsUpTo c.args.searched.now.program.now (g.Input.InputIndexer.text c.args.searched.now.input) (direction_of_forward_flag g.Dir.Direction.FORWARD) c.args.insns.now c.requires.code (machine_state_of g.Input.Position.PositionType.offset c.args.state.now) c.requires.executable c.in-Some.most)
    → HasPassedRequiredChars g.Input.Position.PositionType.offset (g.Input.InputIndexer.text c.args.searched.now.input) (direction_of_forward_flag g.Dir.Direction.FORWARD) run.reads.at.test (min c.in-Some.most (c.args.progress.now.left - 1))
    run.reads.at.place c.read_chars_within_budget-passed.result c.read_chars_within_budget-passed.new.pos
passes g c run =
    let r = run.reads in
    c.read_chars_within_budget-passed.ensures.passed r.at.test r.at.place
    (sym (ap (test_of (compiled (tree_of c.args.searched.now.program.now))) (r.body c.index-insns-state-2.result c.index-insns-state-2.is)) ∙ r.at.body) r.at.at

few : (g : Over) (c : After-read_chars_within_budget-passed g) → ReadsUpTo c.args.searched.now.program.now (g.Input.InputIndexer.text c.args.searched.now.input) (direction_of_forward_flag g.Dir.Direction.FORWARD) c.args.insns.now c.requires.code (machine_state_of g.Input.Position.PositionType.offset c.args.state.now) c.requires.executable c.in-Some.most
    → c.read_chars_within_budget-passed.result ≤ units (g.Input.InputIndexer.text c.args.searched.now.input)
few g c run =
    let r = run.reads in
    let text = g.Input.InputIndexer.text c.args.searched.now.input in
    let is = g.met.Input.InputIndexer.is_text c.args.searched.now.input in
    let sum = (passes g c run).past.sum in
    let all = few-passed text is (direction_of_forward_flag g.Dir.Direction.FORWARD) r.at.test r.at.place (offset-place_at text (g.Input.Position.PositionType.offset c.args.state.now.pos) r.at.place is r.at.at).1 in
    omega (arith, sum, all)

pub overflow_add-passed : goal.overflow_add-passed
overflow_add-passed g c =
    let at = goal.at.overflow_add-passed g c in
    let n = few g at.After-read_chars_within_budget-passed (there g at.In-Some) in
    let short = g.met.Input.InputIndexer.offsets_fit c.args.searched.now.input in
    omega (arith, n, short)

pub overflow_add-result : goal.overflow_add-result
overflow_add-result g c =
    let at = goal.at.overflow_add-result g c in
    let n = few g at.After-read_chars_within_budget-passed (there g at.In-Some) in
    let short = g.met.Input.InputIndexer.offsets_fit c.args.searched.now.input in
    let is = c.min.ensures in
    omega (arith, n, short, is)

pub returns : goal.returns
returns g c =
    let at = goal.at.returns g c in
    let x = there g at.In-Some in
    let r = x.reads in
    let program = compiled (tree_of c.args.searched.now.program.now) in
    let text = g.Input.InputIndexer.text c.args.searched.now.input in
    let s = machine_state_of g.Input.Position.PositionType.offset c.args.state.now in
    subst (λ n. IsWorkOrMoreThanLeft c.args.progress.now.left (work_of_machine_step (act program text (direction_of_forward_flag g.Dir.Direction.FORWARD) s)) (n + 1)) (sym c.min.ensures)
    (run-work program text (direction_of_forward_flag g.Dir.Direction.FORWARD) s (g.met.Input.InputIndexer.is_text c.args.searched.now.input) r.at.test r.at.place x.least c.in-Some.most x.greedy r.run r.at.body r.at.at
    g.Input.Position.PositionType.offset c.args.progress.now.left c.read_chars_within_budget-passed.result c.read_chars_within_budget-passed.new.pos (passes g at.After-read_chars_within_budget-passed x))
