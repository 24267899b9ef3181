use Rattle.std.proofs.Common.{sym, ◌∙◌, subst, Ok, None}
use Rattle.regress_search.specs.AttemptsAndStarts.{NoMatchAt}
use Rattle.regress_search.specs.declared.exec.SearchError.{SearchError}
use Rattle.regress_backtrack.specs.ProgramsAndPlans.{executed_tree_of}
use Rattle.regex_pattern_front.specs.AstToSpecTree.{tree_of}
use Rattle.regress_backtrack.specs.State.{current_thread_state_of}
use Rattle.regress_search.proofs.MatchesWithinWorkLemmas.{goes-on-free}
use Rattle.regress_backtrack.proofs.PlannedTreeLemmas.{can-be, can-run, end-context, ends-context, search-run}
use Rattle.regress_backtrack.proofs.classicalbacktrack.BacktrackExecutorSingleAttemptExecutor.attempt.Goals as goal

pub make_leap_if_due-requires-clause-executable : goal.make_leap_if_due-requires-clause-executable
make_leap_if_due-requires-clause-executable g c =
    let s = c.args.self.now.search in
    search-run s.program.wide s.same s.searched.well_formed s.searched.unicode s.searched.bytes (g.met.Input.InputIndexer.is_text s.searched.input)

pub returns-then-make_leap_if_due-clause-found : goal.returns-then-make_leap_if_due-clause-found
returns-then-make_leap_if_due-clause-found g c =
    let s = c.args.self.now.search in
    let can = can-be s.same s.searched.well_formed s.searched.unicode s.searched.bytes in
    let offset = g.Input.Position.PositionType.offset in
    let text = g.Input.InputIndexer.text s.searched.input in
    let none = subst (NoMatchAt (executed_tree_of s.program) text) c.pos_to_offset-at.ensures (c.make_leap_if_due.ensures.none c.if-make_leap_if_due.true) in
    sym none ∙ end-context s.program.wide (tree_of s.program.regex) text can.well_formed (offset c.args.pos)

pub returns-then-make_leap_if_due-clause-work : goal.returns-then-make_leap_if_due-clause-work
returns-then-make_leap_if_due-clause-work g c =
    let offset = g.Input.Position.PositionType.offset in
    goes-on-free {E = SearchError} offset (offset c.args.pos) (Ok None)

pub retry_with_memo-requires-clause-executable : goal.retry_with_memo-requires-clause-executable
retry_with_memo-requires-clause-executable g c =
    let s = c.args.self.now.search in
    (can-run s.program.wide s.same s.searched.well_formed s.searched.unicode s.searched.bytes, c.requires)

pub returns-then-is_work_limit_exceeded-clause-found : goal.returns-then-is_work_limit_exceeded-clause-found
returns-then-is_work_limit_exceeded-clause-found g c =
    let s = c.args.self.now.search in
    let can = can-be s.same s.searched.well_formed s.searched.unicode s.searched.bytes in
    let offset = g.Input.Position.PositionType.offset in
    ends-context offset s.program.wide (tree_of s.program.regex) (g.Input.InputIndexer.text s.searched.input) can.well_formed (offset c.args.pos)
    (current_thread_state_of c.retry_with_memo.new.memory 0 0).groups c.retry_with_memo.result c.retry_with_memo.ensures.found

pub attempt-end-requires-clause-executable : goal.attempt-end-requires-clause-executable
attempt-end-requires-clause-executable g c =
    let s = c.args.self.now.search in
    (can-run s.program.wide s.same s.searched.well_formed s.searched.unicode s.searched.bytes, c.requires)

pub returns-then-is_ok-clause-found : goal.returns-then-is_ok-clause-found
returns-then-is_ok-clause-found g c =
    let s = c.args.self.now.search in
    let can = can-be s.same s.searched.well_formed s.searched.unicode s.searched.bytes in
    let offset = g.Input.Position.PositionType.offset in
    ends-context offset s.program.wide (tree_of s.program.regex) (g.Input.InputIndexer.text s.searched.input) can.well_formed (offset c.args.pos)
    (current_thread_state_of c.attempt-end.new.memory 0 0).groups c.attempt-end.result c.attempt-end.ensures.found

pub retry_with_memo-requires-2-clause-executable : goal.retry_with_memo-requires-2-clause-executable
retry_with_memo-requires-2-clause-executable g c =
    let s = c.args.self.now.search in
    (can-run s.program.wide s.same s.searched.well_formed s.searched.unicode s.searched.bytes, c.requires)

pub returns-clause-found : goal.returns-clause-found
returns-clause-found g c =
    let s = c.args.self.now.search in
    let can = can-be s.same s.searched.well_formed s.searched.unicode s.searched.bytes in
    let offset = g.Input.Position.PositionType.offset in
    ends-context offset s.program.wide (tree_of s.program.regex) (g.Input.InputIndexer.text s.searched.input) can.well_formed (offset c.args.pos)
    (current_thread_state_of c.retry_with_memo-2.new.memory 0 0).groups c.retry_with_memo-2.result c.retry_with_memo-2.ensures.found

pub returns-then-is_work_limit_exceeded-clause-work : goal.returns-then-is_work_limit_exceeded-clause-work
returns-then-is_work_limit_exceeded-clause-work g c = goes-on-free g.Input.Position.PositionType.offset (g.Input.Position.PositionType.offset c.args.pos) c.retry_with_memo.result

pub returns-then-is_ok-clause-work : goal.returns-then-is_ok-clause-work
returns-then-is_ok-clause-work g c = goes-on-free g.Input.Position.PositionType.offset (g.Input.Position.PositionType.offset c.args.pos) c.attempt-end.result

pub returns-clause-work : goal.returns-clause-work
returns-clause-work g c = goes-on-free g.Input.Position.PositionType.offset (g.Input.Position.PositionType.offset c.args.pos) c.retry_with_memo-2.result
