use Rattle.std.proofs.Common.{◌+◌, Some, None, arith, sym, ◌∙◌, subst}
use Rattle.std.specs.Prelude.{option_map}
use Rattle.regex_pattern_front.specs.AstToSpecTree.{tree_of}
use Rattle.regress_search.specs.AttemptsAndStarts.{NextStartSkipsNoMatch}
use Rattle.regress_search.proofs.SkippedStartLemmas.{skips-compose}
use Rattle.regress_backtrack.proofs.PlannedTreeLemmas.{can-be, search-run, end-context, next-tree, next-context}
use Rattle.regress_backtrack.proofs.classicalbacktrack.BacktrackExecutorSingleAttemptExecutor.next_start_after_failure.Goals as goal

pub next_candidate_past_leap-requires-clause-no_match_in_last_leap : goal.next_candidate_past_leap-requires-clause-no_match_in_last_leap
next_candidate_past_leap-requires-clause-no_match_in_last_leap g c = c.args.self.now.no_match_in_last_leap

pub next_candidate_past_leap-requires-clause-executable : goal.next_candidate_past_leap-requires-clause-executable
next_candidate_past_leap-requires-clause-executable g c =
    let s = c.args.self.now.search in
    search-run s.program.wide s.same s.searched.well_formed s.searched.unicode s.searched.bytes (g.met.Input.InputIndexer.is_text s.searched.input)

pub next_start_past_loop-requires : goal.next_start_past_loop-requires
next_start_past_loop-requires g c =
    let s = c.args.self.now.search in
    let can = can-be s.same s.searched.well_formed s.searched.unicode s.searched.bytes in
    record {
      opened = c.args.self.now.opened;
      tried_on = c.requires.at;
      at = c.in_ok-to.ensures.0;
      ahead = omega (arith, c.in_ok-next.ensures.next.1, c.in_ok-to.ensures.1);
      executable = search-run s.program.wide s.same s.searched.well_formed s.searched.unicode s.searched.bytes (g.met.Input.InputIndexer.is_text s.searched.input);
      no_match = end-context s.program.wide (tree_of s.program.regex) _ can.well_formed (g.Input.Position.PositionType.offset c.args.tried) ∙ c.requires.no_match;
    }

pub returns-in_err-to-clause-next : goal.returns-in_err-to-clause-next
returns-in_err-to-clause-next g c =
    let s = c.args.self.now.search in
    let can = can-be s.same s.searched.well_formed s.searched.unicode s.searched.bytes in
    let text = g.Input.InputIndexer.text s.searched.input in
    let offset = g.Input.Position.PositionType.offset in
    subst (λ o. NextStartSkipsNoMatch (tree_of s.program.regex) text (offset c.args.tried + 1) (option_map offset o)) (sym c.from_residual-in_err-to.ensures)
    (next-context s.program.wide text s.same can.well_formed (offset c.args.tried + 1) (offset c.in_ok-next.next) None c.in_ok-next.ensures.next c.in_err-to.ensures)

pub returns-then-may_rescan_leading_loop-clause-next : goal.returns-then-may_rescan_leading_loop-clause-next
returns-then-may_rescan_leading_loop-clause-next g c =
    let s = c.args.self.now.search in
    let can = can-be s.same s.searched.well_formed s.searched.unicode s.searched.bytes in
    let offset = g.Input.Position.PositionType.offset in
    let behind = offset c.args.tried + 1 in
    let to = offset c.in_ok-to.to in
    let last = option_map offset c.next_start_past_loop.result in
    let text = g.Input.InputIndexer.text s.searched.input in
    skips-compose (tree_of s.program.regex) text behind to last
    (next-context s.program.wide text s.same can.well_formed behind (offset c.in_ok-next.next) (Some to) c.in_ok-next.ensures.next c.in_ok-to.ensures)
    (next-tree s.program.wide (tree_of s.program.regex) _ can.well_formed to last c.next_start_past_loop.ensures)

pub returns-clause-next : goal.returns-clause-next
returns-clause-next g c =
    let s = c.args.self.now.search in
    let can = can-be s.same s.searched.well_formed s.searched.unicode s.searched.bytes in
    let offset = g.Input.Position.PositionType.offset in
    next-context s.program.wide (g.Input.InputIndexer.text s.searched.input) s.same can.well_formed (offset c.args.tried + 1) (offset c.in_ok-next.next) (Some (offset c.in_ok-to.to))
    c.in_ok-next.ensures.next c.in_ok-to.ensures
