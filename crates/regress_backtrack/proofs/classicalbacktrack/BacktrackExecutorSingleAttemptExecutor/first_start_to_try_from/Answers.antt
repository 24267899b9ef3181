use Rattle.std.proofs.Common.{◌+◌, sym, ◌∙◌, subst, le_refl, arith}
use Rattle.std.specs.Prelude.{option_map}
use Rattle.regex_pattern_front.specs.AstToSpecTree.{tree_of}
use Rattle.regress_program.specs.OptimizedTreeUnlessNoOpt.{planned_tree}
use Rattle.regress_search.specs.AttemptsAndStarts.{NextStartSkipsNoMatch, NoMatchAt}
use Rattle.regress_backtrack.proofs.CandidateStartLemmas.{next-one}
use Rattle.regress_backtrack.proofs.PlannedTreeLemmas.{can-be, search-run, next-tree, end-context}
use Rattle.regress_backtrack.proofs.classicalbacktrack.BacktrackExecutorSingleAttemptExecutor.first_start_to_try_from.Goals as goal

pub next_candidate_start-requires-clause-executable : goal.next_candidate_start-requires-clause-executable
next_candidate_start-requires-clause-executable g c =
    let s = c.args.self.now.search in
    search-run s.program.wide s.same s.searched.well_formed s.searched.unicode s.searched.bytes (g.met.Input.InputIndexer.is_text s.searched.input)

pub returns-then-not-is_anchored-clause-next : goal.returns-then-not-is_anchored-clause-next
returns-then-not-is_anchored-clause-next g c =
    let s = c.args.self.now.search in
    let can = can-be s.same s.searched.well_formed s.searched.unicode s.searched.bytes in
    let offset = g.Input.Position.PositionType.offset in
    next-tree s.program.wide (tree_of s.program.regex) _ can.well_formed (offset c.args.pos) (option_map offset c.next_candidate_start.result) c.next_candidate_start.ensures

pub is_candidate_start-requires-clause-executable : goal.is_candidate_start-requires-clause-executable
is_candidate_start-requires-clause-executable g c =
    let s = c.args.self.now.search in
    search-run s.program.wide s.same s.searched.well_formed s.searched.unicode s.searched.bytes (g.met.Input.InputIndexer.is_text s.searched.input)

pub returns-then-is_candidate_start-clause-next : goal.returns-then-is_candidate_start-clause-next
returns-then-is_candidate_start-clause-next g c =
    (c.requires, le_refl (g.Input.Position.PositionType.offset c.args.pos), λ at on le less. absurd (omega (arith, le, less)))

pub returns-else-is_candidate_start-clause-next : goal.returns-else-is_candidate_start-clause-next
returns-else-is_candidate_start-clause-next g c =
    let s = c.args.self.now.search in
    let can = can-be s.same s.searched.well_formed s.searched.unicode s.searched.bytes in
    let offset = g.Input.Position.PositionType.offset in
    let text = g.Input.InputIndexer.text s.searched.input in
    let at = offset c.args.pos in
    let next = option_map offset c.position_after_failure.result in
    let run = planned_tree s.program.wide (tree_of s.program.regex) in
    let none = subst (NoMatchAt run text) c.pos_to_offset.ensures (c.is_candidate_start.ensures c.if-is_candidate_start.false) in
    next-one (tree_of s.program.regex) text at next
    (sym (end-context s.program.wide (tree_of s.program.regex) text can.well_formed at) ∙ none)
    (subst (λ re. NextStartSkipsNoMatch (tree_of re) text (at + 1) next) (sym s.same) c.position_after_failure.ensures.next)
