use Rattle.std.proofs.Common.{◌≤◌, arith, refl, rules}
use Rattle.std.specs.Prelude.{option_map}
use Rattle.regex_pattern_front.specs.AstToSpecTree.{tree_of}
use Rattle.regress_backtrack.proofs.PlannedTreeLemmas.{can-be, next-tree, refused-skip, search-run}
use Rattle.regress_backtrack.proofs.work_limited.WorkPayingExecutorSingleAttemptExecutor.skip_to_candidate.Goals as goal

pub skip_by_prefilter-next-requires-clause-executable : goal.skip_by_prefilter-next-requires-clause-executable
skip_by_prefilter-next-requires-clause-executable g c =
    let s = c.args.self.now.executor.search in
    search-run s.program.wide s.same s.searched.well_formed s.searched.unicode s.searched.bytes (g.met.Input.InputIndexer.is_text s.searched.input)

pub returns-clause-next : goal.returns-clause-next
returns-clause-next g c =
    let s = c.args.self.now.executor.search in
    let can = can-be s.same s.searched.well_formed s.searched.unicode s.searched.bytes in
    let offset = g.Input.Position.PositionType.offset in
    next-tree s.program.wide (tree_of s.program.regex) _ can.well_formed (offset c.args.from) (option_map offset c.skip_by_prefilter-next.result.0) c.skip_by_prefilter-next.ensures.next

pub returns-in_err-pay_or_refuse_search-clause-effect : goal.returns-in_err-pay_or_refuse_search-clause-effect
returns-in_err-pay_or_refuse_search-clause-effect g c =
    let s = c.args.self.now.executor.search in
    let can = can-be s.same s.searched.well_formed s.searched.unicode s.searched.bytes in
    let offset = g.Input.Position.PositionType.offset in
    let tree = tree_of s.program.regex in
    let text = g.Input.InputIndexer.text s.searched.input in
    let next = option_map offset c.skip_by_prefilter-next.result.0 in
    record {
      counted = λ some. absurd (let no : ⊥ = cc some in no);
      refused = search rules;
      paid =
          refused-skip offset tree text (offset c.args.from) next c.skip_by_prefilter-next.result.1 _ _ c.from_residual.result c.in_err-pay_or_refuse_search.field-0.0 _ c.from_residual.ensures.1
          (next-tree s.program.wide tree text can.well_formed (offset c.args.from) next c.skip_by_prefilter-next.ensures.next) c.skip_by_prefilter-next.ensures.skipped c.in_err-pay_or_refuse_search.ensures.refused;
      left = search (rules, arith);
      same = record { tree = refl; text = refl; budget = refl; enough = refl; ahead = refl; failures = refl };
    }
