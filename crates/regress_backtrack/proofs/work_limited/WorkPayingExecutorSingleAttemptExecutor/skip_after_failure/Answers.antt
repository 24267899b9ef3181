use Rattle.std.proofs.Common.{◌∙◌, arith, refl, rules}
use Rattle.std.specs.Prelude.{option_map}
use Rattle.regex_pattern_front.specs.AstToSpecTree.{tree_of}
use Rattle.regress_backtrack.proofs.PlannedTreeLemmas.{can-be, end-context, next-tree, refused-skip, search-run}
use Rattle.regress_backtrack.proofs.work_limited.WorkPayingExecutorSingleAttemptExecutor.skip_after_failure.Goals as goal

pub skip_past_loop-start-requires : goal.skip_past_loop-start-requires
skip_past_loop-start-requires g c =
    let s = c.args.self.now.executor.search in
    let can = can-be s.same s.searched.well_formed s.searched.unicode s.searched.bytes in
    record {
      opened = c.args.self.now.executor.opened;
      tried_on = c.requires.at;
      at = c.requires.next.0;
      ahead = omega (arith, c.requires.next.1);
      executable = search-run s.program.wide s.same s.searched.well_formed s.searched.unicode s.searched.bytes (g.met.Input.InputIndexer.is_text s.searched.input);
      no_match = end-context s.program.wide (tree_of s.program.regex) _ can.well_formed (g.Input.Position.PositionType.offset c.args.tried) ∙ c.requires.no_match;
    }

pub returns-clause-next : goal.returns-clause-next
returns-clause-next g c =
    let s = c.args.self.now.executor.search in
    let can = can-be s.same s.searched.well_formed s.searched.unicode s.searched.bytes in
    next-tree s.program.wide (tree_of s.program.regex) _ can.well_formed (g.Input.Position.PositionType.offset c.args.next) (option_map g.Input.Position.PositionType.offset c.skip_past_loop-start.result.0) c.skip_past_loop-start.ensures.next

pub returns-in_err-pay_or_refuse_search-clause-effect : goal.returns-in_err-pay_or_refuse_search-clause-effect
returns-in_err-pay_or_refuse_search-clause-effect g c =
    let s = c.args.self.now.executor.search in
    let can = can-be s.same s.searched.well_formed s.searched.unicode s.searched.bytes in
    let offset = g.Input.Position.PositionType.offset in
    let tree = tree_of s.program.regex in
    let text = g.Input.InputIndexer.text s.searched.input in
    let next = option_map offset c.skip_past_loop-start.result.0 in
    record {
      counted = λ some. absurd (let no : ⊥ = cc some in no);
      refused = search rules;
      paid =
          refused-skip offset tree text (offset c.args.next) next c.skip_past_loop-start.result.1 _ _ c.from_residual.result c.in_err-pay_or_refuse_search.field-0.0 _ c.from_residual.ensures.1
          (next-tree s.program.wide tree text can.well_formed (offset c.args.next) next c.skip_past_loop-start.ensures.next) c.skip_past_loop-start.ensures.skipped c.in_err-pay_or_refuse_search.ensures.refused;
      left = search (rules, arith);
      same = record { tree = refl; text = refl; budget = refl; enough = refl; ahead = refl; failures = refl };
    }
