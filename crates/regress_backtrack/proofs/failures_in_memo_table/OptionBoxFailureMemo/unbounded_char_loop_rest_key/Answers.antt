use Rattle.std.proofs.Common.{sym, subst}
use Rattle.std.specs.Prelude.{IfSome}
use Rattle.regress_search.specs.TreePlanAndText.{program_of}
use Rattle.regress_backtrack.specs.FailureMemo.{AreFailuresSoundIn, record_key_as_spec, scheme_of_optional_memo, failures_of_optional_memo}
use Rattle.regress_backtrack.specs.MemoizedCharLoops.{DecidesLoopRest}
use Rattle.regress_backtrack.proofs.failures_in_memo_table.OptionBoxFailureMemo.unbounded_char_loop_rest_key.Goals as goal

pub unbounded_char_loop_rest_key-requires : goal.unbounded_char_loop_rest_key-requires
unbounded_char_loop_rest_key-requires g c =
    let w = g.W.SearchContext.searching c.args.context.now in
    record {
      sound =
          subst (λ m. AreFailuresSoundIn (program_of w) w.text (g.M.FailureMemo.terms m) (g.M.FailureMemo.failed m)) (sym c.deref.ensures)
          (subst (λ o. AreFailuresSoundIn (program_of w) w.text (scheme_of_optional_memo (λ memo. g.M.FailureMemo.terms memo.value) o) (failures_of_optional_memo (λ memo. g.M.FailureMemo.failed memo.value) o))
          c.in-Some.is c.requires.sound);
    }

pub returns-in-Some : goal.returns-in-Some
returns-in-Some g c =
    let w = g.W.SearchContext.searching c.args.context.now in
    subst (λ o. IfSome c.unbounded_char_loop_rest_key.result (λ k. DecidesLoopRest w (scheme_of_optional_memo (λ memo. g.M.FailureMemo.terms memo.value) o) c.args.run.forward c.args.run.here (record_key_as_spec k) c.args.memory.now)) (sym c.in-Some.is)
    (subst (λ m. IfSome c.unbounded_char_loop_rest_key.result (λ k. DecidesLoopRest w (g.M.FailureMemo.terms m) c.args.run.forward c.args.run.here (record_key_as_spec k) c.args.memory.now)) c.deref.ensures c.unbounded_char_loop_rest_key.ensures)
