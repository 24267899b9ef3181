use Rattle.std.proofs.Common.{sym, subst}
use Rattle.regress_search.specs.TreePlanAndText.{program_of}
use Rattle.regress_backtrack.specs.FailureMemo.{AreFailuresSoundIn, scheme_of_optional_memo, failures_of_optional_memo}
use Rattle.regress_backtrack.proofs.failures_in_memo_table.OptionBoxFailureMemo.key_at.Goals as goal

pub key_at-requires-clause-sound : goal.key_at-requires-clause-sound
key_at-requires-clause-sound g c =
    let w = g.W.SearchContext.searching c.args.context.now in
    subst (λ m. AreFailuresSoundIn (program_of w) w.text (g.M.FailureMemo.terms m) (g.M.FailureMemo.failed m)) (sym c.deref.ensures)
    (subst (λ o. AreFailuresSoundIn (program_of w) w.text (scheme_of_optional_memo (λ memo. g.M.FailureMemo.terms memo.value) o) (failures_of_optional_memo (λ memo. g.M.FailureMemo.failed memo.value) o))
    c.in-Some.is c.requires.sound)
