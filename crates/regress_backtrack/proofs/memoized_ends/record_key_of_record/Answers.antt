use Rattle.std.proofs.Common.{sym, subst}
use Rattle.regress_backtrack.specs.FailureMemo.{KeyFindsEndIf}
use Rattle.regress_backtrack.specs.MemoizedExecution.{memo_is_on}
use Rattle.regress_backtrack.proofs.PushedRecordLemmas.{sound-same}
use Rattle.regress_backtrack.proofs.memoized_ends.record_key_of_record.Goals as goal

pub record_key_finds_end-requires-clause-finds : goal.record_key_finds_end-requires-clause-finds
record_key_finds_end-requires-clause-finds g c =
    subst (KeyFindsEndIf (memo_is_on g.S.StepCounter g.M.FailureMemo) (g.W.SearchContext.searching c.args.context.now) (g.M.FailureMemo.terms c.args.progress.now.memo)) (sym c.key_of_record.ensures)
    (c.requires.finds (c.is_record.ensures.is c.if-is_record.true))

pub returns-else-is_record-clause-sound : goal.returns-else-is_record-clause-sound
returns-else-is_record-clause-sound g c = sound-same c.requires.sound
