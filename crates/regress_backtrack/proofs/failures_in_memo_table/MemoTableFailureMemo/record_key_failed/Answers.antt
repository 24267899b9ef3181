use Rattle.std.proofs.Common.{◌≡◌, true, subst, sym}
use Rattle.std.specs.Prelude.{◌⊎◌, IsTrue}
use Rattle.regress_memo.specs.MemoSearch.{Key}
use Rattle.regress_memo.specs.MemoContents.{has_failure}
use Rattle.regress_memo.specs.CheckedAnalysis.{IsRecordableMemoKey}
use Rattle.regress_backtrack.proofs.ThreadKeyLemmas.{noted-itself, noted-kept, noted-more}
use Rattle.regress_backtrack.proofs.failures_in_memo_table.MemoTableFailureMemo.record_key_failed.Goals as goal

pub returns-then-has-clause-failed : goal.returns-then-has-clause-failed
returns-then-has-clause-failed c = λ j known.
    subst (λ (k : Key). (has_failure c.args.self.now j ≡ true) ⊎ (j ≡ k)) c.memo_key_of-key.ensures
    (noted-more c.args.self.now _ c.record_failure.new.self c.record_failure.ensures j known)

pub returns-then-has-clause-recorded : goal.returns-then-has-clause-recorded
returns-then-has-clause-recorded c = λ has.
    subst (λ (k : Key). has_failure c.record_failure.new.self k ≡ true) c.memo_key_of-key.ensures
    (noted-itself c.args.self.now _ c.record_failure.new.self c.record_failure.ensures)

pub returns-then-has-clause-kept : goal.returns-then-has-clause-kept
returns-then-has-clause-kept c = λ j known. noted-kept c.args.self.now _ c.record_failure.new.self c.record_failure.ensures j known

pub returns-else-has-clause-recorded : goal.returns-else-has-clause-recorded
returns-else-has-clause-recorded c = λ has.
    let m = c.args.self.now in
    let there : IsTrue c.has.result = c.has.ensures.1 (subst (λ (k : Key). IsRecordableMemoKey m.memo_analysis m.places k) (sym c.memo_key_of-key.ensures) has) in
    absurd (cc (there, c.if-has.false))

pub returns-then-has-clause-succeeded : goal.returns-then-has-clause-succeeded
returns-then-has-clause-succeeded c = λ k. c.record_failure.ensures.ends k
