use Rattle.std.proofs.Common.{◌≡◌, true, sym, subst}
use Rattle.std.specs.Prelude.{◌⊎◌}
use Rattle.regress_memo.specs.MemoSearch.{Key}
use Rattle.regress_memo.specs.MemoContents.{has_success}
use Rattle.regress_backtrack.proofs.ThreadKeyLemmas.{found-more}
use Rattle.regress_backtrack.proofs.failures_in_memo_table.MemoTableFailureMemo.record_key_found_end.Goals as goal

pub returns-then-has-clause-failed : goal.returns-then-has-clause-failed
returns-then-has-clause-failed c = λ k. c.record_success.ensures.failures k

pub returns-then-has-clause-succeeded : goal.returns-then-has-clause-succeeded
returns-then-has-clause-succeeded c = λ j known.
    subst (λ (k : Key). (has_success c.args.self.now j ≡ true) ⊎ (j ≡ k)) c.memo_key_of-key.ensures
    (found-more c.args.self.now _ c.record_success.new.self c.record_success.ensures j known)
