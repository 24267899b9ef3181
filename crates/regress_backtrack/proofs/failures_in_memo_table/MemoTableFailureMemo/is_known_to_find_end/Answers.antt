use Rattle.std.proofs.Common.{◌≡◌, ap, ◌∙◌, subst}
use Rattle.regress_memo.specs.MemoSearch.{Key}
use Rattle.regress_memo.specs.MemoContents.{has_success}
use Rattle.regress_backtrack.proofs.ThreadKeyLemmas.{unknown-end}
use Rattle.regress_backtrack.proofs.failures_in_memo_table.MemoTableFailureMemo.is_known_to_find_end.Goals as goal

pub returns-then-has : goal.returns-then-has
returns-then-has c = c.is_known_to_reach_end.ensures ∙ ap (λ (k : Key). has_success c.args.self.now k) c.memo_key_of-key.ensures

pub returns-else-has : goal.returns-else-has
returns-else-has c =
    subst (λ (k : Key). c.has.result ≡ has_success c.args.self.now k) c.memo_key_of-key.ensures
    (unknown-end c.args.self.now _ c.has.result c.if-has.false c.has.ensures.1)
