use Rattle.std.proofs.Common.{◌≡◌, ap, ◌∙◌, subst}
use Rattle.regress_memo.specs.MemoSearch.{Key}
use Rattle.regress_memo.specs.MemoContents.{has_failure}
use Rattle.regress_backtrack.proofs.ThreadKeyLemmas.{unknown}
use Rattle.regress_backtrack.proofs.failures_in_memo_table.MemoTableFailureMemo.is_known_to_fail.Goals as goal

pub returns-then-has : goal.returns-then-has
returns-then-has c = c.fails.ensures ∙ ap (λ (k : Key). has_failure c.args.self.now k) c.memo_key_of-key.ensures

pub returns-else-has : goal.returns-else-has
returns-else-has c =
    subst (λ (k : Key). c.has.result ≡ has_failure c.args.self.now k) c.memo_key_of-key.ensures
    (unknown c.args.self.now _ c.has.result c.if-has.false c.has.ensures.1)
