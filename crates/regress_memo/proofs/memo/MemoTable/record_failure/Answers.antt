use Rattle.std.proofs.Common.{sym, subst, ap, ◌∙◌}
use Rattle.std.specs.Arc.{arc_value}
use Rattle.regress_memo.specs.AnalysisAsPotentials.{memo_bit_index_of_key}
use Rattle.regress_memo.specs.CheckedAnalysis.{IsRecordableMemoKey}
use Rattle.regress_memo.specs.MemoContractView.{MemoView}
use Rattle.regress_memo.specs.MemoContents.{memo_key_as_spec, RecordsFailure}
use Rattle.regress_memo.proofs.MemoContentsLemmas.{known_by, notes-failure}
use Rattle.regress_memo.proofs.memo.MemoTable.record_failure.Goals as goal

pub returns : goal.returns
returns c =
    let k = memo_key_as_spec c.args.key in
    let has = subst (λ (m : MemoView). IsRecordableMemoKey m.memo_analysis m.places k) (sym c.self.view_is) c.requires in
    let m = c.self.inside in
    let old = known_by (arc_value m.memo_analysis) m.places m.records_successes m.failures.words.items m.ends.words.items in
    let new = c.set.new.self.words.items in
    let bit = c.memo_bit_index_of_key-bit.ensures.bit ∙ ap (λ t. memo_bit_index_of_key t m.places k.ip k.at k.code) c.deref.ensures in
    subst (λ (m : MemoView). RecordsFailure k m (record old { failures = new })) c.self.view_is
    (notes-failure old c.self.invariant.coded k has c.memo_bit_index_of_key-bit.result bit new c.set.ensures.set)
