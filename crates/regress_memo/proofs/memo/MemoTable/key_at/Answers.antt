use Rattle.std.proofs.Common.{◌≡◌, ◌<◌, Some, subst, ap, ◌∙◌, arith}
use Rattle.std.specs.Arc.{arc_value}
use Rattle.std.proofs.lemmas.Bool.{not-false}
use Rattle.regress_memo.specs.LoopDataKeyCodes.{code_of}
use Rattle.regress_memo.specs.AnalysisAsPotentials.{insn_analysis_of, key_code_questions_of}
use Rattle.regress_memo.specs.CheckedAnalysis.{IsRecordableMemoKey}
use Rattle.regress_memo.specs.MemoContractView.{MemoView}
use Rattle.regress_memo.specs.MemoContents.{memo_key_at as key_of_state}
use Rattle.regress_memo.proofs.MemoContentsLemmas.{one-code, key-is, code-bit, told-bit}
use Rattle.regress_memo.proofs.memo.MemoTable.key_at.Goals as goal

pub returns-then-line-eq1-clause-key : goal.returns-then-line-eq1-clause-key
returns-then-line-eq1-clause-key g c s here there loops =
    let t = arc_value c.self.inside.memo_analysis in
    let x = c.insn_analysis_at-line.result in
    let is = c.insn_analysis_at-line.ensures ∙ ap (λ t. insn_analysis_of t c.args.ip) c.deref.ensures in
    let code = one-code t c.args.ip x is (not-false x.records c.if-not-line.false) c.self.invariant.coded c.if-line-eq1.true s here in
    subst (λ (m : MemoView). Some (record { ip = c.args.ip; at = c.args.at; code = 0 }) ≡ key_of_state m.memo_analysis s) c.self.view_is
    (key-is t c.args.ip x is (not-false x.records c.if-not-line.false) s c.args.at 0 here there code)

pub returns-then-line-eq1-clause-bit : goal.returns-then-line-eq1-clause-bit
returns-then-line-eq1-clause-bit g c =
    let t = arc_value c.self.inside.memo_analysis in
    let x = c.insn_analysis_at-line.result in
    let is = c.insn_analysis_at-line.ensures ∙ ap (λ t. insn_analysis_of t c.args.ip) c.deref.ensures in
    let one : x.codes ≡ 1 = c.if-line-eq1.true in
    let few : 0 < x.codes = omega (arith, one) in
    subst (λ (m : MemoView). c.args.at < m.places → IsRecordableMemoKey m.memo_analysis m.places (record { ip = c.args.ip; at = c.args.at; code = 0 })) c.self.view_is
    (code-bit t c.args.ip x is (not-false x.records c.if-not-line.false) c.self.inside.places c.args.at 0 few)

pub returns-else-line-eq1-clause-bit : goal.returns-else-line-eq1-clause-bit
returns-else-line-eq1-clause-bit g c =
    let t = arc_value c.self.inside.memo_analysis in
    let x = c.insn_analysis_at-line.result in
    let is = c.insn_analysis_at-line.ensures ∙ ap (λ t. insn_analysis_of t c.args.ip) c.deref.ensures in
    let code = c.code_at-code.result in
    subst (λ (m : MemoView). c.args.at < m.places → IsRecordableMemoKey m.memo_analysis m.places (record { ip = c.args.ip; at = c.args.at; code = code })) c.self.view_is
    (told-bit t c.args.ip x is (not-false x.records c.if-not-line.false) c.self.invariant.coded c.self.inside.places c.args.at code
    (g.R.IterationStatesOfAllLoops.rounds c.args.rounds.now)
    (λ s at loops. c.code_at-code.ensures s at loops ∙ ap (λ t. code_of (key_code_questions_of t c.args.ip) s) c.deref-else-line-eq1.ensures))
