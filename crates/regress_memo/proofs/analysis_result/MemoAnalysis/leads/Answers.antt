use Rattle.regress_memo.proofs.LoopFactFlowLemmas.{lines-lead}
use Rattle.regress_memo.proofs.analysis_result.MemoAnalysis.leads.Goals as goal

pub returns-then-is_onward : goal.returns-then-is_onward
returns-then-is_onward c = λ h.
    lines-lead c.args.self.now c.args.edge.reads c.args.edge.entered c.args.edge.ip c.args.edge.to (c.all_loop_facts_flow.ensures h)
    c.insn_analysis_at-here.result c.insn_analysis_at-next.result c.insn_analysis_at-here.ensures c.insn_analysis_at-next.ensures (c.is_onward.ensures.from c.if-is_onward.true)
    (c.is_onward.ensures.forward c.if-is_onward.true) (c.is_onward.ensures.silent c.if-is_onward.true)
