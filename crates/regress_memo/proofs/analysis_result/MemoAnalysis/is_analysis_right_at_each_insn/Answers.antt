use Rattle.std.proofs.Common.{below_more, arith}
use Rattle.regress_memo.proofs.analysis_result.MemoAnalysis.is_analysis_right_at_each_insn.Goals as goal

pub loop-ip-preserved : goal.loop-ip-preserved
loop-ip-preserved c = λ program has. below_more _ _ (c.loop-ip.invariant program has) (c.is_written_at.ensures c.if-not-is_written_at.false program has)

pub returns : goal.returns
returns c = λ _ program has ip less. c.loop-ip.invariant program has ip (omega arith)
