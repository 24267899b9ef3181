use Rattle.std.proofs.Common.{◌≡◌, take, sum_by}
use Rattle.regress_memo.specs.WorkBound.{insn_keys_cost_per_position}
use Rattle.regress_memo.proofs.analysis_result.MemoAnalysis.all_keys_cost_per_position.Given as goal

abbrev pub invariant-loop-line : goal.invariant-loop-line
invariant-loop-line l = l.all ≡ sum_by insn_keys_cost_per_position (take l.line-index l.lines)
