use Rattle.std.proofs.Common.{◌≡◌, max, take, fold}
use Rattle.regress_memo.specs.declared.analysis_result.InsnAnalysis.{InsnAnalysis}
use Rattle.regress_bounded.proofs.work_bound.most_memo_codes_per_insn.Given as goal

abbrev pub invariant-loop-line : goal.invariant-loop-line
invariant-loop-line l = l.most ≡ fold (λ most (x : InsnAnalysis). max most x.codes) 0 (take l.line-index l.lines)
