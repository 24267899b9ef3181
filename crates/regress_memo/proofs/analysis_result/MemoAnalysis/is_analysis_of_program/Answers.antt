use Rattle.std.proofs.Common.{arith}
use Rattle.regress_memo.proofs.CheckedAnalysisLemmas.{some-program, whole}
use Rattle.regress_memo.proofs.analysis_result.MemoAnalysis.is_analysis_of_program.Goals as goal

pub returns-then-len-insns : goal.returns-then-len-insns
returns-then-len-insns c = record {
  of = λ h program has. whole c.args.self.now program c.args.insns.now (c.starts_outside.ensures c.if-not-starts_outside.false) (omega arith) has (λ ip less. c.is_analysis_right_at_each_insn.ensures h program has ip less);
  coded = λ h.
      let some = some-program c.args.insns.now in
      (whole c.args.self.now some.0 c.args.insns.now (c.starts_outside.ensures c.if-not-starts_outside.false) (omega arith) some.1 (λ ip less. c.is_analysis_right_at_each_insn.ensures h some.0 some.1 ip less)).coded;
}
