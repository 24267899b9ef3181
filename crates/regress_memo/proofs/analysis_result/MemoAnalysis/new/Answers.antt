use Rattle.regress_memo.proofs.analysis_result.MemoAnalysis.new.Goals as goal

pub returns-then-is_analysis_of_program-clause-of : goal.returns-then-is_analysis_of_program-clause-of
returns-then-is_analysis_of_program-clause-of c = c.is_analysis_of_program.ensures.of c.if-is_analysis_of_program.true
