use Rattle.std.proofs.Common.{arith}
use Rattle.regress_memo.proofs.BitsOfMemoKeys.{bit-bound}
use Rattle.regress_memo.proofs.analysis_result.MemoAnalysis.key_bit_index_at.Goals as goal

pub overflow_mul-result : goal.overflow_mul-result
overflow_mul-result c = omega (arith, c.requires.fits, bit-bound c.args.self.now c.requires.coded c.args.places _ c.requires.key c.insn_analysis_at-line.result c.insn_analysis_at-line.ensures)

pub overflow_mul-result-2 : goal.overflow_mul-result-2
overflow_mul-result-2 c = omega (arith, c.requires.fits, bit-bound c.args.self.now c.requires.coded c.args.places _ c.requires.key c.insn_analysis_at-line.result c.insn_analysis_at-line.ensures)

pub overflow_add-result : goal.overflow_add-result
overflow_add-result c = omega (arith, c.requires.fits, bit-bound c.args.self.now c.requires.coded c.args.places _ c.requires.key c.insn_analysis_at-line.result c.insn_analysis_at-line.ensures)

pub overflow_add-result-2 : goal.overflow_add-result-2
overflow_add-result-2 c = omega (arith, c.requires.fits, bit-bound c.args.self.now c.requires.coded c.args.places _ c.requires.key c.insn_analysis_at-line.result c.insn_analysis_at-line.ensures)

pub returns-clause-below : goal.returns-clause-below
returns-clause-below c =
    bit-bound c.args.self.now c.requires.coded c.args.places _ c.requires.key c.insn_analysis_at-line.result c.insn_analysis_at-line.ensures
