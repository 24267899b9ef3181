use Rattle.std.proofs.Common.{arith}
use Rattle.regress_program.proofs.RequiredPrefixLemmas.{said-unit}
use Rattle.regress_program.proofs.required_prefix_analysis.prefix_contribution_of_unit.Goals as goal

pub returns : goal.returns
returns c = λ plan. said-unit plan c.args.ip c.args.c (omega (arith, c.if-c-ge128.false))
