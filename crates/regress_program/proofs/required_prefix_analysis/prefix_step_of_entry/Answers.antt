use Rattle.std.proofs.Common.{arith}
use Rattle.regress_program.proofs.RequiredPrefixLemmas.{row-there, said-entry}
use Rattle.regress_program.proofs.required_prefix_analysis.prefix_step_of_entry.Goals as goal

pub returns-in-Some : goal.returns-in-Some
returns-in-Some c =
    let s = c.in-Some in
    said-entry c.args.plan.now c.args.ip c.args.number s.counted.now
    (row-there _ c.deref.result.now c.deref.ensures.value c.args.number s.counted.now s.ensures.lookup.3.0 s.ensures.lookup.1) (omega (arith, c.if-counted-gt0.true))
