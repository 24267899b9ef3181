use Rattle.regress_program.proofs.RequiredPrefixLemmas.{row-there, said-class}
use Rattle.regress_program.proofs.required_prefix_analysis.prefix_contribution_of_class.Goals as goal

pub returns-in-Some : goal.returns-in-Some
returns-in-Some c =
    let s = c.in-Some in
    said-class c.args.plan.now c.args.ip c.args.number s.class.now c.first_keys_of_class.result
    (row-there _ c.deref.result.now c.deref.ensures.value c.args.number s.class.now s.ensures.lookup.3.0 s.ensures.lookup.1) c.if-class.true c.first_keys_of_class.ensures.keys
