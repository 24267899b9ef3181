use Rattle.std.proofs.Common.{◌+◌, Some, None, refl, arith, inl, inr}
use Rattle.regress_program.proofs.RequiredPrefixLemmas.{row-there, said-run}
use Rattle.regress_program.proofs.required_prefix_analysis.prefix_step_of_run.Goals as goal

pub returns-then-bounds : goal.returns-then-bounds
returns-then-bounds c =
    let s = c.in-Some-Some in
    said-run c.args.plan.now c.args.ip c.args.run s.class.now s.bounds.now c.first_keys_of_class.result (Some (c.args.ip + 2))
    (row-there _ c.deref.result.now c.deref.ensures.value c.args.run.class s.class.now s.ensures.lookup.3.0 s.ensures.lookup.1)
    (row-there _ c.deref-2.result.now c.deref-2.ensures.value c.args.run.bounds s.bounds.now s.ensures'.lookup.3.0 s.ensures'.lookup.1)
    c.if-class.true c.first_keys_of_class.ensures.keys (inl (refl, omega (arith, c.if-bounds.true)))

pub returns-else-bounds : goal.returns-else-bounds
returns-else-bounds c =
    let s = c.in-Some-Some in
    said-run c.args.plan.now c.args.ip c.args.run s.class.now s.bounds.now c.first_keys_of_class.result None
    (row-there _ c.deref.result.now c.deref.ensures.value c.args.run.class s.class.now s.ensures.lookup.3.0 s.ensures.lookup.1)
    (row-there _ c.deref-2.result.now c.deref-2.ensures.value c.args.run.bounds s.bounds.now s.ensures'.lookup.3.0 s.ensures'.lookup.1)
    c.if-class.true c.first_keys_of_class.ensures.keys (inr refl)
