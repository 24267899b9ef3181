use Rattle.std.proofs.Common.{◌≡◌, List, Some, slice_get, ap, ◌∙◌, sym}
use Rattle.std.proofs.lemmas.Option.{slice_get-get_or}
use Rattle.regress_program.specs.declared.ops.Op.{Op}
use Rattle.regress_program.proofs.required_prefix_analysis.prefix_step_at.Goals as goal

pub returns-in-Some : goal.returns-in-Some
returns-in-Some c = λ wide program ops.
    let op = c.in-Some.op.now in
    let there : slice_get c.args.plan.now.ops.items c.args.ip ≡ Some op =
    ap (λ (l : List Op). slice_get l c.args.ip) (sym c.deref.ensures.value)
    ∙ slice_get-get_or c.deref.result.now c.args.ip op c.in-Some.ensures.lookup.3.0 ∙ ap Some (sym c.in-Some.ensures.lookup.1) in
    c.prefix_step_of_op.ensures wide program ops there
