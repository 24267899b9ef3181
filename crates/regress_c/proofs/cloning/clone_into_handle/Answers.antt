use Rattle.std.proofs.Common.{refl, subst, ◌∙◌, Ok, Err, Some}
use Rattle.regress_c.specs.Compiling.{IsCloneResultForHandle}
use Rattle.regress_c.specs.declared.refusal.Refusal.TheVariants.{Full}
use Rattle.regress_c.proofs.cloning.clone_into_handle.Goals as goal

pub returns-in-Some : goal.returns-in-Some
returns-in-Some c =
    let held = c.in-Some.ensures.taken in
    (Err Full, subst (λ h. IsCloneResultForHandle (Some c.args.re.now) h (Err Full)) held refl, c.code.ensures, c.put.ensures ∙ held)

pub returns-in-Ok : goal.returns-in-Ok
returns-in-Ok c =
    (Ok c.in-Ok.copy.value, subst (λ h. IsCloneResultForHandle (Some c.args.re.now) h (Ok c.in-Ok.copy.value)) c.in_default.ensures.taken c.in-Ok.ensures, refl, c.put-in-Ok.ensures)

pub returns-in-Err : goal.returns-in-Err
returns-in-Err c = (
  Err c.in-Err.refusal,
  subst (λ h. IsCloneResultForHandle (Some c.args.re.now) h (Err c.in-Err.refusal)) c.in_default.ensures.taken c.in-Err.ensures,
  c.code-in-Err.ensures,
  c.take.ensures.empty ∙ c.in_default.ensures.taken,
)
