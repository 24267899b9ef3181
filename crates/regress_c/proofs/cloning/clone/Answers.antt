use Rattle.std.proofs.Common.{refl, subst, Err}
use Rattle.regress_c.specs.Compiling.{IsCloneResultForHandle}
use Rattle.regress_c.specs.declared.refusal.Refusal.TheVariants.{Empty}
use Rattle.regress_c.proofs.cloning.clone.Goals as goal

pub returns-in_default-clause-replies : goal.returns-in_default-clause-replies
returns-in_default-clause-replies c =
    (Err Empty, subst (λ h. IsCloneResultForHandle h c.args.into.now.held (Err Empty)) c.in_default.ensures.taken refl, c.code.ensures, refl)
