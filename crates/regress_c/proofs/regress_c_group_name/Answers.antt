use Rattle.std.proofs.Common.{refl, subst, Err}
use Rattle.regress_c.specs.Texts.{IsGroupNameResultOfHandle}
use Rattle.regress_c.specs.declared.refusal.Refusal.TheVariants.{Empty}
use Rattle.regress_c.proofs.regress_c_group_name.Goals as goal

pub returns-in_default-clause-replies : goal.returns-in_default-clause-replies
returns-in_default-clause-replies c =
    (Err Empty, subst (λ h. IsGroupNameResultOfHandle h c.args.number (Err Empty)) c.in_default.ensures.taken refl, c.reply.ensures, refl)
