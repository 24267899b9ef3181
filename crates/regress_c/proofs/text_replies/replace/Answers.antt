use Rattle.std.proofs.Common.{refl, subst, Err}
use Rattle.regress_c.specs.Texts.{IsReplaceResultOfHandle}
use Rattle.regress_c.specs.declared.refusal.Refusal.TheVariants.{Empty}
use Rattle.regress_c.proofs.text_replies.replace.Goals as goal

pub returns-in_default-clause-replies : goal.returns-in_default-clause-replies
returns-in_default-clause-replies c =
    (Err Empty, subst (λ h. IsReplaceResultOfHandle h c.args.text.now c.args.replacement.now c.args.which (Err Empty)) c.in_default.ensures.taken refl, c.reply.ensures, refl)
