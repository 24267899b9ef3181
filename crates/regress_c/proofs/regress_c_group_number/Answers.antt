use Rattle.std.proofs.Common.{◌≡◌, subst}
use Rattle.regress_c.specs.GroupNumbers.{group_number_reply_of_handle}
use Rattle.regress_c.proofs.regress_c_group_number.Goals as goal

pub returns-in_default-clause-reply : goal.returns-in_default-clause-reply
returns-in_default-clause-reply c = subst (λ h. c.reply.result ≡ group_number_reply_of_handle h c.args.name.now) c.in_default.ensures.taken c.reply.ensures
