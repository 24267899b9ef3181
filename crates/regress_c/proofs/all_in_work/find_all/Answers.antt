use Rattle.regress_c.proofs.AllInWorkLemmas.{not-held}
use Rattle.regress_c.proofs.all_in_work.find_all.Goals as goal

pub returns-in_default-clause-replies : goal.returns-in_default-clause-replies
returns-in_default-clause-replies c =
    not-held c.args.pattern.now.held c.args.bytes.now c.args.start c.args.work.now c.args.spans.now c.reply.result c.in_default.ensures.taken c.reply.ensures
