use Rattle.regress_c.proofs.NextInWorkLemmas.{not-held}
use Rattle.regress_c.proofs.next_in_work.write_next_matches_in_work.Goals as goal

pub returns-in_default-clause-replies : goal.returns-in_default-clause-replies
returns-in_default-clause-replies c =
    not-held c.args.pattern.now.held c.args.search.now c.args.work.now c.args.spans.now c.reply.result c.in_default.ensures.taken c.reply.ensures
