use Rattle.std.proofs.Common.{ap}
use Rattle.regress_c.specs.declared.next_matches.CallOutcome.{CallOutcome}
use Rattle.regress_c.proofs.NextCallLemmas.{not-held}
use Rattle.regress_c.proofs.next_matches.write_next_matches.Goals as goal

pub returns-in_default-clause-replies : goal.returns-in_default-clause-replies
returns-in_default-clause-replies c =
    not-held c.args.pattern.now.held c.args.search.now c.args.steps c.refused.result.left c.args.spans.now c.refused.result.reply c.in_default.ensures.taken
    (ap (λ (w : CallOutcome). w.reply) c.refused.ensures) (ap (λ (w : CallOutcome). w.left) c.refused.ensures)
