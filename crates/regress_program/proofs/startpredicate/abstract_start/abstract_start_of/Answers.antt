use Rattle.std.proofs.Common.{◌∙◌}
use Rattle.regress_program.proofs.JoinedStartsLemmas.{after-nothing}
use Rattle.regress_program.proofs.startpredicate.abstract_start.abstract_start_of.Goals as goal

pub returns-clause-beginning : goal.returns-clause-beginning
returns-clause-beginning c = c.in_ok-join_node.ensures.shared ∙ after-nothing _
