use Rattle.regex_pattern_front.specs.AstToSpecTree.{spec_node_of}
use Rattle.regress_program.proofs.GroupIdCheckLemmas.{unseen_stand}
use Rattle.regress_program.proofs.emit.group_id_and_range_check.group_id_span_if_ids_valid.Goals as goal

pub returns-in-Some-clause-exact : goal.returns-in-Some-clause-exact
returns-in-Some-clause-exact c = unseen_stand (spec_node_of c.args.root.now) _ c.in-Some.ensures.exact
