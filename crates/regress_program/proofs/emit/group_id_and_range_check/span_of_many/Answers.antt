use Rattle.std.proofs.Common.{◌∙◌}
use Rattle.regex_pattern_front.specs.AstToSpecTree.{spec_node_of}
use Rattle.regress_program.proofs.GroupIdCheckLemmas.{none_stand}
use Rattle.regress_program.proofs.emit.group_id_and_range_check.span_of_many.Goals as goal

pub returns-clause-exact : goal.returns-clause-exact
returns-clause-exact c = c.span_in.ensures.exact ∙ none_stand (spec_node_of c.args.root.now)
