use Rattle.std.proofs.Common.{◌∙◌}
use Rattle.regex_meaning.specs.Tree.{group_ids}
use Rattle.regex_pattern_front.specs.AstToSpecTree.{spec_node_of}
use Rattle.regress_program.proofs.GroupIdCheckLemmas.{joined-none}
use Rattle.regress_program.proofs.emit.group_id_and_range_check.span_in.Goals as goal

pub returns-then-check_ids-clause-span : goal.returns-then-check_ids-clause-span
returns-then-check_ids-clause-span c = c.check_ids.ensures.span c.if-check_ids.true ∙ joined-none (group_ids (spec_node_of c.args.root.now))
