use Rattle.regex_pattern_front.specs.AstToSpecTree.{spec_node_of}
use Rattle.regress_program.proofs.JoinedStartsLemmas.{leaf-after}
use Rattle.regress_program.proofs.startpredicate.abstract_start.join_leaf.Goals as goal

pub returns-clause-shared : goal.returns-clause-shared
returns-clause-shared c = leaf-after (spec_node_of c.args.node.now) _ _ _ c.requires c.in_ok-leaf_start.ensures.beginning c.join_starts.ensures
