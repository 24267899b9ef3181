use Rattle.std.proofs.Common.{◌++◌, ◌∷◌, [], append-nil}
use Rattle.regex_pattern_front.specs.AstToSpecTree.{spec_node_of}
use Rattle.regex_pattern_front.specs.SubtreeListInvariants.{CombinesGroupsAndGoalsOfNodes}
use Rattle.regex_pattern_front.proofs.SubtreeListLemmas.{parts-made}
use Rattle.regex_parser.proofs.open_groups.PartialDisjunction.end_alternative.Goals as goal

pub returns-clause-parts : goal.returns-clause-parts
returns-clause-parts c =
    λ first end greatest parts.
    let made : CombinesGroupsAndGoalsOfNodes c.args.self.now.terms.items (spec_node_of c.cat.result) = rw c.replace-terms.ensures.value at c.cat.ensures.parts in
    rw (c.replace-terms.ensures.after, c.new.ensures.items, c.in_ok-push.ensures.items, append-nil (c.args.self.now.arms.items ++ c.cat.result ∷ []))
    (parts-made c.args.self.now.arms.items c.args.self.now.terms.items c.cat.result made first end greatest parts)
