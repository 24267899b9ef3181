use Rattle.std.proofs.Common.{◌≡◌, ◌∙◌, ◌++◌, ◌∷◌, [], List, map, Ok, Err, ap, append-nil}
use Rattle.regex_meaning.specs.Tree as tree
use Rattle.regex_parser.specs.ParseStack.{nest_alternatives}
use Rattle.regex_parser.specs.PartialDisjunctionModel.{nest_all_alternatives}
use Rattle.regex_parser.proofs.PartialDisjunctionLemmas.{join-is}
use Rattle.std.specs.Prelude.{Result, IfOk}
use Rattle.regex_pattern_front.specs.AstToSpecTree.{spec_node_of}
use Rattle.regex_pattern_front.specs.SubtreeListInvariants.{SoundSubtreesMakeSoundNode, KeepsSubtreeInvariant}
use Rattle.regex_pattern_front.specs.declared.ir.Node.{Node}
use Rattle.regex_parser.proofs.open_groups.PartialDisjunction.into_alternation_node.Goals as goal

joins : {E : Type 0} (r : Result Node E) (xs ys : List Node) → KeepsSubtreeInvariant xs ys → IfOk r (λ n. SoundSubtreesMakeSoundNode ys (spec_node_of n)) → IfOk r (λ n. SoundSubtreesMakeSoundNode xs (spec_node_of n))
joins (Ok n) xs ys keeps h = λ first end greatest parts. h first end greatest (keeps first end greatest parts)
joins (Err e) xs ys keeps h = tt

pub returns-clause-parts : goal.returns-clause-parts
returns-clause-parts c =
    joins c.nest_alternatives.result _ _ (rw (c.in_ok-end_alternative.ensures.ended, append-nil c.end_alternative.new.self.arms.items) at c.in_ok-end_alternative.ensures.parts) c.nest_alternatives.ensures.parts

joins-node : {E : Type 0} (r : Result Node E) (xs : List Node) (ns : List tree.Node) (last : tree.Node) → map spec_node_of xs ≡ ns ++ last ∷ []
    → IfOk r (λ n. spec_node_of n ≡ nest_all_alternatives (map spec_node_of xs)) → IfOk r (λ n. spec_node_of n ≡ nest_alternatives ns last)
joins-node (Ok n) xs ns last e h = h ∙ ap nest_all_alternatives e ∙ join-is ns last
joins-node (Err e) xs ns last f h = tt

pub returns-clause-node : goal.returns-clause-node
returns-clause-node c = joins-node c.nest_alternatives.result _ _ _ (ap (λ l. l.arms) c.in_ok-end_alternative.ensures.level) c.nest_alternatives.ensures.node
