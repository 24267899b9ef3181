-- The nodes that the parser joins are those of the grammar's partial disjunction.
use Rattle.std.proofs.Common.{◌≡◌, List, [], ◌∷◌, ◌++◌, map, refl, sym, ap, ◌∙◌, append_assoc}
use Rattle.std.proofs.lemmas.List.{map-append}
use Rattle.regex_meaning.specs.Tree as tree
use Rattle.regex_meaning.specs.ReadingStatesAndDigits as grammar
use Rattle.regex_parser.specs.ParseStack.{nest_alternatives}
use Rattle.regex_pattern_front.specs.declared.ir.Node.{Node}
use Rattle.regex_pattern_front.specs.declared.ir.Node.TheVariants.{Empty}
use Rattle.regex_pattern_front.specs.AstToSpecTree.{spec_node_of, spec_cat_of_children}
use Rattle.regex_parser.specs.PartialDisjunctionModel.{nest_all_alternatives}

pub cat_is : (nodes : List Node) → spec_cat_of_children nodes ≡ grammar.sequence_node (map spec_node_of nodes)
cat_is [] = refl
cat_is (n ∷ ns) = ap (λ t. tree.cat (spec_node_of n) t) (cat_is ns)

pub join-step : (ns : List tree.Node) (left last : tree.Node) → nest_all_alternatives (ns ++ left ∷ last ∷ []) ≡ nest_all_alternatives (ns ++ tree.alt left last ∷ [])
join-step [] left last = refl
join-step (n ∷ []) left last = refl
join-step (n ∷ m ∷ ns) left last = ap (λ t. tree.alt n t) (join-step (m ∷ ns) left last)

pub join-is : (ns : List tree.Node) (last : tree.Node) → nest_all_alternatives (ns ++ last ∷ []) ≡ nest_alternatives ns last
join-is [] last = refl
join-is (n ∷ []) last = refl
join-is (n ∷ m ∷ ns) last = ap (λ t. tree.alt n t) (join-is (m ∷ ns) last)

-- Joining the last alternative with the joined node keeps the nested disjunction.
pub join-popped : (items new : List Node) (left joined : Node) (n : tree.Node) → items ≡ new ++ left ∷ [] → n ≡ tree.alt (spec_node_of left) (spec_node_of joined)
    → nest_all_alternatives (map spec_node_of new ++ n ∷ []) ≡ nest_all_alternatives (map spec_node_of items ++ spec_node_of joined ∷ [])
join-popped items new left joined n e f =
    ap (λ x. nest_all_alternatives (map spec_node_of new ++ x ∷ [])) f ∙ sym (join-step (map spec_node_of new) (spec_node_of left) (spec_node_of joined))
    ∙ ap nest_all_alternatives (sym (ap (λ x. map spec_node_of x ++ spec_node_of joined ∷ []) e ∙ ap (λ x. x ++ spec_node_of joined ∷ []) (map-append spec_node_of new (left ∷ []))
    ∙ append_assoc (map spec_node_of new) (spec_node_of left ∷ []) (spec_node_of joined ∷ [])))

pub join-one_more : (items new : List Node) (last : Node) → items ≡ new ++ last ∷ [] → nest_all_alternatives (map spec_node_of new ++ spec_node_of last ∷ []) ≡ nest_all_alternatives (map spec_node_of items)
join-one_more items new last e = ap nest_all_alternatives (sym (ap (map spec_node_of) e ∙ map-append spec_node_of new (last ∷ [])))

pub spec_node_of-Empty : spec_node_of Empty ≡ tree.empty
unfolding spec_node_of
spec_node_of-Empty = refl
