use Rattle.std.proofs.Common.{◌≡◌, ◌∙◌, arith, length}
use Rattle.std.proofs.lemmas.List.{nil_from_length}
use Rattle.regex_meaning.specs.Tree.{alt}
use Rattle.regex_pattern_front.specs.AstToSpecTree.{spec_node_of}
use Rattle.regex_pattern_front.specs.declared.ir.Node.TheVariants.{Alt}
use Rattle.regex_parser.proofs.PartialDisjunctionLemmas.{join-popped, join-one_more, spec_node_of-Empty}
use Rattle.regex_pattern_front.proofs.GrouplessNodeLemmas.{part-Empty}
use Rattle.regex_pattern_front.proofs.SubtreeListLemmas.{parts-alt, parts-one}
use Rattle.regex_parser.proofs.open_groups.nest_alternatives.Goals as goal

pub returns-in_default-clause-parts : goal.returns-in_default-clause-parts
returns-in_default-clause-parts c =
    λ first end greatest parts.
    let none : length c.args.alternatives.items ≡ 0 = omega (arith, c.in_default.ensures.cases.0, c.args.alternatives.ok.0) in
    part-Empty greatest first end (rw (nil_from_length c.args.alternatives.items none) at parts)

joined : (c : goal.In_ok-new-2) → spec_node_of (Alt c.in_ok-new.field-0 c.in_ok-new-2.field-0) ≡ alt (spec_node_of c.in-Some-pop.left) (spec_node_of c.loop-left.joined)
unfolding spec_node_of
joined c = rw (c.in_ok-new.ensures.ok, c.in_ok-new-2.ensures.ok)

pub loop-left-init : goal.loop-left-init
loop-left-init c = record {
  parts = λ first end greatest parts. rw c.in-Some.ensures.items at parts;
  node = join-one_more _ _ _ c.in-Some.ensures.items;
}

pub loop-left-preserved : goal.loop-left-preserved
loop-left-preserved c = record {
  parts = λ first end greatest parts.
      parts-alt c.pop-in-loop-left.new.self.items c.in-Some-pop.left c.loop-left.joined _ (joined c) first end greatest
      (rw c.in-Some-pop.ensures.items at (c.loop-left.invariant.parts first end greatest parts));
  node = join-popped _ _ _ _ _ c.in-Some-pop.ensures.items (joined c) ∙ c.loop-left.invariant.node;
}

pub returns-clause-parts : goal.returns-clause-parts
returns-clause-parts c =
    λ first end greatest parts.
    let none : length c.loop-left.alternatives.items ≡ 0 = omega (arith, c.in_default-pop.ensures.cases.0, c.loop-left.alternatives.ok.0) in
    parts-one first end greatest c.loop-left.joined (rw (nil_from_length c.loop-left.alternatives.items none) at (c.loop-left.invariant.parts first end greatest parts))

pub returns-clause-node : goal.returns-clause-node
returns-clause-node c =
    let none : length c.loop-left.alternatives.items ≡ 0 = omega (arith, c.in_default-pop.ensures.cases.0, c.loop-left.alternatives.ok.0) in
    rw (nil_from_length c.loop-left.alternatives.items none) at c.loop-left.invariant.node

pub returns-in_default-clause-node : goal.returns-in_default-clause-node
returns-in_default-clause-node c =
    let none : length c.args.alternatives.items ≡ 0 = omega (arith, c.in_default.ensures.cases.0, c.args.alternatives.ok.0) in
    rw (nil_from_length c.args.alternatives.items none) spec_node_of-Empty
