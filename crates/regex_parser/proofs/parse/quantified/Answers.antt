use Rattle.regex_pattern_front.specs.AstToSpecTree.{spec_node_of, spec_quantifier_of}
use Rattle.regex_pattern_front.proofs.SubtreeListLemmas.{part-loop, order-from}
use Rattle.std.proofs.Common.{◌≡◌, ◌∙◌, true≢false, refl, sym}
use Rattle.regex_meaning.specs.Tree.{loop}
use Rattle.regex_pattern_front.specs.declared.ir.Node.TheVariants.{Loop}
use Rattle.regex_parser.proofs.ParserContractsLemmas.{stands-alone, stands-once, is-loop}
use Rattle.regex_parser.proofs.parse.quantified.Goals as goal

pub returns-in_ok-new-in-Some-clause-part : goal.returns-in_ok-new-in-Some-clause-part
unfolding spec_node_of
returns-in_ok-new-in-Some-clause-part c =
    λ greatest p.
    let q = c.in-Some.quant in
    part-loop c.args.groups.start c.args.groups.end greatest (spec_quantifier_of q) (spec_node_of c.in_ok-new-in-Some.field-0.value)
    (order-from q.min q.max q.greedy (c.in_ok-read_quantifier.ensures.ordered q c.in-Some.is))
    (rw c.in_ok-new-in-Some.ensures.ok p)

pub returns-else-quantifier_begins_here-clause-text : goal.returns-else-quantifier_begins_here-clause-text
returns-else-quantifier_begins_here-clause-text c =
    stands-alone c.args.is_atom c.args.leaves.now.reader.rest.now c.args.groups.start c.args.groups.end c.args.term c.if-not-is_atom.true
    (λ k. true≢false (sym (c.quantifier_begins_here.ensures.1 k) ∙ c.if-quantifier_begins_here.false))

pub returns-in-None-clause-text : goal.returns-in-None-clause-text
returns-in-None-clause-text c =
    stands-once c.args.is_atom c.args.leaves.now.reader.rest.now c.read_quantifier.new.self.rest.now c.args.groups.start c.args.groups.end c.args.term
    c.in_ok-read_quantifier.field-0 c.if-not-is_atom.false c.in-None.is c.in_ok-read_quantifier.ensures.text

loop_is : (c : goal.In_ok-new-in-Some) → spec_node_of (Loop c.in_ok-new-in-Some.field-0 c.in-Some.quant c.args.groups) ≡ loop (spec_quantifier_of c.in-Some.quant) c.args.groups.start c.args.groups.end (spec_node_of c.args.term)
unfolding spec_node_of
loop_is c = rw c.in_ok-new-in-Some.ensures.ok refl

pub returns-in_ok-new-in-Some-clause-text : goal.returns-in_ok-new-in-Some-clause-text
returns-in_ok-new-in-Some-clause-text c =
    is-loop c.args.is_atom c.args.leaves.now.reader.rest.now c.read_quantifier.new.self.rest.now c.args.groups.start c.args.groups.end (spec_node_of c.args.term)
    (Loop c.in_ok-new-in-Some.field-0 c.in-Some.quant c.args.groups) c.in_ok-read_quantifier.field-0 c.in-Some.quant c.if-not-is_atom.false c.in-Some.is c.in_ok-read_quantifier.ensures.text (loop_is c)
