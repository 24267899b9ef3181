use Rattle.std.proofs.Common.{true≢false, ◌≡◌, ◌≤◌, ◌∙◌, [], refl, sym, arith, vec_len}
use Rattle.std.proofs.lemmas.Bool.{eqb-true, eq-eqb}
use Rattle.std.proofs.lemmas.List.{nil_from_length}
use Rattle.regex_meaning.specs.Tree.{goal as the_goal}
use Rattle.regex_pattern_front.specs.AstToSpecTree.{spec_node_of}
use Rattle.regex_pattern_front.specs.declared.ir.Node.TheVariants.{Goal}
use Rattle.regex_pattern_front.proofs.AstToSpecTreeLemmas.{spec_node_of-Cat}
use Rattle.regex_pattern_front.proofs.SubtreeListLemmas.{whole, whole-plain, whole-reads_none}
use Rattle.regex_parser.proofs.GroupIdInvariantLemmas.{parts-whole}
use Rattle.regex_parser.proofs.DialectRequirementLemmas.{readable}
use Rattle.regex_parser.proofs.ParserInvariantsLemmas.{past-groups, stands-end}
use Rattle.regex_parser.proofs.ParserContractsLemmas.{ends-open}
use Rattle.regex_parser.proofs.parse.Parser.finish.Goals as goal

spec_node_of-Goal : spec_node_of Goal ≡ the_goal
unfolding spec_node_of
spec_node_of-Goal = refl

pub returns-clause-well_formed : goal.returns-clause-well_formed
returns-clause-well_formed c =
    let groups = c.args.self.groups in
    let references = c.args.self.leaves.references in
    let within : references ≤ groups = omega (arith, c.if-self-from.false, c.from.ensures) in
    let parts = parts-whole c.args.self c.requires (eqb-true _ _ (sym c.is_empty.ensures ∙ c.if-not-is_empty.false)) in
    rw (spec_node_of-Cat c.in_ok-vec.field-0, c.in_ok-vec.ensures.items, spec_node_of-Goal)
    (whole groups references (spec_node_of c.in_ok-node.node) within (c.in_ok-node.ensures.parts 0 groups references parts))

pub returns-clause-characters : goal.returns-clause-characters
returns-clause-characters c =
    let parts = parts-whole c.args.self c.requires (eqb-true _ _ (sym c.is_empty.ensures ∙ c.if-not-is_empty.false)) in
    rw (spec_node_of-Cat c.in_ok-vec.field-0, c.in_ok-vec.ensures.items, spec_node_of-Goal)
    (whole-reads_none c.args.self.leaves.references (spec_node_of c.in_ok-node.node) (c.in_ok-node.ensures.parts 0 c.args.self.groups c.args.self.leaves.references parts).sound)

pub returns-clause-plain : goal.returns-clause-plain
returns-clause-plain c =
    let parts = parts-whole c.args.self c.requires (eqb-true _ _ (sym c.is_empty.ensures ∙ c.if-not-is_empty.false)) in
    rw (spec_node_of-Cat c.in_ok-vec.field-0, c.in_ok-vec.ensures.items, spec_node_of-Goal)
    (whole-plain c.args.self.leaves.references (spec_node_of c.in_ok-node.node) (c.in_ok-node.ensures.parts 0 c.args.self.groups c.args.self.leaves.references parts).sound)

pub returns-then-not-is_empty-clause-tree : goal.returns-then-not-is_empty-clause-tree
returns-then-not-is_empty-clause-tree c = λ pattern names h refused.
    let some : vec_len c.args.self.around ≡ 0 → ⊥ = λ e. true≢false (sym (eq-eqb _ _ e) ∙ sym c.is_empty.ensures ∙ c.if-not-is_empty.true) in
    ends-open (readable c.args.self.leaves.syntax) c.args.self.around.items (omega (arith, some, c.args.self.around.ok.0)) h.stands

pub returns-then-self-from-clause-tree : goal.returns-then-self-from-clause-tree
returns-then-self-from-clause-tree c = λ pattern names h refused.
    past-groups (readable c.args.self.leaves.syntax) h.stands (omega (arith, c.if-self-from.true, c.from.ensures))

pub returns-clause-tree : goal.returns-clause-tree
returns-clause-tree c = λ pattern names h.
    let none : vec_len c.args.self.around ≡ 0 = eqb-true _ _ (sym c.is_empty.ensures ∙ c.if-not-is_empty.false) in
    let closed : c.args.self.around.items ≡ [] = nil_from_length c.args.self.around.items (omega (arith, none, c.args.self.around.ok.0)) in
    rw (spec_node_of-Cat c.in_ok-vec.field-0, c.in_ok-vec.ensures.items, spec_node_of-Goal, c.in_ok-node.ensures.node)
    (stands-end (readable c.args.self.leaves.syntax) (rw closed at h.stands) (omega (arith, c.if-self-from.false, c.from.ensures)))
