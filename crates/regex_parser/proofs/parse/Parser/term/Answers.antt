use Rattle.std.proofs.Common.{◌≤◌}
use Rattle.regex_pattern_front.specs.AstToSpecTree.{spec_node_of}
use Rattle.regex_parser.specs.GroupIdInvariant.{nodes_read_in_disjunction}
use Rattle.regex_pattern_front.proofs.SubtreeListLemmas.{part-leaf, parts-push}
use Rattle.regex_parser.proofs.GroupIdInvariantLemmas.{open-more}
use Rattle.regex_parser.proofs.DialectRequirementLemmas.{readable}
use Rattle.regex_parser.proofs.ParserInvariantsLemmas.{no-term}
use Rattle.regex_parser.proofs.ParserContractsLemmas.{err-reads, not-ended, no-parenthesis, term-refused, term-repeated, reads-on, same-then}
use Rattle.regex_parser.proofs.parse.Parser.term.Goals as goal

pub returns-clause-reading : goal.returns-clause-reading
returns-clause-reading c =
    let r = c.requires in
    let old = c.args.self.now.leaves.references in
    let new = c.read_term_without_group.new.self.references in
    let groups = c.args.self.now.groups in
    let more : old ≤ new = c.in_ok-node.ensures.references in
    rw c.in_ok-node-2.ensures.references
    (record {
      inner = r.inner;
      around = open-more old new 0 r.inner c.args.self.now.around.items more r.around;
      level = rw c.in_ok-push.ensures.parts
          (parts-push r.inner groups groups old new (nodes_read_in_disjunction c.args.self.now.level) c.in_ok-node-2.node more r.level
          (c.in_ok-node-2.ensures.part new (part-leaf groups new (spec_node_of c.in_ok-node.field-0.node) c.in_ok-node.ensures.leaf)));
    })

pub returns-in_err-node-clause-text : goal.returns-in_err-node-clause-text
returns-in_err-node-clause-text c = λ apart.
    err-reads _ c.args.self.now _ c.from_residual.result _ c.from_residual.ensures.1 (λ x h. h)
    (λ r pattern names h. no-term (readable c.args.self.now.leaves.syntax) h.stands (not-ended _ _ _ apart)
    (c.in_err-node.ensures.text apart names h.known r _ _))

pub returns-in_err-node-2-clause-text : goal.returns-in_err-node-2-clause-text
returns-in_err-node-2-clause-text c = λ apart.
    err-reads _ c.args.self.now _ c.from_residual-in_err-node-2.result _ c.from_residual-in_err-node-2.ensures.1 (λ x h. h)
    (λ r pattern names h. term-refused (readable c.args.self.now.leaves.syntax) h.stands c.read_term_without_group.new.self.references c.read_term_without_group.new.self.reader.rest.now _
    c.in_ok-node.ensures.references (not-ended _ _ _ apart) c.in_ok-node.field-0.is_atom (no-parenthesis _ _ _ apart)
    (c.in_ok-node.ensures.text apart names h.known) _ _ _ _ r c.in_err-node-2.ensures.text)

pub returns-clause-text : goal.returns-clause-text
returns-clause-text c = λ apart pattern names h.
    reads-on c.args.self.now _ (same-then c.args.self.now.leaves c.read_term_without_group.new.self c.quantified.new.leaves c.in_ok-node.ensures.same c.in_ok-node-2.ensures.same) h h.few
    (rw (c.in_ok-node-2.ensures.references, c.in_ok-push.ensures.level)
    (term-repeated (readable c.args.self.now.leaves.syntax) h.stands c.read_term_without_group.new.self.references c.read_term_without_group.new.self.reader.rest.now _
    c.in_ok-node.ensures.references (not-ended _ _ _ apart) c.in_ok-node.field-0.is_atom
    (c.in_ok-node.ensures.text apart names h.known) c.in_ok-node-2.node _ c.in_ok-node-2.ensures.text))
