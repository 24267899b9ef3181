use Rattle.std.proofs.Common.{arith, ◌≡◌, [], refl}
use Rattle.regex_pattern_front.specs.AstToSpecTree.{spec_node_of, group_name_bytes, spec_flags_of}
use Rattle.regex_pattern_front.specs.SubtreeListInvariants.{IsSoundSubtreeWithGroupIds}
use Rattle.regex_parser.specs.GroupIdInvariant.{nodes_read_in_disjunction}
use Rattle.regex_pattern_front.proofs.SubtreeListLemmas.{parts-push}
use Rattle.regex_parser.proofs.GroupIdInvariantLemmas.{IsLast, open-pop}
use Rattle.std.proofs.lemmas.List.{nil_from_length}
use Rattle.regex_parser.proofs.DialectRequirementLemmas.{readable}
use Rattle.regex_parser.proofs.ParserInvariantsLemmas.{none-opened}
use Rattle.regex_parser.proofs.ParserContractsLemmas.{err-reads, at-last, leave-refused, left, reads-on}
use Rattle.regex_parser.proofs.parse.Parser.close_open_group.Goals as goal

pub returns-clause-reading : goal.returns-clause-reading
returns-clause-reading c =
    let r = c.requires in
    let o = c.in-Some.field-0 in
    let groups = c.args.self.now.groups in
    let references = c.args.self.now.leaves.references in
    let last : IsLast references 0 r.inner c.pop.new.self.items o =
    open-pop references 0 r.inner c.pop.new.self.items o (rw c.in-Some.ensures.items at r.around) in
    let contents : IsSoundSubtreeWithGroupIds r.inner groups references (spec_node_of c.in_ok-contents.contents) =
    (rw c.replace.ensures.value at c.in_ok-contents.ensures.parts) r.inner groups references r.level in
    let node : IsSoundSubtreeWithGroupIds o.start groups references (spec_node_of c.in_ok-node.node) = c.in_ok-node.ensures.part references (rw last.within contents) in
    rw c.in_ok-node-2.ensures.references
    (record {
      inner = last.middle;
      around = last.around;
      level = rw (c.in_ok-push.ensures.parts, c.replace.ensures.after)
          (parts-push last.middle o.start groups references references (nodes_read_in_disjunction o.outer) c.in_ok-node-2.node (omega arith) last.level
          (c.in_ok-node-2.ensures.part references node));
    })

pub returns-in_default-clause-text : goal.returns-in_default-clause-text
returns-in_default-clause-text c = λ r pattern names h.
    let none : c.args.self.now.around.items ≡ [] =
    nil_from_length c.args.self.now.around.items (omega (arith, c.in_default.ensures.cases.0, c.args.self.now.around.ok.0)) in
    none-opened (readable c.args.self.now.leaves.syntax) (rw none at h.stands)

pub returns-in_err-node-2-clause-text : goal.returns-in_err-node-2-clause-text
returns-in_err-node-2-clause-text c =
    let o = c.in-Some.field-0 in
    let flags = spec_flags_of c.args.self.now.leaves.flags in
    err-reads _ c.args.self.now _ c.from_residual-in_err-node-2.result _ c.from_residual-in_err-node-2.ensures.1 (λ x h. h)
    (λ r pattern names h. leave-refused (readable c.args.self.now.leaves.syntax) o.opening (group_name_bytes o.name) o.start (at-last c.args.self.now.around.items c.pop.new.self.items o c.in-Some.ensures.items h.stands)
    c.is_atom-is_atom.result (c.is_atom-is_atom.ensures flags refl) _ _ _ _ _ r c.in_err-node-2.ensures.text)

pub returns-clause-text : goal.returns-clause-text
returns-clause-text c = λ pattern names h.
    let o = c.in-Some.field-0 in
    let flags = spec_flags_of c.args.self.now.leaves.flags in
    reads-on c.args.self.now _ c.in_ok-node-2.ensures.same h h.few
    (rw (c.in_ok-node-2.ensures.references, c.in_ok-push.ensures.level, c.replace.ensures.after)
    (left (readable c.args.self.now.leaves.syntax) o.opening (group_name_bytes o.name) o.start (at-last c.args.self.now.around.items c.pop.new.self.items o c.in-Some.ensures.items h.stands)
    c.is_atom-is_atom.result (c.is_atom-is_atom.ensures flags refl) c.in_ok-node-2.node _ (rw (c.in_ok-node.ensures.node, c.in_ok-contents.ensures.node, c.replace.ensures.value) at c.in_ok-node-2.ensures.text)))
