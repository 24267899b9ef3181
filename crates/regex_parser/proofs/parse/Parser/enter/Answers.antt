use Rattle.std.proofs.Common.{◌+◌, [], arith}
use Rattle.regex_parser.specs.GroupIdInvariant.{captures_opened_by_group_kind}
use Rattle.regex_pattern_front.proofs.SubtreeListLemmas.{parts-none}
use Rattle.regex_parser.proofs.GroupIdInvariantLemmas.{open-push}
use Rattle.std.specs.BTreeMap.{get_by_text}
use Rattle.regex_parser.proofs.ParserContractsLemmas.{err-reads, opening-refused, name-refused, entered, around-push, reads-on}
use Rattle.regex_parser.proofs.ParserInvariantsLemmas.{past-most}
use Rattle.regex_parser.proofs.DialectRequirementLemmas.{readable}
use Rattle.regex_parser.proofs.parse.Parser.enter.Goals as goal

pub returns-clause-reading : goal.returns-clause-reading
returns-clause-reading c =
    let r = c.requires in
    let groups = c.args.self.now.groups in
    let references = c.args.self.now.leaves.references in
    let opening = c.in_ok-opening.opening in
    rw c.in_ok-name.ensures.references
    (record {
      inner = groups + captures_opened_by_group_kind opening;
      around = rw c.in_ok-push.ensures.items
          (open-push references 0 r.inner c.args.self.now.around.items
          (record { outer = c.replace.result; opening = opening; name = c.in_ok-name.name; start = groups; left = c.count_code_points_from_last_read.result })
          r.around (rw c.replace.ensures.value r.level));
      level = rw (c.replace.ensures.after, c.new-inner.ensures.parts, c.captures_opened_by_group_kind-more.ensures) (parts-none (groups + captures_opened_by_group_kind opening) references);
    })

pub returns-in_err-opening-clause-text : goal.returns-in_err-opening-clause-text
returns-in_err-opening-clause-text c =
    err-reads _ c.args.self.now _ c.from_residual.result _ c.from_residual.ensures.1 (λ x h. h)
    (λ r pattern names h. opening-refused (readable c.args.self.now.leaves.syntax) h.stands c.read_group_kind.new.reader.rest.now c.in_err-opening.ensures.text)

pub returns-in_err-name-clause-text : goal.returns-in_err-name-clause-text
returns-in_err-name-clause-text c =
    err-reads _ c.args.self.now _ c.from_residual-in_err-name.result _ c.from_residual-in_err-name.ensures.1 (λ x h. h)
    (λ r pattern names h. name-refused (readable c.args.self.now.leaves.syntax) h.stands c.read_group_kind.new.reader.rest.now _ c.in_ok-opening.opening c.in_ok-opening.ensures.text
    (λ x. get_by_text c.args.self.now.leaves.numbers x) h.known.numbered _ _ r c.in_err-name.ensures.text)

pub returns-then-more-start-clause-text : goal.returns-then-more-start-clause-text
returns-then-more-start-clause-text c = λ r pattern names h.
    past-most (readable c.args.self.now.leaves.syntax) (entered (readable c.args.self.now.leaves.syntax) h.stands c.read_group_kind.new.reader.rest.now c.in_ok-opening.opening c.in_ok-opening.ensures.text
    (λ x. get_by_text c.args.self.now.leaves.numbers x) h.known.numbered c.in_ok-name.name _ c.in_ok-name.ensures.text)
    (omega (arith, c.if-more-start.true, c.captures_opened_by_group_kind-more.ensures, h.known.few))

pub returns-clause-text : goal.returns-clause-text
returns-clause-text c = λ pattern names h.
    reads-on c.args.self.now _ c.in_ok-name.ensures.same h (omega (arith, c.if-more-start.false, h.few))
    (rw (
      c.in_ok-name.ensures.references,
      c.captures_opened_by_group_kind-more.ensures,
      c.in_ok-push.ensures.items,
      c.replace.ensures.value,
      around-push [] c.args.self.now.around.items
          (record { outer = c.args.self.now.level; opening = c.in_ok-opening.opening; name = c.in_ok-name.name; start = c.args.self.now.groups; left = c.count_code_points_from_last_read.result }),
      c.replace.ensures.after,
      c.new-inner.ensures.level,
      c.are_inner_terms_reversed.ensures,
      c.are_terms_reversed.ensures,
    )
    (entered (readable c.args.self.now.leaves.syntax) h.stands c.read_group_kind.new.reader.rest.now c.in_ok-opening.opening c.in_ok-opening.ensures.text
    (λ x. get_by_text c.args.self.now.leaves.numbers x) h.known.numbered c.in_ok-name.name _ c.in_ok-name.ensures.text))
