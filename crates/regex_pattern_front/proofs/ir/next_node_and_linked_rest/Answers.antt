use Rattle.std.proofs.Common.{◌≡◌, ◌≢◌, ◌<◌, ◌==◌, ◌∙◌, true, false, true≢false, length, vec_len, ap, arith, sym}
use Rattle.std.proofs.lemmas.Bool.{eqb-true, eq-eqb}
use Rattle.std.specs.Vec.{with_item}
use Rattle.regex_pattern_front.specs.IterativeDropMeasure.{tree_size}
use Rattle.regex_pattern_front.proofs.AstToSpecTreeLemmas.{spec_node_of-Cat}
use Rattle.regex_pattern_front.proofs.IterativeDropLemmas.{emptied-less, next_node_and_linked_rest-first-less, no-nodes}
use Rattle.regex_pattern_front.proofs.ir.next_node_and_linked_rest.Goals as goal

pub returns-then-is_empty : goal.returns-then-is_empty
returns-then-is_empty c =
    let row = c.args.children in
    let test : (vec_len row == 0) ≡ true = sym c.is_empty.ensures ∙ c.if-is_empty.true in
    (no-nodes row.items (omega (arith, row.ok.0, eqb-true (vec_len row) 0 test)), emptied-less row.items c.args.link)

pub returns : goal.returns
returns c =
    let row = c.args.children in
    let test : (vec_len row == 0) ≡ false = sym c.is_empty.ensures ∙ c.if-is_empty.false in
    let none : vec_len row ≢ 0 = λ h. true≢false (sym (eq-eqb (vec_len row) 0 h) ∙ test) in
    let some : 0 < length row.items = omega (arith, row.ok.0, none) in
    let first = c.index_mut.result.now in
    rw (c.replace-node.ensures.value, c.replace-node.ensures.after, ap tree_size (spec_node_of-Cat (with_item row 0 c.args.link)))
    (next_node_and_linked_rest-first-less row.items first c.args.link some c.index_mut.ensures.value)
