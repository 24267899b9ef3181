use Rattle.std.proofs.Common.{◌≡◌, ◌==◌, ◌∙◌, true, vec_len, ap, arith, sym}
use Rattle.std.proofs.lemmas.Bool.{eqb-true}
use Rattle.regex_pattern_front.specs.IterativeDropMeasure.{tree_size}
use Rattle.regex_pattern_front.proofs.AstToSpecTreeLemmas.{spec_node_of-Cat}
use Rattle.regex_pattern_front.proofs.IterativeDropLemmas.{no-nodes, only-less, pop_last_child-less}
use Rattle.regex_pattern_front.proofs.ir.pop_last_child.Goals as goal

pub returns-then-is_empty : goal.returns-then-is_empty
returns-then-is_empty c =
    let row = c.pop.new.self in
    let test : (vec_len row == 0) ≡ true = sym c.is_empty.ensures ∙ c.if-is_empty.true in (
      no-nodes row.items (omega (arith, row.ok.0, eqb-true (vec_len row) 0 test)),
      only-less c.args.children.items row.items c.in-Some.node c.in-Some.ensures.items,
    )

pub returns : goal.returns
returns c =
    rw (ap tree_size (spec_node_of-Cat c.pop.new.self))
    (pop_last_child-less c.args.children.items c.pop.new.self.items c.in-Some.node c.in-Some.ensures.items)
