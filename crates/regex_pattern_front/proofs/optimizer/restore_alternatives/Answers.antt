use Rattle.std.proofs.Common.{◌∙◌, sym, arith}
use Rattle.regex_pattern_front.specs.AstToSpecTree.{spec_node_of}
use Rattle.regex_pattern_front.proofs.AstToSpecTreeLemmas.{turned-all, turned-step}
use Rattle.regex_pattern_front.proofs.optimizer.restore_alternatives.Goals as goal

pub loop-turned-preserved : goal.loop-turned-preserved
loop-turned-preserved c =
    let now = c.loop-turned in
    rw (c.move_alternative.ensures.from, c.move_alternative.ensures.to, turned-step now.turned (spec_node_of now.done) (spec_node_of now.rest) c.loop-turned-test.true) now.invariant

pub returns : goal.returns
returns c =
    let now = c.loop-turned in
    sym (turned-all now.turned (spec_node_of now.done) (spec_node_of now.rest) (omega (arith, c.loop-turned-test.false))) ∙ now.invariant
