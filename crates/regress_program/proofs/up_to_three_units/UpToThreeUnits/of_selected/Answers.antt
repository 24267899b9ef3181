use Rattle.std.proofs.Common.{◌*◌, ◌+◌, arith}
use Rattle.regress_program.proofs.ListedUnitsLemmas.{listed-up-to}
use Rattle.regress_program.proofs.up_to_three_units.UpToThreeUnits.of_selected.Goals as goal

pub loop-block-preserved : goal.loop-block-preserved
loop-block-preserved g c =
    listed-up-to (g.Selection.KeySelection.selects_key c.args.selection.now) _ _ (c.loop-block.block * 32 + 32) _
    (c.add_selected_of_block.ensures c.if-not-add_selected_of_block.false) (omega arith)

pub returns : goal.returns
returns g c = record {
  most = c.loop-block.invariant.1;
  each = c.loop-block.invariant.2;
  all = λ k below is. c.loop-block.invariant.3 k (omega (arith, below, c.loop-block-test.false)) is;
}
