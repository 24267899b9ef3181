use Rattle.std.proofs.Common.{sym, ◌∙◌, arith}
use Rattle.regress_program.proofs.ListedUnitsLemmas.{listed-more, listed-none, listed-same, listed-up-to}
use Rattle.regress_program.proofs.up_to_three_units.UpToThreeUnits.add_selected_of_block.Goals as goal

pub returns : goal.returns
returns g c = λ yes. listed-up-to (g.Selection.KeySelection.selects_key c.args.selection.now) _ _ c.loop-key.key _ c.loop-key.invariant (omega (arith, c.loop-key-test.false))
