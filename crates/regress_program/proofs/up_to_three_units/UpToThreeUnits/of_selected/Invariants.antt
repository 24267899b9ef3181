use Rattle.std.proofs.Common.{◌*◌}
use Rattle.regress_program.specs.ListedUnits.{ListsKeysBelow}
use Rattle.regress_program.proofs.up_to_three_units.UpToThreeUnits.of_selected.Given as goal

abbrev pub invariant-loop-block : goal.invariant-loop-block
invariant-loop-block g l = ListsKeysBelow (g.Selection.KeySelection.selects_key l.selection) l.few.units l.few.len (l.block * 32)
