use Rattle.regress_program.specs.ListedUnits.{ListsKeysBelow}
use Rattle.regress_program.proofs.up_to_three_units.UpToThreeUnits.add_selected_of_block.Given as goal

abbrev pub invariant-loop-key : goal.invariant-loop-key
invariant-loop-key g l = ListsKeysBelow (g.Selection.KeySelection.selects_key l.selection) l.self.units l.self.len l.key
