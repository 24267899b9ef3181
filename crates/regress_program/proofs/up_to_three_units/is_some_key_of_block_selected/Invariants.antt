use Rattle.std.proofs.Common.{◌≡◌, ◌≤◌, ◌<◌, ℕ, false}
use Rattle.regress_program.proofs.up_to_three_units.is_some_key_of_block_selected.Given as goal

abbrev pub invariant-loop-key : goal.invariant-loop-key
invariant-loop-key g l = l.some ≡ false → (k : ℕ) → l.from ≤ k → k < l.key → g.Selection.KeySelection.selects_key l.selection k ≡ false
