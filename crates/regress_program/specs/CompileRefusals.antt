-- The trees that are not compiled, and the reasons.
use Rattle.std.specs.Prelude.{◌≡◌, Bool, ◌<◌, ◌≤◌, ◌^◌, false, length, IsTrue}
use Rattle.regex_meaning.specs.Tree.{Tree, group_ids}
use Rattle.regex_meaning.specs.WellFormedTrees.{IsWellFormed}
use Rattle.regex_meaning.specs.CompilationRelation.{tree_contains_byte_nodes}
use Rattle.regress_program.specs.CompilationOfTreesAsFunction.{node_insn_count, loop_count}
use Rattle.regress_program.specs.declared.emit.EmitError.{EmitError}
use Rattle.regress_program.specs.declared.emit.EmitError.TheVariants.{NotWellFormed, BytesInUnits, TooManyGroups, TooManyLoops, TooManyInstructions, Memory}

-- The tree is well formed, and its program is within the limits.
pub record IsWellFormedWithinLimits (tree : Tree) : Type 0 where
  pub well_formed : IsWellFormed tree.root
  pub groups : length (group_ids tree.root) < 2 ^ 16
  pub loops : loop_count tree.root < 2 ^ 16
  pub insns : node_insn_count tree.root < 2 ^ 32

-- The tree is well formed and has too many groups.
pub record HasTooManyGroups (tree : Tree) : Type 0 where
  pub well_formed : IsWellFormed tree.root
  pub groups : 2 ^ 16 ≤ length (group_ids tree.root)

-- The tree has too many loops, and passes the earlier checks.
pub record HasTooManyLoops (tree : Tree) : Type 0 where
  pub well_formed : IsWellFormed tree.root
  pub groups : length (group_ids tree.root) < 2 ^ 16
  pub loops : 2 ^ 16 ≤ loop_count tree.root

-- The tree has too many instructions, and passes the earlier checks.
pub record HasTooManyInstructions (tree : Tree) : Type 0 where
  pub well_formed : IsWellFormed tree.root
  pub groups : length (group_ids tree.root) < 2 ^ 16
  pub loops : loop_count tree.root < 2 ^ 16
  pub insns : 2 ^ 32 ≤ node_insn_count tree.root

-- The cause of each error. A tree has a cause only if no earlier one applies. `Memory` is the last:
-- it is returned only for a tree that passes all checks. `bytes_in_units` says that the tree is for
-- 16-bit code units and has a node that reads bytes.
abbrev pub IsCompileErrorCause : (bytes_in_units : Bool) → EmitError → Tree → Type 0
IsCompileErrorCause bytes_in_units NotWellFormed tree = ¬ (IsWellFormed tree.root)
IsCompileErrorCause bytes_in_units BytesInUnits tree = IsWellFormed tree.root × IsTrue bytes_in_units
IsCompileErrorCause bytes_in_units TooManyGroups tree = (bytes_in_units ≡ false) × HasTooManyGroups tree
IsCompileErrorCause bytes_in_units TooManyLoops tree = (bytes_in_units ≡ false) × HasTooManyLoops tree
IsCompileErrorCause bytes_in_units TooManyInstructions tree = (bytes_in_units ≡ false) × HasTooManyInstructions tree
IsCompileErrorCause bytes_in_units Memory tree = (bytes_in_units ≡ false) × IsWellFormedWithinLimits tree

-- The cause of an error of compiling for bytes.
abbrev pub TreeHasByteCompileErrorCause : EmitError → Tree → Type 0
TreeHasByteCompileErrorCause e tree = IsCompileErrorCause false e tree

-- The cause of an error of compiling for 16-bit code units.
abbrev pub Is16BitUnitCompileErrorCause : EmitError → Tree → Type 0
Is16BitUnitCompileErrorCause e tree = IsCompileErrorCause (tree_contains_byte_nodes tree.root) e tree
