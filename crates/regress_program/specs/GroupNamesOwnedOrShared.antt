-- The names of groups in either kind of storage.
use Rattle.std.specs.Prelude.{ℕ, List, map, string_bytes}
use Rattle.std.specs.Arc.{arc_value}
use Rattle.regress_program.specs.declared.insn.group_name_storage.OwnedOrSharedNameList.{OwnedOrSharedNameList}
use Rattle.regress_program.specs.declared.insn.group_name_storage.OwnedOrSharedNameList.TheVariants.{Own, Shared}

-- The names in a storage, shared or not.
abbrev pub stored_names : OwnedOrSharedNameList → List (List ℕ)
stored_names (Own names) = map string_bytes names.items
stored_names (Shared names) = map string_bytes (arc_value names).items
