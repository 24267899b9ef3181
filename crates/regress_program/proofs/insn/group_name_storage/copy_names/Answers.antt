use Rattle.std.proofs.Common.{string_bytes}
use Rattle.regress_program.proofs.StoringGroupNamesLemmas.{same_texts}
use Rattle.regress_program.proofs.insn.group_name_storage.copy_names.Goals as goal

pub returns : goal.returns
returns c = same_texts string_bytes _ _ c.in_ok-clone.ensures.cases.0
