use Rattle.std.proofs.Common.{ap, ◌∙◌, sym}
use Rattle.regress_program.specs.GroupNamesOwnedOrShared.{stored_names}
use Rattle.regress_program.proofs.insn.group_name_storage.GroupNames.clone.Goals as goal

pub returns-in_ok-copy_names-in-Own : goal.returns-in_ok-copy_names-in-Own
returns-in_ok-copy_names-in-Own c = c.from_owned_names.ensures ∙ c.in_ok-copy_names-in-Own.ensures ∙ ap stored_names (sym c.in-Own.is) ∙ c.self.view_is
