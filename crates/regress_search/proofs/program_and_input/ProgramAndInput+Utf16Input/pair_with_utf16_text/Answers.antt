use Rattle.std.proofs.Common.{refl}
use Rattle.regress_search.proofs.FirstMatchLemmas.{read-as}
use Rattle.regress_search.proofs.program_and_input.ProgramAndInput+Utf16Input.pair_with_utf16_text.Goals as goal

pub pair_with_units-requires : goal.pair_with_units-requires
pair_with_units-requires c = read-as c.new.ensures refl c.flags.ensures c.common_program.ensures.tree
