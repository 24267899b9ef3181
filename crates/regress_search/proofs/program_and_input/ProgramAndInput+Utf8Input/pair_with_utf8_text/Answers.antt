use Rattle.std.proofs.Common.{refl, sym, subst}
use Rattle.regress_machine.specs.TextsForBytePrograms.{HasUtf8CharactersAndOffsets}
use Rattle.regress_machine.proofs.ByteProgramTextLemmas.{utf8_text-ReadsBytes}
use Rattle.std.proofs.lemmas.Str.{is_utf8-from_IsUtf8}
use Rattle.regress_search.proofs.FirstMatchLemmas.{read-as}
use Rattle.regress_search.proofs.program_and_input.ProgramAndInput+Utf8Input.pair_with_utf8_text.Goals as goal

pub pair_with_bytes-requires-clause-unicode : goal.pair_with_bytes-requires-clause-unicode
pair_with_bytes-requires-clause-unicode c = read-as c.new.ensures refl c.flags.ensures c.common_program.ensures

pub pair_with_bytes-requires-clause-bytes : goal.pair_with_bytes-requires-clause-bytes
pair_with_bytes-requires-clause-bytes c = record {
  reads = subst HasUtf8CharactersAndOffsets (sym c.new.ensures) (utf8_text-ReadsBytes c.args.text.now c.flags.result.unicode (is_utf8-from_IsUtf8 c.args.text.now c.utf8.text));
  units = refl;
}
