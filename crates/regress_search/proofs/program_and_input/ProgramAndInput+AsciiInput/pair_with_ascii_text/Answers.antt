use Rattle.std.proofs.Common.{refl, sym, subst}
use Rattle.regress_machine.specs.TextsForBytePrograms.{HasUtf8CharactersAndOffsets}
use Rattle.regress_machine.proofs.ByteProgramTextLemmas.{ascii_text-ReadsBytes}
use Rattle.regress_search.proofs.SearchableProgramLemmas.{all-ascii}
use Rattle.regress_search.proofs.FirstMatchLemmas.{read-as}
use Rattle.regress_search.proofs.program_and_input.ProgramAndInput+AsciiInput.pair_with_ascii_text.Goals as goal

pub pair_with_bytes-requires-clause-unicode : goal.pair_with_bytes-requires-clause-unicode
pair_with_bytes-requires-clause-unicode c = read-as c.new.ensures refl c.flags.ensures c.common_program.ensures

pub pair_with_bytes-requires-clause-bytes : goal.pair_with_bytes-requires-clause-bytes
pair_with_bytes-requires-clause-bytes c = record {
  reads = subst HasUtf8CharactersAndOffsets (sym c.new.ensures) (ascii_text-ReadsBytes c.args.text.now c.flags.result.unicode (all-ascii c.args.text.now c.requires));
  units = refl;
}
