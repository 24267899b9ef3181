use Rattle.regress_machine.proofs.ByteProgramTextLemmas.{utf8_text-ReadsBytes, ascii_text-ReadsBytes}
use Rattle.regress_machine.proofs.byte_texts_have_utf8_offsets.Goals as goal

pub returns : goal.returns
returns c bytes unicode = (utf8_text-ReadsBytes bytes unicode, ascii_text-ReadsBytes bytes unicode)
