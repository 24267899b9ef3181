use Rattle.std.proofs.Common.{sym, ◌∙◌}
use Rattle.std.proofs.lemmas.Bool.{le-ltb}
use Rattle.regex_pattern_front.proofs.ByteSetMemberLemmas.{ascii-beyond}
use Rattle.regex_pattern_front.proofs.bytesearch.AsciiBitmapByteSet.byte_set_has_char.Goals as goal

pub returns-else-c-lt128 : goal.returns-else-c-lt128
returns-else-c-lt128 c = le-ltb c.args.c 128 c.if-c-lt128.false ∙ sym (ascii-beyond c.args.self.now.bits c.args.c c.if-c-lt128.false)
