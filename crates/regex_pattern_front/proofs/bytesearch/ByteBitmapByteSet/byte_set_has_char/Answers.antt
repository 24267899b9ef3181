use Rattle.std.proofs.Common.{sym, ◌∙◌, get_or, false}
use Rattle.std.proofs.lemmas.Bool.{le-ltb}
use Rattle.regex_pattern_front.proofs.ByteSetMemberLemmas.{contains-beyond}
use Rattle.regex_pattern_front.proofs.bytesearch.ByteBitmapByteSet.byte_set_has_char.Goals as goal

pub returns-else-c-lt256 : goal.returns-else-c-lt256
returns-else-c-lt256 c =
    le-ltb c.args.c 256 c.if-c-lt256.false ∙ sym (contains-beyond (λ b. get_or c.args.self.now.table b false) c.args.c c.if-c-lt256.false)
