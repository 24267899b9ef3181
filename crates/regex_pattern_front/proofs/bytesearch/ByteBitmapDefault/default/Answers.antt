use Rattle.regex_pattern_front.proofs.ByteSetMemberLemmas.{table-none}
use Rattle.regex_pattern_front.proofs.bytesearch.ByteBitmapDefault.default.Goals as goal

pub returns : goal.returns
returns c = table-none
