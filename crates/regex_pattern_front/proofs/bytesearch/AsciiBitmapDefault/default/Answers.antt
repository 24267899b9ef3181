use Rattle.regex_pattern_front.proofs.ByteSetMemberLemmas.{bits-none}
use Rattle.regex_pattern_front.proofs.bytesearch.AsciiBitmapDefault.default.Goals as goal

pub returns : goal.returns
returns c = bits-none
