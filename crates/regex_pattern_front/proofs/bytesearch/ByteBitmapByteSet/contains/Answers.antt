use Rattle.std.proofs.Common.{arith, sym, get_or, false}
use Rattle.regex_pattern_front.proofs.ByteSetMemberLemmas.{contains-bytes_where}
use Rattle.regex_pattern_front.proofs.bytesearch.ByteBitmapByteSet.contains.Goals as goal

pub returns : goal.returns
returns c = rw c.from.ensures (sym (contains-bytes_where (λ b. get_or c.args.self.now.table b false) c.args.byte (omega arith)))
