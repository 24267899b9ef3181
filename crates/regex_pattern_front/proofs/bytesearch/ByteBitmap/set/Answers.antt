use Rattle.std.proofs.Common.{arith}
use Rattle.regex_pattern_front.proofs.ByteSetMemberLemmas.{table-set}
use Rattle.regex_pattern_front.proofs.bytesearch.ByteBitmap.set.Goals as goal

pub returns : goal.returns
returns c = rw c.from.ensures (table-set c.args.self.now.table c.args.byte c.args.self.now.sized (omega arith))
