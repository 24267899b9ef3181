use Rattle.regex_pattern_front.proofs.ByteSetMemberLemmas.{bits-set}
use Rattle.regex_pattern_front.proofs.bytesearch.AsciiBitmap.set.Goals as goal

pub returns-then-byte-lt128-clause-added : goal.returns-then-byte-lt128-clause-added
returns-then-byte-lt128-clause-added c within =
    rw c.from.ensures (bits-set c.args.self.now.bits c.args.byte c.args.self.now.sized within)
