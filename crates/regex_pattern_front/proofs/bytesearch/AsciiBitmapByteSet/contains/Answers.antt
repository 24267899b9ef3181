use Rattle.std.proofs.Common.{arith, sym, ◌∙◌}
use Rattle.std.proofs.lemmas.Bool.{le-ltb}
use Rattle.regex_pattern_front.specs.ByteSetMembers.{is_ascii_bit_set}
use Rattle.regex_pattern_front.proofs.ByteSetMemberLemmas.{contains-bytes_where, is_set-read}
use Rattle.regex_pattern_front.proofs.bytesearch.AsciiBitmapByteSet.contains.Goals as goal

pub returns-then-byte-lt128 : goal.returns-then-byte-lt128
returns-then-byte-lt128 c =
    rw c.from.ensures
    (is_set-read c.args.self.now.bits c.args.byte c.if-byte-lt128.true
    ∙ sym (contains-bytes_where (is_ascii_bit_set c.args.self.now.bits) c.args.byte (omega arith)))

pub returns-else-byte-lt128 : goal.returns-else-byte-lt128
returns-else-byte-lt128 c =
    rw (contains-bytes_where (is_ascii_bit_set c.args.self.now.bits) c.args.byte (omega arith), le-ltb c.args.byte 128 c.if-byte-lt128.false)
