use Rattle.std.proofs.Common.{arith}
use Rattle.regress_input.proofs.ByteReadLemmas.{inside_bytes}
use Rattle.regress_input.proofs.indexing.InputIndexer.peek_byte_left.Goals as goal

pub byte_left-requires : goal.byte_left-requires
byte_left-requires g c =
    let all = inside_bytes g.Self.Units.CodeUnitEncoding.ARE_BYTES _ (g.met.Self.InputIndexer.is_text c.args.self.now) (g.met.Self.InputIndexer.in_utf8 c.args.self.now) c.in-Some.all.now c.in-Some.ensures in
    omega (arith, all, c.requires.inside, c.to_offset.ensures)
