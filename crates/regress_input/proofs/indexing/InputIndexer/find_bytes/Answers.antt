use Rattle.std.proofs.Common.{arith}
use Rattle.regress_input.proofs.ByteReadLemmas.{inside_bytes}
use Rattle.regress_input.proofs.indexing.InputIndexer.find_bytes.Goals as goal

pub find_by_byte_searcher_from-requires : goal.find_by_byte_searcher_from-requires
find_by_byte_searcher_from-requires g c =
    let all = inside_bytes g.Self.Units.CodeUnitEncoding.ARE_BYTES _ (g.met.Self.InputIndexer.is_text c.args.self.now) (g.met.Self.InputIndexer.in_utf8 c.args.self.now) c.in-Some.all.now c.in-Some.ensures in
    omega (arith, all, c.requires.inside, c.to_offset.ensures)
