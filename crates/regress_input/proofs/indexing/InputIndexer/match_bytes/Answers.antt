use Rattle.std.proofs.Common.{arith}
use Rattle.regress_input.proofs.ByteReadLemmas.{inside_bytes}
use Rattle.regress_input.proofs.indexing.InputIndexer.match_bytes.Goals as goal

pub past_units_if_next-to-requires : goal.past_units_if_next-to-requires
past_units_if_next-to-requires g c =
    let all = inside_bytes g.Self.Units.CodeUnitEncoding.ARE_BYTES _ (g.met.Self.InputIndexer.is_text c.args.self.now) (g.met.Self.InputIndexer.in_utf8 c.args.self.now) c.in-Some.all.now c.in-Some.ensures in
    omega (arith, all, c.requires.inside, c.to_offset.ensures)
