use Rattle.regress_input.proofs.BoundaryPositions.{boundary_inside}
use Rattle.regress_backtrack.proofs.LimitedStartLemmas.{sequence-read, reads-bytes}
use Rattle.regress_backtrack.proofs.accepted_starts.has_bytes_at.Goals as goal

pub match_bytes-requires : goal.match_bytes-requires
match_bytes-requires g c = record {
  inside = boundary_inside (g.Input.InputIndexer.text c.args.input.now) (g.met.Input.InputIndexer.is_text c.args.input.now) (g.Input.Position.PositionType.offset c.args.at) c.requires.at;
}

pub returns : goal.returns
returns g c =
    let input = c.args.input.now in
    let text = g.Input.InputIndexer.text input in
    let are = g.Input.Units.CodeUnitEncoding.ARE_BYTES in
    let reads = reads-bytes g.Input.Units.CodeUnitEncoding.encoding are text g.Input.Units.CodeUnitEncoding.by_encoding c.requires.bytes (g.met.Input.InputIndexer.characters input) (g.met.Input.InputIndexer.in_utf8 input) in
    let offset = g.Input.Position.PositionType.offset in
    sequence-read text (g.met.Input.InputIndexer.is_text input) reads are c.requires.bytes c.args.bytes.now (offset c.args.at) c.match_bytes.result (offset c.match_bytes.new.pos) c.requires.at c.match_bytes.ensures
