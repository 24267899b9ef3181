use Rattle.std.proofs.Common.{slice_get, sym, ◌∙◌, arith}
use Rattle.std.proofs.lemmas.Option.{slice_get_within}
use Rattle.regress_input.specs.CharAndByteReadsFromOffset.{bytes_of}
use Rattle.regress_input.proofs.ByteReadLemmas.{are_bytes}
use Rattle.regress_input.proofs.ByteTestsOfCharacters.{units-bytes_of}
use Rattle.regress_input.proofs.cursor.next_byte.Goals as goal

pub add_assign-requires : goal.add_assign-requires
add_assign-requires g c =
    let input = c.args.input.now in
    let text = g.Input.InputIndexer.text input in
    let at = g.Input.Position.PositionType.offset c.args.pos.now in
    let laws = g.met.Input.InputIndexer in
    let there = are_bytes g.Input.Units.CodeUnitEncoding.ARE_BYTES (slice_get (bytes_of text) at) c.in_ok-byte.byte (sym c.peek_byte_right.ensures ∙ c.in_ok-byte.was) in
    g.met.Input.Position.PositionType.may_add_assign c.args.pos.now 1
    (omega (arith, slice_get_within (bytes_of text) at c.in_ok-byte.byte there.1, units-bytes_of text (laws.is_text input) (laws.in_utf8 input there.0), laws.offsets_fit input))
