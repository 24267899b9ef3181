use Rattle.std.proofs.Common.{◌≡◌, Bool, true, sym, ◌∙◌, ap}
use Rattle.regex_meaning.specs.NumberListHelpers.{contains}
use Rattle.regress_input.specs.CharAndByteReadsFromOffset.{direction_of_forward_flag, end_if_matched, read_if_units_are_bytes, adjacent_byte, bytes_of}
use Rattle.regress_input.proofs.BoundaryPositions.{boundary_inside}
use Rattle.regress_input.proofs.ByteTestsOfCharacters.{byte_in_set, no_byte}
use Rattle.regress_input.proofs.scm.matches_ascii_byte_set.Goals as goal

pub next_byte-requires : goal.next_byte-requires
next_byte-requires g c = record { inside = boundary_inside _ (g.met.Input.InputIndexer.is_text c.args.input.now) _ c.requires.at }

pub returns-in-Some : goal.returns-in-Some
returns-in-Some g c =
    let text = g.Input.InputIndexer.text c.args.input.now in
    let d = direction_of_forward_flag g.Dir.Direction.FORWARD in
    let are : g.Input.Units.CodeUnitEncoding.ARE_BYTES ≡ true = sym c.ARE_BYTES.ensures ∙ c.if-ARE_BYTES.true in
    ap (λ b. end_if_matched b (g.Input.Position.PositionType.offset c.next_byte.new.pos)) c.contains.ensures
    ∙ byte_in_set text (g.met.Input.InputIndexer.is_text c.args.input.now) (g.met.Input.InputIndexer.in_utf8 c.args.input.now are) (g.Bytes.ByteSet.members c.args.bytes.now) c.requires.ascii
    d _ c.in-Some.byte _ c.requires.at
    (c.in-Some.ensures.byte ∙ ap (λ (b : Bool). read_if_units_are_bytes b (adjacent_byte (bytes_of text) d (g.Input.Position.PositionType.offset c.args.pos.now))) are) c.in-Some.ensures.moves

pub returns-in-None : goal.returns-in-None
returns-in-None g c =
    let text = g.Input.InputIndexer.text c.args.input.now in
    let d = direction_of_forward_flag g.Dir.Direction.FORWARD in
    let are : g.Input.Units.CodeUnitEncoding.ARE_BYTES ≡ true = sym c.ARE_BYTES.ensures ∙ c.if-ARE_BYTES.true in
    sym (no_byte text (g.met.Input.InputIndexer.is_text c.args.input.now) (g.met.Input.InputIndexer.in_utf8 c.args.input.now are) (contains (g.Bytes.ByteSet.members c.args.bytes.now))
    d _ c.requires.at (sym (c.in-None.ensures.byte ∙ ap (λ (b : Bool). read_if_units_are_bytes b (adjacent_byte (bytes_of text) d (g.Input.Position.PositionType.offset c.args.pos.now))) are)))
