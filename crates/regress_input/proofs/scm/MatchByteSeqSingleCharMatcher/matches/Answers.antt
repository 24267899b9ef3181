use Rattle.std.proofs.Common.{◌≡◌, Bool, true, sym, ◌∙◌, ap, arith}
use Rattle.regress_input.specs.CharAndByteReadsFromOffset.{direction_of_forward_flag, past_numbers_if_next, bytes_of, read_if_units_are_bytes}
use Rattle.regress_input.proofs.BoundaryPositions.{boundary_inside}
use Rattle.regress_input.proofs.ByteTestsOfCharacters.{literal_accepts}
use Rattle.regress_input.proofs.scm.MatchByteSeqSingleCharMatcher.matches.Goals as goal

pub match_bytes-requires : goal.match_bytes-requires
match_bytes-requires g c = record { inside = boundary_inside _ (g.met.Input.InputIndexer.is_text c.args.input.now) _ c.requires.at }

pub returns-then-ARE_BYTES : goal.returns-then-ARE_BYTES
returns-then-ARE_BYTES g c =
    let input = c.args.input.now in
    let laws = g.met.Input.InputIndexer in
    let text = g.Input.InputIndexer.text input in
    let literal = c.args.self.now.0.now in
    let d = direction_of_forward_flag g.Dir.Direction.FORWARD in
    let at = g.Input.Position.PositionType.offset c.args.pos.now in
    let one = c.requires.executable.1 in
    let are : g.Input.Units.CodeUnitEncoding.ARE_BYTES ≡ true = sym c.ARE_BYTES.ensures ∙ c.if-ARE_BYTES.true in
    c.match_bytes.ensures
    ∙ ap (λ (b : Bool). read_if_units_are_bytes b (past_numbers_if_next (bytes_of text) literal d at)) are
    ∙ literal_accepts text (laws.is_text input) (laws.in_utf8 input are) literal one.0 one.1 one.2 d at c.requires.at

pub shared_whole_as_slice-match_bytes : goal.shared_whole_as_slice-match_bytes
shared_whole_as_slice-match_bytes g c = omega (arith, c.requires.executable.0)
