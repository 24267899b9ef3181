use Rattle.std.proofs.Common.{ap, sym, ◌∙◌}
use Rattle.regress_input.proofs.BoundaryPositions.{boundary_inside}
use Rattle.regress_backtrack.proofs.LimitedStartLemmas.{begins-here, is_member}
use Rattle.regress_backtrack.proofs.accepted_starts.starts_with_byte_in.Goals as goal

pub peek_byte_right-requires : goal.peek_byte_right-requires
peek_byte_right-requires g c = record { inside = boundary_inside _ (g.met.Input.InputIndexer.is_text c.args.input.now) _ c.requires.at }

pub returns-in-Some : goal.returns-in-Some
returns-in-Some g c =
    let input = g.met.Input.InputIndexer in
    c.contains.ensures ∙ ap (is_member (g.Set.ByteSet.members c.args.set.now)) (sym c.in-Some.is)
    ∙ begins-here g.Input.Units.CodeUnitEncoding.encoding g.Input.Units.CodeUnitEncoding.by_encoding c.requires.bytes (input.characters c.args.input.now) (input.in_utf8 c.args.input.now)
    (input.is_text c.args.input.now) _ _ c.requires.at _ c.peek_byte_right.ensures

pub returns-in-None : goal.returns-in-None
returns-in-None g c =
    let input = g.met.Input.InputIndexer in
    ap (is_member (g.Set.ByteSet.members c.args.set.now)) (sym c.in-None.is)
    ∙ begins-here g.Input.Units.CodeUnitEncoding.encoding g.Input.Units.CodeUnitEncoding.by_encoding c.requires.bytes (input.characters c.args.input.now) (input.in_utf8 c.args.input.now)
    (input.is_text c.args.input.now) _ _ c.requires.at _ c.peek_byte_right.ensures
