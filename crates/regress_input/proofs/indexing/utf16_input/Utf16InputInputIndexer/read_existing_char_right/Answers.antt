use Rattle.std.proofs.Common.{Some, sym, ◌∙◌, ap, arith}
use Rattle.regress_input.proofs.BoundaryPositions.{pair}
use Rattle.regress_input.proofs.Utf16Reads.{right-is, units-length}
use Rattle.regress_input.proofs.indexing.utf16_input.Utf16InputInputIndexer.read_existing_char_right.Goals as goal

pub character_at-c-requires : goal.character_at-c-requires
character_at-c-requires c = omega (arith, c.requires.inside, units-length c.args.self.now.input.now c.args.self.now.small c.args.self.now.unicode)

pub returns : goal.returns
returns c =
    let it = c.args.self.now in
    right-is it.input.now it.small it.unicode _ c.requires.at (λ z. absurd (omega (arith, z, c.requires.inside, units-length it.input.now it.small it.unicode))) _ c.character_at-c.ensures ∙ ap (λ n. Some (pair c.character_at-c.result.0 n)) (sym c.new.ensures)
