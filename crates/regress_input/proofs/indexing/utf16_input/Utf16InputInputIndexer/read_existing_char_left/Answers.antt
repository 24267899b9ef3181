use Rattle.std.proofs.Common.{Some, sym, ◌∙◌, ap, arith}
use Rattle.regress_input.proofs.BoundaryPositions.{pair}
use Rattle.regress_input.proofs.Utf16Reads.{inside, left-is}
use Rattle.regress_input.proofs.indexing.utf16_input.Utf16InputInputIndexer.read_existing_char_left.Goals as goal

pub character_before-c-requires-clause-inside : goal.character_before-c-requires-clause-inside
character_before-c-requires-clause-inside c = inside c.args.self.now.input.now c.args.self.now.small c.args.self.now.unicode _ c.requires.at

pub returns : goal.returns
returns c =
    left-is c.args.self.now.input.now c.args.self.now.small c.args.self.now.unicode _ c.requires.at (λ z. absurd (omega (arith, c.requires.inside, z))) _ c.character_before-c.ensures ∙ ap (λ n. Some (pair c.character_before-c.result.0 n)) (sym c.new.ensures)
