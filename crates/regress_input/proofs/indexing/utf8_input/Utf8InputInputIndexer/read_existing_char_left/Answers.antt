use Rattle.std.proofs.Common.{Some, sym, ◌∙◌, ap, arith}
use Rattle.regress_input.proofs.BoundaryPositions.{pair}
use Rattle.regress_input.proofs.Utf8Reads.{ends_at, read-character-left}
use Rattle.regress_input.proofs.indexing.utf8_input.Utf8InputInputIndexer.read_existing_char_left.Goals as goal

pub character_before-c-requires : goal.character_before-c-requires
character_before-c-requires c =
    ends_at c.args.self.now.input.now c.args.self.now.unicode c.args.self.now.is_utf8 _ c.as_bytes.ensures.value _ c.requires.at (λ z. absurd (omega (arith, c.requires.inside, z)))

pub returns : goal.returns
returns c =
    sym (read-character-left c.args.self.now.input.now c.args.self.now.unicode c.args.self.now.is_utf8 _ c.as_bytes.ensures.value _ _ _ c.requires.at (λ z. absurd (omega (arith, c.requires.inside, z))) c.character_before-c.ensures) ∙ ap (λ n. Some (pair c.character_before-c.result.0 n)) (sym c.new.ensures)
