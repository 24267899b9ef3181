use Rattle.std.proofs.Common.{Some, sym, ◌∙◌, ap}
use Rattle.regress_input.proofs.BoundaryPositions.{pair}
use Rattle.regress_input.proofs.Utf8Reads.{stands_at, read-character, not-ended}
use Rattle.regress_input.proofs.indexing.utf8_input.Utf8InputInputIndexer.read_existing_char_right.Goals as goal

pub character_at-c-requires : goal.character_at-c-requires
character_at-c-requires c = stands_at c.args.self.now.input.now c.args.self.now.unicode c.args.self.now.is_utf8 _ c.as_bytes.ensures.value _ c.requires.at (not-ended c.args.self.now.input.now c.args.self.now.unicode c.args.self.now.is_utf8 _ c.as_bytes.ensures.value _ c.requires.inside)

pub returns : goal.returns
returns c =
    let it = c.args.self.now in
    sym (read-character it.input.now it.unicode it.is_utf8 _ c.as_bytes.ensures.value _ _ _ c.requires.at (not-ended it.input.now it.unicode it.is_utf8 _ c.as_bytes.ensures.value _ c.requires.inside) c.character_at-c.ensures) ∙ ap (λ n. Some (pair c.character_at-c.result.0 n)) (sym c.new.ensures)
