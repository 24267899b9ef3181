use Rattle.std.proofs.Common.{◌∙◌, ap}
use Rattle.regex_meaning.specs.Text.{utf8_text}
use Rattle.regress_input.proofs.Utf8Slices.{char_boundary, part-utf8}
use Rattle.regress_input.proofs.indexing.utf8_input.Utf8InputInputIndexer.text_between.Goals as goal

pub range-requires-clause-start_boundary : goal.range-requires-clause-start_boundary
range-requires-clause-start_boundary c = λ _. let it = c.args.self.now in char_boundary it.input.now it.unicode it.is_utf8 _ c.requires.from

pub range-requires-clause-end_boundary : goal.range-requires-clause-end_boundary
range-requires-clause-end_boundary c = char_boundary c.args.self.now.input.now c.args.self.now.unicode c.args.self.now.is_utf8 _ c.requires.to

pub returns : goal.returns
returns c =
    ap (λ bytes. utf8_text bytes c.args.self.now.unicode) c.range.ensures.value
    ∙ part-utf8 c.args.self.now.input.now c.args.self.now.unicode c.args.self.now.is_utf8 _ _ c.requires.from c.requires.to c.requires.in_order
