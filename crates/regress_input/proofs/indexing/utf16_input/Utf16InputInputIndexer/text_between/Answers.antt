use Rattle.std.proofs.Common.{arith}
use Rattle.regress_input.proofs.Utf16Reads.{inside}
use Rattle.regress_input.proofs.Utf16Slices.{part-utf16}
use Rattle.regress_input.proofs.indexing.utf16_input.Utf16InputInputIndexer.text_between.Goals as goal

pub offset_bounds-self-start : goal.offset_bounds-self-start
offset_bounds-self-start c =
    omega (arith, inside c.args.self.now.input.now c.args.self.now.small c.args.self.now.unicode _ c.requires.to, c.args.self.now.sized, c.requires.in_order)

pub slice_bounds-result-end : goal.slice_bounds-result-end
slice_bounds-result-end c = inside c.args.self.now.input.now c.args.self.now.small c.args.self.now.unicode _ c.requires.to

pub returns : goal.returns
returns c = part-utf16 c.args.self.now.input.now c.args.self.now.small c.args.self.now.unicode _ _ c.requires.from c.requires.to c.requires.in_order
