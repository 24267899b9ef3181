use Rattle.std.proofs.Common.{arith}
use Rattle.regex_meaning.specs.Text.{fold_code_point}
use Rattle.regress_input.proofs.OneUnitCharacters.{inside, part-one}
use Rattle.regress_input.proofs.indexing.ucs2_input.Ucs2InputInputIndexer.text_between.Goals as goal

pub offset_bounds-self-start : goal.offset_bounds-self-start
offset_bounds-self-start c =
    omega (arith, inside c.args.self.now.input.now c.args.self.now.unicode (fold_code_point c.args.self.now.unicode) _ c.requires.to, c.args.self.now.sized, c.requires.in_order)

pub slice_bounds-result-end : goal.slice_bounds-result-end
slice_bounds-result-end c = inside c.args.self.now.input.now c.args.self.now.unicode (fold_code_point c.args.self.now.unicode) _ c.requires.to

pub returns : goal.returns
returns c = part-one c.args.self.now.input.now c.args.self.now.unicode (fold_code_point c.args.self.now.unicode) _ _ c.requires.from c.requires.to c.requires.in_order
