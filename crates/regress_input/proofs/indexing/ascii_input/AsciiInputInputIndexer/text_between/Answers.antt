use Rattle.regex_meaning.specs.Text.{fold_ascii}
use Rattle.regress_input.proofs.OneUnitCharacters.{inside, part-one}
use Rattle.regress_input.proofs.indexing.ascii_input.AsciiInputInputIndexer.text_between.Goals as goal

pub slice_bounds-result-end : goal.slice_bounds-result-end
slice_bounds-result-end c = inside c.args.self.now.input.now c.args.self.now.unicode (fold_ascii c.args.self.now.unicode) _ c.requires.to

pub returns : goal.returns
returns c = part-one c.args.self.now.input.now c.args.self.now.unicode (fold_ascii c.args.self.now.unicode) _ _ c.requires.from c.requires.to c.requires.in_order
