use Rattle.std.proofs.Common.{◌-◌, arith}
use Rattle.regex_meaning.specs.Text.{fold_code_point}
use Rattle.regress_input.proofs.OneUnitCharacters.{inside, reads-back}
use Rattle.regress_input.proofs.indexing.ucs2_input.Ucs2InputInputIndexer.read_existing_char_left.Goals as goal

pub offset_bounds-self-start : goal.offset_bounds-self-start
offset_bounds-self-start c = omega (arith, inside c.args.self.now.input.now c.args.self.now.unicode (fold_code_point c.args.self.now.unicode) _ c.requires.at, c.args.self.now.sized)

pub bounds-self-start : goal.bounds-self-start
bounds-self-start c = omega (arith, c.requires.inside, inside c.args.self.now.input.now c.args.self.now.unicode (fold_code_point c.args.self.now.unicode) _ c.requires.at)

pub returns : goal.returns
returns c = reads-back c.args.self.now.input.now c.args.self.now.unicode (fold_code_point c.args.self.now.unicode) _ _ c.requires.at c.requires.inside c.new.ensures
