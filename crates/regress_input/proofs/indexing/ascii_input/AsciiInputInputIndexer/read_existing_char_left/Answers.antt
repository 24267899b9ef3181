use Rattle.std.proofs.Common.{◌-◌, arith}
use Rattle.regex_meaning.specs.Text.{fold_ascii}
use Rattle.regress_input.proofs.OneUnitCharacters.{inside, reads-back}
use Rattle.regress_input.proofs.indexing.ascii_input.AsciiInputInputIndexer.read_existing_char_left.Goals as goal

pub bounds-self-start : goal.bounds-self-start
bounds-self-start c = omega (arith, c.requires.inside, inside c.args.self.now.input.now c.args.self.now.unicode (fold_ascii c.args.self.now.unicode) _ c.requires.at)

pub returns : goal.returns
returns c = reads-back c.args.self.now.input.now c.args.self.now.unicode (fold_ascii c.args.self.now.unicode) _ _ c.requires.at c.requires.inside c.new.ensures
