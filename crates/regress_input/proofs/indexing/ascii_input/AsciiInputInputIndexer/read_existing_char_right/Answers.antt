use Rattle.std.proofs.Common.{arith}
use Rattle.regex_meaning.specs.Text.{fold_ascii}
use Rattle.regress_input.proofs.OneUnitCharacters.{within, reads-on}
use Rattle.regress_input.proofs.indexing.ascii_input.AsciiInputInputIndexer.read_existing_char_right.Goals as goal

pub bounds-self-pos : goal.bounds-self-pos
bounds-self-pos c = within c.args.self.now.input.now c.args.self.now.unicode (fold_ascii c.args.self.now.unicode) _ c.requires.inside

pub overflow_add-pos : goal.overflow_add-pos
overflow_add-pos c = omega (arith, within c.args.self.now.input.now c.args.self.now.unicode (fold_ascii c.args.self.now.unicode) _ c.requires.inside, c.args.self.now.fits)

pub returns : goal.returns
returns c = reads-on c.args.self.now.input.now c.args.self.now.unicode (fold_ascii c.args.self.now.unicode) _ _ c.requires.inside c.new.ensures
